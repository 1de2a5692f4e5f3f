use Rattle.std.proofs.Common.{◌≡◌, ◌++◌}
use Rattle.std.specs.Vec.Iter.{into_iter_items}
use Rattle.sctp_assoc.proofs.gather.put_all.Given as goal

abbrev pub invariant-loop-packet : goal.invariant-loop-packet
invariant-loop-packet l = l.packets.items ++ into_iter_items l.packet-iterator ≡ l.fn.packets.items ++ l.fn.more.items
