use Rattle.std.proofs.Common.{◌≡◌, ◌++◌}
use Rattle.std.specs.Vec.Iter.{into_iter_items}
use Rattle.sctp_calls.proofs.calls.keep_all.Given as goal

abbrev pub invariant-loop-packet : goal.invariant-loop-packet
invariant-loop-packet l = record {
  given : l.packets.items ≡ l.fn.packets.items ++ l.yielded;
  all : l.fn.sent.items ≡ l.yielded ++ into_iter_items l.packet-iterator;
}
