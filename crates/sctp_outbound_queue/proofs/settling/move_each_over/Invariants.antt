use Rattle.std.proofs.Common.{◌≡◌, length}
use Rattle.sctp_outbound_queue.specs.Owed.{standing}
use Rattle.sctp_outbound_queue.proofs.settling.move_each_over.Given as goal

abbrev pub invariant-loop-index : goal.invariant-loop-index
invariant-loop-index l =
    (standing l.index l.dead l.items.items ≡ standing l.from l.dead l.fn.items.items)
    × (length l.items.items ≡ length l.fn.items.items)
