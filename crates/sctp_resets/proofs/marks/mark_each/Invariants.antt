use Rattle.std.proofs.Common.{◌≡◌, ◌-◌, drop, length}
use Rattle.sctp_resets.specs.Marks.{marked_from}
use Rattle.sctp_resets.proofs.marks.mark_each.Given as goal

abbrev pub decreases-loop-event : goal.decreases-loop-event
decreases-loop-event l = length l.events.items - l.index

abbrev pub invariant-loop-event : goal.invariant-loop-event
invariant-loop-event l =
    marked_from l.index l.marks (drop l.index l.events.items) ≡ marked_from 0 l.fn.marks l.events.items
