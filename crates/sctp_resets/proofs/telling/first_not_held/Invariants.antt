use Rattle.std.proofs.Common.{◌≡◌, ◌-◌, drop, length}
use Rattle.sctp_resets.specs.Telling.{next_told, told_from}
use Rattle.sctp_resets.proofs.telling.first_not_held.Given as goal

abbrev pub decreases-loop-event : goal.decreases-loop-event
decreases-loop-event l = length l.events.items - l.index

abbrev pub invariant-loop-event : goal.invariant-loop-event
invariant-loop-event l =
    told_from l.generations l.debts l.events.items l.index (drop l.index l.events.items)
    ≡ next_told l.generations l.debts l.events.items
