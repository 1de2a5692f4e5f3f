use Rattle.std.proofs.Common.{◌≡◌, drop, fold}
use Rattle.sctp_resets.specs.Answers.{failure_told}
use Rattle.sctp_resets.proofs.answers.tell_failures.Given as goal

abbrev pub invariant-loop-id : goal.invariant-loop-id
invariant-loop-id l =
    fold (failure_told l.debts l.streams) l.events (drop l.id-index l.ids)
    ≡ fold (failure_told l.debts l.streams) l.fn.events l.fn.ids
