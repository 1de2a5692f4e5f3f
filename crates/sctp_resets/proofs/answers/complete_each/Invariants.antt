use Rattle.std.proofs.Common.{◌≡◌, drop, fold}
use Rattle.sctp_resets.specs.Answers.{answering, completed_one}
use Rattle.sctp_resets.proofs.answers.complete_each.Given as goal

abbrev pub invariant-loop-id : goal.invariant-loop-id
invariant-loop-id l =
    fold (completed_one l.by_rfcs) (answering l.debts l.streams l.events) (drop l.id-index l.ids)
    ≡ fold (completed_one l.by_rfcs) (answering l.fn.debts l.fn.streams l.fn.events) l.fn.ids
