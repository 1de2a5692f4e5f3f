use Rattle.std.proofs.Common.{◌≡◌, drop, fold}
use Rattle.sctp_resets.specs.Answers.{failed_one}
use Rattle.sctp_resets.proofs.answers.fail_each.Given as goal

abbrev pub invariant-loop-id : goal.invariant-loop-id
invariant-loop-id l =
    fold (failed_one l.reason) (l.debts, l.events) (drop l.id-index l.ids)
    ≡ fold (failed_one l.reason) (l.fn.debts, l.fn.events) l.fn.ids
