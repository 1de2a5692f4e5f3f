use Rattle.std.proofs.Common.{◌≡◌, drop, fold}
use Rattle.sctp_resets.specs.Performing.{end_told}
use Rattle.sctp_resets.proofs.performing.tell_ends.Given as goal

abbrev pub invariant-loop-id : goal.invariant-loop-id
invariant-loop-id l =
    fold (end_told l.own) (l.debts, l.events) (drop l.id-index l.named)
    ≡ fold (end_told l.own) (l.fn.debts, l.fn.events) l.fn.named
