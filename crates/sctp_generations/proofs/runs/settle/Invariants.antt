use Rattle.std.proofs.Common.{◌≡◌, ℕ, ◌||◌, drop}
use Rattle.sctp_generations.specs.Runs.{has_tsn}
use Rattle.sctp_generations.proofs.runs.settle.Given as goal

abbrev pub invariant-loop-tsn : goal.invariant-loop-tsn
invariant-loop-tsn l =
    (tsn : ℕ) → (has_tsn tsn l.whole.keys || has_tsn tsn (drop l.tsn-index l.undecided))
    ≡ (has_tsn tsn l.fn.whole.keys || has_tsn tsn l.undecided)
