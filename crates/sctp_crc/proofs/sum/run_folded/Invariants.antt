use Rattle.std.proofs.Common.{◌≡◌, ℕ, ◌%◌, ◌≤◌, List, length}
use Rattle.sctp_crc.specs.Crc.{crc_run}
use Rattle.sctp_crc.specs.declared.fold.Kept.{Kept}
use Rattle.sctp_crc.specs.Fold.{taken, IsKept}
use Rattle.sctp_crc.proofs.sum.run_folded.Given as goal

-- What is kept and what is left, whole vectors and no fewer bytes than are kept, have the sum of all.
abbrev pub LeavesSum : Kept → ℕ → List ℕ → List ℕ → Type 0
LeavesSum kept start rest blocks =
    IsKept kept × (112 ≤ length rest) × (length rest % 16 ≡ 0) × (crc_run 0 (taken kept rest) ≡ crc_run start blocks)

abbrev pub invariant-sevens : goal.invariant-sevens
invariant-sevens l = LeavesSum l.kept l.fn.start l.rest l.fn.blocks

abbrev pub decreases-sevens : goal.decreases-sevens
decreases-sevens l = length l.rest

abbrev pub invariant-folds : goal.invariant-folds
invariant-folds l = LeavesSum l.kept l.fn.start l.rest l.fn.blocks

abbrev pub decreases-folds : goal.decreases-folds
decreases-folds l = length l.rest
