-- What contracts see of the ranges that are kept.
use Rattle.std.specs.Prelude.{ℕ, ◌+◌, List, ◌++◌, take, drop}
use Rattle.sctp_ranges.specs.declared.run.Run.{Run}

-- ranges in a row, and for how many there is memory
pub record Stored : Type 0 where
  pub list : List Run
  pub room : ℕ

-- what is left of a list without a gap: `gap` places behind the first `front` of them
abbrev pub closed : {X : Type 0} → ℕ → ℕ → List X → List X
closed front gap xs = take front xs ++ drop (front + gap) xs
