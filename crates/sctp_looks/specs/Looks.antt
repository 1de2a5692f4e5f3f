-- A count of looks that stays at the greatest number of 64 bits.
use Rattle.std.specs.Prelude.{ℕ, ◌+◌, ◌-◌, ◌^◌, min, max}

-- a count, and so many looks more; one that is past the greatest number already stays as it is
abbrev pub ticked_by : ℕ → ℕ → ℕ
ticked_by count more = min (count + more) (max count (2 ^ 64 - 1))
