-- Numbers of two and of four bytes, high byte first, and their ranges.
use Rattle.std.specs.Prelude.{ℕ, ◌^◌, ◌<◌, Bool, true, false, List, take, drop}
use Rattle.std.specs.Int.{w16, w32, from_be_bytes}

-- the number of two or of four bytes at a place, high byte first
abbrev pub u16_at : List ℕ → ℕ → ℕ
u16_at bytes at = from_be_bytes w16 (take 2 (drop at bytes))

abbrev pub u32_at : List ℕ → ℕ → ℕ
u32_at bytes at = from_be_bytes w32 (take 4 (drop at bytes))

abbrev pub IsU16 : ℕ → Type 0
IsU16 n = n < 2 ^ 16

abbrev pub IsU32 : ℕ → Type 0
IsU32 n = n < 2 ^ 32

abbrev pub bit : Bool → ℕ → ℕ
bit true weight = weight
bit false weight = 0
