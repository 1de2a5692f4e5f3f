-- Ranges of numbers, ascending.
use Rattle.std.specs.Prelude.{◌≡◌, ℕ, zero, suc, ◌<◌, ◌≤◌, ◌+◌, ◌-◌, ◌^◌, ◌==◌, ◌&&◌, ◌||◌, ◌⊎◌, not, nat_lt, nat_le}
use Rattle.std.specs.Prelude.{if◌then◌else◌, Bool, true, false, length, slice_get, List, [], ◌∷◌, ◌++◌, Option, Some, None}
use Rattle.std.specs.List.{range_with_len, list_any}
use Rattle.sctp_ranges.specs.declared.run.Run.{Run}

abbrev pub run : ℕ → ℕ → Run
run first last = record { first = first; last = last }

-- the numbers from one up to another, which is left out
abbrev pub until : ℕ → ℕ → List ℕ
until first end = range_with_len first (end - first)

-- the numbers of ranges
abbrev pub spelled : List Run → List ℕ
spelled [] = []
spelled (r ∷ rs) = until r.first (r.last + 1) ++ spelled rs

-- the ranges ascend, and between two of them a number is missing; the first one begins at `least` or later
abbrev pub AreApart : ℕ → List Run → Type 0
AreApart least [] = Unit {0}
AreApart least (r ∷ rs) = (least ≤ r.first) × (r.first ≤ r.last) × (r.last < 2 ^ 32) × AreApart (r.last + 2) rs

-- a range has a number
abbrev pub has : Run → ℕ → Bool
has r n = nat_le r.first n && nat_le n r.last

-- one of the ranges has a number
abbrev pub is_in : ℕ → List Run → Bool
is_in n rs = list_any (λ r. has r n) rs

-- how many of the ranges, from the first one on, end before a number
abbrev pub ended_before : ℕ → List Run → ℕ
ended_before bound [] = 0
ended_before bound (r ∷ rs) = if nat_lt r.last bound then suc (ended_before bound rs) else 0

-- there is a range, and it begins at a number or before it
abbrev pub is_begun : ℕ → Option Run → Bool
is_begun n None = false
is_begun n (Some r) = nat_le r.first n

-- there is a range, and it has a number
abbrev pub is_of : ℕ → Option Run → Bool
is_of n None = false
is_of n (Some r) = has r n

-- a range that comes after the first so many of the ranges begins here at the earliest
abbrev pub begins_from : ℕ → List Run → ℕ → ℕ
begins_from least rs zero = least
begins_from least [] (suc i) = least
begins_from least (r ∷ rs) (suc i) = begins_from (r.last + 2) rs i

-- there is no range, or it begins past a number and does not touch it
abbrev pub IsClear : ℕ → Option Run → Type 0
IsClear n None = Unit {0}
IsClear n (Some r) = n + 2 ≤ r.first

-- one number more is in the ranges, and the range at an index has it; there is one range more at most
abbrev pub IsAdded : ℕ → List Run → List Run → ℕ → Type 0
IsAdded n old new index =
    AreApart 0 new × ((m : ℕ) → is_in m new ≡ (m == n || is_in m old)) × (is_of n (slice_get new index) ≡ true)
    × (length new ≤ length old + 1)

-- what of a range comes before a number
abbrev pub before : ℕ → Option Run → Option Run
before n None = None
before n (Some r) = if nat_lt r.first n then Some (run r.first (n - 1)) else None

-- what of a range comes after a number that is one of it
abbrev pub after : ℕ → Option Run → Option Run
after n None = None
after n (Some r) = if nat_le r.first n && nat_lt n r.last then Some (run (n + 1) r.last) else None

-- a range has a number before one and a number after another
abbrev pub reaches_over : ℕ → ℕ → Option Run → Bool
reaches_over from to None = false
reaches_over from to (Some r) = nat_lt r.first from && nat_lt to r.last

-- the numbers from one up to another, both included, are in the ranges no more
abbrev pub IsRemoved : ℕ → ℕ → List Run → List Run → Type 0
IsRemoved from to old new =
    AreApart 0 new × ((n : ℕ) → is_in n new ≡ (not (nat_le from n && nat_le n to) && is_in n old))

-- of the numbers no more than 2^31 follow one after another
abbrev pub AreShort : List Run → Type 0
AreShort rs = (n : ℕ) → ((m : ℕ) → n ≤ m → m ≤ n + 2 ^ 31 → is_in m rs ≡ true) → ⊥

-- there is room for one range more, or none is so long that half of all numbers come out of its middle
abbrev pub HaveRoom : List Run → ℕ → Type 0
HaveRoom rs room = (length rs < room) ⊎ AreShort rs
