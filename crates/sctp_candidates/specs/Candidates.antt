-- Places of which some are members.
use Rattle.std.specs.Prelude.{◌≡◌, ℕ, ◌+◌, ◌-◌, ◌<◌, ◌≤◌, Bool, true, false, length, slice_get}
use Rattle.std.specs.Prelude.{List, Option, Some, None}
use Rattle.std.specs.List.{AllByRecursion}
use Rattle.sctp_ranges.specs.declared.run.Run.{Run}
use Rattle.sctp_ranges.specs.Runs.{run, is_in}

-- the numbers of the members as ranges, the number of the first place, how many places there are, below which number
-- there is memory for places, and for how many ranges there is memory
pub record Members : Type 0 where
  pub list : List Run
  pub begun : ℕ
  pub places : ℕ
  pub bound : ℕ
  pub room : ℕ

-- the place at an index is a member
abbrev pub is_member : ℕ → Members → Bool
is_member i s = is_in (s.begun + i) s.list

-- no place is a member
abbrev pub AreNone : Members → Type 0
AreNone s = (i : ℕ) → is_member i s ≡ false

-- the first member at an index or past it, if there is one
abbrev pub IsNext : ℕ → Option ℕ → Members → Type 0
IsNext from None s = (i : ℕ) → from ≤ i → is_member i s ≡ false
IsNext from (Some n) s =
    (from ≤ n) × (is_member n s ≡ true) × ((i : ℕ) → from ≤ i → i < n → is_member i s ≡ false)

-- the first place at an index or past it that is no member
abbrev pub IsNextOther : ℕ → ℕ → Members → Type 0
IsNextOther from n s =
    (from ≤ n) × (is_member n s ≡ false) × ((i : ℕ) → from ≤ i → i < n → is_member i s ≡ true)

-- there is memory for one place more, whichever of all places become members
abbrev pub HasRoom : Members → Type 0
HasRoom s = s.begun + s.places < s.bound

-- all numbers of ranges lie from one on and below another
abbrev pub AreWithin : ℕ → ℕ → List Run → Type 0
AreWithin from end rs = (n : ℕ) → is_in n rs ≡ true → (from ≤ n) × (n < end)

-- no range begins before a number
abbrev pub BeginFrom : ℕ → List Run → Type 0
BeginFrom from rs = AllByRecursion (λ r. (from ≤ r.first) × (from ≤ r.last)) rs

-- a number is taken off both ends
abbrev pub lowered : ℕ → Run → Run
lowered by r = run (r.first - by) (r.last - by)

-- an element, if there is one, passes
abbrev pub passes : {X : Type 0} → (X → Bool) → Option X → Bool
passes test None = false
passes test (Some x) = test x

-- each element has a place, and those that pass are the members
abbrev pub StandFor : {X : Type 0} → Members → (X → Bool) → List X → Type 0
StandFor s test xs = (s.places ≡ length xs) × ((i : ℕ) → is_member i s ≡ passes test (slice_get xs i))
