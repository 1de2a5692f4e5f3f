-- A set of TSNs as ranges of offsets from a base TSN.
use Rattle.std.specs.Prelude.{◌≡◌, ℕ, ◌<◌, ◌≤◌, ◌+◌, ◌-◌, ◌%◌, ◌^◌, nat_lt, nat_le, map, filter}
use Rattle.std.specs.Prelude.{true, false, List, [], ◌++◌, Option, Some, None}
use Rattle.sctp_serial.specs.Serial.{tsn, tsn_past}
use Rattle.sctp_ranges.specs.declared.run.Run.{Run}
use Rattle.sctp_ranges.specs.Runs.{spelled, AreApart, is_in, IsRemoved}

-- ranges of offsets from a base TSN, the index of the range that a search looks at first, and for how many ranges
-- there is memory
pub record TsnRanges : Type 0 where
  pub base : ℕ
  pub ranges : List Run
  pub cursor : ℕ
  pub room : ℕ

-- the TSNs at these offsets, ascending as numbers: those whose numbers wrapped come first
abbrev pub turned : ℕ → List ℕ → List ℕ
turned base offsets =
    map (tsn base) (filter (λ o. nat_le (2 ^ 32) (base + o)) offsets)
    ++ map (tsn base) (filter (λ o. nat_lt (base + o) (2 ^ 32)) offsets)

-- the TSNs of the set, ascending as numbers
abbrev pub tsns_of : TsnRanges → List ℕ
tsns_of r = turned r.base (spelled r.ranges)

-- the TSN before one
abbrev pub tsn_before : ℕ → ℕ
tsn_before t = (t + 2 ^ 32 - 1) % 2 ^ 32

-- a TSN of the set and those that follow it, up to another one, are taken out; the next offset was not held
pub record IsTaken (old new : TsnRanges) (first last : ℕ) : Type 0 where
  pub fits : old.base < 2 ^ 32
  pub apart : AreApart 0 old.ranges
  pub base : new.base ≡ old.base
  pub last_fits : last < 2 ^ 32
  pub order : tsn_past old.base first ≤ tsn_past old.base last
  pub removed : IsRemoved (tsn_past old.base first) (tsn_past old.base last) old.ranges new.ranges
  pub held : (n : ℕ) → tsn_past old.base first ≤ n → n ≤ tsn_past old.base last → is_in n old.ranges ≡ true
  pub stops : is_in (tsn_past old.base last + 1) old.ranges ≡ false

-- of the offsets of ranges none is farther past a point; there is none only where there is no range
abbrev pub IsFarthestOffset : ℕ → List Run → Option ℕ → Type 0
IsFarthestOffset point rs None = rs ≡ []
IsFarthestOffset point rs (Some o) =
    (is_in o rs ≡ true) × ((n : ℕ) → is_in n rs ≡ true → tsn_past point n ≤ tsn_past point o)
