-- The generations of streams that ended and are still read (RFC 6525 section 5.2.2, RFC 8831 section 6.7).
use Rattle.std.specs.Prelude.{ℕ, Bool, ◌==◌, if◌then◌else◌, List, [], ◌∷◌, ◌++◌, length, drop, slice_get}
use Rattle.std.specs.Prelude.{Option, Some, None, is_some, false, ◌-◌}
use Rattle.std.specs.Ordering.{nat_cmp}
use Rattle.std.specs.BTreeMap.{is_at, insert_entry}
use Rattle.std.specs.Map.{lookup, set_value, remove_entry}

-- The retiring streams, identifiers ascending. Each has the boundaries of its ended generations, one at least: the last
-- TSNs that the peer's reset requests named. That of the generation that is read stands first.
abbrev pub RetiringMap : Type 0
RetiringMap = List (ℕ × List ℕ)

-- the boundaries of a stream, where it is retiring
abbrev pub boundaries_at : RetiringMap → ℕ → Option (List ℕ)
boundaries_at m id = lookup (is_at (nat_cmp id)) m

abbrev pub is_retiring : RetiringMap → ℕ → Bool
is_retiring m id = is_some (boundaries_at m id)

abbrev pub count_of : Option (List ℕ) → ℕ
count_of None = 0
count_of (Some boundaries) = length boundaries

-- how many generations of a stream ended and are not drained
abbrev pub count_at : RetiringMap → ℕ → ℕ
count_at m id = count_of (boundaries_at m id)

abbrev pub first_of : Option (List ℕ) → Option ℕ
first_of None = None
first_of (Some boundaries) = slice_get boundaries 0

abbrev pub last_of : Option (List ℕ) → Option ℕ
last_of None = None
last_of (Some boundaries) = slice_get boundaries (length boundaries - 1)

-- where the generation ends that is read now; None where it did not end
abbrev pub readable_boundary : RetiringMap → ℕ → Option ℕ
readable_boundary m id = first_of (boundaries_at m id)

-- where the last generation ended that did
abbrev pub newest_boundary : RetiringMap → ℕ → Option ℕ
newest_boundary m id = last_of (boundaries_at m id)

abbrev pub retired_at : Option (List ℕ) → RetiringMap → ℕ → ℕ → RetiringMap
retired_at None m id boundary = insert_entry nat_cmp m id (boundary ∷ [])
retired_at (Some boundaries) m id boundary = set_value (is_at (nat_cmp id)) m (boundaries ++ boundary ∷ [])

-- the newest generation of a stream ends with a boundary
abbrev pub retired_with : RetiringMap → ℕ → ℕ → RetiringMap
retired_with m id boundary = retired_at (boundaries_at m id) m id boundary

-- the stream retires no longer
abbrev pub forgotten : RetiringMap → ℕ → RetiringMap
forgotten m id = remove_entry (is_at (nat_cmp id)) m

-- the boundaries that are left once the first one is passed, where another one is left
abbrev pub behind_first : List ℕ → List ℕ
behind_first boundaries = if length boundaries == 1 then boundaries else drop 1 boundaries

abbrev pub first_passed_at : Option (List ℕ) → RetiringMap → ℕ → RetiringMap
first_passed_at None m id = m
first_passed_at (Some boundaries) m id = set_value (is_at (nat_cmp id)) m (behind_first boundaries)

-- the first of a stream's boundaries is passed, where another one is left
abbrev pub first_passed : RetiringMap → ℕ → RetiringMap
first_passed m id = first_passed_at (boundaries_at m id) m id

abbrev pub is_single : Option (List ℕ) → Bool
is_single None = false
is_single (Some boundaries) = length boundaries == 1

-- the generation that was read is over, and the one behind it is read; where none is, the stream retires no longer
abbrev pub passed : RetiringMap → ℕ → RetiringMap
passed m id = if is_single (boundaries_at m id) then forgotten m id else first_passed m id
