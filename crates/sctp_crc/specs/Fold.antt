-- Folding by a sparse multiple of the polynomial: a byte may count as zero where it is taken in by the bytes that stand
-- 21, 47, 60, 65, 70, 94 and 98 places on.
use Rattle.std.specs.Prelude.{◌≡◌, ℕ, ◌+◌, ◌-◌, ◌/◌, ◌%◌, nat_lt, if◌then◌else◌, List, [], ◌∷◌, ◌++◌, length}
use Rattle.std.specs.Prelude.{replicate, slice_index}
use Rattle.std.specs.Int.Bits.{bit_xor}
use Rattle.sctp_crc.specs.declared.fold.Kept.{Kept}

-- the byte at place j of these takes in f j
unfoldable pub taken_in : (ℕ → ℕ) → ℕ → List ℕ → List ℕ
taken_in f j [] = []
taken_in f j (x ∷ xs) = bit_xor x (f j) ∷ taken_in f (j + 1) xs

-- what the byte at place j takes in from the byte that stands d places before it, where h m is the byte that was folded
-- m places before place 0
unfoldable pub due : (ℕ → ℕ) → ℕ → ℕ → ℕ
due h d j = if nat_lt j d then h (d - j) else 0

-- the same from more than one distance
unfoldable pub dues : (ℕ → ℕ) → ℕ → List ℕ → ℕ → ℕ
dues h d [] j = due h d j
dues h d (e ∷ es) j = bit_xor (due h d j) (dues h e es j)

-- from all the distances of the polynomial's multiple
unfoldable pub all_due : (ℕ → ℕ) → ℕ → ℕ
all_due h j = dues h 21 (47 ∷ 60 ∷ 65 ∷ 70 ∷ 94 ∷ 98 ∷ []) j

-- the bytes that are kept, oldest first
abbrev pub kept_bytes : Kept → List ℕ
kept_bytes k = k.seventh ++ k.sixth ++ k.fifth ++ k.fourth ++ k.third ++ k.second ++ k.first

-- the byte that was kept m places before the bytes that follow
unfoldable pub back : Kept → ℕ → ℕ
back k m = slice_index (kept_bytes k) (112 - m)

-- the bytes that follow, with what they take in of the kept ones
unfoldable pub taken : Kept → List ℕ → List ℕ
taken k xs = taken_in (all_due (back k)) 0 xs

-- seven vectors of sixteen
abbrev pub IsKept : Kept → Type 0
IsKept k =
    (length k.first ≡ 16) × (length k.second ≡ 16) × (length k.third ≡ 16) × (length k.fourth ≡ 16)
    × (length k.fifth ≡ 16) × (length k.sixth ≡ 16) × (length k.seventh ≡ 16)

-- a vector more is kept, and the oldest one is not
abbrev pub moved : List ℕ → Kept → Kept
moved newest k = record {
  first = newest;
  second = k.first;
  third = k.second;
  fourth = k.third;
  fifth = k.fourth;
  sixth = k.fifth;
  seventh = k.sixth;
}

-- zeros, where nothing was folded yet
abbrev pub nothing_kept : Kept
nothing_kept =
    let zeros = replicate 16 0 in record {
      first = zeros;
      second = zeros;
      third = zeros;
      fourth = zeros;
      fifth = zeros;
      sixth = zeros;
      seventh = zeros;
    }

-- the bytes of a state, low byte first, and zeros
abbrev pub state_bytes : ℕ → List ℕ
state_bytes s = s % 256 ∷ s / 256 % 256 ∷ s / 65536 % 256 ∷ s / 16777216 ∷ replicate 12 0
