-- The bytes of a message, cut into pieces (RFC 4960 section 6.9).
use Rattle.std.specs.Prelude.{◌≡◌, ℕ, zero, suc, ◌==◌, if◌then◌else◌, ◌++◌, ◌<◌, ◌≤◌, List, [], ◌∷◌, length, take}
use Rattle.std.specs.Prelude.{drop, ⊤}
use Rattle.std.specs.List.{concat}

-- the bytes in pieces of `size` bytes, one after another, at most n of them
abbrev pub cut_up : ℕ → ℕ → List ℕ → List (List ℕ)
cut_up zero size bytes = []
cut_up (suc n) size bytes = if length bytes == 0 then [] else take size bytes ∷ cut_up n size (drop size bytes)

-- The first piece of a message, and those behind it: pieces of `size` bytes, the last one of what is left. For size 0
-- the whole is one piece.
unfoldable pub first_piece : ℕ → List ℕ → List ℕ
first_piece size bytes = if size == 0 then bytes else take size bytes

unfoldable pub other_pieces : ℕ → List ℕ → List (List ℕ)
other_pieces size bytes = if size == 0 then [] else cut_up (length bytes) size (drop size bytes)

-- each piece but the last has `size` bytes, the last one at most so many, and one that follows another has some
abbrev pub AreFull : ℕ → List ℕ → List (List ℕ) → Type 0
AreFull size first [] = length first ≤ size
AreFull size first (r ∷ rs) = (length first ≡ size) × (0 < length r) × AreFull size r rs

-- these pieces may follow one of `size` bytes
abbrev pub MayFollow : ℕ → List (List ℕ) → Type 0
MayFollow size [] = ⊤
MayFollow size (r ∷ rs) = (0 < length r) × AreFull size r rs

-- The bytes are cut into a first piece and those behind it: in their order they are the bytes, and only the last may be
-- shorter than `size`.
pub record IsCut (size : ℕ) (bytes first : List ℕ) (rest : List (List ℕ)) : Type 0 where
  pub whole : first ++ concat rest ≡ bytes
  pub full : AreFull size first rest
