-- Where the first of some buffers is that has bytes.
use Rattle.std.proofs.Common.{◌≡◌, ℕ, ◌<◌, ◌≤◌, ◌+◌, Bool, true, false, not, List, [], ◌∷◌, length, set}
use Rattle.std.proofs.Common.{position, refl, ap, ◌∙◌, arith, slice_get, Option, Some, None, ◌==◌, cond, ltb}
use Rattle.std.proofs.Common.{ltb-true, ltb-false, suc, ne_eqb}
use Rattle.std.specs.Prelude.{IfSome, IsNone}
use Rattle.std.specs.List.{position_or_len}
use Rattle.sctp_assoc.specs.Calls.{first_filled, without_first_filled}

-- whether a buffer has bytes
abbrev pub has_bytes : List ℕ → Bool
has_bytes bytes = not (length bytes == 0)

-- where the first buffer is that has bytes, or how many there are
abbrev first_filled_index : List (List ℕ) → ℕ
first_filled_index buffers = position_or_len has_bytes buffers

-- one index on in a list with a buffer more in front
get_next : (buffer : List ℕ) (buffers : List (List ℕ)) (i : ℕ)
    → slice_get (buffer ∷ buffers) (1 + i) ≡ slice_get buffers i
get_next buffer buffers i = let e : 1 + i ≡ suc i = omega arith in rw e refl

set_next : (buffer : List ℕ) (buffers : List (List ℕ)) (i : ℕ)
    → set (buffer ∷ buffers) (1 + i) [] ≡ buffer ∷ set buffers i []
set_next buffer buffers i = let e : 1 + i ≡ suc i = omega arith in rw e refl

not_empty : (n : ℕ) → (suc n == 0) ≡ false
not_empty n = ne_eqb (suc n) 0 (λ e. absurd (omega (arith, e)))

-- a first buffer that has bytes stands at 0
at_front : (b : ℕ) (bytes : List ℕ) (buffers : List (List ℕ)) → first_filled_index ((b ∷ bytes) ∷ buffers) ≡ 0
at_front b bytes buffers = ap (λ t. cond (not (not t)) (1 + first_filled_index buffers) 0) (not_empty (length bytes))

-- what stands there
found : (buffers : List (List ℕ)) → first_filled_index buffers < length buffers
    → slice_get buffers (first_filled_index buffers) ≡ Some (first_filled buffers)
found [] l = absurd (omega (arith, l))
found ([] ∷ buffers) l = get_next [] buffers (first_filled_index buffers) ∙ found buffers (omega (arith, l))
found ((b ∷ bytes) ∷ buffers) l = ap (slice_get ((b ∷ bytes) ∷ buffers)) (at_front b bytes buffers)

-- with it left empty
emptied : (buffers : List (List ℕ)) → first_filled_index buffers < length buffers
    → set buffers (first_filled_index buffers) [] ≡ without_first_filled buffers
emptied [] l = absurd (omega (arith, l))
emptied ([] ∷ buffers) l =
    set_next [] buffers (first_filled_index buffers) ∙ ap (λ bs. [] ∷ bs) (emptied buffers (omega (arith, l)))
emptied ((b ∷ bytes) ∷ buffers) l = ap (λ i. set ((b ∷ bytes) ∷ buffers) i []) (at_front b bytes buffers)

-- where no buffer has bytes
none_found : (buffers : List (List ℕ)) → length buffers ≤ first_filled_index buffers → first_filled buffers ≡ []
none_found [] l = refl
none_found ([] ∷ buffers) l = none_found buffers (omega (arith, l))
none_found ((b ∷ bytes) ∷ buffers) l = let e : first_filled_index ((b ∷ bytes) ∷ buffers)
    ≡ 0 = at_front b bytes buffers in
    absurd (omega (arith, l, e))

-- what an index below the length has, the answer has
some_index : (i n : ℕ) (P : ℕ → Type 0) (b : Bool) → ltb i n ≡ b → (i < n → P i) → IfSome (cond b (Some i) None) P
some_index i n P true e p = p (ltb-true i n e)
some_index i n P false e p = tt

-- where no index is answered, there is none below the length
none_index : (i n : ℕ) (P : Type 0) (b : Bool) → ltb i n ≡ b → (n ≤ i → P) → IsNone (cond b (Some i) None) → P
none_index i n P true e p = λ f. absurd (cc)
none_index i n P false e p = λ _. p (ltb-false i n e)

pub is_the_first : (buffers : List (List ℕ)) (r : Option ℕ) → r ≡ position has_bytes buffers
    → IfSome r (λ k. slice_get buffers k ≡ Some (first_filled buffers))
is_the_first buffers r e =
    rw e (some_index (first_filled_index buffers) (length buffers)
    (λ k. slice_get buffers k ≡ Some (first_filled buffers))
    (ltb (first_filled_index buffers) (length buffers)) refl (found buffers))

pub empties_the_first : (buffers : List (List ℕ)) (r : Option ℕ) → r ≡ position has_bytes buffers
    → IfSome r (λ k. set buffers k [] ≡ without_first_filled buffers)
empties_the_first buffers r e =
    rw e (some_index (first_filled_index buffers) (length buffers)
    (λ k. set buffers k [] ≡ without_first_filled buffers)
    (ltb (first_filled_index buffers) (length buffers)) refl (emptied buffers))

pub none_has_bytes : (buffers : List (List ℕ)) (r : Option ℕ) → r ≡ position has_bytes buffers
    → IsNone r → first_filled buffers ≡ []
none_has_bytes buffers r e =
    rw e (none_index (first_filled_index buffers) (length buffers) (first_filled buffers ≡ [])
    (ltb (first_filled_index buffers) (length buffers)) refl (none_found buffers))
