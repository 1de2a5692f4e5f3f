-- What a search from the front finds.
use Rattle.std.proofs.Common.{◌≡◌, ℕ, ◌<◌, Bool, true, false, List, length, refl, arith, get_or, Some, None}
use Rattle.std.proofs.Common.{position, [], ◌∷◌}
use Rattle.std.specs.List.{All, position_or_len}
use Rattle.std.proofs.lemmas.Bool.{lt-ltb, le-ltb}
use Rattle.std.proofs.lemmas.List.Sums.{position_or_len_is}

-- none passes the test
pub absent : {X : Type 0} (p : X → Bool) (xs : List X) → All (λ x. p x ≡ false) xs → position p xs ≡ None
absent p [] none = refl
absent p (x ∷ xs) none =
    let e : position_or_len p (x ∷ xs) ≡ length (x ∷ xs) =
    position_or_len_is p (x ∷ xs) (length (x ∷ xs)) x (omega arith) (λ k h. none k x h)
    (λ h. absurd (omega (arith, h))) in
    rw (e, le-ltb (length (x ∷ xs)) (length (x ∷ xs)) (omega arith)) refl

-- the first that passes is at this index
pub found : {X : Type 0} (p : X → Bool) (xs : List X) (i : ℕ) (d : X) → i < length xs
    → ((k : ℕ) → k < i → p (get_or xs k d) ≡ false) → p (get_or xs i d) ≡ true → position p xs ≡ Some i
found p xs i d h before here =
    let e : position_or_len p xs ≡ i = position_or_len_is p xs i d (omega (arith, h)) before (λ _. here) in
    rw (e, lt-ltb i (length xs) h) refl
