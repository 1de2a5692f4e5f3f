-- The first place of a list that passes a test.
use Rattle.std.proofs.Common.{◌≡◌, ℕ, zero, suc, ◌+◌, ◌-◌, ◌<◌, ◌≤◌, Bool, true, false, not, List, [], ◌∷◌, ◌++◌}
use Rattle.std.proofs.Common.{Option, Some, None, length, map, slice_get, refl, sym, ◌∙◌, arith, ⊎_elim}
use Rattle.std.specs.List.{position_or_len}
use Rattle.std.proofs.lemmas.Bool.{cases_Bool}
use Rattle.std.proofs.lemmas.List.Sums.{prefix_len-le-length}
use Rattle.sctp_outbound_queue.specs.Front.{holds_at}

pub within : {X : Type 0} (test : X → Bool) (xs : List X) → position_or_len test xs ≤ length xs
within {X} test xs = prefix_len-le-length (λ (x : X). not (test x)) xs

none_there : {X : Type 0} (xs : List X) (i : ℕ) → i < length xs → slice_get xs i ≡ None → ⊥
none_there [] i lt e = absurd (omega (arith, lt))
none_there (x ∷ xs) zero lt e = cc
none_there (x ∷ xs) (suc i) lt e = none_there xs i (omega (arith, lt)) e

found_item : {X : Type 0} (test : X → Bool) (xs : List X) (i : ℕ) (x : X) → slice_get xs i ≡ Some x → test x ≡ true
    → position_or_len test xs ≤ i
found_item test [] i x e a = absurd (cc)
found_item test (y ∷ ys) zero x e a =
    let same : y ≡ x = cc in
    let here : test y ≡ true = rw same a in
    rw here (omega arith)
found_item test (y ∷ ys) (suc i) x e a =
    let more = found_item test ys i x e a in
    ⊎_elim (λ (t : test y ≡ true). rw t (omega arith)) (λ (f : test y ≡ false). rw f (omega (arith, more)))
    (cases_Bool (test y))

passed_item : {X : Type 0} (test : X → Bool) (xs : List X) (i : ℕ) (x : X) → slice_get xs i ≡ Some x
    → test x ≡ false → i ≤ position_or_len test xs → suc i ≤ position_or_len test xs
passed_item test [] i x e a le = absurd (cc)
passed_item test (y ∷ ys) zero x e a le =
    let same : y ≡ x = cc in
    let here : test y ≡ false = rw same a in
    rw here (omega arith)
passed_item test (y ∷ ys) (suc i) x e a le =
    ⊎_elim (λ (t : test y ≡ true). let none = rw t at le in absurd (omega (arith, none)))
    (λ (f : test y ≡ false).
    let behind = rw f at le in
    let more = passed_item test ys i x e a (omega (arith, behind)) in
    rw f (omega (arith, more)))
    (cases_Bool (test y))

-- a walk stops at the first one, or goes over all

pub found : {X : Type 0} (test : X → Bool) (xs : List X) (i : ℕ) {b : Bool} → i ≤ position_or_len test xs
    → b ≡ holds_at test (slice_get xs i) → b ≡ true → i ≡ position_or_len test xs
found {X} test xs i {b} le is here = at (slice_get xs i) refl (sym is ∙ here) where
  at : (o : Option X) → slice_get xs i ≡ o → holds_at test o ≡ true → i ≡ position_or_len test xs
  at None e t = absurd (cc)
  at (Some x) e t = let before = found_item test xs i x e t in omega (arith, before, le)

pub passed : {X : Type 0} (test : X → Bool) (xs : List X) (i : ℕ) {b : Bool} → i < length xs
    → i ≤ position_or_len test xs → b ≡ holds_at test (slice_get xs i) → b ≡ false → i + 1 ≤ position_or_len test xs
passed {X} test xs i {b} lt le is here = at (slice_get xs i) refl (sym is ∙ here) where
  at : (o : Option X) → slice_get xs i ≡ o → holds_at test o ≡ false → i + 1 ≤ position_or_len test xs
  at None e t = absurd (none_there xs i lt e)
  at (Some x) e t = let more = passed_item test xs i x e t le in omega (arith, more)

pub all_passed : {X : Type 0} (test : X → Bool) (xs : List X) (i : ℕ) {n : ℕ} → i ≤ position_or_len test xs
    → length xs ≤ i → n ≡ length xs → n ≡ position_or_len test xs
all_passed test xs i le all is = omega (arith, le, all, is, within test xs)

-- changes of a list

not_sooner : {X : Type 0} (test : X → Bool) (x y : X) (xs ys : List X) → (test x ≡ false → test y ≡ false)
    → position_or_len test xs ≤ position_or_len test ys
    → position_or_len test (x ∷ xs) ≤ position_or_len test (y ∷ ys)
not_sooner test x y xs ys keeps le =
    ⊎_elim (λ (a : test x ≡ true). rw a (omega arith))
    (λ (a : test x ≡ false). rw (a, keeps a) (omega (arith, le)))
    (cases_Bool (test x))

pub later_after : {X : Type 0} (test : X → Bool) (f : X → X) → ((x : X) → test x ≡ false → test (f x) ≡ false)
    → (xs : List X) → position_or_len test xs ≤ position_or_len test (map f xs)
later_after test f settles [] = omega arith
later_after test f settles (x ∷ xs) =
    not_sooner test x (f x) xs (map f xs) (settles x) (later_after test f settles xs)

pub later_with : {X : Type 0} (test : X → Bool) (xs : List X) (y : X)
    → position_or_len test xs ≤ position_or_len test (xs ++ y ∷ [])
later_with test [] y = omega arith
later_with test (x ∷ xs) y = not_sooner test x x xs (xs ++ y ∷ []) (λ a. a) (later_with test xs y)

-- one more that passes
pub same_with : {X : Type 0} (test : X → Bool) (xs : List X) (y : X) → test y ≡ true
    → position_or_len test (xs ++ y ∷ []) ≡ position_or_len test xs
same_with test [] y e = rw e refl
same_with test (x ∷ xs) y e =
    let rest = same_with test xs y e in
    ⊎_elim (λ (a : test x ≡ true). rw a refl) (λ (a : test x ≡ false). rw a (omega (arith, rest)))
    (cases_Bool (test x))

-- one more that does not, where none did
pub more_with : {X : Type 0} (test : X → Bool) (xs : List X) (y : X) → test y ≡ false
    → position_or_len test xs ≡ length xs → position_or_len test (xs ++ y ∷ []) ≡ length xs + 1
more_with test [] y e all = rw e refl
more_with test (x ∷ xs) y e all =
    ⊎_elim (λ (a : test x ≡ true). let none = rw a at all in absurd (omega (arith, none)))
    (λ (a : test x ≡ false).
    let behind = rw a at all in
    let rest = more_with test xs y e (omega (arith, behind)) in
    rw a (omega (arith, rest)))
    (cases_Bool (test x))

-- one more, where one passed before
pub still_with : {X : Type 0} (test : X → Bool) (xs : List X) (y : X) → position_or_len test xs < length xs
    → position_or_len test (xs ++ y ∷ []) ≡ position_or_len test xs
still_with test [] y lt = absurd (omega arith)
still_with test (x ∷ xs) y lt =
    ⊎_elim (λ (a : test x ≡ true). rw a refl)
    (λ (a : test x ≡ false).
    let behind = rw a at lt in
    let rest = still_with test xs y (omega (arith, behind)) in
    rw a (omega (arith, rest)))
    (cases_Bool (test x))

pub behind_first : {X : Type 0} (test : X → Bool) (x : X) (xs : List X) (n : ℕ) → n ≤ position_or_len test (x ∷ xs)
    → n - 1 ≤ position_or_len test xs
behind_first test x xs n le =
    ⊎_elim (λ (a : test x ≡ true). let none = rw a at le in omega (arith, none))
    (λ (a : test x ≡ false). let more = rw a at le in omega (arith, more))
    (cases_Bool (test x))
