-- Lists of numbers and of records: what holds of each, what is distinct and what rises.
use Rattle.std.proofs.Common.{ℕ, zero, suc, ◌<◌, ◌≡◌, ◌⊎◌, Bool, true, false, eqb, ◌||◌, List, [], ◌∷◌, ◌++◌, map, Some}
use Rattle.std.proofs.Common.{refl, sym, ◌∙◌, subst, ⊎_elim}
use Rattle.std.specs.Prelude.{filter, slice_get}
use Rattle.std.specs.List.{AllByRecursion}
use Rattle.std.proofs.lemmas.Bool.{cases_Bool, or_cases, or_left, or_right, or_parts, eqb-true, eqb-false, eq-eqb}
use Rattle.std.proofs.lemmas.Bool.{ne_eqb, false≢true}
use Rattle.sctp_model.specs.Packets.{mem}
use Rattle.sctp_model.specs.Safe.{AreDistinct, AreRising}

pub all_weaker : {X : Type 0} (P Q : X → Type 0) (xs : List X) → ((x : X) → P x → Q x) → AllByRecursion P xs
    → AllByRecursion Q xs
all_weaker P Q [] f a = a
all_weaker P Q (x ∷ xs) f a = (f x a.0, all_weaker P Q xs f a.1)

pub all_push : {X : Type 0} (P : X → Type 0) (xs : List X) (y : X) → AllByRecursion P xs → P y
    → AllByRecursion P (xs ++ y ∷ [])
all_push P [] y a h = (h, a)
all_push P (x ∷ xs) y a h = (a.0, all_push P xs y a.1 h)

pub all_join : {X : Type 0} (P : X → Type 0) (xs ys : List X) → AllByRecursion P xs → AllByRecursion P ys
    → AllByRecursion P (xs ++ ys)
all_join P [] ys a b = b
all_join P (x ∷ xs) ys a b = (a.0, all_join P xs ys a.1 b)

pub all_front : {X : Type 0} (P : X → Type 0) (xs ys : List X) → AllByRecursion P (xs ++ ys) → AllByRecursion P xs
all_front P [] ys a = tt
all_front P (x ∷ xs) ys a = (a.0, all_front P xs ys a.1)

pub all_back : {X : Type 0} (P : X → Type 0) (xs ys : List X) → AllByRecursion P (xs ++ ys) → AllByRecursion P ys
all_back P [] ys a = a
all_back P (x ∷ xs) ys a = all_back P xs ys a.1

pub all_filter : {X : Type 0} (P : X → Type 0) (p : X → Bool) (xs : List X) → AllByRecursion P xs
    → AllByRecursion P (filter p xs)
all_filter P p [] a = a
all_filter P p (x ∷ xs) a =
    ⊎_elim (λ (b : p x ≡ true). rw b (a.0, all_filter P p xs a.1)) (λ (b : p x ≡ false). rw b (all_filter P p xs a.1))
    (cases_Bool (p x))

pub all_passed : {X : Type 0} (p : X → Bool) (xs : List X) → AllByRecursion (λ x. p x ≡ true) (filter p xs)
all_passed p [] = tt
all_passed p (x ∷ xs) =
    ⊎_elim (λ (b : p x ≡ true). rw b (b, all_passed p xs)) (λ (b : p x ≡ false). rw b (all_passed p xs))
    (cases_Bool (p x))

pub all_get : {X : Type 0} (P : X → Type 0) (xs : List X) (k : ℕ) (x : X) → slice_get xs k ≡ Some x
    → AllByRecursion P xs → P x
all_get P [] k x e a = absurd (cc)
all_get P (y ∷ ys) zero x e a = subst P (let h : y ≡ x = cc in h) a.0
all_get P (y ∷ ys) (suc k) x e a = all_get P ys k x e a.1

pub all_both : {X : Type 0} (P Q : X → Type 0) (xs : List X) → AllByRecursion P xs → AllByRecursion Q xs
    → AllByRecursion (λ x. P x × Q x) xs
all_both P Q [] a b = a
all_both P Q (x ∷ xs) a b = ((a.0, b.0), all_both P Q xs a.1 b.1)

pub map_same : {X Y : Type 0} (f g : X → Y) (P : X → Type 0) (xs : List X) → AllByRecursion P xs
    → ((x : X) → P x → f x ≡ g x) → map f xs ≡ map g xs
map_same f g P [] a h = refl
map_same f g P (x ∷ xs) a h = let e = h x a.0 in let r = map_same f g P xs a.1 h in cc

pub filter_same : {X : Type 0} (f g : X → Bool) (P : X → Type 0) (xs : List X) → AllByRecursion P xs
    → ((x : X) → P x → f x ≡ g x) → filter f xs ≡ filter g xs
filter_same f g P [] a h = refl
filter_same f g P (x ∷ xs) a h = rw (h x a.0, filter_same f g P xs a.1 h) refl

pub all_map : {X Y : Type 0} (P : Y → Type 0) (f : X → Y) (xs : List X) → AllByRecursion (λ x. P (f x)) xs
    → AllByRecursion P (map f xs)
all_map P f [] a = a
all_map P f (x ∷ xs) a = (a.0, all_map P f xs a.1)

pub all_unmap : {X Y : Type 0} (P : Y → Type 0) (f : X → Y) (xs : List X) → AllByRecursion P (map f xs)
    → AllByRecursion (λ x. P (f x)) xs
all_unmap P f [] a = a
all_unmap P f (x ∷ xs) a = (a.0, all_unmap P f xs a.1)

pub map-join : {X Y : Type 0} (f : X → Y) (xs ys : List X) → map f (xs ++ ys) ≡ map f xs ++ map f ys
map-join f [] ys = refl
map-join f (x ∷ xs) ys = rw (map-join f xs ys) refl

pub filter-join : {X : Type 0} (p : X → Bool) (xs ys : List X) → filter p (xs ++ ys) ≡ filter p xs ++ filter p ys
filter-join p [] ys = refl
filter-join p (x ∷ xs) ys =
    ⊎_elim (λ (b : p x ≡ true). rw (b, filter-join p xs ys) refl)
    (λ (b : p x ≡ false). rw (b, filter-join p xs ys) refl) (cases_Bool (p x))

-- Sets of numbers

pub mem-join : (i : ℕ) (xs ys : List ℕ) → mem i (xs ++ ys) ≡ (mem i xs || mem i ys)
mem-join i [] ys = refl
mem-join i (x ∷ xs) ys =
    ⊎_elim (λ (b : eqb x i ≡ true). rw b refl) (λ (b : eqb x i ≡ false). rw (b, mem-join i xs ys) refl)
    (cases_Bool (eqb x i))

pub mem_left : (i : ℕ) (xs ys : List ℕ) → mem i xs ≡ true → mem i (xs ++ ys) ≡ true
mem_left i xs ys h = mem-join i xs ys ∙ or_left _ _ h

pub mem_right : (i : ℕ) (xs ys : List ℕ) → mem i ys ≡ true → mem i (xs ++ ys) ≡ true
mem_right i xs ys h = mem-join i xs ys ∙ or_right _ _ h

pub mem_cases : (i : ℕ) (xs ys : List ℕ) → mem i (xs ++ ys) ≡ true → (mem i xs ≡ true) ⊎ (mem i ys ≡ true)
mem_cases i xs ys h = or_cases _ _ (sym (mem-join i xs ys) ∙ h)

pub mem_neither : (i : ℕ) (xs ys : List ℕ) → mem i (xs ++ ys) ≡ false → (mem i xs ≡ false) × (mem i ys ≡ false)
mem_neither i xs ys h = or_parts _ _ (sym (mem-join i xs ys) ∙ h)

pub mem_none : (i : ℕ) (xs ys : List ℕ) → mem i xs ≡ false → mem i ys ≡ false → mem i (xs ++ ys) ≡ false
mem_none i xs ys a b = mem-join i xs ys ∙ (rw (a, b) refl)

pub all_mem : (P : ℕ → Type 0) (xs : List ℕ) (i : ℕ) → AllByRecursion P xs → mem i xs ≡ true → P i
all_mem P [] i a m = absurd (false≢true m)
all_mem P (x ∷ xs) i a m =
    ⊎_elim (λ (e : eqb x i ≡ true). subst P (eqb-true x i e) a.0) (λ (r : mem i xs ≡ true). all_mem P xs i a.1 r)
    (or_cases _ _ m)

pub mem_one : (i : ℕ) → mem i (i ∷ []) ≡ true
mem_one i = or_left _ _ (eq-eqb i i refl)

-- one more number, put in anywhere
pub distinct_insert : (xs ys : List ℕ) (i : ℕ) → AreDistinct (xs ++ ys) → mem i (xs ++ ys) ≡ false
    → AreDistinct (xs ++ i ∷ ys)
distinct_insert [] ys i d n = (n, d)
distinct_insert (x ∷ xs) ys i d n =
    let parts = or_parts (eqb x i) (mem i (xs ++ ys)) n in
    let rest = mem_neither x xs ys d.0 in
    let apart : eqb i x ≡ false = ne_eqb i x (λ (e : i ≡ x). eqb-false x i parts.0 (sym e)) in
    (mem_none x xs (i ∷ ys) rest.0 (rw (apart, rest.1) refl), distinct_insert xs ys i d.1 parts.1)

pub rising_push : (xs : List ℕ) (i : ℕ) → AreRising xs → AllByRecursion (λ (j : ℕ). j < i) xs → AreRising (xs ++ i ∷ [])
rising_push [] i r b = (tt, tt)
rising_push (x ∷ xs) i r b = (all_push (λ (j : ℕ). x < j) xs i r.0 b.0, rising_push xs i r.1 b.1)
