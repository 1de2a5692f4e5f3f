-- Ascending numbers are told by which of them are held.
use Rattle.std.proofs.Common.{◌≡◌, ℕ, ◌+◌, ◌^◌, ◌<◌, ◌≤◌, Bool, true, false, ◌&&◌, ◌||◌, not, eqb}
use Rattle.std.proofs.Common.{List, [], ◌∷◌, filter, refl, sym, ◌∙◌, subst, ⊎_elim, arith}
use Rattle.std.specs.Ordering.{nat_cmp}
use Rattle.std.specs.BTreeMap.{is_at}
use Rattle.std.specs.BTreeSet.{insert_key}
use Rattle.std.specs.Set.{remove_key}
use Rattle.std.specs.declared.cmp.Ordering.TheVariants.{Greater, Less, Equal}
use Rattle.std.specs.Cmp.{nat_cmp_is}
use Rattle.std.proofs.lemmas.Bool.{cases_Bool, cases_lt}
use Rattle.std.proofs.lemmas.Bool.Decides.{nat_tests}
use Rattle.sctp_received.specs.Received.{is_held}

-- TSNs that ascend, from a least one
abbrev pub Ascend : ℕ → List ℕ → Type 0
Ascend least [] = Unit {0}
Ascend least (t ∷ ts) = (least ≤ t) × (t < 2 ^ 32) × Ascend (t + 1) ts

pub ascend_from : (l m : ℕ) (ts : List ℕ) → l ≤ m → Ascend m ts → Ascend l ts
ascend_from l m [] le a = tt
ascend_from l m (t ∷ ts) le a = (omega (arith, le, a.0), a.1, a.2)

-- Comparisons.

lesser : (a b : ℕ) → a < b → nat_cmp a b ≡ Less
lesser a b l = sym (nat_cmp_is a b Less l)

same_number : (a b : ℕ) → a ≡ b → nat_cmp a b ≡ Equal
same_number a b e = sym (nat_cmp_is a b Equal e)

greater : (a b : ℕ) → b < a → nat_cmp a b ≡ Greater
greater a b l = sym (nat_cmp_is a b Greater l)

pub at_is : (a b : ℕ) → is_at (nat_cmp a) b ≡ eqb a b
at_is a b =
    ⊎_elim
    (λ (l : a < b). rw (lesser a b l) (sym (grind (arith, nat_tests, l))))
    (λ (g : b ≤ a). ⊎_elim
    (λ (m : b < a). rw (greater a b m) (sym (grind (arith, nat_tests, m))))
    (λ (n : a ≤ b). rw (same_number a b (omega (arith, g, n))) (sym (grind (arith, nat_tests, g, n))))
    (cases_lt b a))
    (cases_lt a b)

eqb_same : (a b : ℕ) → eqb a b ≡ true → a ≡ b
eqb_same a b e = grind (arith, nat_tests, e)

-- Lists with the same numbers are equal.

pub none_held : (l t : ℕ) (ts : List ℕ) → t < l → Ascend l ts → is_held t ts ≡ false
none_held l t [] b a = refl
none_held l t (u ∷ us) b a =
    let off : eqb t u ≡ false = grind (arith, nat_tests, b, a.0) in
    rw (at_is t u, off) (none_held (u + 1) t us (omega (arith, b, a.0)) a.2)

first_held : (t : ℕ) (ts : List ℕ) → is_held t (t ∷ ts) ≡ true
first_held t ts = rw (same_number t t refl) refl

pub same_lists : (l : ℕ) (xs ys : List ℕ) → Ascend l xs → Ascend l ys
    → ((t : ℕ) → t < 2 ^ 32 → is_held t xs ≡ is_held t ys) → xs ≡ ys
same_lists l [] [] a b h = refl
same_lists l [] (y ∷ ys) a b h = absurd (cc (h y b.1, first_held y ys))
same_lists l (x ∷ xs) [] a b h = absurd (cc (h x a.1, first_held x xs))
same_lists l (x ∷ xs) (y ∷ ys) a b h =
    ⊎_elim
    (λ (lt : x < y).
    let off = none_held y x (y ∷ ys) lt (omega arith, b.1, b.2) in
    absurd (different (first_held x xs) off (h x a.1)))
    (λ (ge : y ≤ x). ⊎_elim
    (λ (gt : y < x).
    let off = none_held x y (x ∷ xs) gt (omega arith, a.1, a.2) in
    absurd (different (first_held y ys) off (sym (h y b.1))))
    (λ (le : x ≤ y).
    let same : x ≡ y = omega (arith, ge, le) in
    let rest = subst (λ z. Ascend (z + 1) ys) (sym same) b.2 in
    let tails : xs ≡ ys = same_lists (x + 1) xs ys a.2 rest (λ t w. tail_held t w same rest) in
    rw (same, tails) refl)
    (cases_lt y x))
    (cases_lt x y)
  where
    different : {p q : Bool} → p ≡ true → q ≡ false → p ≡ q → ⊥
    different e f g = absurd (cc (e, f, g))

    tail_held : (t : ℕ) → t < 2 ^ 32 → x ≡ y → Ascend (x + 1) ys → is_held t xs ≡ is_held t ys
    tail_held t w same rest =
        ⊎_elim
        (λ (past : x < t).
        let off : eqb t x ≡ false = grind (arith, nat_tests, past) in
        let offy : eqb t y ≡ false = rw (← same) off in
        let all : (is_at (nat_cmp t) x || is_held t xs) ≡ (is_at (nat_cmp t) y || is_held t ys) = h t w in
        rw (at_is t x, at_is t y, off, offy) at all)
        (λ (by : t ≤ x).
        none_held (x + 1) t xs (omega (arith, by)) a.2 ∙ sym (none_held (x + 1) t ys (omega (arith, by)) rest))
        (cases_lt x t)

-- One number more, one less, and those that pass a test.

or_twice : (b c : Bool) → (b || c) ≡ (b || (b || c))
or_twice true c = refl
or_twice false c = refl

or_swap : (a b c : Bool) → (a || (b || c)) ≡ (b || (a || c))
or_swap true true c = refl
or_swap true false c = refl
or_swap false b c = refl

pub inserted_held : (u t : ℕ) (ts : List ℕ) → is_held u (insert_key nat_cmp ts t) ≡ (eqb u t || is_held u ts)
inserted_held u t [] = rw (at_is u t) refl
inserted_held u t (x ∷ xs) =
    ⊎_elim
    (λ (l : t < x). rw (lesser t x l, at_is u t) refl)
    (λ (g : x ≤ t). ⊎_elim
    (λ (m : x < t). rw (greater t x m, inserted_held u t xs) (or_swap (is_at (nat_cmp u) x) (eqb u t) (is_held u xs)))
    (λ (n : t ≤ x).
    let same : t ≡ x = omega (arith, g, n) in
    rw (same_number t x same, at_is u x, same) (or_twice (eqb u x) (is_held u xs)))
    (cases_lt x t))
    (cases_lt t x)

pub inserted_ascend : (l t : ℕ) (ts : List ℕ) → Ascend l ts → l ≤ t → t < 2 ^ 32 → Ascend l (insert_key nat_cmp ts t)
inserted_ascend l t [] a b w = (b, w, tt)
inserted_ascend l t (x ∷ xs) a b w =
    ⊎_elim
    (λ (lt : t < x). rw (lesser t x lt) (b, w, (omega (arith, lt), a.1, a.2)))
    (λ (ge : x ≤ t). ⊎_elim
    (λ (gt : x < t). rw (greater t x gt) (a.0, a.1, inserted_ascend (x + 1) t xs a.2 (omega (arith, gt)) w))
    (λ (le : t ≤ x). rw (same_number t x (omega (arith, ge, le))) (a.0, a.1, a.2))
    (cases_lt x t))
    (cases_lt t x)

pub removed_held : (l u t : ℕ) (ts : List ℕ) → Ascend l ts
    → is_held u (remove_key (is_at (nat_cmp t)) ts) ≡ (not (eqb u t) && is_held u ts)
removed_held l u t [] a = sym (none (not (eqb u t)))
  where
    none : (b : Bool) → (b && false) ≡ false
    none true = refl
    none false = refl
removed_held l u t (x ∷ xs) a =
    ⊎_elim
    (λ (e : eqb t x ≡ true).
    let same : t ≡ x = eqb_same t x e in
    rw (at_is t x, e, at_is u x) (⊎_elim
    (λ (f : eqb u t ≡ true).
    let is : u ≡ t = eqb_same u t f in
    rw f (none_held (x + 1) u xs (omega (arith, is, same)) a.2))
    (λ (f : eqb u t ≡ false).
    let off : eqb u x ≡ false = rw (← same) f in
    rw (f, off) refl)
    (cases_Bool (eqb u t))))
    (λ (e : eqb t x ≡ false).
    rw (at_is t x, e, at_is u x, removed_held (x + 1) u t xs a.2) (⊎_elim
    (λ (f : eqb u t ≡ true).
    let is : u ≡ t = eqb_same u t f in
    let off : eqb u x ≡ false = rw is e in
    rw (f, off) refl)
    (λ (f : eqb u t ≡ false). rw f refl)
    (cases_Bool (eqb u t))))
    (cases_Bool (eqb t x))

pub removed_ascend : (l t : ℕ) (ts : List ℕ) → Ascend l ts → Ascend l (remove_key (is_at (nat_cmp t)) ts)
removed_ascend l t [] a = tt
removed_ascend l t (x ∷ xs) a =
    ⊎_elim
    (λ (e : is_at (nat_cmp t) x ≡ true). rw e (ascend_from l (x + 1) xs (omega (arith, a.0)) a.2))
    (λ (e : is_at (nat_cmp t) x ≡ false). rw e (a.0, a.1, removed_ascend (x + 1) t xs a.2))
    (cases_Bool (is_at (nat_cmp t) x))

pub filtered_held : (p : ℕ → Bool) (u : ℕ) (ts : List ℕ) → is_held u (filter p ts) ≡ (p u && is_held u ts)
filtered_held p u [] = sym (none (p u))
  where
    none : (b : Bool) → (b && false) ≡ false
    none true = refl
    none false = refl
filtered_held p u (x ∷ xs) =
    ⊎_elim
    (λ (e : p x ≡ true).
    rw (e, at_is u x, filtered_held p u xs) (⊎_elim
    (λ (f : eqb u x ≡ true).
    let is : u ≡ x = eqb_same u x f in
    let holds : p u ≡ true = rw is e in
    rw (f, holds) refl)
    (λ (f : eqb u x ≡ false). rw f refl)
    (cases_Bool (eqb u x))))
    (λ (e : p x ≡ false).
    rw (e, at_is u x, filtered_held p u xs) (⊎_elim
    (λ (f : eqb u x ≡ true).
    let is : u ≡ x = eqb_same u x f in
    let fails : p u ≡ false = rw is e in
    rw (f, fails) refl)
    (λ (f : eqb u x ≡ false). rw f refl)
    (cases_Bool (eqb u x))))
    (cases_Bool (p x))

pub filtered_ascend : (p : ℕ → Bool) (l : ℕ) (ts : List ℕ) → Ascend l ts → Ascend l (filter p ts)
filtered_ascend p l [] a = tt
filtered_ascend p l (x ∷ xs) a =
    ⊎_elim
    (λ (e : p x ≡ true). rw e (a.0, a.1, filtered_ascend p (x + 1) xs a.2))
    (λ (e : p x ≡ false). rw e (filtered_ascend p l xs (ascend_from l (x + 1) xs (omega (arith, a.0)) a.2)))
    (cases_Bool (p x))
