-- A row of ranges in parts: those in front of an index, and those from another one on.
use Rattle.std.proofs.Common.{◌≡◌, ℕ, zero, suc, ◌+◌, ◌-◌, ◌^◌, ◌<◌, ◌≤◌, true, false, ◌||◌, ltb}
use Rattle.std.proofs.Common.{List, [], ◌∷◌, ◌++◌, length, take, drop, refl, ap, sym, ◌∙◌, ⊎_elim, arith}
use Rattle.std.proofs.Common.{Some, None}
use Rattle.std.specs.List.{slice_get}
use Rattle.std.proofs.lemmas.Bool.{cases_Bool, ltb-true, ltb-false}
use Rattle.std.proofs.lemmas.List.Folds.{list_any-append}
use Rattle.std.proofs.lemmas.List.{take-append-drop}
use Rattle.sctp_ranges.specs.declared.run.Run.{Run}
use Rattle.sctp_ranges.specs.Runs.{AreApart, has, is_in, ended_before, begins_from}

pub apart_from : (l m : ℕ) (rs : List Run) → l ≤ m → AreApart m rs → AreApart l rs
apart_from l m [] le a = tt
apart_from l m (r ∷ rs) le a = (omega (arith, le, a.0), a.1, a.2, a.3)

pub apart_behind : (l i : ℕ) (rs : List Run) → AreApart l rs → AreApart (begins_from l rs i) (drop i rs)
apart_behind l zero rs a = a
apart_behind l (suc i) [] a = tt
apart_behind l (suc i) (r ∷ rs) a = apart_behind (r.last + 2) i rs a.3

pub apart_again : (l i : ℕ) (rs xs : List Run) → AreApart l rs → AreApart (begins_from l rs i) xs
    → AreApart l (take i rs ++ xs)
apart_again l zero rs xs a b = b
apart_again l (suc i) [] xs a b = b
apart_again l (suc i) (r ∷ rs) xs a b = (a.0, a.1, a.2, apart_again (r.last + 2) i rs xs a.3 b)

-- the range in front of an index says where the next one may begin
pub begins_behind : (l i : ℕ) (r : Run) (rs : List Run) → slice_get rs i ≡ Some r → begins_from l rs (suc i) ≡ r.last + 2
begins_behind l i r [] e = absurd (cc)
begins_behind l zero r (x ∷ rs) e = let same : x ≡ r = cc in rw same refl
begins_behind l (suc i) r (x ∷ rs) e = begins_behind (x.last + 2) i r rs e

pub rest_is : (i : ℕ) (r : Run) (rs : List Run) → slice_get rs i ≡ Some r → drop i rs ≡ r ∷ drop (suc i) rs
rest_is i r [] e = absurd (cc)
rest_is zero r (x ∷ rs) e = let same : x ≡ r = cc in rw same refl
rest_is (suc i) r (x ∷ rs) e = rest_is i r rs e

pub no_rest : (i : ℕ) (rs : List Run) → slice_get rs i ≡ None → drop i rs ≡ []
no_rest zero [] e = refl
no_rest (suc i) [] e = refl
no_rest zero (x ∷ rs) e = absurd (cc)
no_rest (suc i) (x ∷ rs) e = no_rest i rs e

pub get_put : (i : ℕ) (r : Run) (rs ys : List Run) → i ≤ length rs → slice_get (take i rs ++ r ∷ ys) i ≡ Some r
get_put zero r rs ys l = refl
get_put (suc i) r [] ys l = absurd (omega (arith, l))
get_put (suc i) r (x ∷ rs) ys l = get_put i r rs ys (omega (arith, l))

-- a range of the row is one that its invariant speaks of
pub range_is : (l i : ℕ) (r : Run) (rs : List Run) → AreApart l rs → slice_get rs i ≡ Some r
    → (begins_from l rs i ≤ r.first) × (r.first ≤ r.last) × (r.last < 2 ^ 32)
range_is l i r [] a e = absurd (cc)
range_is l zero r (x ∷ rs) a e = let same : x ≡ r = cc in rw (← same) (a.0, a.1, a.2)
range_is l (suc i) r (x ∷ rs) a e = range_is (x.last + 2) i r rs a.3 e

pub begins_more : (l i : ℕ) (rs : List Run) → AreApart l rs → (x : Run) → slice_get rs i ≡ Some x → l ≤ x.first
begins_more l i [] a x e = absurd (cc)
begins_more l zero (y ∷ rs) a x e = let same : y ≡ x = cc in rw (← same) a.0
begins_more l (suc i) (y ∷ rs) a x e =
    omega (arith, begins_more (y.last + 2) i rs a.3 x e, a.0, a.1)

-- what ends before an offset
pub ends_in_front : (o i : ℕ) (r : Run) (rs : List Run) → slice_get rs i ≡ Some r → i < ended_before o rs → r.last < o
ends_in_front o i r [] e l = absurd (cc)
ends_in_front o zero r (x ∷ rs) e l =
    let same : x ≡ r = cc in
    ⊎_elim
    (λ (f : ltb x.last o ≡ true). rw (← same) (ltb-true x.last o f))
    (λ (f : ltb x.last o ≡ false). let none : 0 < 0 = rw f at l in absurd (omega (arith, none)))
    (cases_Bool (ltb x.last o))
ends_in_front o (suc i) r (x ∷ rs) e l =
    ⊎_elim
    (λ (f : ltb x.last o ≡ true).
    let more : suc i < suc (ended_before o rs) = rw f at l in
    ends_in_front o i r rs e (omega (arith, more)))
    (λ (f : ltb x.last o ≡ false). let none : suc i < 0 = rw f at l in absurd (omega (arith, none)))
    (cases_Bool (ltb x.last o))

-- and so a range behind that may begin one past the offset at the latest
pub begins_by : (l o : ℕ) (rs : List Run) → l ≤ o + 1 → begins_from l rs (ended_before o rs) ≤ o + 1
begins_by l o [] le = le
begins_by l o (r ∷ rs) le =
    ⊎_elim
    (λ (f : ltb r.last o ≡ true). rw f (begins_by (r.last + 2) o rs (omega (arith, ltb-true r.last o f))))
    (λ (f : ltb r.last o ≡ false). rw f le)
    (cases_Bool (ltb r.last o))

pub reaches_here : (o : ℕ) (r : Run) (rs : List Run) → slice_get rs (ended_before o rs) ≡ Some r → o ≤ r.last
reaches_here o r [] e = absurd (cc)
reaches_here o r (x ∷ rs) e =
    ⊎_elim
    (λ (f : ltb x.last o ≡ true). reaches_here o r rs (rw f at e))
    (λ (f : ltb x.last o ≡ false).
    let here : Some x ≡ Some r = rw f at e in
    let same : x ≡ r = cc in
    rw (← same) (ltb-false x.last o f))
    (cases_Bool (ltb x.last o))

pub begins_first : (o n : ℕ) (rs : List Run) → n ≡ 0 → begins_from 0 rs n ≤ o
begins_first o n rs e = rw e (omega arith)

-- where the range in front of the place of an offset does not touch it
pub begins_apart : (o n : ℕ) (p : Run) (rs : List Run) → 0 < n → n ≡ ended_before o rs → slice_get rs (n - 1) ≡ Some p
    → (p.last + 1 ≡ o → ⊥) → begins_from 0 rs n ≤ o
begins_apart o n p rs more at e apart =
    let next : suc (n - 1) ≡ n = omega (arith, more) in
    let begins : begins_from 0 rs n ≡ p.last + 2 =
    ap (begins_from 0 rs) (sym next) ∙ begins_behind 0 (n - 1) p rs e in
    let ends : p.last < o = ends_in_front o (n - 1) p rs e (omega (arith, at, more)) in
    rw begins (omega (arith, ends, apart))

-- the number after the range in front is at most the offset
pub ends_before_place : (o n : ℕ) (p : Run) (rs : List Run) → 0 < n → n ≡ ended_before o rs
    → slice_get rs (n - 1) ≡ Some p → p.last < o
ends_before_place o n p rs more at e = ends_in_front o (n - 1) p rs e (omega (arith, at, more))

pub in_parts : (x i : ℕ) (rs : List Run) → is_in x rs ≡ (is_in x (take i rs) || is_in x (drop i rs))
in_parts x i rs = ap (is_in x) (sym (take-append-drop i rs)) ∙ list_any-append (λ r. has r x) (take i rs) (drop i rs)
