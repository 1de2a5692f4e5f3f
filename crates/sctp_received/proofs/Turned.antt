-- The TSNs of ranges ascend as numbers, and are told by the offsets of the ranges.
use Rattle.std.proofs.Common.{◌≡◌, ℕ, zero, suc, ◌+◌, ◌-◌, ◌%◌, ◌^◌, ◌<◌, ◌≤◌, Bool, true, false, ◌&&◌, ◌||◌, ltb, leb}
use Rattle.std.proofs.Common.{eqb, List, [], ◌∷◌, ◌++◌, filter, map, refl, ap, sym, ◌∙◌, ⊎_elim, arith}
use Rattle.std.specs.List.{list_any, range_with_len}
use Rattle.std.specs.Ordering.{nat_cmp}
use Rattle.std.specs.BTreeMap.{is_at}
use Rattle.std.proofs.lemmas.Bool.{cases_Bool, cases_lt, leb-true, ltb-true, lt-leb, le-leb, lt-ltb}
use Rattle.std.proofs.lemmas.Bool.{le-ltb}
use Rattle.std.proofs.lemmas.Bool.Decides.{nat_tests}
use Rattle.std.proofs.lemmas.List.Folds.{list_any-append}
use Rattle.sctp_serial.specs.Serial.{tsn, tsn_past}
use Rattle.sctp_ranges.specs.declared.run.Run.{Run}
use Rattle.sctp_ranges.specs.Runs.{until, spelled, AreApart, has, is_in}
use Rattle.sctp_received.specs.Received.{is_held}
use Rattle.sctp_received.specs.TsnRanges.{turned}
use Rattle.sctp_received.proofs.Keys.{Ascend, ascend_from, at_is, same_lists}

-- The numbers of ranges.

range_held : (o a n : ℕ) → is_held o (range_with_len a n) ≡ (leb a o && ltb o (a + n))
range_held o a zero = sym (empty o a)
  where
    empty : (o a : ℕ) → (leb a o && ltb o (a + 0)) ≡ false
    empty o a = grind (arith, nat_tests)
range_held o a (suc n) = rw (at_is o a, range_held o (a + 1) n) (next o a n)
  where
    next : (o a n : ℕ) → (eqb o a || (leb (a + 1) o && ltb o (a + 1 + n))) ≡ (leb a o && ltb o (a + suc n))
    next o a n = grind (arith, nat_tests)

run_held : (o : ℕ) (r : Run) → r.first ≤ r.last → is_held o (until r.first (r.last + 1)) ≡ has r o
run_held o r l = range_held o r.first (r.last + 1 - r.first) ∙ ends o r.first r.last l
  where
    ends : (o a b : ℕ) → a ≤ b → (leb a o && ltb o (a + (b + 1 - a))) ≡ (leb a o && leb o b)
    ends o a b l = grind (arith, nat_tests, l)

pub spelled_held : (l o : ℕ) (rs : List Run) → AreApart l rs → is_held o (spelled rs) ≡ is_in o rs
spelled_held l o [] a = refl
spelled_held l o (r ∷ rs) a =
    list_any-append (is_at (nat_cmp o)) (until r.first (r.last + 1)) (spelled rs) ∙
    rw (run_held o r a.1, spelled_held (r.last + 2) o rs a.3) refl

range_ascend : (l a n : ℕ) (xs : List ℕ) → l ≤ a → a + n ≤ 2 ^ 32 → Ascend (a + n) xs
    → Ascend l (range_with_len a n ++ xs)
range_ascend l a zero xs le w s = ascend_from l (a + 0) xs (omega (arith, le)) s
range_ascend l a (suc n) xs le w s = (
  le,
  omega (arith, w),
  range_ascend (a + 1) (a + 1) n xs (omega arith) (omega (arith, w)) (ascend_from (a + 1 + n) (a + suc n) xs (omega arith) s),
)

pub spelled_ascend : (l : ℕ) (rs : List Run) → AreApart l rs → Ascend l (spelled rs)
spelled_ascend l [] a = tt
spelled_ascend l (r ∷ rs) a =
    range_ascend l r.first (r.last + 1 - r.first) (spelled rs) a.0 (omega (arith, a.1, a.2))
    (ascend_from (r.first + (r.last + 1 - r.first)) (r.last + 2) (spelled rs) (omega (arith, a.1))
    (spelled_ascend (r.last + 2) rs a.3))

-- Offsets turned into TSNs.

picked : (p : ℕ → Bool) (g : ℕ → Bool) (f : ℕ → ℕ) (os : List ℕ)
    → list_any p (map f (filter g os)) ≡ list_any (λ o. g o && p (f o)) os
picked p g f [] = refl
picked p g f (o ∷ os) =
    ⊎_elim
    (λ (e : g o ≡ true). rw e (ap (λ b. p (f o) || b) (picked p g f os)))
    (λ (e : g o ≡ false). rw e (picked p g f os))
    (cases_Bool (g o))

or_split : (a b c d : Bool) → ((a || b) || (c || d)) ≡ ((a || c) || (b || d))
or_split true b c d = refl
or_split false true true d = refl
or_split false true false d = refl
or_split false false c d = refl

-- an offset stands for a TSN exactly where it is the distance of the TSN from the base
pub stands_for : (b t o : ℕ) → b < 2 ^ 32 → t < 2 ^ 32 → o < 2 ^ 32 → eqb t (tsn b o) ≡ eqb (tsn_past b t) o
stands_for b t o bb tb ob =
    ⊎_elim
    (λ (e : eqb t (tsn b o) ≡ true).
    let same : t ≡ (b + o) % 2 ^ 32 = grind (arith, nat_tests, e) in
    let back : (t + 2 ^ 32 - b) % 2 ^ 32 ≡ o = omega (arith, same, bb, ob) in
    let is : eqb (tsn_past b t) o ≡ true = grind (arith, nat_tests, back) in
    e ∙ sym is)
    (λ (e : eqb t (tsn b o) ≡ false). ⊎_elim
    (λ (f : eqb (tsn_past b t) o ≡ true).
    let back : (t + 2 ^ 32 - b) % 2 ^ 32 ≡ o = grind (arith, nat_tests, f) in
    let same : t ≡ (b + o) % 2 ^ 32 = omega (arith, back, bb, tb) in
    let is : eqb t (tsn b o) ≡ true = grind (arith, nat_tests, same) in
    is ∙ sym f)
    (λ (f : eqb (tsn_past b t) o ≡ false). e ∙ sym f)
    (cases_Bool (eqb (tsn_past b t) o)))
    (cases_Bool (eqb t (tsn b o)))

either : (b o : ℕ) (e : Bool) → ((leb (2 ^ 32) (b + o) && e) || (ltb (b + o) (2 ^ 32) && e)) ≡ e
either b o e =
    ⊎_elim
    (λ (l : b + o < 2 ^ 32). rw (lt-ltb (b + o) (2 ^ 32) l, lt-leb (2 ^ 32) (b + o) l) refl)
    (λ (g : 2 ^ 32 ≤ b + o). rw (le-ltb (b + o) (2 ^ 32) g, le-leb (2 ^ 32) (b + o) g) (alone e))
    (cases_lt (b + o) (2 ^ 32))
  where
    alone : (e : Bool) → (e || false) ≡ e
    alone true = refl
    alone false = refl

parts_held : (b t l : ℕ) (os : List ℕ) → b < 2 ^ 32 → t < 2 ^ 32 → Ascend l os
    → (list_any (λ o. leb (2 ^ 32) (b + o) && is_at (nat_cmp t) (tsn b o)) os
    || list_any (λ o. ltb (b + o) (2 ^ 32) && is_at (nat_cmp t) (tsn b o)) os) ≡ is_held (tsn_past b t) os
parts_held b t l [] bb tb a = refl
parts_held b t l (o ∷ os) bb tb a =
    or_split (leb (2 ^ 32) (b + o) && is_at (nat_cmp t) (tsn b o))
    (list_any (λ o. leb (2 ^ 32) (b + o) && is_at (nat_cmp t) (tsn b o)) os)
    (ltb (b + o) (2 ^ 32) && is_at (nat_cmp t) (tsn b o))
    (list_any (λ o. ltb (b + o) (2 ^ 32) && is_at (nat_cmp t) (tsn b o)) os) ∙
    ap (λ z. z || (list_any (λ o. leb (2 ^ 32) (b + o) && is_at (nat_cmp t) (tsn b o)) os
    || list_any (λ o. ltb (b + o) (2 ^ 32) && is_at (nat_cmp t) (tsn b o)) os))
    (either b o (is_at (nat_cmp t) (tsn b o)) ∙ at_is t (tsn b o) ∙ stands_for b t o bb tb a.1 ∙
    sym (at_is (tsn_past b t) o)) ∙
    ap (λ z. is_at (nat_cmp (tsn_past b t)) o || z) (parts_held b t (o + 1) os bb tb a.2)

turned_held : (b t l : ℕ) (os : List ℕ) → b < 2 ^ 32 → t < 2 ^ 32 → Ascend l os
    → is_held t (turned b os) ≡ is_held (tsn_past b t) os
turned_held b t l os bb tb a =
    list_any-append (is_at (nat_cmp t)) (map (tsn b) (filter (λ o. leb (2 ^ 32) (b + o)) os))
    (map (tsn b) (filter (λ o. ltb (b + o) (2 ^ 32)) os)) ∙
    rw (
      picked (is_at (nat_cmp t)) (λ o. leb (2 ^ 32) (b + o)) (tsn b) os,
      picked (is_at (nat_cmp t)) (λ o. ltb (b + o) (2 ^ 32)) (tsn b) os,
    )
    (parts_held b t l os bb tb a)

low_ascend : (b l m : ℕ) (os : List ℕ) → Ascend m os → l ≤ b + m
    → Ascend l (map (tsn b) (filter (λ o. ltb (b + o) (2 ^ 32)) os))
low_ascend b l m [] a le = tt
low_ascend b l m (o ∷ os) a le =
    ⊎_elim
    (λ (e : ltb (b + o) (2 ^ 32) ≡ true).
    let low : b + o < 2 ^ 32 = ltb-true (b + o) (2 ^ 32) e in
    let is : tsn b o ≡ b + o = omega (arith, low) in
    rw (e, is) (omega (arith, le, a.0), low, low_ascend b (b + o + 1) (o + 1) os a.2 (omega arith)))
    (λ (e : ltb (b + o) (2 ^ 32) ≡ false).
    rw e (low_ascend b l (o + 1) os a.2 (omega (arith, le, a.0))))
    (cases_Bool (ltb (b + o) (2 ^ 32)))

high_ascend : (b l m : ℕ) (os rest : List ℕ) → b < 2 ^ 32 → Ascend m os → l ≤ b → l ≤ b + m - 2 ^ 32 → Ascend b rest
    → Ascend l (map (tsn b) (filter (λ o. leb (2 ^ 32) (b + o)) os) ++ rest)
high_ascend b l m [] rest bb a u le s = ascend_from l b rest u s
high_ascend b l m (o ∷ os) rest bb a u le s =
    ⊎_elim
    (λ (e : leb (2 ^ 32) (b + o) ≡ true).
    let high : 2 ^ 32 ≤ b + o = leb-true (2 ^ 32) (b + o) e in
    let is : tsn b o ≡ b + o - 2 ^ 32 = omega (arith, high, bb, a.1) in
    rw (e, is) (
      omega (arith, le, a.0),
      omega (arith, bb, a.1),
      high_ascend b (b + o - 2 ^ 32 + 1) (o + 1) os rest bb a.2 (omega (arith, high, a.1, bb)) (omega (arith, high)) s,
    ))
    (λ (e : leb (2 ^ 32) (b + o) ≡ false).
    rw e (high_ascend b l (o + 1) os rest bb a.2 u (omega (arith, le, a.0)) s))
    (cases_Bool (leb (2 ^ 32) (b + o)))

-- What is known of the TSNs of ranges.

pub tsns_ascend : (b : ℕ) (rs : List Run) → b < 2 ^ 32 → AreApart 0 rs → Ascend 0 (turned b (spelled rs))
tsns_ascend b rs bb a =
    let s = spelled_ascend 0 rs a in
    high_ascend b 0 0 (spelled rs) (map (tsn b) (filter (λ o. ltb (b + o) (2 ^ 32)) (spelled rs))) bb s
    (omega arith) (omega arith) (low_ascend b b 0 (spelled rs) s (omega arith))

pub tsns_held : (b t : ℕ) (rs : List Run) → b < 2 ^ 32 → t < 2 ^ 32 → AreApart 0 rs
    → is_held t (turned b (spelled rs)) ≡ is_in (tsn_past b t) rs
tsns_held b t rs bb tb a =
    turned_held b t 0 (spelled rs) bb tb (spelled_ascend 0 rs a) ∙ spelled_held 0 (tsn_past b t) rs a

-- ranges have the TSNs of a list where they have exactly their offsets
pub told : (b : ℕ) (rs : List Run) (ts : List ℕ) → b < 2 ^ 32 → AreApart 0 rs → Ascend 0 ts
    → ((t : ℕ) → t < 2 ^ 32 → is_in (tsn_past b t) rs ≡ is_held t ts) → turned b (spelled rs) ≡ ts
told b rs ts bb a s h =
    same_lists 0 (turned b (spelled rs)) ts (tsns_ascend b rs bb a) s (λ t w. tsns_held b t rs bb w a ∙ h t w)
