-- A number that no range has is added: alone, or to the range before it, to the one after it, or to both.
use Rattle.std.proofs.Common.{◌≡◌, ℕ, zero, suc, ◌+◌, ◌-◌, ◌^◌, ◌<◌, ◌≤◌, Bool, true, false, ◌&&◌, ◌||◌, leb, eqb}
use Rattle.std.proofs.Common.{List, [], ◌∷◌, ◌++◌, length, take, drop, refl, ap, sym, ◌∙◌, arith, subst}
use Rattle.std.proofs.Common.{Option, Some, None, slice_set, insert, length-append, length-drop}
use Rattle.std.specs.List.{slice_get}
use Rattle.std.proofs.lemmas.Bool.{le-leb}
use Rattle.std.proofs.lemmas.Bool.Decides.{nat_tests}
use Rattle.std.proofs.lemmas.List.Folds.{list_any-append}
use Rattle.std.proofs.lemmas.List.{length-take-le, set_split}
use Rattle.std.proofs.lemmas.Option.{slice_get_within}
use Rattle.sctp_ranges.specs.declared.run.Run.{Run}
use Rattle.sctp_ranges.specs.Runs.{run, AreApart, has, is_in, begins_from, IsClear, IsAdded}
use Rattle.sctp_ranges.proofs.Parts.{apart_behind, apart_again, rest_is, no_rest, get_put, range_is}
use Rattle.sctp_ranges.proofs.Parts.{in_parts}

-- One range in the place of some.

swapped : (f e m b : Bool) → (f || ((e || m) || b)) ≡ (e || (f || (m || b)))
swapped true true m b = refl
swapped true false m b = refl
swapped false true m b = refl
swapped false false m b = refl

-- where no range is before or behind, the ranges stay apart
pub put_in : (o i j a b : ℕ) (rs mids : List Run) → AreApart 0 rs → i ≤ j → i ≤ length rs
    → drop i rs ≡ mids ++ drop j rs → begins_from 0 rs i ≤ a → a ≤ b → b < 2 ^ 32 → AreApart (b + 2) (drop j rs)
    → ((x : ℕ) → has (run a b) x ≡ (eqb x o || is_in x mids)) → a ≤ o → o ≤ b
    → IsAdded o rs (take i rs ++ run a b ∷ drop j rs) i
put_in o i j a b rs mids apart le l parts begins w fits behind same from to = (
  apart_again 0 i rs (run a b ∷ drop j rs) apart (begins, w, fits, behind),
  λ x. list_any-append (λ r. has r x) (take i rs) (run a b ∷ drop j rs) ∙
      ap (λ z. is_in x (take i rs) || (z || is_in x (drop j rs))) (same x) ∙
      swapped (is_in x (take i rs)) (eqb x o) (is_in x mids) (is_in x (drop j rs)) ∙
      ap (λ z. eqb x o || (is_in x (take i rs) || z))
      (sym (list_any-append (λ r. has r x) mids (drop j rs)) ∙ ap (is_in x) (sym parts)) ∙
      ap (λ z. eqb x o || z) (sym (in_parts x i rs)),
  rw (get_put i (run a b) rs (drop j rs) l, le-leb a o from, le-leb o b to) refl,
  shorter,
)
  where
    shorter : length (take i rs ++ run a b ∷ drop j rs) ≤ length rs + 1
    shorter =
        omega (
          arith,
          length-append (take i rs) (run a b ∷ drop j rs),
          length-take-le i rs l,
          length-drop j rs,
          le,
          l,
        )

-- What is behind the place of the number.

pub clear_behind : (o n : ℕ) (rs : List Run) → AreApart 0 rs → IsClear o (slice_get rs n) → AreApart (o + 2) (drop n rs)
clear_behind o n rs apart clear = cases (slice_get rs n) refl clear
  where
    cases : (found : Option Run) → slice_get rs n ≡ found → IsClear o found → AreApart (o + 2) (drop n rs)
    cases None e c = rw (no_rest n rs e) tt
    cases (Some r) e c =
        let is = range_is 0 n r rs apart e in
        let rest = rest_is n r rs e in
        let all = subst (AreApart (begins_from 0 rs n)) rest (apart_behind 0 n rs apart) in
        rw rest (c, all.1, all.2, all.3)

alone_has : (o x : ℕ) → has (run o o) x ≡ (eqb x o || false)
alone_has o x = grind (arith, nat_tests)

end_has : (a o x : ℕ) (r : Run) → r.last + 1 ≡ o → r.first ≤ r.last
    → has (run r.first o) x ≡ (eqb x o || (has r x || false))
end_has a o x r e l = ends r.first r.last o x e l
  where
    ends : (f l o x : ℕ) → l + 1 ≡ o → f ≤ l → (leb f x && leb x o) ≡ (eqb x o || ((leb f x && leb x l) || false))
    ends f l o x e w = grind (arith, nat_tests, e, w)

begin_has : (o x : ℕ) (r : Run) → o + 1 ≡ r.first → r.first ≤ r.last
    → has (run o r.last) x ≡ (eqb x o || (has r x || false))
begin_has o x r e l = ends r.first r.last o x e l
  where
    ends : (f l o x : ℕ) → o + 1 ≡ f → f ≤ l → (leb o x && leb x l) ≡ (eqb x o || ((leb f x && leb x l) || false))
    ends f l o x e w = grind (arith, nat_tests, e, w)

both_have : (o x : ℕ) (p r : Run) → p.last + 1 ≡ o → o + 1 ≡ r.first → p.first ≤ p.last → r.first ≤ r.last
    → has (run p.first r.last) x ≡ (eqb x o || (has p x || (has r x || false)))
both_have o x p r e f l m = ends p.first p.last r.first r.last o x e f l m
  where
    ends : (a b c d o x : ℕ) → b + 1 ≡ o → o + 1 ≡ c → a ≤ b → c ≤ d
        → (leb a x && leb x d) ≡ (eqb x o || ((leb a x && leb x b) || ((leb c x && leb x d) || false)))
    ends a b c d o x e f l m = grind (arith, nat_tests, e, f, l, m)

-- The four cases.

pub added_alone : (o n : ℕ) (rs new : List Run) → AreApart 0 rs → n ≤ length rs → begins_from 0 rs n ≤ o → o < 2 ^ 32
    → IsClear o (slice_get rs n) → new ≡ insert rs n (run o o) → IsAdded o rs new n
added_alone o n rs new apart l begins fits clear is =
    subst (λ ys. IsAdded o rs ys n) (sym is)
    (put_in o n n o o rs [] apart (omega arith) l refl begins (omega arith) fits (clear_behind o n rs apart clear)
    (alone_has o) (omega arith) (omega arith))

pub added_before : (o n : ℕ) (r : Run) (rs new : List Run) → AreApart 0 rs → slice_get rs n ≡ Some r
    → begins_from 0 rs n ≤ o → o + 1 ≡ r.first → new ≡ slice_set rs n (run o r.last) → IsAdded o rs new n
added_before o n r rs new apart here begins touch is =
    let within = slice_get_within rs n r here in
    let at = range_is 0 n r rs apart here in
    let rest = rest_is n r rs here in
    let behind = subst (AreApart (begins_from 0 rs n)) rest (apart_behind 0 n rs apart) in
    subst (λ ys. IsAdded o rs ys n) (sym (is ∙ set_split rs n (run o r.last) within))
    (put_in o n (suc n) o r.last rs (r ∷ []) apart (omega arith) (omega (arith, within)) rest begins
    (omega (arith, touch, at.1)) at.2 behind.3 (λ x. begin_has o x r touch at.1) (omega arith)
    (omega (arith, touch, at.1)))

pub added_behind : (o n : ℕ) (p : Run) (rs new : List Run) → AreApart 0 rs → 0 < n → slice_get rs (n - 1) ≡ Some p
    → p.last + 1 ≡ o → o < 2 ^ 32 → IsClear o (slice_get rs n) → new ≡ slice_set rs (n - 1) (run p.first o)
    → IsAdded o rs new (n - 1)
added_behind o n p rs new apart more here touch fits clear is =
    let next : suc (n - 1) ≡ n = omega (arith, more) in
    let within = slice_get_within rs (n - 1) p here in
    let at = range_is 0 (n - 1) p rs apart here in
    let rest = rest_is (n - 1) p rs here in
    let behind : AreApart (o + 2) (drop (suc (n - 1)) rs) =
    subst (λ k. AreApart (o + 2) (drop k rs)) (sym next) (clear_behind o n rs apart clear) in
    subst (λ ys. IsAdded o rs ys (n - 1)) (sym (is ∙ set_split rs (n - 1) (run p.first o) within))
    (put_in o (n - 1) (suc (n - 1)) p.first o rs (p ∷ []) apart (omega arith) (omega (arith, within)) rest at.0
    (omega (arith, touch, at.1)) fits behind (λ x. end_has p.first o x p touch at.1) (omega (arith, touch, at.1))
    (omega arith))

pub added_between : (o n : ℕ) (p r : Run) (rs set new : List Run) → AreApart 0 rs → 0 < n
    → slice_get rs (n - 1) ≡ Some p → slice_get rs n ≡ Some r → p.last + 1 ≡ o → o + 1 ≡ r.first
    → set ≡ slice_set rs n (run p.first r.last) → new ≡ take (n - 1) set ++ drop n set → IsAdded o rs new (n - 1)
added_between o n p r rs set new apart more first second touch touch2 is is2 =
    let next : suc (n - 1) ≡ n = omega (arith, more) in
    let within = slice_get_within rs n r second in
    let at = range_is 0 (n - 1) p rs apart first in
    let at2 = range_is 0 n r rs apart second in
    let rest = rest_is (n - 1) p rs first ∙ ap (λ k. p ∷ drop k rs) next ∙ ap (λ ys. p ∷ ys) (rest_is n r rs second) in
    let behind = subst (AreApart (begins_from 0 rs n)) (rest_is n r rs second) (apart_behind 0 n rs apart) in
    let split : set ≡ take n rs ++ run p.first r.last ∷ drop (suc n) rs =
    is ∙ set_split rs n (run p.first r.last) within in
    let form : new ≡ take (n - 1) rs ++ run p.first r.last ∷ drop (suc n) rs =
    is2 ∙ ap (λ ys. take (n - 1) ys ++ drop n ys) split ∙
    fronts (n - 1) n rs (run p.first r.last ∷ drop (suc n) rs) (omega arith) (omega (arith, within)) in
    subst (λ ys. IsAdded o rs ys (n - 1)) (sym form)
    (put_in o (n - 1) (suc n) p.first r.last rs (p ∷ r ∷ []) apart (omega arith) (omega (arith, within)) rest at.0
    (omega (arith, at.1, touch, touch2, at2.1)) at2.2 behind.3 (λ x. both_have o x p r touch touch2 at.1 at2.1)
    (omega (arith, at.1, touch)) (omega (arith, touch2, at2.1)))
  where
    take_front : (m k : ℕ) (xs ys : List Run) → m ≤ k → k ≤ length xs → take m (take k xs ++ ys) ≡ take m xs
    take_front zero k xs ys l w = refl
    take_front (suc m) zero xs ys l w = absurd (omega (arith, l))
    take_front (suc m) (suc k) [] ys l w = absurd (omega (arith, w))
    take_front (suc m) (suc k) (x ∷ xs) ys l w =
        ap (λ zs. x ∷ zs) (take_front m k xs ys (omega (arith, l)) (omega (arith, w)))

    drop_front : (k : ℕ) (xs ys : List Run) → k ≤ length xs → drop k (take k xs ++ ys) ≡ ys
    drop_front zero xs ys w = refl
    drop_front (suc k) [] ys w = absurd (omega (arith, w))
    drop_front (suc k) (x ∷ xs) ys w = drop_front k xs ys (omega (arith, w))

    fronts : (m k : ℕ) (xs ys : List Run) → m ≤ k → k ≤ length xs
        → take m (take k xs ++ ys) ++ drop k (take k xs ++ ys) ≡ take m xs ++ ys
    fronts m k xs ys l w = rw (take_front m k xs ys l w, drop_front k xs ys w) refl
