-- The members stand for the elements that pass a test, and still do as elements come, leave and change.
use Rattle.std.proofs.Common.{◌≡◌, ℕ, zero, suc, ◌+◌, ◌-◌, ◌<◌, Bool, true, false, ◌&&◌, ◌||◌, not, eqb}
use Rattle.std.proofs.Common.{cond, List, [], ◌∷◌, ◌++◌, length, map, take, drop, slice_get, slice_set}
use Rattle.std.proofs.Common.{Option, Some, None, refl, ap, sym, ◌∙◌, ⊎_elim, max, min, arith, length-append}
use Rattle.std.specs.List.{position, position_or_len, prefix_len}
use Rattle.std.specs.Option.{option_map}
use Rattle.std.proofs.Math.Dec.{eqb-suc-zero, eqb-zero-suc, eqb-suc-suc}
use Rattle.std.proofs.Math.Nat.{min-zero, zero-min}
use Rattle.std.proofs.lemmas.Bool.{le-ltb, lt-ltb, cases_eq, eq-eqb, ne_eqb}
use Rattle.std.proofs.lemmas.List.{length-map, length-set}
use Rattle.sctp_candidates.specs.Candidates.{Members, is_member, AreNone, IsNext, IsNextOther, passes, StandFor}

-- where there is no element there is no place
pub stand_new : {X : Type 0} (test : X → Bool) (s : Members) → AreNone s → s.places ≡ 0 → StandFor s test []
stand_new test s none is = (is, none)

-- an element that does not pass comes behind the others
pub stand_grown : {X : Type 0} (test : X → Bool) (s t : Members) (xs : List X) (x : X) → StandFor s test xs
    → test x ≡ false → t.places ≡ s.places + 1 → ((i : ℕ) → is_member i t ≡ is_member i s)
    → StandFor t test (xs ++ x ∷ [])
stand_grown {X = X} test s t xs x stand off more same = (
  more ∙ ap (λ n. n + 1) stand.0 ∙ sym (length-append xs (x ∷ [])),
  λ i. same i ∙ stand.1 i ∙ behind i xs,
)
  where
    behind : (i : ℕ) (ys : List X) → passes test (slice_get ys i) ≡ passes test (slice_get (ys ++ x ∷ []) i)
    behind zero [] = sym off
    behind (suc i) [] = refl
    behind zero (y ∷ ys) = refl
    behind (suc i) (y ∷ ys) = behind i ys

-- the first element leaves
pub stand_passed : {X : Type 0} (test : X → Bool) (s t : Members) (x : X) (xs : List X) → StandFor s test (x ∷ xs)
    → t.places + 1 ≡ s.places → ((i : ℕ) → is_member i t ≡ is_member (i + 1) s) → StandFor t test xs
stand_passed test s t x xs stand less same = (
  omega (arith, less, stand.0),
  λ i.
      let next : i + 1 ≡ suc i = omega arith in
      same i ∙ stand.1 (i + 1) ∙ ap (λ k. passes test (slice_get (x ∷ xs) k)) next,
)

-- what passes at an index once an element was put there
put_passes : {X : Type 0} (test : X → Bool) (y : X) (index i : ℕ) (xs : List X) → index < length xs
    → passes test (slice_get (slice_set xs index y) i) ≡ cond (eqb i index) (test y) (passes test (slice_get xs i))
put_passes test y index i [] l = absurd (omega (arith, l))
put_passes test y zero zero (x ∷ xs) l = refl
put_passes test y zero (suc i) (x ∷ xs) l = rw (eqb-suc-zero i) refl
put_passes test y (suc index) zero (x ∷ xs) l = rw (eqb-zero-suc index) refl
put_passes test y (suc index) (suc i) (x ∷ xs) l =
    rw (eqb-suc-suc i index) (put_passes test y index i xs (omega (arith, l)))

-- an element becomes one that passes
pub stand_added : {X : Type 0} (test : X → Bool) (s t : Members) (xs : List X) (index : ℕ) (y : X)
    → StandFor s test xs → index < length xs → test y ≡ true → t.places ≡ s.places
    → ((i : ℕ) → is_member i t ≡ (eqb i index || is_member i s)) → StandFor t test (slice_set xs index y)
stand_added test s t xs index y stand l on places same = (
  places ∙ stand.0 ∙ sym (length-set xs index y),
  λ i.
      same i ∙ ap (λ b. eqb i index || b) (stand.1 i) ∙ join (eqb i index) (passes test (slice_get xs i)) ∙
      ap (λ b. cond (eqb i index) b (passes test (slice_get xs i))) (sym on) ∙ sym (put_passes test y index i xs l),
)
  where
    join : (e b : Bool) → (e || b) ≡ cond e true b
    join true b = refl
    join false b = refl

-- an element becomes one that does not pass
pub stand_removed : {X : Type 0} (test : X → Bool) (s t : Members) (xs : List X) (index : ℕ) (y : X)
    → StandFor s test xs → index < length xs → test y ≡ false → t.places ≡ s.places
    → ((i : ℕ) → is_member i t ≡ (not (eqb i index) && is_member i s)) → StandFor t test (slice_set xs index y)
stand_removed test s t xs index y stand l off places same = (
  places ∙ stand.0 ∙ sym (length-set xs index y),
  λ i.
      same i ∙ ap (λ b. not (eqb i index) && b) (stand.1 i) ∙ part (eqb i index) (passes test (slice_get xs i)) ∙
      ap (λ b. cond (eqb i index) b (passes test (slice_get xs i))) (sym off) ∙ sym (put_passes test y index i xs l),
)
  where
    part : (e b : Bool) → (not e && b) ≡ cond e false b
    part true b = refl
    part false b = refl

-- an element becomes one of which it is known whether it passes
pub stand_set : {X : Type 0} (test : X → Bool) (s t : Members) (xs : List X) (index : ℕ) (y : X) (b : Bool)
    → StandFor s test xs → index < length xs → test y ≡ b → t.places ≡ s.places
    → ((i : ℕ) → is_member i t ≡ cond (eqb i index) b (is_member i s)) → StandFor t test (slice_set xs index y)
stand_set test s t xs index y b stand l is places same = (
  places ∙ stand.0 ∙ sym (length-set xs index y),
  λ i.
      same i ∙ ap (λ c. cond (eqb i index) b c) (stand.1 i) ∙
      ap (λ c. cond (eqb i index) c (passes test (slice_get xs i))) (sym is) ∙ sym (put_passes test y index i xs l),
)

-- an element becomes one that passes where it did
pub stand_kept : {X : Type 0} (test : X → Bool) (s : Members) (xs : List X) (index : ℕ) (y : X) → StandFor s test xs
    → index < length xs → test y ≡ passes test (slice_get xs index) → StandFor s test (slice_set xs index y)
stand_kept test s xs index y stand l same = (
  stand.0 ∙ sym (length-set xs index y),
  λ i. stand.1 i ∙ kept i ∙ sym (put_passes test y index i xs l),
)
  where
    kept : (i : ℕ) → passes test (slice_get xs i) ≡ cond (eqb i index) (test y) (passes test (slice_get xs i))
    kept i =
        ⊎_elim (λ (e : i ≡ index). rw (e, eq-eqb index index refl) (sym same))
        (λ (e : i ≡ index → ⊥). rw (ne_eqb i index e) refl)
        (cases_eq i index)

-- places and members are the same
pub stand_same : {X : Type 0} (test : X → Bool) (s t : Members) (xs : List X) → StandFor s test xs
    → t.places ≡ s.places → ((i : ℕ) → is_member i t ≡ is_member i s) → StandFor t test xs
stand_same test s t xs stand places same = (places ∙ stand.0, λ i. same i ∙ stand.1 i)

-- each element becomes one that passes where it did
pub stand_mapped : {X : Type 0} (test : X → Bool) (f : X → X) (s : Members) (xs : List X)
    → ((x : X) → test (f x) ≡ test x) → StandFor s test xs → StandFor s test (map f xs)
stand_mapped {X = X} test f s xs same stand = (
  stand.0 ∙ sym (length-map xs f),
  λ i. stand.1 i ∙ mapped i xs,
)
  where
    mapped : (i : ℕ) (ys : List X) → passes test (slice_get ys i) ≡ passes test (slice_get (map f ys) i)
    mapped i [] = refl
    mapped zero (y ∷ ys) = sym (same y)
    mapped (suc i) (y ∷ ys) = mapped i ys

-- The next member is the next element that passes.

get_drop : {X : Type 0} (k i : ℕ) (xs : List X) → slice_get (drop k xs) i ≡ slice_get xs (k + i)
get_drop zero i xs = ap (slice_get xs) (sym (none i))
  where
    none : (i : ℕ) → 0 + i ≡ i
    none i = omega arith
get_drop (suc k) i [] = refl
get_drop (suc k) i (x ∷ xs) = get_drop k i xs ∙ ap (slice_get (x ∷ xs)) (sym (next k i))
  where
    next : (k i : ℕ) → suc k + i ≡ suc (k + i)
    next k i = omega arith

first_passing : {X : Type 0} (test : X → Bool) (n : ℕ) (xs : List X) → passes test (slice_get xs n) ≡ true
    → ((i : ℕ) → i < n → passes test (slice_get xs i) ≡ false)
    → (position_or_len test xs ≡ n) × (n < length xs)
first_passing test n [] on off = absurd (cc)
first_passing test zero (x ∷ xs) on off = (rw on refl, omega arith)
first_passing test (suc n) (x ∷ xs) on off =
    let first : test x ≡ false = off 0 (omega arith) in
    let more = first_passing test n xs on (λ i l. off (suc i) (omega (arith, l))) in
    (rw (first, more.0) (omega arith), omega (arith, more.1))

none_passing : {X : Type 0} (test : X → Bool) (xs : List X) → ((i : ℕ) → passes test (slice_get xs i) ≡ false)
    → position_or_len test xs ≡ length xs
none_passing test [] off = refl
none_passing test (x ∷ xs) off =
    let first : test x ≡ false = off 0 in
    rw (first, none_passing test xs (λ i. off (suc i))) (omega arith)

pub next_passing : {X : Type 0} (test : X → Bool) (s : Members) (xs : List X) (from : ℕ) (found : Option ℕ)
    → StandFor s test xs → IsNext from found s → position test (drop from xs) ≡ option_map (λ n. n - from) found
next_passing test s xs from None stand is =
    let none =
    none_passing test (drop from xs) (λ i.
    ap (passes test) (get_drop from i xs) ∙ sym (stand.1 (from + i)) ∙ is (from + i) (omega arith)) in
    rw (none, le-ltb (length (drop from xs)) (length (drop from xs)) (omega arith)) refl
next_passing test s xs from (Some n) stand is =
    let at : from + (n - from) ≡ n = omega (arith, is.0) in
    let first =
    first_passing test (n - from) (drop from xs)
    (ap (passes test) (get_drop from (n - from) xs ∙ ap (slice_get xs) at) ∙ sym (stand.1 n) ∙ is.1)
    (λ i l.
    ap (passes test) (get_drop from i xs) ∙ sym (stand.1 (from + i)) ∙
    is.2 (from + i) (omega arith) (omega (arith, l, is.0))) in
    rw (first.0, lt-ltb (n - from) (length (drop from xs)) first.1) refl

-- and so it is found at its place
pub next_found_at : {X : Type 0} (test : X → Bool) (s : Members) (xs : List X) (from : ℕ) (found : Option ℕ)
    → StandFor s test xs → IsNext from found s
    → option_map {U = ℕ} (λ n. from + n) (position test (drop from xs)) ≡ found
next_found_at test s xs from found stand is =
    ap (option_map {U = ℕ} (λ n. from + n)) (next_passing test s xs from found stand is) ∙ back found is
  where
    back : (found : Option ℕ) → IsNext from found s
        → option_map {U = ℕ} (λ n. from + n) (option_map {U = ℕ} (λ n. n - from) found) ≡ found
    back None is = refl
    back (Some n) is =
        let at : from + (n - from) ≡ n = omega (arith, is.0) in
        ap Some at

-- The elements up to the next place that is no member pass.

passing_taken : {X : Type 0} (test : X → Bool) (n m : ℕ) (xs : List X) → passes test (slice_get xs n) ≡ false
    → ((i : ℕ) → i < n → passes test (slice_get xs i) ≡ true) → prefix_len test (take m xs) ≡ min n m
passing_taken test zero zero [] off on = refl
passing_taken test zero (suc m) [] off on = sym (zero-min (suc m))
passing_taken test (suc n) m [] off on = let first : false ≡ true = on 0 (omega arith) in absurd (cc)
passing_taken test n zero (x ∷ xs) off on = sym (min-zero n)
passing_taken test zero (suc m) (x ∷ xs) off on = let first : test x ≡ false = off in rw first (omega arith)
passing_taken test (suc n) (suc m) (x ∷ xs) off on =
    let first : test x ≡ true = on 0 (omega arith) in
    rw (first, passing_taken test n m xs off (λ i l. on (suc i) (omega (arith, l)))) (omega arith)

pub past_passing : {X : Type 0} (test : X → Bool) (s : Members) (xs : List X) (from to n : ℕ) → StandFor s test xs
    → IsNextOther from n s → from + prefix_len test (take (to - from) (drop from xs)) ≡ max from (min n to)
past_passing test s xs from to n stand is =
    let at : from + (n - from) ≡ n = omega (arith, is.0) in
    let passing =
    passing_taken test (n - from) (to - from) (drop from xs)
    (ap (passes test) (get_drop from (n - from) xs ∙ ap (slice_get xs) at) ∙ sym (stand.1 n) ∙ is.1)
    (λ i l.
    ap (passes test) (get_drop from i xs) ∙ sym (stand.1 (from + i)) ∙
    is.2 (from + i) (omega arith) (omega (arith, l, is.0))) in
    omega (arith, passing, is.0)
