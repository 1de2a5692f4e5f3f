-- The last TSN received is the one farthest past the cumulative TSN.
use Rattle.std.proofs.Common.{◌≡◌, ℕ, zero, suc, ◌+◌, ◌-◌, ◌^◌, ◌≤◌, ◌<◌, Bool, true, false, ◌||◌, ltb, leb, eqb}
use Rattle.std.proofs.Common.{List, [], ◌∷◌, length, take, drop, slice_get, Option, Some, None, fold, refl, ap, sym, ◌∙◌}
use Rattle.std.proofs.Common.{subst, ⊎_elim, ◌⊎◌, inl, inr, arith}
use Rattle.std.specs.Option.{option_map}
use Rattle.std.specs.Ordering.{nat_cmp}
use Rattle.std.specs.BTreeMap.{is_at}
use Rattle.std.specs.List.{AllByRecursion}
use Rattle.std.proofs.lemmas.Bool.{cases_Bool, cases_lt, and_parts, ltb-true, ltb-false, leb-true}
use Rattle.std.proofs.lemmas.Bool.{le-leb, lt-leb}
use Rattle.std.proofs.lemmas.Bool.Decides.{nat_tests}
use Rattle.std.proofs.lemmas.List.{take_all}
use Rattle.sctp_serial.specs.Serial.{tsn, tsn_past}
use Rattle.sctp_ranges.specs.declared.run.Run.{Run}
use Rattle.sctp_ranges.specs.Runs.{run, spelled, AreApart, has, is_in, ended_before, is_begun, before}
use Rattle.sctp_received.specs.Received.{is_held, later_of, last_received, IsFarthest}
use Rattle.sctp_received.specs.TsnRanges.{turned, IsFarthestOffset}
use Rattle.sctp_received.proofs.Keys.{Ascend, at_is}
use Rattle.sctp_ranges.proofs.Parts.{range_is, begins_more, reaches_here, ends_in_front, in_parts}
use Rattle.sctp_ranges.proofs.Removals.{in_below, in_range, rest_in}
use Rattle.sctp_received.proofs.Turned.{tsns_ascend, tsns_held}

later_new : (cumulative_tsn t : ℕ) (last : Option ℕ)
    → tsn_past cumulative_tsn t ≤ tsn_past cumulative_tsn (later_of cumulative_tsn last t)
later_new cumulative_tsn t None = omega arith
later_new cumulative_tsn t (Some l) =
    ⊎_elim (λ (e : ltb (tsn_past cumulative_tsn l) (tsn_past cumulative_tsn t) ≡ true). rw e (omega arith))
    (λ (e : ltb (tsn_past cumulative_tsn l) (tsn_past cumulative_tsn t) ≡ false).
    rw e (ltb-false (tsn_past cumulative_tsn l) (tsn_past cumulative_tsn t) e))
    (cases_Bool (ltb (tsn_past cumulative_tsn l) (tsn_past cumulative_tsn t)))

later_old : (cumulative_tsn t l : ℕ)
    → tsn_past cumulative_tsn l ≤ tsn_past cumulative_tsn (later_of cumulative_tsn (Some l) t)
later_old cumulative_tsn t l =
    ⊎_elim (λ (e : ltb (tsn_past cumulative_tsn l) (tsn_past cumulative_tsn t) ≡ true).
    rw e (below (tsn_past cumulative_tsn l) (tsn_past cumulative_tsn t)
    (ltb-true (tsn_past cumulative_tsn l) (tsn_past cumulative_tsn t) e)))
    (λ (e : ltb (tsn_past cumulative_tsn l) (tsn_past cumulative_tsn t) ≡ false). rw e (omega arith))
    (cases_Bool (ltb (tsn_past cumulative_tsn l) (tsn_past cumulative_tsn t)))
  where
    below : (m n : ℕ) → m < n → m ≤ n
    below m n l = omega (arith, l)

-- the farthest of some TSNs and of one that may have been found before
found : (cumulative_tsn r : ℕ) (ts : List ℕ) (l : ℕ)
    → fold (λ last t. Some (later_of cumulative_tsn last t)) (Some l) ts ≡ Some r
    → (tsn_past cumulative_tsn l ≤ tsn_past cumulative_tsn r)
    × AllByRecursion (λ u. tsn_past cumulative_tsn u ≤ tsn_past cumulative_tsn r) ts
found cumulative_tsn r [] l e = (at_same cumulative_tsn l r e, tt)
  where
    at_same : (cumulative_tsn l r : ℕ) → Some l ≡ Some r → tsn_past cumulative_tsn l ≤ tsn_past cumulative_tsn r
    at_same cumulative_tsn l r e = let same : l ≡ r = cc in rw same (omega arith)
found cumulative_tsn r (t ∷ ts) l e =
    let more = found cumulative_tsn r ts (later_of cumulative_tsn (Some l) t) e in (
      omega (arith, more.0, later_old cumulative_tsn t l),
      (omega (arith, more.0, later_new cumulative_tsn t (Some l)), more.1),
    )

never_none : (cumulative_tsn : ℕ) (ts : List ℕ) (l : ℕ)
    → fold (λ last t. Some (later_of cumulative_tsn last t)) (Some l) ts ≡ None → ⊥
never_none cumulative_tsn [] l e = absurd (cc)
never_none cumulative_tsn (t ∷ ts) l e = never_none cumulative_tsn ts (later_of cumulative_tsn (Some l) t) e

pub farthest : (cumulative_tsn : ℕ) (ts : List ℕ) → IsFarthest cumulative_tsn ts (last_received cumulative_tsn ts)
farthest cumulative_tsn [] = refl
farthest cumulative_tsn (t ∷ ts) = any (fold (λ last t. Some (later_of cumulative_tsn last t)) (Some t) ts) refl
  where
    any : (o : Option ℕ) → fold (λ last t. Some (later_of cumulative_tsn last t)) (Some t) ts ≡ o
        → IsFarthest cumulative_tsn (t ∷ ts) o
    any None e = absurd (never_none cumulative_tsn ts t e)
    any (Some r) e = let f = found cumulative_tsn r ts t e in (f.0, f.1)

-- Nothing else is the farthest.

found_held : (cumulative_tsn r : ℕ) (ts : List ℕ) (l : ℕ)
    → fold (λ last t. Some (later_of cumulative_tsn last t)) (Some l) ts ≡ Some r → (r ≡ l) ⊎ (is_held r ts ≡ true)
found_held cumulative_tsn r [] l e = let same : l ≡ r = cc in inl (sym same)
found_held cumulative_tsn r (t ∷ ts) l e =
    step (found_held cumulative_tsn r ts (later_of cumulative_tsn (Some l) t) e)
  where
    this : (r t : ℕ) → r ≡ t → (is_at (nat_cmp r) t || is_held r ts) ≡ true
    this r t same =
        let is : eqb r t ≡ true = grind (arith, nat_tests, same) in
        rw (at_is r t, is) refl

    step : (r ≡ later_of cumulative_tsn (Some l) t) ⊎ (is_held r ts ≡ true)
        → (r ≡ l) ⊎ (is_held r (t ∷ ts) ≡ true)
    step (inr h) = inr (rw h (any (is_at (nat_cmp r) t)))
      where
        any : (c : Bool) → (c || true) ≡ true
        any true = refl
        any false = refl
    step (inl same) =
        ⊎_elim
        (λ (f : ltb (tsn_past cumulative_tsn l) (tsn_past cumulative_tsn t) ≡ true).
        inr (this r t (rw f at same)))
        (λ (f : ltb (tsn_past cumulative_tsn l) (tsn_past cumulative_tsn t) ≡ false). inl (rw f at same))
        (cases_Bool (ltb (tsn_past cumulative_tsn l) (tsn_past cumulative_tsn t)))

last_held : (cumulative_tsn r : ℕ) (ts : List ℕ) → last_received cumulative_tsn ts ≡ Some r → is_held r ts ≡ true
last_held cumulative_tsn r [] e = absurd (cc)
last_held cumulative_tsn r (t ∷ ts) e = step (found_held cumulative_tsn r ts t e)
  where
    step : (r ≡ t) ⊎ (is_held r ts ≡ true) → is_held r (t ∷ ts) ≡ true
    step (inl same) =
        let is : eqb r t ≡ true = grind (arith, nat_tests, same) in
        rw (at_is r t, is) refl
    step (inr h) = rw h (any (is_at (nat_cmp r) t))
      where
        any : (c : Bool) → (c || true) ≡ true
        any true = refl
        any false = refl

held_below : (l t : ℕ) (ts : List ℕ) → Ascend l ts → is_held t ts ≡ true → t < 2 ^ 32
held_below l t [] a h = absurd (cc)
held_below l t (u ∷ us) a h =
    ⊎_elim
    (λ (e : eqb t u ≡ true). let same : t ≡ u = grind (arith, nat_tests, e) in rw same a.1)
    (λ (e : eqb t u ≡ false).
    let rest : is_held t us ≡ true = rw (at_is t u, e) at h in
    held_below (u + 1) t us a.2 rest)
    (cases_Bool (eqb t u))

all_held : (n : ℕ) (f : ℕ → ℕ) (t : ℕ) (ts : List ℕ) → AllByRecursion (λ u. f u ≤ n) ts → is_held t ts ≡ true → f t ≤ n
all_held n f t [] a h = absurd (cc)
all_held n f t (u ∷ us) a h =
    ⊎_elim
    (λ (e : eqb t u ≡ true). let same : t ≡ u = grind (arith, nat_tests, e) in rw same a.0)
    (λ (e : eqb t u ≡ false).
    let rest : is_held t us ≡ true = rw (at_is t u, e) at h in
    all_held n f t us a.1 rest)
    (cases_Bool (eqb t u))

only_last : (p t : ℕ) (ts : List ℕ) → p < 2 ^ 32 → Ascend 0 ts → is_held t ts ≡ true
    → ((u : ℕ) → is_held u ts ≡ true → tsn_past p u ≤ tsn_past p t) → last_received p ts ≡ Some t
only_last p t ts pb a h most = cases (last_received p ts) refl (farthest p ts)
  where
    one : (p r t : ℕ) → p < 2 ^ 32 → r < 2 ^ 32 → t < 2 ^ 32 → tsn_past p r ≤ tsn_past p t
        → tsn_past p t ≤ tsn_past p r → r ≡ t
    one p r t pb rb tb l m = omega (arith, pb, rb, tb, l, m)

    cases : (o : Option ℕ) → last_received p ts ≡ o → IsFarthest p ts o → o ≡ Some t
    cases None e f = let none : is_held t [] ≡ true = rw f at h in absurd (cc)
    cases (Some r) e f =
        let held = last_held p r ts e in
        let le = all_held (tsn_past p r) (tsn_past p) t ts f h in
        ap Some (one p r t pb (held_below 0 r ts a held) (held_below 0 t ts a h) (most r held) le)

pub farthest_told : (b p point : ℕ) (o : Option ℕ) (rs : List Run) → point ≡ tsn_past b p → b < 2 ^ 32 → p < 2 ^ 32
    → AreApart 0 rs → IsFarthestOffset point rs o
    → last_received p (turned b (spelled rs)) ≡ option_map (tsn b) o
farthest_told b p point None rs at bb pb apart f = rw f refl
farthest_told b p point (Some o) rs at bb pb apart f =
    let fits : o < 2 ^ 32 = in_below 0 o rs apart f.0 in
    let here : tsn_past b (tsn b o) ≡ o = omega (arith, fits, bb) in
    let held : is_held (tsn b o) (turned b (spelled rs)) ≡ true =
    tsns_held b (tsn b o) rs bb (omega arith) apart ∙ ap (λ n. is_in n rs) here ∙ f.0 in
    only_last p (tsn b o) (turned b (spelled rs)) pb (tsns_ascend b rs bb apart) held
    (λ u h.
    let ub : u < 2 ^ 32 = held_below 0 u (turned b (spelled rs)) (tsns_ascend b rs bb apart) h in
    let there : is_in (tsn_past b u) rs ≡ true = sym (tsns_held b u rs bb ub apart) ∙ h in
    let least = f.1 (tsn_past b u) there in
    let first = shifted b p point u at bb pb ub in
    let second = shifted b p point (tsn b o) at bb pb (omega arith) in
    let second2 : tsn_past point o ≡ tsn_past p (tsn b o) = ap (tsn_past point) (sym here) ∙ second in
    rw (first, second2) at least)
  where
    shifted : (b p point u : ℕ) → point ≡ tsn_past b p → b < 2 ^ 32 → p < 2 ^ 32 → u < 2 ^ 32
        → tsn_past point (tsn_past b u) ≡ tsn_past p u
    shifted b p point u at bb pb ub = omega (arith, at, bb, pb, ub)

-- Which offset is the farthest past a point.

front_ends : (l x j : ℕ) (y : Run) (rs : List Run) → AreApart l rs → slice_get rs j ≡ Some y
    → is_in x (take (suc j) rs) ≡ true → x ≤ y.last
front_ends l x j y [] a e h = absurd (cc)
front_ends l x zero y (r ∷ rs) a e h =
    let same : r ≡ y = cc in
    ⊎_elim
    (λ (f : has r x ≡ true).
    let both = and_parts (leb r.first x) (leb x r.last) f in
    rw (← same) (leb-true x r.last both.1))
    (λ (f : has r x ≡ false). absurd (cc (rw f at h)))
    (cases_Bool (has r x))
front_ends l x (suc j) y (r ∷ rs) a e h =
    let at = range_is (r.last + 2) j y rs a.3 e in
    ⊎_elim
    (λ (f : has r x ≡ true).
    let both = and_parts (leb r.first x) (leb x r.last) f in
    let begins = begins_more (r.last + 2) j rs a.3 y e in
    omega (arith, leb-true x r.last both.1, begins, at.1))
    (λ (f : has r x ≡ false). front_ends (r.last + 2) x j y rs a.3 e (rw f at h))
    (cases_Bool (has r x))

-- where a range begins before the point and does not end before it
pub inside : (point i : ℕ) (x : Run) (lower : Option Run) (rs : List Run) → point < 2 ^ 32 → AreApart 0 rs
    → i ≡ ended_before point rs → lower ≡ slice_get rs i → before point lower ≡ Some x
    → IsFarthestOffset point rs (Some x.last)
inside point i x None rs w apart at is e = absurd (cc)
inside point i x (Some y) rs w apart at is e =
    ⊎_elim
    (λ (f : ltb y.first point ≡ true).
    let begins : y.first < point = ltb-true y.first point f in
    let piece : Some (run y.first (point - 1)) ≡ Some x = rw f at e in
    let last : x.last ≡ point - 1 = ends y.first (point - 1) x piece in
    let reaches : point ≤ y.last = reaches_here point y rs (subst (λ k. slice_get rs k ≡ Some y) at (sym is)) in
    rw last (
      in_range i (point - 1) y rs (sym is)
          (rw (le-leb y.first (point - 1) (omega (arith, begins)), le-leb (point - 1) y.last (omega (arith, reaches)))
          refl),
      λ z h. most point z begins w (in_below 0 z rs apart h),
    ))
    (λ (f : ltb y.first point ≡ false). absurd (cc (rw f at e)))
    (cases_Bool (ltb y.first point))
  where
    ends : (c d : ℕ) (x : Run) → Some (run c d) ≡ Some x → x.last ≡ d
    ends c d x e = let same : run c d ≡ x = cc in ap (λ (r : Run). r.last) (sym same)

    most : (point z : ℕ) → y.first < point → point < 2 ^ 32 → z < 2 ^ 32
        → tsn_past point z ≤ tsn_past point (point - 1)
    most point z b w zb = omega (arith, b, w, zb)

-- nothing before the point, from its place on
not_behind : (point i z : ℕ) (lower : Option Run) (rs : List Run) → AreApart 0 rs → i ≡ ended_before point rs
    → lower ≡ slice_get rs i → before point lower ≡ None → z < point → is_in z (drop i rs) ≡ false
not_behind point i z lower rs apart at is none l = rest_in point i z lower rs apart at is l ∙ begins lower none
  where
    begins : (found : Option Run) → before point found ≡ None → is_begun z found ≡ false
    begins None n = refl
    begins (Some y) n =
        ⊎_elim
        (λ (f : ltb y.first point ≡ true). absurd (cc (rw f at n)))
        (λ (f : ltb y.first point ≡ false). lt-leb y.first z (omega (arith, ltb-false y.first point f, l)))
        (cases_Bool (ltb y.first point))

last_in : (j : ℕ) (y : Run) (rs : List Run) → AreApart 0 rs → slice_get rs j ≡ Some y → is_in y.last rs ≡ true
last_in j y rs apart e =
    let at = range_is 0 j y rs apart e in
    in_range j y.last y rs e (rw (le-leb y.first y.last at.1, le-leb y.last y.last (omega arith)) refl)

-- the end of the range in front of the place
pub in_front : (point i : ℕ) (y : Run) (lower : Option Run) (rs : List Run) → point < 2 ^ 32 → AreApart 0 rs
    → i ≡ ended_before point rs → lower ≡ slice_get rs i → before point lower ≡ None → 0 < i
    → slice_get rs (i - 1) ≡ Some y → IsFarthestOffset point rs (Some y.last)
in_front point i y lower rs w apart at is none more e = (last_in (i - 1) y rs apart e, λ z h. least z h)
  where
    next : suc (i - 1) ≡ i
    next = omega (arith, more)

    ends : y.last < point
    ends = ends_in_front point (i - 1) y rs e (omega (arith, at, more))

    past : (z : ℕ) → point ≤ z → z < 2 ^ 32 → y.last < point → point < 2 ^ 32
        → tsn_past point z ≤ tsn_past point y.last
    past z g zb l w = omega (arith, g, zb, l, w)

    low : (z : ℕ) → z ≤ y.last → y.last < point → point < 2 ^ 32 → tsn_past point z ≤ tsn_past point y.last
    low z m l w = omega (arith, m, l, w)

    alone : (c : Bool) → (c || false) ≡ true → c ≡ true
    alone true e = refl
    alone false e = e

    least : (z : ℕ) → is_in z rs ≡ true → tsn_past point z ≤ tsn_past point y.last
    least z h =
        ⊎_elim
        (λ (l : z < point).
        let off = not_behind point i z lower rs apart at is none l in
        let front : is_in z (take i rs) ≡ true = alone (is_in z (take i rs)) (rw off at (sym (in_parts z i rs) ∙ h)) in
        low z (front_ends 0 z (i - 1) y rs apart e (subst (λ k. is_in z (take k rs) ≡ true) (sym next) front)) ends w)
        (λ (g : point ≤ z). past z g (in_below 0 z rs apart h) ends w)
        (cases_lt z point)

-- the end of the last range, where none ends before the point
pub at_end : (point i n : ℕ) (y : Run) (lower : Option Run) (rs : List Run) → point < 2 ^ 32 → AreApart 0 rs
    → i ≡ ended_before point rs → lower ≡ slice_get rs i → before point lower ≡ None → i ≡ 0 → n ≡ length rs
    → slice_get rs (n - 1) ≡ Some y → IsFarthestOffset point rs (Some y.last)
at_end point i n y lower rs w apart at is none first len e =
    (last_in (n - 1) y rs apart e, λ z h. least z h (cases_lt z point))
  where
    up : (z : ℕ) → point ≤ z → z ≤ y.last → y.last < 2 ^ 32 → tsn_past point z ≤ tsn_past point y.last
    up z g m l = omega (arith, g, m, l)

    least : (z : ℕ) → is_in z rs ≡ true → (z < point ⊎ point ≤ z) → tsn_past point z ≤ tsn_past point y.last
    least z h (inl l) =
        let off : is_in z (drop i rs) ≡ false = not_behind point i z lower rs apart at is none l in
        let all : is_in z rs ≡ false = subst (λ k. is_in z (drop k rs) ≡ false) first off in
        absurd (cc (h, all))
    least z h (inr g) =
        let range = range_is 0 (n - 1) y rs apart e in
        let whole : take (suc (n - 1)) rs ≡ rs = take_all (suc (n - 1)) rs (omega (arith, len)) in
        up z g (front_ends 0 z (n - 1) y rs apart e (ap (is_in z) whole ∙ h)) range.2

pub none_at_all : (rs : List Run) → length rs ≡ 0 → rs ≡ []
none_at_all [] e = refl
none_at_all (r ∷ rs) e = absurd (omega (arith, e))
