-- TSNs are taken out of a set of ranges.
use Rattle.std.proofs.Common.{◌≡◌, ℕ, zero, suc, ◌+◌, ◌-◌, ◌^◌, ◌<◌, ◌≤◌, Bool, true, false, ◌&&◌, ◌||◌, not}
use Rattle.std.proofs.Common.{ltb, leb, cond, List, [], ◌∷◌, length, filter, slice_get, Option, Some, None, refl, ap, sym}
use Rattle.std.proofs.Common.{◌∙◌, subst, ⊎_elim, ◌⊎◌, inl, inr, arith}
use Rattle.std.specs.Option.{is_some}
use Rattle.std.specs.Ordering.{nat_cmp}
use Rattle.std.specs.BTreeMap.{is_at}
use Rattle.std.specs.Set.{remove_key}
use Rattle.std.proofs.lemmas.Bool.{cases_Bool, cases_lt, and_parts, ltb-true, leb-true}
use Rattle.std.proofs.lemmas.Bool.{lt-leb, le-leb}
use Rattle.std.proofs.lemmas.Bool.Decides.{nat_tests}
use Rattle.std.proofs.lemmas.Map.Made.{length-remove_key}
use Rattle.sctp_serial.specs.Serial.{tsn, tsn_past, tsn_after, tsn_lte}
use Rattle.sctp_ranges.specs.declared.run.Run.{Run}
use Rattle.sctp_ranges.specs.Runs.{spelled, AreApart, is_in, ended_before, is_begun, reaches_over, IsRemoved, HaveRoom}
use Rattle.sctp_received.specs.Received.{is_held, advanced}
use Rattle.sctp_received.specs.TsnRanges.{TsnRanges, turned, tsns_of, tsn_before, IsTaken}
use Rattle.sctp_ranges.proofs.Halving.{none_in, not_ended_here}
use Rattle.sctp_ranges.proofs.Parts.{range_is, begins_more, reaches_here}
use Rattle.sctp_ranges.proofs.Removals.{ended_more, in_range, room_kept, still_in, short_left, none_over}
use Rattle.sctp_received.proofs.Turned.{tsns_ascend, tsns_held}
use Rattle.sctp_received.proofs.Leaving.{popped_tsns, advanced_by, kept_tsns, low_test, high_test, middle_test}

-- Room.

pub room_over : (a b i room : ℕ) (lower : Option Run) (rs : List Run) → HaveRoom rs room → lower ≡ slice_get rs i
    → (reaches_over a b lower ≡ true → b + 1 ≡ a + 2 ^ 31) → reaches_over a b lower ≡ true → length rs < room
room_over a b i room lower rs (inl less) is half over = less
room_over a b i room lower rs (inr short) is half over = absurd (none_over a b i lower rs short is (half over) over)

pub room_after : (a b room : ℕ) (lower : Option Run) (old new : List Run) → HaveRoom old room → IsRemoved a b old new
    → (reaches_over a b lower ≡ false → length new ≤ length old)
    → (reaches_over a b lower ≡ true → b + 1 ≡ a + 2 ^ 31) → b < 2 ^ 32 → HaveRoom new room
room_after a b room lower old new have is fewer half w =
    ⊎_elim
    (λ (e : reaches_over a b lower ≡ true).
    let halves : b + 1 ≡ a + 2 ^ 31 = half e in
    inr (short_left a b new is.0 halves (omega (arith, halves, w)) gone))
    (λ (e : reaches_over a b lower ≡ false). room_kept room old new have (still_in a b old new is) (fewer e))
    (cases_Bool (reaches_over a b lower))
  where
    gone : (x : ℕ) → a ≤ x → x ≤ b → is_in x new ≡ false
    gone x l m = is.1 x ∙ rw (le-leb a x l, le-leb x b m) refl

pub room_released : (room left : ℕ) (rs : List Run) → HaveRoom rs room → (0 < length rs → left ≡ room)
    → HaveRoom rs left
room_released room left [] have same = inr (λ n f. absurd (cc (f n (omega arith) (omega arith))))
room_released room left (r ∷ rs) have same = subst (HaveRoom (r ∷ rs)) (sym (same (omega arith))) have

-- The place of the last offset of a range.

pub ended_same : (o : ℕ) (x : Run) (rs : List Run) → slice_get rs (ended_before o rs) ≡ Some x
    → ended_before o rs ≡ ended_before x.last rs
ended_same o x rs e =
    let reaches : o ≤ x.last = reaches_here o x rs e in
    omega (
      arith,
      ended_more o x.last rs reaches,
      not_ended_here x.last (ended_before o rs) x rs e (omega arith),
    )

pub never_over : (o n : ℕ) (x : Run) → n ≡ x.last → reaches_over o n (Some x) ≡ true → ⊥
never_over o n x same e =
    let both = and_parts (ltb x.first o) (ltb n x.last) e in
    omega (arith, ltb-true n x.last both.1, same)

gap_behind : (l i : ℕ) (x : Run) (rs : List Run) → AreApart l rs → slice_get rs i ≡ Some x
    → is_in (x.last + 1) rs ≡ false
gap_behind l i x [] a e = absurd (cc)
gap_behind l zero x (y ∷ rs) a e =
    let same : y ≡ x = cc in
    let off : leb (x.last + 1) x.last ≡ false = lt-leb (x.last + 1) x.last (omega arith) in
    let rest : is_in (y.last + 1) rs ≡ false = none_in (y.last + 2) (y.last + 1) rs a.3 (omega arith) in
    let rest2 : is_in (x.last + 1) rs ≡ false = rw same at rest in
    rw (same, off, rest2) (nothing (leb x.first (x.last + 1)))
  where
    nothing : (c : Bool) → ((c && false) || false) ≡ false
    nothing true = refl
    nothing false = refl
gap_behind l (suc i) x (y ∷ rs) a e =
    let at = range_is (y.last + 2) i x rs a.3 e in
    let past : y.last + 2 ≤ x.first = omega (arith, at.0, begins_more (y.last + 2) i rs a.3 x e) in
    let off : leb (x.last + 1) y.last ≡ false = lt-leb (x.last + 1) y.last (omega (arith, past, at.1)) in
    rw (off, gap_behind (y.last + 2) i x rs a.3 e) (nothing (leb y.first (x.last + 1)))
  where
    nothing : (c : Bool) → ((c && false) || false) ≡ false
    nothing true = refl
    nothing false = refl

-- One TSN, where the one before it is not held.

pub not_over : (r : TsnRanges) (t o : ℕ) (found : Option Run) → o ≡ tsn_past r.base t → r.base < 2 ^ 32 → t < 2 ^ 32
    → AreApart 0 r.ranges → found ≡ slice_get r.ranges (ended_before o r.ranges)
    → is_held (tsn_before t) (tsns_of r) ≡ false → reaches_over o o found ≡ true → ⊥
not_over r t o None at bb tb apart is off over = absurd (cc)
not_over r t o (Some x) at bb tb apart is off over =
    let both = and_parts (ltb x.first o) (ltb o x.last) over in
    let begins : x.first < o = ltb-true x.first o both.0 in
    let ends : o < x.last = ltb-true o x.last both.1 in
    let there : is_in (o - 1) r.ranges ≡ true =
    in_range (ended_before o r.ranges) (o - 1) x r.ranges (sym is)
    (rw (le-leb x.first (o - 1) (omega (arith, begins)), le-leb (o - 1) x.last (omega (arith, ends))) refl) in
    let before : tsn_past r.base (tsn_before t) ≡ o - 1 = omega (arith, at, begins, bb, tb) in
    let held = tsns_held r.base (tsn_before t) r.ranges bb (omega arith) apart in
    absurd (cc (held, off, ap (λ n. is_in n r.ranges) before, there))

pub popped_of : (r s : TsnRanges) (t o : ℕ) → s.base ≡ r.base → o ≡ tsn_past r.base t → r.base < 2 ^ 32 → t < 2 ^ 32
    → AreApart 0 r.ranges → IsRemoved o o r.ranges s.ranges
    → tsns_of s ≡ remove_key (is_at (nat_cmp t)) (tsns_of r)
popped_of r s t o same at bb tb apart is =
    ap (λ b. turned b (spelled s.ranges)) same ∙ popped_tsns r.base t o r.ranges s.ranges at bb tb apart is

pub stays : (t : ℕ) (ts : List ℕ) → is_held t ts ≡ false → ts ≡ remove_key (is_at (nat_cmp t)) ts
stays t [] e = refl
stays t (u ∷ us) e =
    ⊎_elim
    (λ (f : is_at (nat_cmp t) u ≡ true). absurd (cc (rw f at e)))
    (λ (f : is_at (nat_cmp t) u ≡ false).
    let rest : is_held t us ≡ false = rw f at e in
    rw f (ap (λ ys. u ∷ ys) (stays t us rest)))
    (cases_Bool (is_at (nat_cmp t) u))

pub fewer_by : (t : ℕ) (popped : Option ℕ) (old new : List ℕ) → popped ≡ cond (is_held t old) (Some t) None
    → new ≡ remove_key (is_at (nat_cmp t)) old → length new + cond (is_some popped) 1 0 ≡ length old
fewer_by t popped old new is e =
    ⊎_elim
    (λ (h : is_held t old ≡ true).
    let one : popped ≡ Some t = rw h at is in
    rw (one, e) (length-remove_key (is_at (nat_cmp t)) old h))
    (λ (h : is_held t old ≡ false).
    let none : popped ≡ None = rw h at is in
    rw (none, e) (omega (arith, ap length (stays t old h))))
    (cases_Bool (is_held t old))

-- A range from a TSN on.

pub taken_is : (r s : TsnRanges) (t o u : ℕ) (x : Run) → s.base ≡ r.base → r.base < 2 ^ 32 → AreApart 0 r.ranges
    → o ≡ tsn_past r.base t → u ≡ tsn r.base x.last → slice_get r.ranges (ended_before o r.ranges) ≡ Some x
    → is_begun o (Some x) ≡ true → IsRemoved o x.last r.ranges s.ranges → IsTaken r s t u
taken_is r s t o u x same bb apart at last e begun is =
    let i = ended_before o r.ranges in
    let range = range_is 0 i x r.ranges apart e in
    let reaches : o ≤ x.last = reaches_here o x r.ranges e in
    let end : tsn_past r.base u ≡ x.last = omega (arith, last, bb, range.2) in
    let begins : x.first ≤ o = leb-true x.first o begun in
    let first : tsn_past r.base t ≡ o = sym at in
    record {
      fits = bb;
      apart = apart;
      base = same;
      last_fits = omega (arith, last);
      order = rw (first, end) reaches;
      removed = rw (first, end) is;
      held = rw (first, end) (λ n l w.
          in_range i n x r.ranges e (rw (le-leb x.first n (omega (arith, begins, l)), le-leb n x.last w) refl));
      stops = rw end (gap_behind 0 i x r.ranges apart e);
    }

-- The cumulative TSN moves.

pub not_advanced : (n p : ℕ) (ts : List ℕ) → is_held (tsn_after p) ts ≡ false → advanced n p ts ≡ (p, ts)
not_advanced zero p ts off = refl
not_advanced (suc n) p ts off = rw off refl

pub stops_here : (r s : TsnRanges) (t u : ℕ) → IsTaken r s t u → (tsn_past r.base u ≡ 2 ^ 32 - 1 → ⊥)
    → is_held (tsn_after u) (tsns_of s) ≡ false
stops_here r s t u is more =
    let next : tsn_past s.base (tsn_after u) ≡ tsn_past r.base u + 1 =
    ap (λ b. tsn_past b (tsn_after u)) is.base ∙ follows r.base u is.fits is.last_fits more in
    let base : s.base < 2 ^ 32 = rw is.base is.fits in
    tsns_held s.base (tsn_after u) s.ranges base (omega arith) is.removed.0 ∙ ap (λ n. is_in n s.ranges) next ∙
    is.removed.1 (tsn_past r.base u + 1) ∙ rw is.stops (off _)
  where
    follows : (b u : ℕ) → b < 2 ^ 32 → u < 2 ^ 32 → (tsn_past b u ≡ 2 ^ 32 - 1 → ⊥)
        → tsn_past b (tsn_after u) ≡ tsn_past b u + 1
    follows b u bb ub more = omega (arith, bb, ub, more)

    off : (c : Bool) → (c && false) ≡ false
    off true = refl
    off false = refl

within : (a b p t d : ℕ) → b < 2 ^ 32 → p < 2 ^ 32 → t < 2 ^ 32 → a ≡ tsn_past b (tsn p 1) → a ≤ d → d < 2 ^ 32
    → (leb a (tsn_past b t) && leb (tsn_past b t) d) ≡ ltb (tsn_past (tsn p 1) t) (d - a + 1)
within a b p t d bb pb tb at le db = grind (arith, nat_tests, bb, pb, tb, at, le, db)

-- the offset of a TSN so far past another one
ahead : (b p j a : ℕ) → b < 2 ^ 32 → p < 2 ^ 32 → a ≡ tsn_past b (tsn p 1) → 0 < j → a + j ≤ 2 ^ 32
    → tsn_past b (tsn p j) ≡ a + j - 1
ahead b p j a bb pb at l w = omega (arith, bb, pb, at, l, w)

pub advanced_once : (r s : TsnRanges) (p u : ℕ) → p < 2 ^ 32 → IsTaken r s (tsn_after p) u
    → is_held (tsn_after u) (tsns_of s) ≡ false
    → advanced (length (tsns_of r)) p (tsns_of r) ≡ (u, tsns_of s)
advanced_once r s p u pb is stop = moved (tsn_past r.base (tsn_after p)) (tsn_past r.base u) refl refl
  where
    end : (b p u a d : ℕ) → b < 2 ^ 32 → p < 2 ^ 32 → u < 2 ^ 32 → a ≡ tsn_past b (tsn_after p)
        → d ≡ tsn_past b u → a ≤ d → tsn p (d - a + 1) ≡ u
    end b p u a d bb pb ub at dt le = omega (arith, bb, pb, ub, at, dt, le)

    next : (p u k : ℕ) → tsn p k ≡ u → tsn_after u ≡ tsn p (k + 1)
    next p u k e = omega (arith, e)

    moved : (a d : ℕ) → a ≡ tsn_past r.base (tsn_after p) → d ≡ tsn_past r.base u
        → advanced (length (tsns_of r)) p (tsns_of r) ≡ (u, tsns_of s)
    moved a d at dt =
        let base : s.base < 2 ^ 32 = rw is.base is.fits in
        let order : a ≤ d = rw (at, dt) is.order in
        let top : d < 2 ^ 32 = omega (arith, dt) in
        let last : tsn p (d - a + 1) ≡ u = end r.base p u a d is.fits pb is.last_fits at dt order in
        advanced_by (d - a + 1) (length (tsns_of r)) p (tsns_of r) (tsns_of s) (omega (arith, top)) pb refl
        (tsns_ascend r.base r.ranges is.fits is.apart) (tsns_ascend s.base s.ranges base is.removed.0)
        (λ j l w.
        tsns_held r.base (tsn p j) r.ranges is.fits (omega arith) is.apart ∙
        ap (λ n. is_in n r.ranges) (ahead r.base p j a is.fits pb at l (omega (arith, w, order, top))) ∙
        is.held (a + j - 1) (rw (← at) (omega (arith, l))) (rw (← dt) (omega (arith, w, order, l))))
        (λ t w.
        tsns_held s.base t s.ranges base w is.removed.0 ∙ ap (λ b. is_in (tsn_past b t) s.ranges) is.base ∙
        is.removed.1 (tsn_past r.base t) ∙
        rw (← at, ← dt) (ap (λ z. not z && is_in (tsn_past r.base t) r.ranges)
        (within a r.base p t d is.fits pb w at order top)) ∙
        ap (λ z. not (ltb (tsn_past (tsn p 1) t) (d - a + 1)) && z)
        (sym (tsns_held r.base t r.ranges is.fits w is.apart)))
        (subst (λ q. is_held q (tsns_of s) ≡ false) (next p u (d - a + 1) last) stop) ∙
        ap (λ q. (q, tsns_of s)) last

-- over the end of the offsets, which go on at 0
around : (a b p t d : ℕ) → b < 2 ^ 32 → p < 2 ^ 32 → t < 2 ^ 32 → a ≡ tsn_past b (tsn p 1) → d < a
    → (not (leb 0 (tsn_past b t) && leb (tsn_past b t) d)
    && not (leb a (tsn_past b t) && leb (tsn_past b t) (2 ^ 32 - 1)))
    ≡ not (ltb (tsn_past (tsn p 1) t) (2 ^ 32 - a + d + 1))
around a b p t d bb pb tb at low = grind (arith, nat_tests, bb, pb, tb, at, low)

pub advanced_twice : (r s v : TsnRanges) (p u w : ℕ) → p < 2 ^ 32 → IsTaken r s (tsn_after p) u
    → tsn_past r.base u ≡ 2 ^ 32 - 1 → IsTaken s v (tsn_after u) w
    → (advanced (length (tsns_of r)) p (tsns_of r) ≡ (w, tsns_of v)) × (is_held (tsn_after w) (tsns_of v) ≡ false)
advanced_twice r s v p u w pb is top is2 =
    moved (tsn_past r.base (tsn_after p)) (tsn_past r.base w) refl refl over
  where
    starts : (b u : ℕ) → b < 2 ^ 32 → u < 2 ^ 32 → tsn_past b u ≡ 2 ^ 32 - 1 → tsn_past b (tsn_after u) ≡ 0
    starts b u bb ub top = omega (arith, bb, ub, top)

    begins : tsn_past s.base (tsn_after u) ≡ 0
    begins =
        ap (λ b. tsn_past b (tsn_after u)) is.base ∙ starts r.base u is.fits is.last_fits top

    -- what was taken at the beginning of the offsets
    over : (n : ℕ) → n ≤ tsn_past r.base w → is_in n s.ranges ≡ true
    over n l =
        is2.held n (rw begins (omega arith)) (subst (λ b. n ≤ tsn_past b w) (sym is.base) l)

    end : (b p w a d : ℕ) → b < 2 ^ 32 → p < 2 ^ 32 → w < 2 ^ 32 → a ≡ tsn_past b (tsn_after p)
        → d ≡ tsn_past b w → tsn p (2 ^ 32 - a + d + 1) ≡ w
    end b p w a d bb pb wb at dt = omega (arith, bb, pb, wb, at, dt)

    next : (p u k : ℕ) → tsn p k ≡ u → tsn_after u ≡ tsn p (k + 1)
    next p u k e = omega (arith, e)

    wraps : (b p j a : ℕ) → b < 2 ^ 32 → p < 2 ^ 32 → a ≡ tsn_past b (tsn p 1) → j ≤ 2 ^ 32 → 2 ^ 32 < a + j
        → tsn_past b (tsn p j) ≡ a + j - 1 - 2 ^ 32
    wraps b p j a bb pb at l w = omega (arith, bb, pb, at, l, w)

    both : (c d e : Bool) → (c && (d && e)) ≡ ((c && d) && e)
    both true d e = refl
    both false d e = refl

    moved : (a d : ℕ) → a ≡ tsn_past r.base (tsn_after p) → d ≡ tsn_past r.base w
        → ((n : ℕ) → n ≤ tsn_past r.base w → is_in n s.ranges ≡ true)
        → (advanced (length (tsns_of r)) p (tsns_of r) ≡ (w, tsns_of v)) × (is_held (tsn_after w) (tsns_of v) ≡ false)
    moved a d at dt taken =
        let base : s.base < 2 ^ 32 = rw is.base is.fits in
        let same : v.base ≡ r.base = is2.base ∙ is.base in
        let base2 : v.base < 2 ^ 32 = rw same is.fits in
        let fits : a < 2 ^ 32 = omega (arith, at) in
        let low : d < a = below (cases_lt d a) in
        let last : tsn p (2 ^ 32 - a + d + 1) ≡ w = end r.base p w a d is.fits pb is2.last_fits at dt in
        let stop : is_held (tsn_after w) (tsns_of v) ≡ false =
        stops_here s v (tsn_after u) w is2
        (λ (e : tsn_past s.base w ≡ 2 ^ 32 - 1). no_end (ap (λ b. tsn_past b w) (sym is.base) ∙ e) low fits) in (
          advanced_by (2 ^ 32 - a + d + 1) (length (tsns_of r)) p (tsns_of r) (tsns_of v) (omega (arith, low, fits)) pb
              refl (tsns_ascend r.base r.ranges is.fits is.apart) (tsns_ascend v.base v.ranges base2 is2.removed.0)
              (λ j l m. held j l m low fits)
              (λ t m. rest t m same base2 low)
              (subst (λ q. is_held q (tsns_of v) ≡ false) (next p w (2 ^ 32 - a + d + 1) last) stop) ∙
              ap (λ q. (q, tsns_of v)) last,
          stop,
        )
      where
        below : (d < a ⊎ a ≤ d) → d < a
        below (inl l) = l
        below (inr g) =
            let there : is_in a s.ranges ≡ true = taken a (rw (← dt) g) in
            let gone : is_in a s.ranges ≡ false =
            is.removed.1 a ∙
            rw (← at, top, le-leb a a (omega arith), le-leb a (2 ^ 32 - 1) (omega (arith, at))) refl in
            absurd (cc (there, gone))

        no_end : tsn_past r.base w ≡ 2 ^ 32 - 1 → d < a → a < 2 ^ 32 → ⊥
        no_end e l f = omega (arith, e, l, f, dt)

        held : (j : ℕ) → 0 < j → j ≤ 2 ^ 32 - a + d + 1 → d < a → a < 2 ^ 32 → is_held (tsn p j) (tsns_of r) ≡ true
        held j l m low fits =
            tsns_held r.base (tsn p j) r.ranges is.fits (omega arith) is.apart ∙
            ⊎_elim
            (λ (g : 2 ^ 32 < a + j).
            ap (λ n. is_in n r.ranges) (wraps r.base p j a is.fits pb at (omega (arith, m, low, fits)) g) ∙
            still_in (tsn_past r.base (tsn_after p)) (tsn_past r.base u) r.ranges s.ranges is.removed
            (a + j - 1 - 2 ^ 32) (taken (a + j - 1 - 2 ^ 32) (rw (← dt) (omega (arith, m, low, fits, g)))))
            (λ (g : a + j ≤ 2 ^ 32).
            ap (λ n. is_in n r.ranges) (ahead r.base p j a is.fits pb at l g) ∙
            is.held (a + j - 1) (rw (← at) (omega (arith, l))) (rw top (omega (arith, g))))
            (cases_lt (2 ^ 32) (a + j))

        rest : (t : ℕ) → t < 2 ^ 32 → v.base ≡ r.base → v.base < 2 ^ 32 → d < a
            → is_held t (tsns_of v)
            ≡ (not (ltb (tsn_past (tsn p 1) t) (2 ^ 32 - a + d + 1)) && is_held t (tsns_of r))
        rest t m same base2 low =
            let end_is : tsn_past s.base w ≡ d = ap (λ b. tsn_past b w) is.base ∙ sym dt in
            let one : is_in (tsn_past r.base t) v.ranges
            ≡ (not (leb 0 (tsn_past r.base t) && leb (tsn_past r.base t) d) && is_in (tsn_past r.base t) s.ranges) =
            rw (begins, end_is) at is2.removed.1 (tsn_past r.base t) in
            let two : is_in (tsn_past r.base t) s.ranges
            ≡ (not (leb a (tsn_past r.base t) && leb (tsn_past r.base t) (2 ^ 32 - 1))
            && is_in (tsn_past r.base t) r.ranges) =
            rw (← at, top) at is.removed.1 (tsn_past r.base t) in
            tsns_held v.base t v.ranges base2 m is2.removed.0 ∙ ap (λ b. is_in (tsn_past b t) v.ranges) same ∙
            one ∙ ap (λ z. not (leb 0 (tsn_past r.base t) && leb (tsn_past r.base t) d) && z) two ∙
            both (not (leb 0 (tsn_past r.base t) && leb (tsn_past r.base t) d))
            (not (leb a (tsn_past r.base t) && leb (tsn_past r.base t) (2 ^ 32 - 1)))
            (is_in (tsn_past r.base t) r.ranges) ∙
            ap (λ z. z && is_in (tsn_past r.base t) r.ranges) (around a r.base p t d is.fits pb m at low) ∙
            ap (λ z. not (ltb (tsn_past (tsn p 1) t) (2 ^ 32 - a + d + 1)) && z)
            (sym (tsns_held r.base t r.ranges is.fits m is.apart))

-- The TSNs up to one.

pub up_to_high : (r s : TsnRanges) (t a d : ℕ) → d ≡ tsn_past r.base t → r.base < 2 ^ 32 → t < 2 ^ 32
    → AreApart 0 r.ranges → s.base ≡ r.base → a + 2 ^ 31 ≡ d + 1 → IsRemoved a d r.ranges s.ranges
    → tsns_of s ≡ filter (λ u. not (tsn_lte u t)) (tsns_of r)
up_to_high r s t a d at bb tb apart same half is =
    ap (λ b. turned b (spelled s.ranges)) same ∙
    kept_tsns r.base (λ u. not (tsn_lte u t)) r.ranges s.ranges bb apart is.0
    (λ u w.
    is.1 (tsn_past r.base u) ∙
    ap (λ z. z && is_in (tsn_past r.base u) r.ranges) (sym (high_test r.base t a d u at bb tb w half)))

pub up_to_low : (r s v : TsnRanges) (t e d : ℕ) → d ≡ tsn_past r.base t → r.base < 2 ^ 32 → t < 2 ^ 32
    → AreApart 0 r.ranges → s.base ≡ r.base → v.base ≡ s.base → d < 2 ^ 31 → e ≡ d + 2 ^ 31 + 1
    → IsRemoved 0 d r.ranges s.ranges → IsRemoved e (2 ^ 32 - 1) s.ranges v.ranges
    → tsns_of v ≡ filter (λ u. not (tsn_lte u t)) (tsns_of r)
up_to_low r s v t e d at bb tb apart same same2 low half is is2 =
    ap (λ b. turned b (spelled v.ranges)) (same2 ∙ same) ∙
    kept_tsns r.base (λ u. not (tsn_lte u t)) r.ranges v.ranges bb apart is2.0
    (λ u w.
    is2.1 (tsn_past r.base u) ∙
    ap (λ z. not (leb e (tsn_past r.base u) && leb (tsn_past r.base u) (2 ^ 32 - 1)) && z)
    (is.1 (tsn_past r.base u)) ∙
    both (not (leb e (tsn_past r.base u) && leb (tsn_past r.base u) (2 ^ 32 - 1)))
    (not (leb 0 (tsn_past r.base u) && leb (tsn_past r.base u) d)) (is_in (tsn_past r.base u) r.ranges) ∙
    ap (λ z. z && is_in (tsn_past r.base u) r.ranges) (sym (low_test r.base t e d u at bb tb w low half)))
  where
    both : (c d e : Bool) → (c && (d && e)) ≡ ((c && d) && e)
    both true d e = refl
    both false d e = refl

pub up_to_middle : (r s : TsnRanges) (t d : ℕ) → d ≡ tsn_past r.base t → r.base < 2 ^ 32 → t < 2 ^ 32
    → AreApart 0 r.ranges → s.base ≡ r.base → d + 1 ≡ 2 ^ 31 → IsRemoved 0 d r.ranges s.ranges
    → tsns_of s ≡ filter (λ u. not (tsn_lte u t)) (tsns_of r)
up_to_middle r s t d at bb tb apart same half is =
    ap (λ b. turned b (spelled s.ranges)) same ∙
    kept_tsns r.base (λ u. not (tsn_lte u t)) r.ranges s.ranges bb apart is.0
    (λ u w.
    is.1 (tsn_past r.base u) ∙
    ap (λ z. z && is_in (tsn_past r.base u) r.ranges) (sym (middle_test r.base t d u at bb tb w half)))
