-- TSNs leave: one, those that follow the cumulative TSN, or those up to one.
use Rattle.std.proofs.Common.{◌≡◌, ℕ, zero, suc, ◌+◌, ◌-◌, ◌^◌, ◌<◌, ◌≤◌, Bool, true, false, ◌&&◌, not, eqb}
use Rattle.std.proofs.Common.{ltb, leb, List, length, filter, refl, ap, sym}
use Rattle.std.proofs.Common.{◌∙◌, subst, arith}
use Rattle.std.specs.Ordering.{nat_cmp}
use Rattle.std.specs.BTreeMap.{is_at}
use Rattle.std.specs.Set.{remove_key}
use Rattle.std.proofs.lemmas.Bool.{le-ltb, ne_eqb}
use Rattle.std.proofs.lemmas.Bool.Decides.{nat_tests}
use Rattle.std.proofs.lemmas.Map.Made.{length-remove_key}
use Rattle.sctp_serial.specs.Serial.{tsn, tsn_past, tsn_after, tsn_lte}
use Rattle.sctp_ranges.specs.declared.run.Run.{Run}
use Rattle.sctp_ranges.specs.Runs.{spelled, AreApart, is_in, IsRemoved}
use Rattle.sctp_received.specs.Received.{is_held, advanced}
use Rattle.sctp_received.specs.TsnRanges.{turned}
use Rattle.sctp_received.proofs.Keys.{Ascend, same_lists, removed_held, removed_ascend, filtered_held, filtered_ascend}
use Rattle.sctp_received.proofs.Turned.{tsns_ascend, tsns_held, told}
use Rattle.sctp_received.proofs.Pushed.{same_offset}

-- One TSN.

pub popped_tsns : (b t o : ℕ) (old new : List Run) → o ≡ tsn_past b t → b < 2 ^ 32 → t < 2 ^ 32 → AreApart 0 old
    → IsRemoved o o old new → turned b (spelled new) ≡ remove_key (is_at (nat_cmp t)) (turned b (spelled old))
popped_tsns b t o old new at bb tb apart is =
    told b new (remove_key (is_at (nat_cmp t)) (turned b (spelled old))) bb is.0
    (removed_ascend 0 t (turned b (spelled old)) (tsns_ascend b old bb apart))
    (λ u w.
    is.1 (tsn_past b u) ∙
    ap (λ z. not z && is_in (tsn_past b u) old)
    (one (tsn_past b u) o ∙ ap (eqb (tsn_past b u)) at ∙ same_offset b t u bb tb w) ∙
    ap (λ z. not (eqb u t) && z) (sym (tsns_held b u old bb w apart)) ∙
    sym (removed_held 0 u t (turned b (spelled old)) (tsns_ascend b old bb apart)))
  where
    one : (x o : ℕ) → (leb o x && leb x o) ≡ eqb x o
    one x o = grind (arith, nat_tests)

-- Those that pass a test.

pub kept_tsns : (b : ℕ) (p : ℕ → Bool) (old new : List Run) → b < 2 ^ 32 → AreApart 0 old → AreApart 0 new
    → ((t : ℕ) → t < 2 ^ 32 → is_in (tsn_past b t) new ≡ (p t && is_in (tsn_past b t) old))
    → turned b (spelled new) ≡ filter p (turned b (spelled old))
kept_tsns b p old new bb apart apart2 h =
    told b new (filter p (turned b (spelled old))) bb apart2
    (filtered_ascend p 0 (turned b (spelled old)) (tsns_ascend b old bb apart))
    (λ u w.
    h u w ∙ ap (λ z. p u && z) (sym (tsns_held b u old bb w apart)) ∙ sym (filtered_held p u (turned b (spelled old))))

-- Those at or below a TSN: with its offset d, these are d and the 2^31 - 1 offsets before it, round the end of them.

pub low_test : (b t e d u : ℕ) → d ≡ tsn_past b t → b < 2 ^ 32 → t < 2 ^ 32 → u < 2 ^ 32 → d < 2 ^ 31
    → e ≡ d + 2 ^ 31 + 1
    → not (tsn_lte u t)
    ≡ (not (leb e (tsn_past b u) && leb (tsn_past b u) (2 ^ 32 - 1)) && not (leb 0 (tsn_past b u) && leb (tsn_past b u) d))
low_test b t e d u at bb tb ub low half = grind (arith, nat_tests, at, bb, tb, ub, low, half)

pub high_test : (b t a d u : ℕ) → d ≡ tsn_past b t → b < 2 ^ 32 → t < 2 ^ 32 → u < 2 ^ 32 → a + 2 ^ 31 ≡ d + 1
    → not (tsn_lte u t) ≡ not (leb a (tsn_past b u) && leb (tsn_past b u) d)
high_test b t a d u at bb tb ub half = grind (arith, nat_tests, at, bb, tb, ub, half)

pub middle_test : (b t d u : ℕ) → d ≡ tsn_past b t → b < 2 ^ 32 → t < 2 ^ 32 → u < 2 ^ 32 → d + 1 ≡ 2 ^ 31
    → not (tsn_lte u t) ≡ not (leb 0 (tsn_past b u) && leb (tsn_past b u) d)
middle_test b t d u at bb tb ub half = grind (arith, nat_tests, at, bb, tb, ub, half)

-- Those that follow the cumulative TSN.

-- the cumulative TSN moves by k where exactly the k TSNs that follow it leave, and the next one is not held
pub advanced_by : (k n p : ℕ) (ts us : List ℕ) → k ≤ 2 ^ 32 → p < 2 ^ 32 → n ≡ length ts → Ascend 0 ts → Ascend 0 us
    → ((j : ℕ) → 0 < j → j ≤ k → is_held (tsn p j) ts ≡ true)
    → ((t : ℕ) → t < 2 ^ 32 → is_held t us ≡ (not (ltb (tsn_past (tsn p 1) t) k) && is_held t ts))
    → is_held (tsn p (k + 1)) us ≡ false → advanced n p ts ≡ (tsn p k, us)
advanced_by zero n p ts us kb pb len a a2 held rest stop =
    let same : us ≡ ts = same_lists 0 us ts a2 a (λ t w. rest t w ∙ none (tsn_past (tsn p 1) t) (is_held t ts)) in
    let off : is_held (tsn_after p) ts ≡ false = subst (λ ys. is_held (tsn_after p) ys ≡ false) same stop in
    let here : p ≡ tsn p 0 = omega (arith, pb) in
    still n off ∙ ap (λ q. (q, ts)) here ∙ ap (λ ys. (tsn p 0, ys)) (sym same)
  where
    none : (x : ℕ) (c : Bool) → (not (ltb x 0) && c) ≡ c
    none x c = let off : ltb x 0 ≡ false = le-ltb x 0 (omega arith) in rw off refl

    still : (n : ℕ) → is_held (tsn_after p) ts ≡ false → advanced n p ts ≡ (p, ts)
    still zero off = refl
    still (suc n) off = rw off refl
advanced_by (suc k) n p ts us kb pb len a a2 held rest stop =
    let first : is_held (tsn_after p) ts ≡ true = held 1 (omega arith) (omega arith) in
    let fewer = length-remove_key (is_at (nat_cmp (tsn_after p))) ts first in
    let shorter : n ≡ suc (length (remove_key (is_at (nat_cmp (tsn_after p))) ts)) = omega (arith, fewer, len) in
    let after : tsn_after p < 2 ^ 32 = omega arith in
    let end : tsn (tsn_after p) k ≡ tsn p (suc k) = turns p k in
    rw (shorter, first) (
    advanced_by k (length (remove_key (is_at (nat_cmp (tsn_after p))) ts)) (tsn_after p)
    (remove_key (is_at (nat_cmp (tsn_after p))) ts) us (omega (arith, kb)) after refl
    (removed_ascend 0 (tsn_after p) ts a) a2 later others (again stop) ∙
    ap (λ q. (q, us)) end
    )
  where
    turns : (p k : ℕ) → tsn (tsn_after p) k ≡ tsn p (suc k)
    turns p k = omega arith

    later : (j : ℕ) → 0 < j → j ≤ k → is_held (tsn (tsn_after p) j) (remove_key (is_at (nat_cmp (tsn_after p))) ts) ≡ true
    later j l w =
        let same : tsn (tsn_after p) j ≡ tsn p (suc j) = turns p j in
        let other : tsn p (suc j) ≡ tsn_after p → ⊥ =
        λ (f : tsn p (suc j) ≡ tsn_after p). omega (arith, f, l, w, kb, pb) in
        let there : is_held (tsn p (suc j)) ts ≡ true = held (suc j) (omega arith) (omega (arith, w)) in
        rw same (
        removed_held 0 (tsn p (suc j)) (tsn_after p) ts a ∙ rw (ne_eqb (tsn p (suc j)) (tsn_after p) other, there) refl
        )

    distances : (p t k : ℕ) → p < 2 ^ 32 → t < 2 ^ 32 → suc k ≤ 2 ^ 32
        → not (ltb (tsn_past (tsn p 1) t) (suc k))
        ≡ (not (ltb (tsn_past (tsn (tsn_after p) 1) t) k) && not (eqb t (tsn_after p)))
    distances p t k pb tb kb = grind (arith, nat_tests, pb, tb, kb)

    both : (c d e : Bool) → ((not c && not d) && e) ≡ (not c && (not d && e))
    both true d e = refl
    both false d e = refl

    others : (t : ℕ) → t < 2 ^ 32
        → is_held t us
        ≡ (not (ltb (tsn_past (tsn (tsn_after p) 1) t) k)
        && is_held t (remove_key (is_at (nat_cmp (tsn_after p))) ts))
    others t w =
        rest t w ∙ ap (λ z. z && is_held t ts) (distances p t k pb w kb) ∙
        both (ltb (tsn_past (tsn (tsn_after p) 1) t) k) (eqb t (tsn_after p)) (is_held t ts) ∙
        ap (λ z. not (ltb (tsn_past (tsn (tsn_after p) 1) t) k) && z) (sym (removed_held 0 t (tsn_after p) ts a))

    again : is_held (tsn p (suc k + 1)) us ≡ false → is_held (tsn (tsn_after p) (k + 1)) us ≡ false
    again s =
        let same : tsn (tsn_after p) (k + 1) ≡ tsn p (suc k + 1) = omega arith in
        rw same s
