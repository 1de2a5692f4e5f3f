-- One TSN more.
use Rattle.std.proofs.Common.{◌≡◌, ℕ, ◌^◌, ◌<◌, Bool, true, false, ◌||◌, not, eqb, leb}
use Rattle.std.proofs.Common.{cond, List, [], ◌∷◌, length, slice_get, Option, Some, None, refl, ap, sym, ◌∙◌}
use Rattle.std.proofs.Common.{⊎_elim, arith}
use Rattle.std.specs.Ordering.{nat_cmp}
use Rattle.std.specs.BTreeSet.{insert_key}
use Rattle.std.proofs.lemmas.Bool.{cases_Bool, cases_eq, ne_eqb, le-leb}
use Rattle.std.proofs.Math.Dec.{eqb-suc-zero}
use Rattle.std.proofs.lemmas.Bool.Decides.{nat_tests}
use Rattle.sctp_serial.specs.Serial.{tsn, tsn_past}
use Rattle.sctp_ranges.specs.declared.run.Run.{Run}
use Rattle.sctp_ranges.specs.Runs.{spelled, AreApart, is_in, is_begun, is_of, ended_before, IsAdded}
use Rattle.sctp_received.specs.Received.{is_held, has_offset, with_tsn}
use Rattle.sctp_received.specs.TsnRanges.{TsnRanges, turned, tsns_of}
use Rattle.sctp_ranges.proofs.Halving.{in_place}
use Rattle.sctp_ranges.proofs.Parts.{reaches_here}
use Rattle.sctp_received.proofs.Keys.{inserted_ascend, inserted_held}
use Rattle.sctp_received.proofs.Turned.{tsns_ascend, tsns_held, told}

-- a TSN is held where its place has a range that begins at its offset or before it
pub place_told : (r : TsnRanges) (t o : ℕ) (found : Option Run) → o ≡ tsn_past r.base t → r.base < 2 ^ 32 → t < 2 ^ 32
    → AreApart 0 r.ranges → found ≡ slice_get r.ranges (ended_before o r.ranges)
    → is_begun o found ≡ is_held t (tsns_of r)
place_told r t o found is bb tb apart e =
    ap (is_begun o) e ∙ in_place 0 o r.ranges apart ∙ ap (λ z. is_in z r.ranges) is ∙
    sym (tsns_held r.base t r.ranges bb tb apart)

-- and then that range has its offset
pub place_has : (o index : ℕ) (found : Option Run) (xs rs : List Run) → xs ≡ rs → index ≡ ended_before o rs
    → found ≡ slice_get rs (ended_before o rs) → is_begun o found ≡ true → is_of o (slice_get xs index) ≡ true
place_has o index found xs rs same at e begun =
    rw (same, at) (cases (slice_get rs (ended_before o rs)) refl (ap (is_begun o) (sym e) ∙ begun))
  where
    reaches : (r : Run) → slice_get rs (ended_before o rs) ≡ Some r → leb o r.last ≡ true
    reaches r f = le-leb o r.last (reaches_here o r rs f)

    cases : (there : Option Run) → slice_get rs (ended_before o rs) ≡ there → is_begun o there ≡ true
        → is_of o there ≡ true
    cases None f g = absurd (cc)
    cases (Some r) f g = rw (g, reaches r f) refl

-- no TSN is held where there is no range
pub nothing_held : (b : ℕ) (rs : List Run) → b < 2 ^ 32 → AreApart 0 rs
    → eqb (length rs) 0 ≡ eqb (length (turned b (spelled rs))) 0
nothing_held b [] bb a = refl
nothing_held b (r ∷ rs) bb a =
    eqb-suc-zero (length rs) ∙
    cases (turned b (spelled (r ∷ rs))) (tsns_held b (tsn b r.first) (r ∷ rs) bb (omega arith) a)
  where
    there : is_in (tsn_past b (tsn b r.first)) (r ∷ rs) ≡ true
    there =
        let same : tsn_past b (tsn b r.first) ≡ r.first = omega (arith, bb, a.1, a.2) in
        rw (same, le-leb r.first r.first (omega arith), le-leb r.first r.last a.1) refl

    cases : (ts : List ℕ) → is_held (tsn b r.first) ts ≡ is_in (tsn_past b (tsn b r.first)) (r ∷ rs)
        → false ≡ eqb (length ts) 0
    cases [] e = absurd (cc (e, there))
    cases (t ∷ ts) e = sym (eqb-suc-zero (length ts))

pub same_offset : (b t u : ℕ) → b < 2 ^ 32 → t < 2 ^ 32 → u < 2 ^ 32 → eqb (tsn_past b u) (tsn_past b t) ≡ eqb u t
same_offset b t u bb tb ub =
    ⊎_elim
    (λ (e : u ≡ t). rw e (grind (arith, nat_tests)))
    (λ (n : u ≡ t → ⊥).
    let off : tsn_past b u ≡ tsn_past b t → ⊥ = λ (e : tsn_past b u ≡ tsn_past b t). n (omega (arith, e, bb, tb, ub)) in
    ne_eqb (tsn_past b u) (tsn_past b t) off ∙ sym (ne_eqb u t n))
    (cases_eq u t)

pub added_tsns : (b t o i : ℕ) (old new : List Run) → o ≡ tsn_past b t → b < 2 ^ 32 → t < 2 ^ 32 → AreApart 0 old
    → IsAdded o old new i → turned b (spelled new) ≡ insert_key nat_cmp (turned b (spelled old)) t
added_tsns b t o i old new at bb tb apart is =
    told b new (insert_key nat_cmp (turned b (spelled old)) t) bb is.0
    (inserted_ascend 0 t (turned b (spelled old)) (tsns_ascend b old bb apart) (omega arith) tb)
    (λ u w.
    is.1 (tsn_past b u) ∙ ap (λ z. eqb (tsn_past b u) z || is_in (tsn_past b u) old) at ∙
    ap (λ z. z || is_in (tsn_past b u) old) (same_offset b t u bb tb w) ∙
    ap (λ z. eqb u t || z) (sym (tsns_held b u old bb w apart)) ∙ sym (inserted_held u t (turned b (spelled old))))

-- what a push that did not fail did
pub pushed_is : (ts new : List ℕ) (t p : ℕ) (added : Bool) → has_offset (tsn_past p t) ≡ true
    → added ≡ not (is_held t ts) → new ≡ cond added (insert_key nat_cmp ts t) ts → with_tsn ts t p ≡ (new, added)
pushed_is ts new t p added near e f =
    ⊎_elim
    (λ (h : is_held t ts ≡ true).
    let a : added ≡ false = e ∙ ap not h in
    let n : new ≡ ts = rw a at f in
    rw (near, h, a, n) refl)
    (λ (h : is_held t ts ≡ false).
    let a : added ≡ true = e ∙ ap not h in
    let n : new ≡ insert_key nat_cmp ts t = rw a at f in
    rw (near, h, a, n) refl)
    (cases_Bool (is_held t ts))

pub not_pushed : (ts : List ℕ) (t p : ℕ) → has_offset (tsn_past p t) ≡ false → with_tsn ts t p ≡ (ts, false)
not_pushed ts t p far = rw far refl
