-- TSNs and boundaries stand to one another as their offsets do, as long as these are near the initial TSN.
use Rattle.std.proofs.Common.{◌≡◌, refl, sym, ◌∙◌, ℕ, ◌+◌, ◌-◌, ◌^◌, ◌<◌, ◌≤◌, ◌||◌, Bool, true, false, eqb}
use Rattle.std.proofs.Common.{nat_lt, nat_le, ltb, arith, ⊎_elim}
use Rattle.std.proofs.lemmas.Bool.{and_from, and_right, or_left, or_right, eq-eqb, ne_eqb, lt-ltb, le-ltb, cases_eq}
use Rattle.std.proofs.lemmas.Bool.{cases_lt}
use Rattle.sctp_serial.specs.Serial.{tsn, tsn_lt, tsn_lte, tsn_past}
use Rattle.sctp_reset_fit.specs.Stands.{last_below}

or_none : (b c : Bool) → b ≡ false → c ≡ false → (b || c) ≡ false
or_none b c e f = rw (e, f) refl

-- a number is at or before another one that lies less than half the range past it
at_or_before : (t u d : ℕ) → d < 2 ^ 31 → t < 2 ^ 32 → u < 2 ^ 32 → tsn_past t u ≡ d → tsn_lte t u ≡ true
at_or_before t u d a b c e =
    ⊎_elim (λ (f : t ≡ u). or_left (eqb t u) _ (eq-eqb t u f))
    (λ (ne : t ≡ u → ⊥).
    or_right (eqb t u) _
    (and_from (ltb 0 (tsn_past t u)) (ltb (tsn_past t u) (2 ^ 31))
    (lt-ltb 0 (tsn_past t u) (omega (arith, a, b, c, e, ne))) (lt-ltb (tsn_past t u) (2 ^ 31) (omega (arith, a, e)))))
    (cases_eq t u)

-- it is past one that lies half the range past it or more
past_it : (t u d : ℕ) → 2 ^ 31 ≤ d → d < 2 ^ 32 → t < 2 ^ 32 → u < 2 ^ 32 → tsn_past t u ≡ d → tsn_lte t u ≡ false
past_it t u d a f b c e =
    or_none (eqb t u) (tsn_lt t u) (ne_eqb t u (λ (g : t ≡ u). omega (arith, a, b, c, e, g)))
    (and_right (ltb 0 (tsn_past t u)) (ltb (tsn_past t u) (2 ^ 31))
    (le-ltb (tsn_past t u) (2 ^ 31) (omega (arith, a, e))))

-- a TSN is at or below the last one below a boundary where its offset is below the boundary
pub lte_below : (initial o boundary : ℕ) → o < 2 ^ 31 → boundary < 2 ^ 31
    → tsn_lte (tsn initial o) (last_below initial boundary) ≡ nat_lt o boundary
lte_below initial o boundary a b =
    ⊎_elim
    (λ (l : o < boundary).
    at_or_before (tsn initial o) (last_below initial boundary) (boundary - 1 - o) (omega arith) (omega arith)
    (omega arith) (omega arith) ∙ sym (lt-ltb o boundary l))
    (λ (l : boundary ≤ o).
    past_it (tsn initial o) (last_below initial boundary) (2 ^ 32 + boundary - 1 - o) (omega arith) (omega arith)
    (omega arith) (omega arith) (omega arith) ∙ sym (le-ltb o boundary l)) (cases_lt o boundary)

le_true : (a b : ℕ) → a ≤ b → nat_le a b ≡ true
le_true a b l = grind arith

le_false : (a b : ℕ) → b < a → nat_le a b ≡ false
le_false a b l = grind arith

-- of the last ones below two boundaries
pub lte_both : (initial a b : ℕ) → a < 2 ^ 31 → b < 2 ^ 31
    → tsn_lte (last_below initial a) (last_below initial b) ≡ nat_le a b
lte_both initial a b m n =
    ⊎_elim
    (λ (l : b < a).
    past_it (last_below initial a) (last_below initial b) (2 ^ 32 + b - a) (omega arith) (omega arith) (omega arith)
    (omega arith) (omega arith) ∙ sym (le_false a b l))
    (λ (l : a ≤ b).
    at_or_before (last_below initial a) (last_below initial b) (b - a) (omega arith) (omega arith) (omega arith)
    (omega arith) ∙ sym (le_true a b l)) (cases_lt b a)
