-- TSNs compare as the offsets that they spell, as long as those are less than half the range apart.
use Rattle.std.proofs.Common.{ℕ, suc, ◌+◌, ◌-◌, ◌^◌, ◌<◌, ◌≤◌, ◌≡◌, eqb, ltb, sym, ap, ◌∙◌, ⊎_elim, arith}
use Rattle.std.proofs.lemmas.Bool.{cases_lt, cases_eq, and_from, and_left, and_right, eq-eqb, ne_eqb, lt-ltb, le-ltb}
use Rattle.sctp_serial.specs.Serial.{tsn, tsn_lt, tsn_past, tsn_after}

pub tsns_go_as_offsets : (initial a b : ℕ) → a < 2 ^ 31 → b < 2 ^ 31 → tsn_lt (tsn initial a) (tsn initial b) ≡ ltb a b
tsns_go_as_offsets initial a b la lb =
    ⊎_elim
    (λ (l : a < b).
    let e : tsn_past (tsn initial a) (tsn initial b) ≡ b - a = omega arith in
    and_from (ltb 0 (tsn_past (tsn initial a) (tsn initial b)))
    (ltb (tsn_past (tsn initial a) (tsn initial b)) (2 ^ 31))
    (lt-ltb 0 (tsn_past (tsn initial a) (tsn initial b)) (omega arith))
    (lt-ltb (tsn_past (tsn initial a) (tsn initial b)) (2 ^ 31) (omega arith)) ∙ sym (lt-ltb a b l))
    (λ (g : b ≤ a).
    ⊎_elim
    (λ (e : a ≡ b). and_left _ _ (le-ltb 0 (tsn_past (tsn initial a) (tsn initial b)) (omega arith))
    ∙ sym (le-ltb a b g))
    (λ (ne : a ≡ b → ⊥).
    let e : tsn_past (tsn initial a) (tsn initial b) ≡ b + 2 ^ 32 - a =
    (let n : b < a = omega (arith, ne) in omega arith) in
    and_right _ _ (le-ltb (tsn_past (tsn initial a) (tsn initial b)) (2 ^ 31) (omega arith)) ∙ sym (le-ltb a b g))
    (cases_eq a b))
    (cases_lt a b)

pub tsn_same : (initial a b : ℕ) → a < 2 ^ 31 → b < 2 ^ 31 → eqb (tsn initial a) (tsn initial b) ≡ eqb a b
tsn_same initial a b la lb =
    ⊎_elim
    (λ (e : a ≡ b). eq-eqb _ _ (ap (tsn initial) e) ∙ sym (eq-eqb a b e))
    (λ (ne : a ≡ b → ⊥). ne_eqb _ _ (λ (e : tsn initial a ≡ tsn initial b). ne (omega arith)) ∙ sym (ne_eqb a b ne))
    (cases_eq a b)

pub tsn_next : (initial a b : ℕ) → a < 2 ^ 31 → b < 2 ^ 31
    → eqb (tsn initial b) (tsn_after (tsn initial a)) ≡ eqb b (suc a)
tsn_next initial a b la lb =
    ⊎_elim
    (λ (e : b ≡ suc a). eq-eqb _ _ (omega arith) ∙ sym (eq-eqb b (suc a) e))
    (λ (ne : b ≡ suc a → ⊥). ne_eqb _ _ (λ (e : tsn initial b ≡ tsn_after (tsn initial a)). ne (omega arith))
    ∙ sym (ne_eqb b (suc a) ne))
    (cases_eq b (suc a))
