-- Sequence numbers of 16 bits compare as the numbers that they spell, as long as those are less than half the range
-- apart.
use Rattle.std.proofs.Common.{ℕ, suc, ◌+◌, ◌-◌, ◌%◌, ◌<◌, ◌≤◌, ◌≡◌, ◌⊎◌, eqb, ltb, leb, ◌||◌, sym, ap, ◌∙◌, inl, inr}
use Rattle.std.proofs.Common.{⊎_elim, arith}
use Rattle.std.proofs.lemmas.Bool.{cases_lt, cases_eq, and_from, and_left, and_right, or_left, or_from, eq-eqb, ne_eqb}
use Rattle.std.proofs.lemmas.Bool.{lt-ltb, le-ltb, le-leb, lt-leb}
use Rattle.sctp_serial.specs.Serial.{ssn_past, ssn_lt, ssn_lte}

pub before_is : (a b : ℕ) → a < b + 32768 → b < a + 32768 → ssn_lt (a % 65536) (b % 65536) ≡ ltb a b
before_is a b la lb =
    ⊎_elim
    (λ (l : a < b).
    let e : ssn_past (a % 65536) (b % 65536) ≡ b - a = omega arith in
    and_from (ltb 0 (ssn_past (a % 65536) (b % 65536))) (ltb (ssn_past (a % 65536) (b % 65536)) 32768)
    (lt-ltb 0 (ssn_past (a % 65536) (b % 65536)) (omega arith))
    (lt-ltb (ssn_past (a % 65536) (b % 65536)) 32768 (omega arith)) ∙ sym (lt-ltb a b l))
    (λ (g : b ≤ a).
    ⊎_elim
    (λ (e : a ≡ b). and_left _ _ (le-ltb 0 (ssn_past (a % 65536) (b % 65536)) (omega arith)) ∙ sym (le-ltb a b g))
    (λ (ne : a ≡ b → ⊥).
    let e : ssn_past (a % 65536) (b % 65536) ≡ b + 65536 - a = (let n : b < a = omega (arith, ne) in omega arith) in
    and_right _ _ (le-ltb (ssn_past (a % 65536) (b % 65536)) 32768 (omega arith)) ∙ sym (le-ltb a b g))
    (cases_eq a b))
    (cases_lt a b)

pub same_is : (a b : ℕ) → a < b + 32768 → b < a + 32768 → eqb (a % 65536) (b % 65536) ≡ eqb a b
same_is a b la lb =
    ⊎_elim
    (λ (e : a ≡ b). eq-eqb _ _ (ap (λ z. z % 65536) e) ∙ sym (eq-eqb a b e))
    (λ (ne : a ≡ b → ⊥). ne_eqb _ _ (λ (e : a % 65536 ≡ b % 65536). ne (omega arith)) ∙ sym (ne_eqb a b ne))
    (cases_eq a b)

pub same_from : (a b : ℕ) → a < b + 32768 → b < a + 32768 → a % 65536 ≡ b % 65536 → a ≡ b
same_from a b la lb e = omega arith

pub up_to_is : (a b : ℕ) → a < b + 32768 → b < a + 32768 → ssn_lte (a % 65536) (b % 65536) ≡ leb a b
up_to_is a b la lb =
    ap (λ z. z || ssn_lt (a % 65536) (b % 65536)) (same_is a b la lb)
    ∙ ap (λ z. eqb a b || z) (before_is a b la lb)
    ∙ ⊎_elim
    (λ (l : a ≤ b). ⊎_elim
    (λ (e : a ≡ b). or_left _ _ (eq-eqb a b e) ∙ sym (le-leb a b l))
    (λ (ne : a ≡ b → ⊥). ap (λ z. z || ltb a b) (ne_eqb a b ne) ∙ lt-ltb a b (omega (arith, ne)) ∙ sym (le-leb a b l))
    (cases_eq a b))
    (λ (g : b < a). or_from _ _ (ne_eqb a b (λ (e : a ≡ b). omega arith)) (le-ltb a b (omega arith))
    ∙ sym (lt-leb a b g))
    (cases_le a b)
  where
    cases_le : (m n : ℕ) → (m ≤ n) ⊎ (n < m)
    cases_le m n = ⊎_elim (λ (l : n < m). inr l) (λ (g : m ≤ n). inl g) (cases_lt n m)

pub next_is : (c : ℕ) → (c % 65536 + 1) % 65536 ≡ suc c % 65536
next_is c = omega arith
