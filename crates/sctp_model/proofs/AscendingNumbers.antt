-- From the acknowledged reach on, the sequence numbers of a stream's ordered messages ascend with their offsets, also
-- past its span.
use Rattle.std.proofs.Common.{ℕ, zero, suc, ◌+◌, ◌-◌, ◌<◌, ◌≤◌, ◌≡◌, true, not, eqb, List, [], ◌∷◌, length, drop}
use Rattle.std.proofs.Common.{get_or, Option, Some, refl, sym, ap, ◌∙◌, subst, ⊎_elim, arith}
use Rattle.std.proofs.lemmas.List.{length-drop, get_or-drop}
use Rattle.std.proofs.lemmas.Bool.{cases_eq, and_parts, eq-eqb, true≢false, not-true}
use Rattle.sctp_model.specs.Messages.{Message, Place, Plan, IsAt, no_place, place_at, message_of}
use Rattle.sctp_model.specs.Machine.{put, with_message, with_place, none_of, none_goes_on}
use Rattle.sctp_model.specs.Invariants.{IsAscending}
use Rattle.sctp_model.proofs.PlansGrow.{IsExtended, at_put, off_put, place_extended, message_extended, at_before}
use Rattle.sctp_model.proofs.OffsetPlaces.{place_new, placed_cases}

-- more is acknowledged
pub ascending_later : (p : Plan) (current : Option Place) (ssn : ℕ → ℕ) (reach reach' : ℕ) → reach ≤ reach'
    → IsAscending p current ssn reach → IsAscending p current ssn reach'
ascending_later p current ssn reach reach' on h = record {
  ascends = λ s o q from. h.ascends s o q (omega arith);
  below = λ s o from a. h.below s o (omega arith) a;
  going = h.going;
}

-- more is accepted
pub ascending_message : (p : Plan) (s : ℕ) (m : Message) (current : Option Place) (ssn : ℕ → ℕ) (reach : ℕ)
    → ((o : ℕ) → o < length p.places → (place_at p o).message < length (p.accepted (place_at p o).stream))
    → ((y : Place) → current ≡ Some y → y.message < length (p.accepted y.stream))
    → IsAscending p current ssn reach → IsAscending (with_message p s m) current ssn reach
ascending_message p s m current ssn reach known going h = record {
  ascends =
      λ t o r from le a b.
      h.ascends t o r from le (at_before p q e t o true a.known a) (at_before p q e t r true b.known b);
  below = λ t o from a. h.below t o from (at_before p q e t o true a.known a);
  going = λ y is k. h.going y is (sym (ap (λ z. z.ordered) (e.messages y.stream y.message (going y is))) ∙ k);
}
  where
    q : Plan
    q = with_message p s m

    e : IsExtended p q
    e = message_extended p s m known

module _ {p : Plan} (y : Place) {current : Option Place} (current' : Option Place) {ssn : ℕ → ℕ} (ssn' : ℕ → ℕ)
    {reach : ℕ}
    (known : (o : ℕ) → o < length p.places → (place_at p o).message < length (p.accepted (place_at p o).stream))
    (h : IsAscending p current ssn reach) where
  -- y gets the next offset
  pub ascending_placed : ((s : ℕ) → ssn s ≤ ssn' s) → ((message_of p y).ordered ≡ true → y.ssn < ssn' y.stream)
      → ((message_of p y).ordered ≡ true → (o : ℕ) → reach ≤ o → IsAt p y.stream true o → (place_at p o).ssn ≤ y.ssn)
      → ((z : Place) → current' ≡ Some z → (message_of p z).ordered ≡ true → z.ssn < ssn' z.stream)
      → IsAscending (with_place p y) current' ssn' reach
  ascending_placed more mine last going = record {
    ascends = ascends;
    below = λ s o from a. ⊎_elim
        (λ (b : o < length p.places). subst (λ z. z.ssn < ssn' s) (sym (old o b))
        (let c = h.below s o from (at_before p q e s o true b a) in let u = more s in omega arith))
        (λ (b : length p.places ≡ o). subst (λ z. z.ssn < ssn' s) (sym (new o b))
        (subst (λ z. y.ssn < ssn' z) (stream s o b a) (mine (kind s o b a))))
        (placed_cases p y o a.known);
    going = going;
  }
    where
      q : Plan
      q = with_place p y

      e : IsExtended p q
      e = place_extended p y known

      old : (o : ℕ) → o < length p.places → place_at q o ≡ place_at p o
      old o l = e.places o l

      new : (o : ℕ) → length p.places ≡ o → place_at q o ≡ y
      new o c = place_new p y o c

      stream : (s o : ℕ) → length p.places ≡ o → IsAt q s true o → y.stream ≡ s
      stream s o b a = sym (ap (λ z. z.stream) (new o b)) ∙ a.stream

      kind : (s o : ℕ) → length p.places ≡ o → IsAt q s true o → (message_of p y).ordered ≡ true
      kind s o b a = sym (ap (λ z. (message_of p z).ordered) (new o b)) ∙ a.kind

      ascends : (s o r : ℕ) → reach ≤ o → o ≤ r → IsAt q s true o → IsAt q s true r
          → (place_at q o).ssn ≤ (place_at q r).ssn
      ascends s o r from le ao ar = ⊎_elim
          (λ (b : r < length p.places).
          let a : o < length p.places = omega arith in
          subst (λ z. z.ssn ≤ (place_at q r).ssn) (sym (old o a))
          (subst (λ z. (place_at p o).ssn ≤ z.ssn) (sym (old r b))
          (h.ascends s o r from le (at_before p q e s o true a ao) (at_before p q e s r true b ar))))
          (λ (b : length p.places ≡ r). ⊎_elim
          (λ (a : o < length p.places). subst (λ z. z.ssn ≤ (place_at q r).ssn) (sym (old o a))
          (subst (λ z. (place_at p o).ssn ≤ z.ssn) (sym (new r b))
          (last (kind s r b ar) o from
          (subst (λ z. IsAt p z true o) (sym (stream s r b ar)) (at_before p q e s o true a ao)))))
          (λ (a : length p.places ≡ o). subst (λ z. (place_at q o).ssn ≤ (place_at q z).ssn) (sym a ∙ b) (omega arith))
          (placed_cases p y o ao.known))
          (placed_cases p y r ar.known)

-- a stream's next number, after it was used
pub counted_more : (ssn : ℕ → ℕ) (s t : ℕ) → ssn t ≤ put ssn s (suc (ssn s)) t
counted_more ssn s t = ⊎_elim
    (λ (a : t ≡ s). subst (λ z. ssn t ≤ z) (sym (at_put ssn s t (suc (ssn s)) a)) (let u = ap ssn a in omega arith))
    (λ (ne : t ≡ s → ⊥). subst (λ z. ssn t ≤ z) (sym (off_put ssn s t (suc (ssn s)) ne)) (omega arith))
    (cases_eq t s)

pub counted_past : (ssn : ℕ → ℕ) (s n : ℕ) → n ≡ ssn s → n < put ssn s (suc (ssn s)) s
counted_past ssn s n e = subst (λ z. n < z) (sym (at_put ssn s s (suc (ssn s)) refl)) (omega arith)

-- A stream's numbers begin again: none of its places lies from the acknowledged reach on, and no message of it goes on.

none_at : (s : ℕ) (ys : List Place) (j : ℕ) → none_of s ys ≡ true → j < length ys → (get_or ys j no_place).stream ≡ s
    → ⊥
none_at s [] j none l e = omega arith
none_at s (y ∷ ys) zero none l e =
    true≢false (sym (eq-eqb _ _ e) ∙ not-true _ (and_parts (not (eqb y.stream s)) (none_of s ys) none).0)
none_at s (y ∷ ys) (suc j) none l e =
    none_at s ys j (and_parts (not (eqb y.stream s)) (none_of s ys) none).1 (omega arith) e

pub ascending_restart : (p : Plan) (current : Option Place) (ssn : ℕ → ℕ) (reach s : ℕ)
    → none_of s (drop reach p.places) ≡ true
    → none_goes_on s current ≡ true → IsAscending p current ssn reach → IsAscending p current (put ssn s 0) reach
ascending_restart p current ssn reach s none still h = record {
  ascends = h.ascends;
  below = λ t o from a. ⊎_elim
      (λ (e : t ≡ s). absurd (past o from a.known (a.stream ∙ e)))
      (λ (ne : t ≡ s → ⊥). subst (λ z. (place_at p o).ssn < z) (sym (off_put ssn s t 0 ne)) (h.below t o from a))
      (cases_eq t s);
  going = λ y is k. ⊎_elim
      (λ (e : y.stream ≡ s).
      absurd (true≢false (sym (eq-eqb _ _ e) ∙ not-true _ (subst (λ z. none_goes_on s z ≡ true) is still))))
      (λ (ne : y.stream ≡ s → ⊥). subst (λ z. y.ssn < z) (sym (off_put ssn s y.stream 0 ne)) (h.going y is k))
      (cases_eq y.stream s);
}
  where
    past : (o : ℕ) → reach ≤ o → o < length p.places → (place_at p o).stream ≡ s → ⊥
    past o from l e =
        none_at s (drop reach p.places) (o - reach) none (let b = length-drop reach p.places in omega arith)
        (ap (λ z. z.stream) (get_or-drop reach p.places (o - reach) no_place
        ∙ ap (place_at p) (let u : reach + (o - reach) ≡ o = omega arith in u)) ∙ e)
