-- The next offset goes to a place: the assignment stays one to one, in consecutive runs and in order.
use Rattle.std.proofs.Common.{ℕ, suc, ◌*◌, ◌<◌, ◌≤◌, ◌≡◌, ◌⊎◌, Bool, true, false, length, refl, sym, ap, ◌∙◌, subst}
use Rattle.std.proofs.Common.{inl, inr, ⊎_elim, arith}
use Rattle.std.proofs.lemmas.List.{length_push, get_or_push}
use Rattle.std.proofs.lemmas.Bool.{cases_lt}
use Rattle.sctp_model.specs.Messages.{Place, Plan, IsAt, no_place, place_at, message_of, is_last}
use Rattle.sctp_model.specs.Machine.{with_place}
use Rattle.sctp_model.specs.Invariants.{IsPlanned, IsPair, IsBefore, Follows}
use Rattle.sctp_model.proofs.PlansGrow.{IsExtended, place_extended, last_kept, follows_kept, at_before}

-- y may stand on the next offset
pub record IsNext (p : Plan) (over : ℕ → Bool) (y : Place) : Type 0 where
  pub known : y.message < length (p.accepted y.stream)
  pub piece : p.size * y.piece < length (message_of p y).bytes
  pub apart : (o : ℕ) → o < length p.places → (place_at p o).stream ≡ y.stream → (place_at p o).message ≡ y.message
      → (place_at p o).piece ≡ y.piece → ⊥
  pub after : (o : ℕ) → length p.places ≡ suc o → is_last p (place_at p o) ≡ false → (place_at p o).marker ≡ false
      → Follows (place_at p o) y
  pub before : (k : ℕ) → y.piece ≡ suc k
      → (o : ℕ) × (length p.places ≡ suc o) × Follows (place_at p o) y × ((place_at p o).marker ≡ false)
  pub rises : (message_of p y).ordered ≡ true → (o : ℕ) → IsAt p y.stream true o → (place_at p o).message ≤ y.message
  pub pairs : over y.stream ≡ false → (message_of p y).ordered ≡ true → (o : ℕ) → IsAt p y.stream true o
      → IsPair p y.stream (place_at p o) y o (length p.places)

pub length_placed : (p : Plan) (y : Place) → length (with_place p y).places ≡ suc (length p.places)
length_placed p y = omega (arith, length_push p.places y)

pub place_new : (p : Plan) (y : Place) (o : ℕ) → length p.places ≡ o → place_at (with_place p y) o ≡ y
place_new p y o e = get_or_push p.places y no_place o e

-- an offset of the longer assignment is an old one or the new one
pub placed_cases : (p : Plan) (y : Place) (o : ℕ) → o < length (with_place p y).places
    → (o < length p.places) ⊎ (length p.places ≡ o)
placed_cases p y o l =
    ⊎_elim (λ (a : o < length p.places). inl a)
    (λ (b : length p.places ≤ o). inr (let e = length_placed p y in omega arith)) (cases_lt o (length p.places))

pair_self : (p : Plan) (s : ℕ) (y : Place) (o : ℕ) → IsPair p s y y o o
pair_self p s y o = record {
  ssn = omega arith;
  together = λ e. refl;
  alike = λ e. refl;
  near = omega arith;
  rank = omega arith;
}

module _ {p : Plan} {s : ℕ} {x y : Place} (x' y' : Place) {o r : ℕ} (a : x' ≡ x) (b : y' ≡ y)
    (h : IsPair p s x y o r) where
  pair_to : IsPair (with_place p y) s x' y' o r
  pair_to =
      subst (λ z. IsPair (with_place p y) s z y' o r) (sym a)
      (subst (λ z. IsPair (with_place p y) s x z o r) (sym b) record {
        ssn = h.ssn;
        together = h.together;
        alike = h.alike;
        near = h.near;
        rank = h.rank;
      })

  pair_old : (z : Place) → IsPair (with_place p z) s x' y' o r
  pair_old z =
      subst (λ v. IsPair (with_place p z) s v y' o r) (sym a)
      (subst (λ v. IsPair (with_place p z) s x v o r) (sym b) record {
        ssn = h.ssn;
        together = h.together;
        alike = h.alike;
        near = h.near;
        rank = h.rank;
      })

module _ (p : Plan) (y : Place) (o q : ℕ) (x z : Place) where
  before_to : o ≡ suc q → place_at (with_place p y) q ≡ x → place_at (with_place p y) o ≡ z → Follows x z
      → x.marker ≡ false → IsBefore (with_place p y) o q
  before_to n a b f m = record {
    next = n;
    follows = follows_kept x z (place_at (with_place p y) q) (place_at (with_place p y) o) a b f;
    sent = ap (λ v. v.marker) a ∙ m;
  }

pub planned_next : (p : Plan) (over : ℕ → Bool) (y : Place) → IsPlanned p over → IsNext p over y
    → IsPlanned (with_place p y) over
planned_next p over y h n = record {
  size = h.size;
  filled = h.filled;
  known = λ o l. ⊎_elim
      (λ (a : o < length p.places). subst (λ z. z.message < length (p.accepted z.stream)) (sym (old o a)) (h.known o a))
      (λ (b : length p.places ≡ o). subst (λ z. z.message < length (p.accepted z.stream)) (sym (new o b)) n.known)
      (placed_cases p y o l);
  piece = λ o l. ⊎_elim
      (λ (a : o < length p.places).
      subst (λ z. p.size * z.piece < length (message_of p z).bytes) (sym (old o a)) (h.piece o a))
      (λ (b : length p.places ≡ o).
      subst (λ z. p.size * z.piece < length (message_of p z).bytes) (sym (new o b)) n.piece)
      (placed_cases p y o l);
  one = one;
  after = λ o l lo m. ⊎_elim
      (λ (a : suc o < length p.places). follows_kept (place_at p o) (place_at p (suc o)) (place_at q o)
      (place_at q (suc o)) (old o (omega arith)) (old (suc o) a)
      (h.after o a (sym (last_kept p q e o (omega arith)) ∙ lo) (sym (ap (λ z. z.marker) (old o (omega arith))) ∙ m)))
      (λ (b : length p.places ≡ suc o).
      follows_kept (place_at p o) y (place_at q o) (place_at q (suc o)) (old o (omega arith)) (new (suc o) b)
      (n.after o b (sym (last_kept p q e o (omega arith)) ∙ lo) (sym (ap (λ z. z.marker) (old o (omega arith))) ∙ m)))
      (placed_cases p y (suc o) l);
  before = λ o k l pk. ⊎_elim
      (λ (a : o < length p.places).
      let b = h.before o k a (sym (ap (λ z. z.piece) (old o a)) ∙ pk) in
      let f = b.1 in (
        b.0,
        before_to p y o b.0 (place_at p b.0) (place_at p o) f.next (old b.0 (let nx = f.next in omega arith)) (old o a)
            f.follows f.sent,
      ))
      (λ (c : length p.places ≡ o).
      let b = n.before k (sym (ap (λ z. z.piece) (new o c)) ∙ pk) in
      let nx = b.1 in
      (b.0, before_to p y o b.0 (place_at p b.0) y (sym c ∙ nx) (old b.0 (omega arith)) (new o c) b.2 b.3))
      (placed_cases p y o l);
  rises = rises;
  pairs = pairs;
}
  where
    q : Plan
    q = with_place p y

    e : IsExtended p q
    e = place_extended p y h.known

    old : (o : ℕ) → o < length p.places → place_at q o ≡ place_at p o
    old o l = e.places o l

    new : (o : ℕ) → length p.places ≡ o → place_at q o ≡ y
    new o c = place_new p y o c

    clash : (o r : ℕ) → o < length p.places → length p.places ≡ r → (place_at q o).stream ≡ (place_at q r).stream
        → (place_at q o).message ≡ (place_at q r).message → (place_at q o).piece ≡ (place_at q r).piece → ⊥
    clash o r a b s m k = n.apart o a
        (sym (ap (λ z. z.stream) (old o a)) ∙ s ∙ ap (λ z. z.stream) (new r b))
        (sym (ap (λ z. z.message) (old o a)) ∙ m ∙ ap (λ z. z.message) (new r b))
        (sym (ap (λ z. z.piece) (old o a)) ∙ k ∙ ap (λ z. z.piece) (new r b))

    one : (o r : ℕ) → o < length q.places → r < length q.places → (place_at q o).stream ≡ (place_at q r).stream
        → (place_at q o).message ≡ (place_at q r).message → (place_at q o).piece ≡ (place_at q r).piece → o ≡ r
    one o r lo lr s m k = ⊎_elim
        (λ (a : o < length p.places). ⊎_elim
        (λ (b : r < length p.places). h.one o r a b
        (sym (ap (λ z. z.stream) (old o a)) ∙ s ∙ ap (λ z. z.stream) (old r b))
        (sym (ap (λ z. z.message) (old o a)) ∙ m ∙ ap (λ z. z.message) (old r b))
        (sym (ap (λ z. z.piece) (old o a)) ∙ k ∙ ap (λ z. z.piece) (old r b)))
        (λ (b : length p.places ≡ r). absurd (clash o r a b s m k))
        (placed_cases p y r lr))
        (λ (a : length p.places ≡ o). ⊎_elim
        (λ (b : r < length p.places). absurd (clash r o b a (sym s) (sym m) (sym k)))
        (λ (b : length p.places ≡ r). sym a ∙ b)
        (placed_cases p y r lr))
        (placed_cases p y o lo)

    rises : (s o r : ℕ) → o ≤ r → IsAt q s true o → IsAt q s true r → (place_at q o).message ≤ (place_at q r).message
    rises s o r le ao ar = ⊎_elim
        (λ (b : r < length p.places).
        let a : o < length p.places = omega arith in
        subst (λ z. z.message ≤ (place_at q r).message) (sym (old o a))
        (subst (λ z. (place_at p o).message ≤ z.message) (sym (old r b))
        (h.rises s o r le (at_before p q e s o true a ao) (at_before p q e s r true b ar))))
        (λ (b : length p.places ≡ r).
        let sy : y.stream ≡ s = sym (ap (λ z. z.stream) (new r b)) ∙ ar.stream in
        let ky : (message_of p y).ordered ≡ true = sym (ap (λ z. (message_of p z).ordered) (new r b)) ∙ ar.kind in
        ⊎_elim
        (λ (a : o < length p.places). subst (λ z. z.message ≤ (place_at q r).message) (sym (old o a))
        (subst (λ z. (place_at p o).message ≤ z.message) (sym (new r b))
        (n.rises ky o (subst (λ z. IsAt p z true o) (sym sy) (at_before p q e s o true a ao)))))
        (λ (a : length p.places ≡ o).
        subst (λ z. (place_at q o).message ≤ (place_at q z).message) (sym a ∙ b) (omega arith))
        (placed_cases p y o ao.known))
        (placed_cases p y r ar.known)

    pairs : (s : ℕ) → over s ≡ false → (o r : ℕ) → o ≤ r → IsAt q s true o → IsAt q s true r
        → IsPair q s (place_at q o) (place_at q r) o r
    pairs s v o r le ao ar = ⊎_elim
        (λ (b : r < length p.places).
        let a : o < length p.places = omega arith in
        pair_old (place_at q o) (place_at q r) (old o a) (old r b)
        (h.pairs s v o r le (at_before p q e s o true a ao) (at_before p q e s r true b ar)) y)
        (λ (b : length p.places ≡ r).
        let sy : y.stream ≡ s = sym (ap (λ z. z.stream) (new r b)) ∙ ar.stream in
        let ky : (message_of p y).ordered ≡ true = sym (ap (λ z. (message_of p z).ordered) (new r b)) ∙ ar.kind in
        ⊎_elim
        (λ (a : o < length p.places). pair_to (place_at q o) (place_at q r) (old o a) (new r b)
        (subst (λ z. IsPair p s (place_at p o) y o z) b
        (subst (λ z. IsPair p z (place_at p o) y o (length p.places)) sy
        (n.pairs (subst (λ z. over z ≡ false) (sym sy) v) ky o
        (subst (λ z. IsAt p z true o) (sym sy) (at_before p q e s o true a ao))))))
        (λ (a : length p.places ≡ o). pair_to (place_at q o) (place_at q r) (new o a) (new r b)
        (subst (λ z. IsPair p s y y o z) (sym a ∙ b) (pair_self p s y o)))
        (placed_cases p y o ao.known))
        (placed_cases p y r ar.known)
