-- A message begins, goes on, or gets an offset for its unsent tail: what may stand on the next offset, and the counters
-- afterwards.
use Rattle.std.proofs.Common.{ℕ, suc, ◌+◌, ◌*◌, ◌<◌, ◌≤◌, ◌≡◌, ◌⊎◌, Bool, true, false, length, Option, Some, None, sym}
use Rattle.std.proofs.Common.{ap, ◌∙◌, subst, inl, inr, ⊎_elim, arith}
use Rattle.std.proofs.lemmas.Bool.{leb-false, true≢false}
use Rattle.sctp_model.specs.Messages.{Place, Plan, IsAt, place_at, message_at, message_of, is_last, rank}
use Rattle.sctp_model.specs.Machine.{with_place}
use Rattle.sctp_model.specs.Invariants.{IsPlanned, Follows, IsEarlier, IsGoing, IsSending}
use Rattle.sctp_model.proofs.PlansGrow.{IsExtended, place_extended, at_before}
use Rattle.sctp_model.proofs.OffsetPlaces.{IsNext, length_placed, place_new, placed_cases}

module _ {p : Plan} {current : Option Place} {next ssn : ℕ → ℕ} {begun gone : ℕ → ℕ → Bool} {over : ℕ → Bool}
    (y : Place) (h : IsPlanned p over) (g : IsSending p current next ssn begun gone over)
    (none : current ≡ None) where
  -- the first piece of a message
  pub next_first : y.piece ≡ 0 → ((message_of p y).ordered ≡ true → y.ssn ≡ ssn y.stream)
      → y.message < length (p.accepted y.stream) → begun y.stream y.message ≡ false
      → ((message_of p y).ordered ≡ true → y.message ≡ next y.stream) → IsNext p over y
  next_first piece number known new due = record {
    known = known;
    piece =
        subst (λ z. p.size * z < length (message_of p y).bytes) (sym piece)
        (let f = h.filled y.stream y.message known in omega arith);
    apart =
        λ o l s m k.
        true≢false
        (sym (subst (λ z. begun z y.message ≡ true) s
        (subst (λ z. begun (place_at p o).stream z ≡ true) m (g.counted o l))) ∙ new);
    after = λ o l last m. absurd (⊎_elim
        (λ (a : is_last p (place_at p o) ≡ true). true≢false (sym a ∙ last))
        (λ (a : (place_at p o).marker ≡ true). true≢false (sym a ∙ m))
        (g.closed none o l));
    before = λ k e. absurd (let d : 0 ≡ suc k = sym piece ∙ e in omega arith);
    rises = λ ordered o a. let b = g.numbers y.stream o a in let m = due ordered in omega arith;
    pairs = λ v ordered o a.
        let e = g.earlier y.stream v o a in
        let m = due ordered in
        let k = number ordered in
        record {
          ssn = let b = e.below in omega arith;
          together = λ c. absurd (let b = e.below in omega arith);
          alike = λ c. absurd (let b = g.numbers y.stream o a in omega arith);
          near = let b = e.near in omega arith;
          rank =
              subst (λ z. y.ssn + rank (p.accepted y.stream) (place_at p o).message
              ≤ (place_at p o).ssn + rank (p.accepted y.stream) z) (sym m)
              (let b = e.rank in omega arith);
        };
  }

-- the next piece of the message that goes on, or the offset of its tail
pub next_following : (p : Plan) (over : ℕ → Bool) (y : Place) (m : ℕ) → IsPlanned p over → length p.places ≡ suc m
    → Follows (place_at p m) y
    → (place_at p m).marker ≡ false → is_last p (place_at p m) ≡ false → IsNext p over y
next_following p over y m h n f sent more = record {
  known =
      subst (λ z. z < length (p.accepted y.stream)) (sym f.message)
      (subst (λ z. (place_at p m).message < length (p.accepted z)) (sym f.stream) (h.known m lm));
  piece = subst (λ z. p.size * z < length (message_of p y).bytes) (sym f.piece)
      (subst (λ z. p.size * suc (place_at p m).piece < length z.bytes) (sym same) (leb-false _ _ more));
  apart = apart;
  after = λ o l last k. subst (λ z. Follows (place_at p z) y) (let e : m ≡ o = omega arith in e) f;
  before = λ k e. (m, n, f, sent);
  rises =
      λ ordered o a. subst (λ z. (place_at p o).message ≤ z) (sym f.message)
      (h.rises y.stream o m (let b = a.known in omega arith) a (here ordered));
  pairs = λ v ordered o a.
      let k = here ordered in
      let d = h.pairs y.stream v o m (let b = a.known in omega arith) a k in
      let em = f.message in
      let es = f.ssn in
      record {
        ssn = let b = d.ssn in omega arith;
        together = λ c. d.together (c ∙ es) ∙ sym em;
        alike = λ c. d.alike (c ∙ em) ∙ sym es;
        near = let b = d.near in omega arith;
        rank =
            subst (λ z. y.ssn + rank (p.accepted y.stream) (place_at p o).message
            ≤ (place_at p o).ssn + rank (p.accepted y.stream) z) (sym em)
            (let b = d.rank in omega arith);
      };
}
  where
    lm : m < length p.places
    lm = omega arith

    same : message_of p y ≡ message_of p (place_at p m)
    same = ap (λ z. message_at p z y.message) f.stream ∙ ap (message_at p (place_at p m).stream) f.message

    here : (message_of p y).ordered ≡ true → IsAt p y.stream true m
    here ordered = record { known = lm; stream = sym f.stream; kind = sym (ap (λ z. z.ordered) same) ∙ ordered }

    apart : (o : ℕ) → o < length p.places → (place_at p o).stream ≡ y.stream → (place_at p o).message ≡ y.message
        → (place_at p o).piece ≡ y.piece → ⊥
    apart o l s i k =
        let b = h.before o (place_at p m).piece l (k ∙ f.piece) in
        let c = b.1 in
        let w = c.follows in
        let nx = c.next in
        let lq : b.0 < length p.places = omega arith in
        let pieces : suc (place_at p b.0).piece ≡ suc (place_at p m).piece = sym w.piece ∙ k ∙ f.piece in
        let e : b.0 ≡ m =
        h.one b.0 m lq lm (sym w.stream ∙ s ∙ f.stream) (sym w.message ∙ i ∙ f.message) (omega arith) in
        omega arith

module _ {p : Plan} (y : Place) {current : Option Place} (current' : Option Place) {next : ℕ → ℕ}
    (next' : ℕ → ℕ) {ssn : ℕ → ℕ} (ssn' : ℕ → ℕ) {begun : ℕ → ℕ → Bool} (begun' : ℕ → ℕ → Bool)
    {gone : ℕ → ℕ → Bool} {over : ℕ → Bool} (h : IsPlanned p over)
    (g : IsSending p current next ssn begun gone over) where
  pub sending_placed : ((s : ℕ) → next' s ≤ length (p.accepted s)) → ((s i : ℕ) → begun s i ≡ true → begun' s i ≡ true)
      → begun' y.stream y.message ≡ true → ((s : ℕ) → next s ≤ next' s)
      → ((message_of p y).ordered ≡ true → y.message < next' y.stream)
      → ((s : ℕ) → over s ≡ false → (o : ℕ) → IsAt p s true o → IsEarlier (with_place p y) s (next' s) (ssn' s)
      (place_at p o) o)
      → (over y.stream ≡ false → (message_of p y).ordered ≡ true → IsEarlier (with_place p y) y.stream (next' y.stream)
      (ssn' y.stream) y (length p.places))
      → ((z : Place) → current' ≡ Some z → IsGoing (with_place p y) gone z)
      → (current' ≡ None → (is_last p y ≡ true) ⊎ (y.marker ≡ true))
      → IsSending (with_place p y) current' next' ssn' begun' gone over
  sending_placed within more this on numbered earlier
      mine going closed = record {
        within = within;
        counted = λ o l. ⊎_elim
            (λ (a : o < length p.places).
            subst (λ z. begun' z.stream z.message ≡ true) (sym (old o a)) (more _ _ (g.counted o a)))
            (λ (b : length p.places ≡ o). subst (λ z. begun' z.stream z.message ≡ true) (sym (new o b)) this)
            (placed_cases p y o l);
        numbers = λ s o a. ⊎_elim
            (λ (l : o < length p.places). subst (λ z. z.message < next' s) (sym (old o l))
            (let b = g.numbers s o (at_before p q e s o true l a) in let c = on s in omega arith))
            (λ (b : length p.places ≡ o).
            let sy : y.stream ≡ s = sym (ap (λ z. z.stream) (new o b)) ∙ a.stream in
            let ky : (message_of p y).ordered ≡ true = sym (ap (λ z. (message_of p z).ordered) (new o b)) ∙ a.kind in
            subst (λ z. z.message < next' s) (sym (new o b)) (subst (λ z. y.message < next' z) sy (numbered ky)))
            (placed_cases p y o a.known);
        earlier = λ s v o a. ⊎_elim
            (λ (l : o < length p.places). subst (λ z. IsEarlier q s (next' s) (ssn' s) z o) (sym (old o l))
            (earlier s v o (at_before p q e s o true l a)))
            (λ (b : length p.places ≡ o).
            let sy : y.stream ≡ s = sym (ap (λ z. z.stream) (new o b)) ∙ a.stream in
            let ky : (message_of p y).ordered ≡ true = sym (ap (λ z. (message_of p z).ordered) (new o b)) ∙ a.kind in
            subst (λ z. IsEarlier q s (next' s) (ssn' s) z o) (sym (new o b))
            (subst (λ z. IsEarlier q s (next' s) (ssn' s) y z) b
            (subst (λ z. IsEarlier q z (next' z) (ssn' z) y (length p.places)) sy
            (mine (subst (λ z. over z ≡ false) (sym sy) v) ky))))
            (placed_cases p y o a.known);
        going = going;
        closed = λ none o l.
            let c : length p.places ≡ o = (let d = length_placed p y in omega arith) in
            ⊎_elim
            (λ (a : is_last p y ≡ true). inl (subst (λ z. is_last p z ≡ true) (sym (new o c)) a))
            (λ (a : y.marker ≡ true). inr (ap (λ z. z.marker) (new o c) ∙ a))
            (closed none);
        given_up = g.given_up;
      }
    where
      q : Plan
      q = with_place p y

      e : IsExtended p q
      e = place_extended p y h.known

      old : (o : ℕ) → o < length p.places → place_at q o ≡ place_at p o
      old o l = e.places o l

      new : (o : ℕ) → length p.places ≡ o → place_at q o ≡ y
      new o c = place_new p y o c
