-- DATA that is taken in, and a FORWARD TSN that is taken, keep what holds of the streams.
use Rattle.std.proofs.Common.{ℕ, ◌%◌, ◌<◌, ◌≤◌, ◌≡◌, ◌⊎◌, Bool, true, false, eqb, ◌||◌, List, ◌∷◌, drop, Option, Some}
use Rattle.std.proofs.Common.{refl, sym, ap, ◌∙◌, subst, inl, inr, ⊎_elim, arith}
use Rattle.std.specs.List.{AllByRecursion}
use Rattle.std.proofs.lemmas.Bool.{cases_Bool, cases_lt, or_cases, or_left, or_right, eqb-true, eq-eqb, le-ltb}
use Rattle.std.proofs.lemmas.Bool.{true≢false, cond-true, cond-false}
use Rattle.sctp_model.specs.Messages.{Place, Plan, IsAt, count_ordered, place_at, message_at, message_of}
use Rattle.sctp_model.specs.Packets.{Data, mem, data_at}
use Rattle.sctp_serial.specs.Serial.{ssn_lt}
use Rattle.sctp_model.specs.Reassembly.{Queue, Got, at, push_ordered}
use Rattle.sctp_model.specs.Safe.{IsTaken, IsWhole, is_ordered, number_of, read_end, read_ssn, unread}
use Rattle.sctp_model.specs.Invariants.{IsPlanned, IsPiece, IsHeld, IsOrdered, IsGot, IsStream}
use Rattle.sctp_model.proofs.Lists.{all_weaker}
use Rattle.sctp_model.proofs.NumberWindows.{before_is}
use Rattle.sctp_model.proofs.NextOrdered.{window}
use Rattle.sctp_model.proofs.OrderedHalves.{ordered_kept}

-- taken in before, or just now
pub mem_new : (x o : ℕ) (taken : List ℕ) → mem o (x ∷ taken) ≡ true → (x ≡ o) ⊎ (mem o taken ≡ true)
mem_new x o taken m =
    ⊎_elim (λ (e : eqb x o ≡ true). inl (eqb-true x o e)) (λ (r : mem o taken ≡ true). inr r) (or_cases _ _ m)

pub mem_old : (x o : ℕ) (taken : List ℕ) → mem o taken ≡ true → mem o (x ∷ taken) ≡ true
mem_old x o taken m = or_right _ _ m

taken_more : (p : Plan) (taken : List ℕ) (x s i k : ℕ) → IsTaken p taken s i k → IsTaken p (x ∷ taken) s i k
taken_more p taken x s i k t = record {
  offset = t.offset;
  known = t.known;
  stream = t.stream;
  message = t.message;
  piece = t.piece;
  sent = t.sent;
  taken_in = mem_old x t.offset taken t.taken_in;
}

whole_more : (p : Plan) (taken : List ℕ) (x s i : ℕ) → IsWhole p taken s i → IsWhole p (x ∷ taken) s i
whole_more p taken x s i w = record { accepted = w.accepted; pieces = λ k l. taken_more p taken x s i k (w.pieces k l) }

pub got_more : (p : Plan) (taken : List ℕ) (x s : ℕ) (g : Got) → IsGot p taken s g → IsGot p (x ∷ taken) s g
got_more p taken x s g h = let t = h.tells in record {
  known = h.known;
  stream = h.stream;
  tells = record {
    payload_type = t.payload_type;
    bytes = t.bytes;
    ordered = t.ordered;
    whole = whole_more p taken x s (number_of p g) t.whole;
  };
}

pub held_more : (p : Plan) (taken : List ℕ) (x s low : ℕ) (k : Bool) (d : Data) → IsHeld p taken s k low d
    → IsHeld p (x ∷ taken) s k low d
held_more p taken x s low k d h =
    record { is = h.is; at = h.at; sent = h.sent; taken_in = mem_old x d.offset taken h.taken_in; above = h.above }

-- a message of which x isn't a piece was whole before
pub whole_less : (p : Plan) (taken : List ℕ) (x s i : ℕ)
    → ((k : ℕ) → (t : IsTaken p (x ∷ taken) s i k) → x ≡ t.offset → ⊥)
    → IsWhole p (x ∷ taken) s i → IsWhole p taken s i
whole_less p taken x s i apart w = record {
  accepted = w.accepted;
  pieces = λ k l.
      let t = w.pieces k l in
      record {
        offset = t.offset;
        known = t.known;
        stream = t.stream;
        message = t.message;
        piece = t.piece;
        sent = t.sent;
        taken_in =
            ⊎_elim (λ (e : x ≡ t.offset). absurd (apart k t e)) (λ (m : mem t.offset taken ≡ true). m)
            (mem_new x t.offset taken t.taken_in);
      };
}

module _ (p : Plan) (gone : ℕ → ℕ → Bool) (current : Option Place) (next ssn : ℕ) (taken : List ℕ)
    (passed skipped s : ℕ) where
  -- what holds of its ordered half where these offsets were taken in
  abbrev IsOrderedOf : List ℕ → ℕ → ℕ → Queue → List Got → Type 0
  IsOrderedOf came = IsOrdered p gone current next ssn came passed skipped s

  -- what holds of the stream where these offsets were taken in
  abbrev IsStreamOf : List ℕ → Queue → List Got → Type 0
  IsStreamOf came = IsStream p gone current next ssn came passed skipped s

  -- The ordered half, with an offset x that isn't one of an ordered message of this stream.
  pub ordered_aside : {x : ℕ} (low end : ℕ) (q q' : Queue) (reads : List Got) → q'.cursor ≡ q.cursor
      → q'.ordered ≡ q.ordered → (IsAt p s true x → ⊥)
      → IsOrderedOf taken low end q reads
      → IsOrderedOf (x ∷ taken) low end q' reads
  ordered_aside {x = x} low end q q' reads c o apart h =
      ordered_kept c
      (subst (AllByRecursion (IsHeld p (x ∷ taken) s true low)) (sym o)
      (all_weaker _ _ _ (λ d. held_more p taken x s low true d) h.held))
      (λ y m. mem_old x y taken m) (omega arith)
      (λ y a m f. subst (λ z. at y z ≡ Some (data_at p y)) (sym o) (f
      (⊎_elim (λ (e : x ≡ y). absurd (apart (subst (IsAt p s true) (sym e) a))) (λ (b : mem y taken ≡ true). b)
      (mem_new x y taken m))))
      (λ i m. m) (λ kept. refl) h

  -- DATA of another stream
  pub stream_aside : (x : ℕ) (q : Queue) (reads : List Got) → ((place_at p x).stream ≡ s → ⊥)
      → IsStreamOf taken q reads
      → IsStreamOf (x ∷ taken) q reads
  stream_aside x q reads apart w = record {
    got = all_weaker _ _ _ (λ g. got_more p taken x s g) w.got;
    once = w.once;
    rising = w.rising;
    below = w.below;
    complete = w.complete;
    ordered =
        ordered_aside (read_ssn p 0 reads) (read_end p 0 reads) q q reads refl refl (λ a. apart a.stream) w.ordered;
    unordered =
        let u = w.unordered in
        record {
          held = all_weaker _ _ _ (λ d. held_more p taken x s 0 false d) u.held;
          fresh = u.fresh;
          all =
              λ none i v k. u.all none i
              (whole_less p taken x s i (λ j t e. apart (ap (λ z. (place_at p z).stream) e ∙ t.stream)) v) k;
          kept = λ none o a m. u.kept none o a (⊎_elim
              (λ (e : x ≡ o). absurd (apart (ap (λ z. (place_at p z).stream) e ∙ a.stream)))
              (λ (b : mem o taken ≡ true). b)
              (mem_new x o taken m));
        };
  }

module _ (p : Plan) (gone : ℕ → ℕ → Bool) (current : Option Place) (next ssn : ℕ) (taken : List ℕ)
    (passed skipped s : ℕ) {over : ℕ → Bool} (d : Data) (hp : IsPlanned p over) (piece : IsPiece p d)
    (a : IsAt p s true d.offset) (new : mem d.offset taken ≡ false) (far : passed ≤ d.offset) where
  -- what holds of its ordered half where these offsets were taken in
  abbrev IsOrderedWith : List ℕ → ℕ → ℕ → Queue → List Got → Type 0
  IsOrderedWith came = IsOrdered p gone current next ssn came passed skipped s

  -- what holds of the stream where these offsets were taken in
  abbrev IsStreamWith : List ℕ → Queue → List Got → Type 0
  IsStreamWith came = IsStream p gone current next ssn came passed skipped s

  -- an ordered piece: it isn't behind the cursor, so it is kept
  ordered_pushed : (low end : ℕ) (q : Queue) (reads : List Got) → count_ordered (drop end (p.accepted s)) < 32768
      → IsOrderedWith taken low end q reads
      → (push_ordered q d ≡ record q { ordered = d ∷ q.ordered })
      × IsOrderedWith (d.offset ∷ taken) low end
      (record q { ordered = d ∷ q.ordered }) reads
  ordered_pushed low end q reads near h = (
    cond-false (ssn_lt d.ssn q.cursor) q (record q { ordered = d ∷ q.ordered }) test,
    ordered_kept refl (
      record {
        is = piece.is;
        at = a;
        sent = piece.sent;
        taken_in = or_left _ _ (eq-eqb d.offset d.offset refl);
        above = let b = ahead in let c = h.above in omega arith;
      },
      all_weaker _ _ _ (λ e. held_more p taken d.offset s low true e) h.held,
    )
        (λ y m. mem_old d.offset y taken m) (omega arith)
        (λ y b m f. ⊎_elim
        (λ (e : eqb d.offset y ≡ true). cond-true (eqb d.offset y) (Some d) (at y q.ordered) e
        ∙ ap Some (piece.is ∙ ap (data_at p) (eqb-true _ _ e)))
        (λ (e : eqb d.offset y ≡ false). cond-false (eqb d.offset y) (Some d) (at y q.ordered) e
        ∙ f (sym (ap (λ z. z || mem y taken) e) ∙ m))
        (cases_Bool (eqb d.offset y)))
        (λ i m. m) (λ kept. refl) h,
  )
    where
      ahead : h.cursor ≤ (place_at p d.offset).ssn
      ahead = ⊎_elim
          (λ (l : (place_at p d.offset).ssn < h.cursor). absurd (⊎_elim
          (λ (m : mem d.offset taken ≡ true). true≢false (sym m ∙ new))
          (λ (b : d.offset < passed). omega arith)
          (h.past d.offset a l)))
          (λ (g : h.cursor ≤ (place_at p d.offset).ssn). g)
          (cases_lt (place_at p d.offset).ssn h.cursor)

      test : ssn_lt d.ssn q.cursor ≡ false
      test =
          let b = ahead in
          let c = h.above in
          let n = window low end hp d.offset a (h.link d.offset a (omega arith)) near in
          ap (λ z. ssn_lt z q.cursor) (ap (λ z. z.ssn) piece.is)
          ∙ ap (ssn_lt ((place_at p d.offset).ssn % 65536)) h.is
          ∙ before_is (place_at p d.offset).ssn h.cursor (omega arith) (omega arith) ∙ le-ltb _ _ b

  pub stream_pushed : (q : Queue) (reads : List Got) → unread p s reads < 32768
      → IsStreamWith taken q reads
      → IsStreamWith (d.offset ∷ taken) (push_ordered q d) reads
  stream_pushed q reads near w =
      let b =
      ordered_pushed (read_ssn p 0 reads) (read_end p 0 reads) q reads near w.ordered in
      let u = w.unordered in
      subst (λ z. IsStreamWith (d.offset ∷ taken) z reads) (sym b.0) record {
        got = all_weaker _ _ _ (λ g. got_more p taken d.offset s g) w.got;
        once = w.once;
        rising = w.rising;
        below = w.below;
        complete = w.complete;
        ordered = b.1;
        unordered = record {
          held = all_weaker _ _ _ (λ e. held_more p taken d.offset s 0 false e) u.held;
          fresh = u.fresh;
          all = λ none i v k. u.all none i (whole_less p taken d.offset s i
              (λ j t e. true≢false (sym a.kind ∙ ap (λ z. (message_of p (place_at p z)).ordered) e
              ∙ ap (λ z. (message_at p z (place_at p t.offset).message).ordered) t.stream
              ∙ ap (is_ordered p s) t.message ∙ k)) v) k;
          kept = λ none o c m. u.kept none o c (⊎_elim
              (λ (e : d.offset ≡ o).
              absurd (true≢false (sym a.kind ∙ ap (λ z. (message_of p (place_at p z)).ordered) e ∙ c.kind)))
              (λ (l : mem o taken ≡ true). l)
              (mem_new d.offset o taken m));
        };
      }
