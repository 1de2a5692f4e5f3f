-- What the sender does keeps the invariant.
use Rattle.std.proofs.Common.{ℕ, suc, ◌+◌, ◌*◌, ◌<◌, ◌≤◌, ◌≡◌, ◌⊎◌, Bool, true, false, not, cond, eqb, ◌||◌, ◌&&◌, List}
use Rattle.std.proofs.Common.{[], ◌∷◌, ◌++◌, length, get_or, Option, Some, refl, sym, ap, ◌∙◌, subst, inl, inr, ⊎_elim}
use Rattle.std.proofs.Common.{arith}
use Rattle.std.specs.List.{AllByRecursion}
use Rattle.std.proofs.lemmas.List.{length_push, get_or_push}
use Rattle.std.proofs.lemmas.Bool.{cases_Bool, cases_lt, cases_eq, and_parts, or_cases, eqb-true, eq-eqb, ne_eqb}
use Rattle.std.proofs.lemmas.Bool.{ltb-true, true≢false, false_from_ne_true, cond-false, not-true}
use Rattle.sctp_model.specs.Messages.{Message, Place, Plan, Policy, IsAt, no_message, as_kept, place_at, message_at}
use Rattle.sctp_model.specs.Messages.{is_last, is_reliable, rank}
use Rattle.sctp_model.specs.Packets.{Data, mem}
use Rattle.sctp_model.specs.Machine.{Direction, put, put_2, live, reach, with_message, written, is_empty, has_message}
use Rattle.sctp_model.specs.Machine.{can_pass_over, passed_over, can_drop, dropped}
use Rattle.sctp_model.specs.Safe.{read_end, read_ssn}
use Rattle.sctp_model.specs.Invariants.{Invariant, IsPlanned, IsEarlier, IsGoing, IsSending, IsAscending, IsPiece}
use Rattle.sctp_model.specs.Invariants.{IsStream, NoneGone, gone_at, released_bytes}
use Rattle.sctp_model.proofs.Lists.{all_weaker}
use Rattle.sctp_model.proofs.OrderedRanks.{rank_no, rank_rises}
use Rattle.sctp_model.proofs.PlansGrow.{IsExtended, at_put, off_put, message_extended, message_kept, last_kept}
use Rattle.sctp_model.proofs.PlansGrow.{at_before, rank_kept, piece_kept, pair_kept}
use Rattle.sctp_model.proofs.AscendingNumbers.{ascending_message}
use Rattle.sctp_model.proofs.StreamsOfGrownPlans.{IsNew, IsCounted, stream_grows, stream_gone}
use Rattle.sctp_model.proofs.ForwardTsns.{forward_grows}
use Rattle.sctp_model.proofs.ReleasedBytes.{bytes_none, released_grown, released_given, released_aside}
use Rattle.sctp_model.proofs.OffsetSets.{reach_below}

abbrev pub StreamOf : Direction → (ℕ → ℕ → Bool) → ℕ → Type 0
StreamOf w gone s =
    IsStream w.sender.plan gone w.sender.current (w.sender.next s) (w.sender.ssn s) w.receiver.taken w.receiver.passed
    (w.skipped s) s (live (w.receiver.queues s)) (w.reads s)

-- an offset that isn't assigned isn't acknowledged
unknown_past : (w : Direction) → Invariant w → (o : ℕ) → length w.sender.plan.places ≤ o
    → w.sender.acknowledged o ≡ false
unknown_past w h o l = false_from_ne_true _ (λ (a : w.sender.acknowledged o ≡ true). ⊎_elim
    (λ (m : mem o w.receiver.taken ≡ true). let t = (h.taken o m).0 in omega arith)
    (λ (b : o < w.receiver.passed). let t = h.passed in omega arith)
    (h.acknowledged o a))

-- more is accepted or gets an offset, and nothing more is released
pub freed_same : (w : Direction) (r : Plan) → Invariant w → IsExtended w.sender.plan r → (s : ℕ)
    → w.sender.released s ≡ released_bytes r w.sender.acknowledged w.sender.gone s
freed_same w r h e s =
    h.released s
    ∙ sym (released_grown w.sender.plan r e w.sender.acknowledged w.sender.gone s (unknown_past w h)
    (λ i g. (h.sending.given_up s i g).0))

-- message i of stream s is given up, and n bytes of the stream are released then
pub freed_now : (w : Direction) (r : Plan) (s i n : ℕ) → Invariant w → IsExtended w.sender.plan r
    → n ≡ released_bytes r w.sender.acknowledged (put_2 w.sender.gone s i) s
    → (t : ℕ) → put w.sender.released s n t ≡ released_bytes r w.sender.acknowledged (put_2 w.sender.gone s i) t
freed_now w r s i n h e is t = ⊎_elim
    (λ (a : t ≡ s). at_put w.sender.released s t n a ∙ is
    ∙ ap (released_bytes r w.sender.acknowledged (put_2 w.sender.gone s i)) (sym a))
    (λ (ne : t ≡ s → ⊥). off_put w.sender.released s t n ne ∙ freed_same w r h e t
    ∙ sym (released_aside r w.sender.acknowledged w.sender.gone s i t ne))
    (cases_eq t s)

module _ (w : Direction) (r : Plan) (c : Option Place) (nx sn : ℕ → ℕ) (bg gone' : ℕ → ℕ → Bool) (rl : ℕ → ℕ)
    (ds : List Data) (h : Invariant w) (e : IsExtended w.sender.plan r)
    (more : (t i : ℕ) → w.sender.gone t i ≡ true → gone' t i ≡ true) (planned : IsPlanned r w.over) where
  pub grow_keeps : IsSending r c nx sn bg gone' w.over → IsAscending r c sn w.sender.reach
      → AllByRecursion (IsPiece r) ds
      → ((o : ℕ) → o < length r.places → (place_at r o).marker ≡ true → gone_at r gone' o ≡ true)
      → ((s : ℕ) → w.over s ≡ false → (o : ℕ) → length w.sender.plan.places ≤ o → IsAt r s true o → (x : ℕ) → IsAt
      w.sender.plan s true x → gone_at w.sender.plan w.sender.gone x
      ≡ true → (place_at w.sender.plan x).ssn < (place_at r o).ssn)
      → ((s : ℕ) → rl s ≡ released_bytes r w.sender.acknowledged gone' s)
      → ((s : ℕ) → w.over s ≡ false → (st : StreamOf w gone' s) → (o : ℕ) → length w.sender.plan.places ≤ o → IsAt r s
      true o → IsNew r gone' s (st.ordered).cursor (read_ssn w.sender.plan 0 (w.reads s))
      (read_end w.sender.plan 0 (w.reads s)) o)
      → ((s : ℕ) → w.over s ≡ false → (st : StreamOf w gone' s) → IsCounted r gone' c (nx s) (sn s) s
      (st.ordered).cursor (read_ssn w.sender.plan 0 (w.reads s)) (read_end w.sender.plan 0 (w.reads s)))
      → Invariant
      (record w {
        sender = record w.sender {
          plan = r;
          current = c;
          next = nx;
          ssn = sn;
          begun = bg;
          gone = gone';
          released = rl;
        };
        datas = ds;
      })
  grow_keeps sending ascending datas tails later freed new counts = record {
    planned = planned;
    sending = sending;
    ascending = ascending;
    datas = datas;
    taken = λ o m.
        let t = h.taken o m in
        (let a = t.0 in let b = e.more in omega arith, ap (λ z. z.marker) (e.places o t.0) ∙ t.1);
    accounted = λ o l. ⊎_elim
        (λ (m : mem o w.receiver.taken ≡ true). inl m)
        (λ (g : gone_at w.sender.plan w.sender.gone o ≡ true). inr (gone_kept o l g))
        (h.accounted o l);
    passed = let a = h.passed in let b = e.more in omega arith;
    tails = tails;
    sacks = h.sacks;
    acknowledged = h.acknowledged;
    cumulative = h.cumulative;
    behind = h.behind;
    forwards =
        all_weaker _ _ _ (λ f. forward_grows w.sender.plan r w.sender.gone gone' w.over w.sender.acknowledged
        w.sender.reach f e more later) h.forwards;
    released = freed;
    streams = λ s v.
        let st =
        stream_gone w.sender.plan w.sender.gone gone' w.sender.current (w.sender.next s)
        (w.sender.ssn s) w.receiver.taken
        w.receiver.passed (w.skipped s) s (live (w.receiver.queues s)) (w.reads s) more (h.streams s v) in
        stream_grows w.sender.plan r gone' w.sender.current c (w.sender.next s) (nx s) (w.sender.ssn s) (sn s)
        w.receiver.taken w.receiver.passed (w.skipped s) s
        (live (w.receiver.queues s)) (w.reads s) e (λ o m. (h.taken o m).0) planned.filled (h.sending.within s) st
        (new s v st) (counts s v st);
  }
    where
      gone_kept : (o : ℕ) → o < reach w.receiver → gone_at w.sender.plan w.sender.gone o ≡ true
          → gone_at r gone' o ≡ true
      gone_kept o l g = ⊎_elim
          (λ (a : o < length w.sender.plan.places).
          subst (λ z. gone' z.stream z.message ≡ true) (sym (e.places o a)) (more _ _ g))
          (λ (a : length w.sender.plan.places ≤ o). absurd (⊎_elim
          (λ (m : mem o w.receiver.taken ≡ true). let t = (h.taken o m).0 in omega arith)
          (λ (b : o < w.receiver.passed). let t = h.passed in omega arith)
          (reach_below w.receiver o l)))
          (cases_lt o (length w.sender.plan.places))

pub same_plan : (p : Plan)
    → ((o : ℕ) → o < length p.places → (place_at p o).message < length (p.accepted (place_at p o).stream))
    → IsExtended p p
same_plan p known = record {
  size = refl;
  more = omega arith;
  places = λ o l. refl;
  known = known;
  longer = λ s. omega arith;
  messages = λ s i l. refl;
  fronts = λ s i l. refl;
}

pub no_new : {P : Type 0} (p r : Plan) (s o : ℕ) → length r.places ≡ length p.places → length p.places ≤ o
    → IsAt r s true o → P
no_new p r s o e l a = absurd (let k = a.known in omega arith)

-- A write

kept_bytes : (m : Message) → (as_kept m).bytes ≡ m.bytes
kept_bytes m = split (eqb m.payload_type 50)
  where
    split : (b : Bool) → (cond b (record m { ordered = true; policy = Policy.Reliable }) m).bytes ≡ m.bytes
    split true = refl
    split false = refl

planned_message : (p : Plan) (over : ℕ → Bool) (s : ℕ) (m : Message) → 0 < length m.bytes → IsPlanned p over
    → IsPlanned (with_message p s m) over
planned_message p over s m filled h = record {
  size = h.size;
  filled = λ t i l. ⊎_elim
      (λ (a : i < length (p.accepted t)). subst (λ z. 0 < length z.bytes) (sym (e.messages t i a)) (h.filled t i a))
      (λ (a : length (p.accepted t) ≤ i). ⊎_elim
      (λ (same : t ≡ s).
      let list = at_put p.accepted s t (p.accepted s ++ m ∷ []) same in
      let l' : i < length (p.accepted s ++ m ∷ []) = subst (λ z. i < length z) list l in
      let n = length_push (p.accepted s) m in
      let a' : length (p.accepted s) ≤ i = subst (λ z. length (p.accepted z) ≤ i) same a in
      subst (λ z. 0 < length (get_or z i no_message).bytes) (sym list)
      (subst (λ z. 0 < length z.bytes) (sym (get_or_push (p.accepted s) m no_message i (omega arith))) filled))
      (λ (other : t ≡ s → ⊥). absurd (let l' : i < length (p.accepted t) =
      subst (λ z. i < length z) (off_put p.accepted s t (p.accepted s ++ m ∷ []) other) l in omega arith))
      (cases_eq t s))
      (cases_lt i (length (p.accepted t)));
  known = λ o l. let a = h.known o l in let b = e.longer (place_at p o).stream in omega arith;
  piece =
      λ o l. subst (λ z. p.size * (place_at p o).piece < length z.bytes) (sym (message_kept p q e o l)) (h.piece o l);
  one = h.one;
  after = λ o l a b. h.after o l (sym (last_kept p q e o (omega arith)) ∙ a) b;
  before = λ o k l x. let b = h.before o k l x in
      let c = b.1 in
      (b.0, record { next = c.next; follows = c.follows; sent = c.sent });
  rises = λ t o r l a b.
      let before = at_before p q e t in
      h.rises t o r l (before o true a.known a) (before r true b.known b);
  pairs = λ t v o r l a b.
      let a' = at_before p q e t o true a.known a in
      let b' = at_before p q e t r true b.known b in
      let ko = subst (λ z. (place_at p o).message < length (p.accepted z)) a'.stream (h.known o a.known) in
      let kr = subst (λ z. (place_at p r).message < length (p.accepted z)) b'.stream (h.known r b.known) in
      pair_kept e (omega (arith, ko)) (omega (arith, kr))
      (h.pairs t v o r l a' b');
}
  where
    q : Plan
    q = with_message p s m

    e : IsExtended p q
    e = message_extended p s m h.known

module _ {p : Plan} {current : Option Place} {next ssn : ℕ → ℕ} {begun gone : ℕ → ℕ → Bool} {over : ℕ → Bool}
    (s : ℕ) (m : Message) (h : IsPlanned p over) (g : IsSending p current next ssn begun gone over) where
  sending_message : IsSending (with_message p s m) current next ssn begun gone over
  sending_message = record {
    within = λ t. let a = g.within t in let b = e.longer t in omega arith;
    counted = g.counted;
    numbers = λ t o a. g.numbers t o (at_before p q e t o true a.known a);
    earlier = λ t v o a.
        let a' = at_before p q e t o true a.known a in
        let ko = subst (λ z. (place_at p o).message < length (p.accepted z)) a'.stream (h.known o a.known) in
        let x = g.earlier t v o a' in
        record {
          below = x.below;
          near = x.near;
          rank =
              let b = x.rank in
              let c = rank_kept p q e t (place_at p o).message (omega (arith, ko)) in
              let d = rank_kept p q e t (next t) (g.within t) in omega arith;
        };
    going = λ y c.
        let x = g.going y c in
        let i = x.is in
        record {
          last = x.last;
          is = x.is;
          follows = x.follows;
          sent = x.sent;
          more = last_kept p q e x.last (omega arith) ∙ x.more;
          stays = x.stays;
          plain = x.plain;
        };
    closed = λ c o l. ⊎_elim
        (λ (a : is_last p (place_at p o) ≡ true). inl (last_kept p q e o (omega arith) ∙ a))
        (λ (a : (place_at p o).marker ≡ true). inr a)
        (g.closed c o l);
    given_up = λ t i a.
        let x = g.given_up t i a in (
          let b = x.0 in let c = e.longer t in omega arith,
          subst (λ z. is_reliable z.policy ≡ false) (sym (e.messages t i x.0)) x.1,
        );
  }
    where
      q : Plan
      q = with_message p s m

      e : IsExtended p q
      e = message_extended p s m h.known

-- the message going on was accepted
going_known : (p : Plan) (over : ℕ → Bool) (gone : ℕ → ℕ → Bool) (y : Place) → IsPlanned p over → IsGoing p gone y
    → y.message < length (p.accepted y.stream)
going_known p over gone y h g =
    let f = g.follows in
    let i = g.is in
    subst (λ z. z < length (p.accepted y.stream)) (sym f.message)
    (subst (λ z. (place_at p g.last).message < length (p.accepted z)) (sym f.stream) (h.known g.last (omega arith)))

pub keeps_write : (w : Direction) (s : ℕ) (m : Message) → is_empty m ≡ false → Invariant w
    → Invariant (record w { sender = written w.sender s (as_kept m) })
keeps_write w s m full h =
    grow_keeps w q w.sender.current w.sender.next w.sender.ssn w.sender.begun w.sender.gone
    w.sender.released w.datas h e
    (λ t i g. g)
    (planned_message p w.over s (as_kept m) (subst (λ z. 0 < length z) (sym (kept_bytes m)) (omega (arith, apart)))
    h.planned)
    (sending_message s (as_kept m)
    h.planned h.sending)
    (ascending_message p s (as_kept m) w.sender.current w.sender.ssn w.sender.reach h.planned.known
    (λ y c. going_known p w.over w.sender.gone y h.planned (h.sending.going y c)) h.ascending)
    (all_weaker _ _ _ (λ d. piece_kept p q e d) h.datas)
    h.tails
    (λ t v o. no_new p q t o refl)
    (freed_same w q h e)
    (λ t v st o. no_new p q t o refl)
    (λ t v st.
    let o = st.ordered in
    let n = h.sending.within t in
    let b = o.until in
    let r1 = rank_kept p q e t (read_end p 0 (w.reads t)) (omega arith) in
    let r2 = rank_kept p q e t (w.sender.next t) n in
    record {
      going =
          λ y c st' k.
          o.going y c st'
          (sym
          (ap (λ z. z.ordered) (e.messages y.stream y.message
          (going_known p w.over w.sender.gone y h.planned (h.sending.going y c)))) ∙ k);
      begun = o.begun;
      until = o.until;
      gap = let g = o.gap in omega arith;
      level = λ none. (o.full none).level_next ∙ sym r2;
    })
  where
    p : Plan
    p = w.sender.plan

    q : Plan
    q = with_message w.sender.plan s (as_kept m)

    e : IsExtended w.sender.plan (with_message w.sender.plan s (as_kept m))
    e = message_extended w.sender.plan s (as_kept m) h.planned.known

    apart : length m.bytes ≡ 0 → ⊥
    apart z = true≢false (sym (eq-eqb (length m.bytes) 0 z) ∙ full)

-- The next ordered message is looked for one number further.

pub keeps_pass_over : (w : Direction) (s : ℕ) → can_pass_over w.sender s ≡ true → Invariant w
    → Invariant (record w { sender = passed_over w.sender s })
keeps_pass_over w s can h =
    grow_keeps w p w.sender.current (put w.sender.next s (suc (w.sender.next s))) w.sender.ssn w.sender.begun
    w.sender.gone w.sender.released w.datas h
    (same_plan p h.planned.known)
    (λ t i g. g)
    h.planned
    (record {
      within =
          λ t. put_cases t (λ z. z ≤ length (p.accepted t)) (λ e. let k = known in let u =
          ap (λ z. length (p.accepted z)) e in omega arith) (λ ne. h.sending.within t);
      counted = h.sending.counted;
      numbers = λ t o a. put_cases t (λ z. (place_at p o).message < z)
          (λ e. let b = h.sending.numbers t o a in let u = ap w.sender.next e in omega arith)
          (λ ne. h.sending.numbers t o a);
      earlier = λ t v o a.
          let x = h.sending.earlier t v o a in
          put_cases t (λ z. IsEarlier p t z (w.sender.ssn t) (place_at p o) o)
          (λ e. record {
            below = x.below;
            near = x.near;
            rank = let b = x.rank in
                let u : w.sender.next t ≤ suc (w.sender.next s) = (let v' = ap w.sender.next e in omega arith) in
                let r1 = rank_rises (p.accepted t) (w.sender.next t) (suc (w.sender.next s)) u in
                omega arith;
          })
          (λ ne. x);
      going = h.sending.going;
      closed = h.sending.closed;
      given_up = h.sending.given_up;
    })
    h.ascending
    h.datas
    h.tails
    (λ t v o. no_new p p t o refl)
    h.released
    (λ t v st o. no_new p p t o refl)
    (λ t v st.
    let o = st.ordered in
    record {
      going = o.going;
      begun = o.begun;
      until =
          put_cases t (λ z. read_end p 0 (w.reads t) ≤ z)
          (λ e. let b = o.until in let u = ap w.sender.next e in omega arith) (λ ne. o.until);
      gap =
          put_cases t (λ z. w.sender.ssn t + rank (p.accepted t) (read_end p 0 (w.reads t))
          ≤ read_ssn p 0 (w.reads t) + rank (p.accepted t) z)
          (λ e. let b = o.gap in
          let u : w.sender.next t ≤ suc (w.sender.next s) = (let v' = ap w.sender.next e in omega arith) in
          let r1 = rank_rises (p.accepted t) (w.sender.next t) (suc (w.sender.next s)) u in
          omega arith)
          (λ ne. o.gap);
      level = λ none. put_cases t (λ z. w.sender.ssn t ≡ rank (p.accepted t) z)
          (λ e. (o.full none).level_next ∙ ap (rank (p.accepted t)) (ap w.sender.next e)
          ∙ sym (rank_no (p.accepted t) (w.sender.next s) (unordered t e none)))
          (λ ne. (o.full none).level_next);
    })
  where
    p : Plan
    p = w.sender.plan

    parts : (has_message p s (w.sender.next s) ≡ true)
        × ((not (message_at p s (w.sender.next s)).ordered || w.sender.gone s (w.sender.next s)) ≡ true)
    parts = and_parts _ _ can

    known : w.sender.next s < length (p.accepted s)
    known = ltb-true _ _ parts.0

    put_cases : (t : ℕ) (P : ℕ → Type 0) → (t ≡ s → P (suc (w.sender.next s))) → ((t ≡ s → ⊥) → P (w.sender.next t))
        → P (put w.sender.next s (suc (w.sender.next s)) t)
    put_cases t P a b = ⊎_elim
        (λ (e : t ≡ s). subst P (sym (at_put w.sender.next s t (suc (w.sender.next s)) e)) (a e))
        (λ (ne : t ≡ s → ⊥). subst P (sym (off_put w.sender.next s t (suc (w.sender.next s)) ne)) (b ne))
        (cases_eq t s)

    unordered : (t : ℕ) → t ≡ s → NoneGone w.sender.gone t → (message_at p t (w.sender.next s)).ordered ≡ false
    unordered t e none = ⊎_elim
        (λ (a : not (message_at p s (w.sender.next s)).ordered ≡ true).
        ap (λ z. (message_at p z (w.sender.next s)).ordered) e ∙ not-true _ a)
        (λ (g : w.sender.gone s (w.sender.next s) ≡ true).
        absurd (true≢false (sym g ∙ ap (λ z. w.sender.gone z (w.sender.next s)) (sym e) ∙ none (w.sender.next s))))
        (or_cases _ _ parts.1)

-- A message is given up: dropped unsent, or abandoned with no unsent tail.

pub gone_more : (gone : ℕ → ℕ → Bool) (s i t j : ℕ) → gone t j ≡ true → put_2 gone s i t j ≡ true
gone_more gone s i t j g = split (eqb t s && eqb j i)
  where
    split : (b : Bool) → cond b true (gone t j) ≡ true
    split true = refl
    split false = g

pub gone_cases : (gone : ℕ → ℕ → Bool) (s i t j : ℕ) → put_2 gone s i t j ≡ true
    → ((t ≡ s) × (j ≡ i)) ⊎ (gone t j ≡ true)
gone_cases gone s i t j g = ⊎_elim
    (λ (b : (eqb t s && eqb j i) ≡ true). let p = and_parts _ _ b in inl (eqb-true _ _ p.0, eqb-true _ _ p.1))
    (λ (b : (eqb t s && eqb j i) ≡ false). inr (sym (cond-false _ true (gone t j) b) ∙ g))
    (cases_Bool (eqb t s && eqb j i))

module _ {p : Plan} {current : Option Place} {next ssn : ℕ → ℕ} {begun gone : ℕ → ℕ → Bool} {over : ℕ → Bool}
    (s i : ℕ) (known : i < length (p.accepted s)) (unreliable : is_reliable (message_at p s i).policy ≡ false)
    (apart : (y : Place) → current ≡ Some y → (y.stream ≡ s) × (y.message ≡ i) → ⊥)
    (g : IsSending p current next ssn begun gone over) where
  pub sending_gone : IsSending p current next ssn begun (put_2 gone s i) over
  sending_gone = record {
    within = g.within;
    counted = g.counted;
    numbers = g.numbers;
    earlier = g.earlier;
    going = λ y c.
        let x = g.going y c in
        record {
          last = x.last;
          is = x.is;
          follows = x.follows;
          sent = x.sent;
          more = x.more;
          stays = false_from_ne_true _ (λ (b : put_2 gone s i y.stream y.message ≡ true). ⊎_elim
              (λ (here : (y.stream ≡ s) × (y.message ≡ i)). apart y c here)
              (λ (there : gone y.stream y.message ≡ true). true≢false (sym there ∙ x.stays))
              (gone_cases gone s i y.stream y.message b));
          plain = x.plain;
        };
    closed = g.closed;
    given_up = λ t j b. ⊎_elim
        (λ (here : (t ≡ s) × (j ≡ i)). (
          subst (λ z. z < length (p.accepted t)) (sym here.1)
              (subst (λ z. i < length (p.accepted z)) (sym here.0) known),
          ap (λ z. is_reliable (message_at p t z).policy) here.1
              ∙ ap (λ z. is_reliable (message_at p z i).policy) here.0
              ∙ unreliable,
        ))
        (λ (there : gone t j ≡ true). g.given_up t j there)
        (gone_cases gone s i t j b);
  }

pub given_keeps : (w : Direction) (s i n : ℕ) → i < length (w.sender.plan.accepted s)
    → is_reliable (message_at w.sender.plan s i).policy ≡ false
    → ((y : Place) → w.sender.current ≡ Some y → (y.stream ≡ s) × (y.message ≡ i) → ⊥)
    → n ≡ released_bytes w.sender.plan w.sender.acknowledged (put_2 w.sender.gone s i) s → Invariant w
    → Invariant
    (record w { sender = record w.sender { gone = put_2 w.sender.gone s i; released = put w.sender.released s n } })
given_keeps w s i n known unreliable apart freed h =
    grow_keeps w p w.sender.current w.sender.next w.sender.ssn w.sender.begun (put_2 w.sender.gone s i)
    (put w.sender.released s n) w.datas h
    (same_plan p h.planned.known)
    (gone_more w.sender.gone s i)
    h.planned
    (sending_gone s i known unreliable
    apart h.sending)
    h.ascending
    h.datas
    (λ o l m. gone_more w.sender.gone s i _ _ (h.tails o l m))
    (λ t v o. no_new p p t o refl)
    (freed_now w p s i n h (same_plan p h.planned.known) freed)
    (λ t v st o. no_new p p t o refl)
    (λ t v st.
    let o = st.ordered in
    record { going = o.going; begun = o.begun; until = o.until; gap = o.gap; level = λ none. (o.full none).level_next })
  where
    p : Plan
    p = w.sender.plan

pub keeps_drop : (w : Direction) (s i : ℕ) → can_drop w.sender s i ≡ true → Invariant w
    → Invariant (record w { sender = dropped w.sender s i })
keeps_drop w s i can h =
    let a = and_parts _ _ can in
    let b = and_parts _ _ a.0 in
    let c = and_parts _ _ b.1 in
    given_keeps w s i (w.sender.released s + length (message_at w.sender.plan s i).bytes) (ltb-true _ _ b.0)
    (not-true _ a.1)
    (λ y e same.
    let x = h.sending.going y e in
    let f = x.follows in
    let k = x.is in
    true≢false (sym (h.sending.counted x.last (omega arith))
    ∙ ap (λ z. w.sender.begun z (place_at w.sender.plan x.last).message) (sym f.stream ∙ same.0)
    ∙ ap (w.sender.begun s) (sym f.message ∙ same.1) ∙ not-true _ c.0))
    (let all =
    released_given w.sender.acknowledged w.sender.gone s i (w.sender.released s) h.planned
    (not-true _ c.1) (ltb-true _ _ b.0) (h.released s) in
    let none =
    bytes_none w.sender.plan (λ o. w.sender.acknowledged o && eqb (place_at w.sender.plan o).message i) s
    (length w.sender.plan.places)
    (λ o l st. off (w.sender.acknowledged o) (ne_eqb _ _ (λ (m : (place_at w.sender.plan o).message ≡ i).
    true≢false (sym (h.sending.counted o l) ∙ ap (λ z. w.sender.begun z (place_at w.sender.plan o).message) st
    ∙ ap (w.sender.begun s) m ∙ not-true _ c.0)))) in
    omega arith)
    h
  where
    off : (a : Bool) {e : Bool} → e ≡ false → (a && e) ≡ false
    off true e = e
    off false e = refl
