-- What comes over the network, and what the receiver does, keeps the invariant.
use Rattle.std.proofs.Common.{ℕ, zero, suc, ◌+◌, ◌<◌, ◌≤◌, ◌≡◌, Bool, true, false, not, cond, eqb, leb, ◌||◌, ◌&&◌}
use Rattle.std.proofs.Common.{List, [], ◌∷◌, ◌++◌, length, drop, Option, Some, None, refl, sym, ap, ◌∙◌, subst, inl}
use Rattle.std.proofs.Common.{inr, ⊎_elim, arith}
use Rattle.std.specs.List.{AllByRecursion}
use Rattle.std.proofs.lemmas.Bool.{cases_Bool, cases_lt, cases_eq, and_parts, or_cases, or_left, or_right, lt-ltb}
use Rattle.std.proofs.lemmas.Bool.{eqb-true, ltb-true, leb-true, true≢false, cond-true, cond-false, not-true}
use Rattle.sctp_model.specs.Messages.{Plan, IsAt, place_at, bytes_at, bytes_below}
use Rattle.sctp_model.specs.Packets.{Data, Sack, Forward, mem, names, data_at}
use Rattle.sctp_model.specs.Reassembly.{Queue, Got, Taken, next, push, push_ordered, push_unordered}
use Rattle.sctp_model.specs.Machine.{Direction, put, live, reach, sack_of, is_new, took, moved, passes, acknowledged_by}
use Rattle.sctp_model.specs.Machine.{gone_front, forward_of, opened, can_resend, none_of, none_goes_on, can_restart}
use Rattle.sctp_model.specs.Safe.{IsWithin}
use Rattle.sctp_model.specs.Invariants.{Invariant, IsPlanned, IsAscending, IsEarlier, IsPiece, IsHonest, IsForward}
use Rattle.sctp_model.specs.Invariants.{IsAccounted, IsStream, gone_at}
use Rattle.sctp_model.proofs.OffsetSets.{reach_from, reach_below, reach_grows, sack_named}
use Rattle.sctp_model.proofs.Lists.{all_weaker, all_push}
use Rattle.sctp_model.proofs.PlansGrow.{at_put, off_put}
use Rattle.sctp_model.proofs.AscendingNumbers.{ascending_later, ascending_restart}
use Rattle.sctp_model.proofs.StreamsTakeData.{stream_aside, stream_pushed}
use Rattle.sctp_model.proofs.UnorderedTaken.{stream_settled}
use Rattle.sctp_model.proofs.StreamsSkip.{stream_forwarded}
use Rattle.sctp_model.proofs.ReadsKeepStreams.{stream_read}
use Rattle.sctp_model.proofs.ForwardTsns.{forward_made, forward_later}

abbrev StreamWith : Direction → (ℕ → ℕ) → List ℕ → ℕ → ℕ → ℕ → Queue → List Got → Type 0
StreamWith w ssn taken passed skipped s q reads =
    IsStream w.sender.plan w.sender.gone w.sender.current (w.sender.next s) (ssn s) taken passed skipped s q reads

-- more packets were given out, and nothing else changed
given_out : (w : Direction) (datas : List Data) (sacks : List Sack) (forwards : List Forward)
    → AllByRecursion (IsPiece w.sender.plan) datas
    → AllByRecursion (IsHonest w.receiver.taken w.receiver.passed (reach w.receiver)) sacks
    → AllByRecursion (IsForward w.sender.plan w.sender.gone w.over w.sender.acknowledged w.sender.reach) forwards
    → Invariant w → Invariant (record w { datas = datas; sacks = sacks; forwards = forwards })
given_out w datas sacks forwards pieces honest ahead h = record {
  planned = h.planned;
  sending = h.sending;
  ascending = h.ascending;
  datas = pieces;
  taken = h.taken;
  accounted = h.accounted;
  passed = h.passed;
  tails = h.tails;
  sacks = honest;
  acknowledged = h.acknowledged;
  cumulative = h.cumulative;
  behind = h.behind;
  forwards = ahead;
  released = h.released;
  streams = h.streams;
}

pub keeps_resend : (w : Direction) (o : ℕ) → can_resend w.sender.plan o ≡ true → Invariant w
    → Invariant (record w { datas = w.datas ++ data_at w.sender.plan o ∷ [] })
keeps_resend w o can h =
    let c = and_parts _ _ can in
    given_out w _ w.sacks w.forwards
    (all_push _ w.datas _ h.datas record { known = ltb-true _ _ c.0; is = refl; sent = not-true _ c.1 })
    h.sacks h.forwards h

pub keeps_sack_made : (w : Direction) → Invariant w
    → Invariant (record w { sacks = w.sacks ++ sack_of w.receiver ∷ [] })
keeps_sack_made w h =
    given_out w w.datas _ w.forwards h.datas
    (all_push _ w.sacks _ h.sacks record {
      reach = omega arith;
      named = λ o n. ⊎_elim
          (λ (l : o < reach w.receiver). reach_below w.receiver o l)
          (λ (m : mem o w.receiver.taken ≡ true). inl m)
          (sack_named w.receiver o n);
    })
    h.forwards h

pub keeps_forward_made : (w : Direction) → length (gone_front w.sender) ≤ 16384 → 0 < length (gone_front w.sender)
    → Invariant w
    → Invariant (record w { forwards = w.forwards ++ forward_of w.sender w.over ∷ [] })
keeps_forward_made w l some h =
    given_out w w.datas w.sacks _ h.datas h.sacks
    (all_push _ w.forwards _ h.forwards
    (forward_made w.sender w.over h.planned h.sending h.ascending h.cumulative l some)) h

-- bytes acknowledged now for the first time
bytes_added : (p : Plan) (gone : ℕ → ℕ → Bool) (acked named : ℕ → Bool) (s n : ℕ)
    → bytes_below p (λ o. acked o && not (gone_at p gone o)) s n
    + bytes_below p (λ o. named o && (not (acked o) && not (gone_at p gone o))) s n
    ≡ bytes_below p (λ o. (acked o || named o) && not (gone_at p gone o)) s n
bytes_added p gone acked named s zero = refl
bytes_added p gone acked named s (suc o) =
    let r = bytes_added p gone acked named s o in
    let one = part (eqb (place_at p o).stream s) (acked o) (named o) (gone_at p gone o) (bytes_at p (place_at p o)) in
    omega arith
  where
    part : (b a n g : Bool) (x : ℕ)
        → cond b (cond (a && not g) x 0) 0 + cond b (cond (n && (not a && not g)) x 0) 0
        ≡ cond b (cond ((a || n) && not g) x 0) 0
    part false a n g x = refl
    part true true true true x = refl
    part true true true false x = omega arith
    part true true false true x = refl
    part true true false false x = omega arith
    part true false true true x = refl
    part true false true false x = omega arith
    part true false false true x = refl
    part true false false false x = refl

pub keeps_sack_comes : (w : Direction) (k : Sack) → w.sender.reach ≤ k.reach
    → IsHonest w.receiver.taken w.receiver.passed (reach w.receiver) k → Invariant w
    → Invariant (record w { sender = acknowledged_by w.sender k })
keeps_sack_comes w k on t h = record {
  planned = h.planned;
  sending = h.sending;
  ascending = ascending_later w.sender.plan w.sender.current w.sender.ssn w.sender.reach k.reach on h.ascending;
  datas = h.datas;
  taken = h.taken;
  accounted = h.accounted;
  passed = h.passed;
  tails = h.tails;
  sacks = h.sacks;
  acknowledged = λ o a. ⊎_elim
      (λ (b : w.sender.acknowledged o ≡ true). h.acknowledged o b)
      (λ (b : names k o ≡ true). t.named o b)
      (or_cases _ _ a);
  cumulative = λ o l. or_right _ _ (or_left _ _ (lt-ltb _ _ l));
  behind = t.reach;
  forwards =
      all_weaker _ _ _ (λ f. forward_later w.sender.plan w.sender.gone w.over w.over w.sender.acknowledged
      (acknowledged_by w.sender k).acknowledged
      w.sender.reach k.reach f (λ o a. or_left _ _ a) on (λ s v. v)) h.forwards;
  released = λ s.
      let a = h.released s in
      let b = bytes_added w.sender.plan w.sender.gone w.sender.acknowledged (names k) s (length w.sender.plan.places) in
      omega arith;
  streams = h.streams;
}

-- DATA is taken in

push_cases : (P : Queue → Type 0) (q : Queue) (d : Data) → (d.ordered ≡ true → P (push_ordered q d))
    → (d.ordered ≡ false → P (push_unordered q d)) → P (push q d)
push_cases P q d a b = ⊎_elim
    (λ (e : d.ordered ≡ true). subst P (sym (cond-true d.ordered (push_ordered q d) (push_unordered q d) e)) (a e))
    (λ (e : d.ordered ≡ false). subst P (sym (cond-false d.ordered (push_ordered q d) (push_unordered q d) e)) (b e))
    (cases_Bool d.ordered)

pub keeps_data_comes : (w : Direction) (d : Data) → IsPiece w.sender.plan d → is_new w.receiver d.offset ≡ true
    → IsWithin w → Invariant w
    → Invariant (record w { receiver = took w.receiver d })
keeps_data_comes w d piece new l h = record {
  planned = h.planned;
  sending = h.sending;
  ascending = h.ascending;
  datas = h.datas;
  taken = λ o m. ⊎_elim
      (λ (e : eqb d.offset o ≡ true). subst (λ z. (z < length p.places) × ((place_at p z).marker ≡ false))
      (eqb-true _ _ e) (piece.known, piece.sent))
      (λ (r : mem o w.receiver.taken ≡ true). h.taken o r)
      (or_cases _ _ m);
  accounted = λ o b. ⊎_elim
      (λ (m : mem o (d.offset ∷ w.receiver.taken) ≡ true). inl m)
      (λ (f : o < w.receiver.passed). ⊎_elim
      (λ (m : mem o w.receiver.taken ≡ true). inl (or_right _ _ m))
      (λ (g : gone_at p w.sender.gone o ≡ true). inr g)
      (h.accounted o (let a = reach_from w.receiver in omega arith)))
      (reach_below (took w.receiver d) o b);
  passed = h.passed;
  tails = h.tails;
  sacks = all_weaker _ _ _ (λ k t. record {
    reach = let a = t.reach in let b = further in omega arith;
    named =
        λ o n. ⊎_elim (λ (m : mem o w.receiver.taken ≡ true). inl (or_right _ _ m))
        (λ (f : o < w.receiver.passed). inr f) (t.named o n);
  }) h.sacks;
  acknowledged =
      λ o a. ⊎_elim (λ (m : mem o w.receiver.taken ≡ true). inl (or_right _ _ m)) (λ (f : o < w.receiver.passed). inr f)
      (h.acknowledged o a);
  cumulative = h.cumulative;
  behind = let a = h.behind in let b = further in omega arith;
  forwards = h.forwards;
  released = h.released;
  streams = λ s v. ⊎_elim
      (λ (e : s ≡ d.stream).
      subst (λ z. StreamWith w w.sender.ssn (d.offset ∷ w.receiver.taken) w.receiver.passed (w.skipped s) s
      (live z) (w.reads s))
      (sym (at_put w.receiver.queues d.stream s (Some (push (live (w.receiver.queues d.stream)) d)) e))
      (subst (λ z. StreamWith w w.sender.ssn (d.offset ∷ w.receiver.taken) w.receiver.passed (w.skipped s) s
      (push (live (w.receiver.queues z)) d) (w.reads s)) e
      (push_cases (λ z. StreamWith w w.sender.ssn (d.offset ∷ w.receiver.taken) w.receiver.passed (w.skipped s) s z
      (w.reads s)) (live (w.receiver.queues s)) d
      (λ k. stream_pushed p w.sender.gone w.sender.current (w.sender.next s) (w.sender.ssn s) w.receiver.taken
      w.receiver.passed (w.skipped s) s d
      h.planned piece (here s true e k) unknown (let a = reach_from w.receiver in omega (arith, past))
      (live (w.receiver.queues s)) (w.reads s) (l.unread s v)
      (h.streams s v))
      (λ k. stream_settled p w.over w.sender.gone w.sender.current (w.sender.next s) (w.sender.ssn s) w.receiver.taken
      w.receiver.passed (w.skipped s) s (live (w.receiver.queues s)) (w.reads s) d
      h.planned piece (here s false e k) unknown (h.streams s v)))))
      (λ (ne : s ≡ d.stream → ⊥).
      subst (λ z. StreamWith w w.sender.ssn (d.offset ∷ w.receiver.taken) w.receiver.passed (w.skipped s) s
      (live z) (w.reads s))
      (sym (off_put w.receiver.queues d.stream s (Some (push (live (w.receiver.queues d.stream)) d)) ne))
      (stream_aside p w.sender.gone w.sender.current (w.sender.next s) (w.sender.ssn s) w.receiver.taken
      w.receiver.passed (w.skipped s) s d.offset (live (w.receiver.queues s)) (w.reads s)
      (λ e. ne (sym e ∙ sym stream)) (h.streams s v)))
      (cases_eq s d.stream);
}
  where
    p : Plan
    p = w.sender.plan

    stream : d.stream ≡ (place_at w.sender.plan d.offset).stream
    stream = ap (λ z. z.stream) piece.is

    parts : (leb (reach w.receiver) d.offset ≡ true) × (not (mem d.offset w.receiver.taken) ≡ true)
    parts = and_parts _ _ new

    past : reach w.receiver ≤ d.offset
    past = leb-true _ _ parts.0

    unknown : mem d.offset w.receiver.taken ≡ false
    unknown = not-true _ parts.1

    further : reach w.receiver ≤ reach (took w.receiver d)
    further = reach_grows w.receiver (took w.receiver d) (λ o m. or_right _ _ m) (omega arith)

    here : (s : ℕ) (k : Bool) → s ≡ d.stream → d.ordered ≡ k → IsAt w.sender.plan s k d.offset
    here s k e o =
        record { known = piece.known; stream = sym stream ∙ sym e; kind = sym (ap (λ z. z.ordered) piece.is) ∙ o }

-- A FORWARD TSN is taken

pub keeps_forward_comes : (w : Direction) (f : Forward)
    → IsForward w.sender.plan w.sender.gone w.over w.sender.acknowledged w.sender.reach f → reach w.receiver < f.reach
    → IsWithin w → Invariant w
    → Invariant (passes w f)
keeps_forward_comes w f t far l h = record {
  planned = h.planned;
  sending = h.sending;
  ascending = h.ascending;
  datas = h.datas;
  taken = h.taken;
  accounted = λ o b. ⊎_elim
      (λ (m : mem o w.receiver.taken ≡ true). inl m)
      (λ (a : o < f.reach). account o a)
      (reach_below (moved w.receiver f) o b);
  passed = t.known;
  tails = h.tails;
  sacks = all_weaker _ _ _ (λ k u. record {
    reach = let a = u.reach in let b = further in omega arith;
    named =
        λ o n. ⊎_elim (λ (m : mem o w.receiver.taken ≡ true). inl m)
        (λ (a : o < w.receiver.passed). inr (let b = reach_from w.receiver in omega arith)) (u.named o n);
  }) h.sacks;
  acknowledged =
      λ o a. ⊎_elim (λ (m : mem o w.receiver.taken ≡ true). inl m)
      (λ (b : o < w.receiver.passed). inr (let c = reach_from w.receiver in omega arith)) (h.acknowledged o a);
  cumulative = h.cumulative;
  behind = let a = h.behind in let b = further in omega arith;
  forwards = h.forwards;
  released = h.released;
  streams =
      λ s v. stream_forwarded h.planned v h.sending t account h.tails
      (let b = reach_from w.receiver in omega arith)
      (let a = l.flight in let b = h.behind in omega arith) (l.unread s v)
      (w.receiver.queues s) (h.streams s v);
}
  where
    account : (o : ℕ) → o < f.reach → IsAccounted w.sender.plan w.sender.gone w.receiver.taken o
    account o l = ⊎_elim
        (λ (a : o < f.start). ⊎_elim
        (λ (m : mem o w.receiver.taken ≡ true). inl m)
        (λ (b : o < w.receiver.passed). h.accounted o (let c = reach_from w.receiver in omega arith))
        (h.acknowledged o (t.acknowledged o a)))
        (λ (a : f.start ≤ o). inr (t.abandoned o a l))
        (cases_lt o f.start)

    further : reach w.receiver ≤ reach (moved w.receiver f)
    further = reach_grows w.receiver (moved w.receiver f) (λ o m. m) (let b = reach_from w.receiver in omega arith)

-- What else may become of the streams

planned_span : (p : Plan) (over over' : ℕ → Bool) → ((s : ℕ) → over' s ≡ false → over s ≡ false) → IsPlanned p over
    → IsPlanned p over'
planned_span p over over' spans h = record {
  size = h.size;
  filled = h.filled;
  known = h.known;
  piece = h.piece;
  one = h.one;
  after = h.after;
  before = h.before;
  rises = h.rises;
  pairs = λ s v. h.pairs s (spans s v);
}

-- a direction with the sequence numbers, the spans, the queues and the reads of another
abbrev with_streams_of : Direction → Direction → Direction
with_streams_of w v = record w {
  sender = record w.sender { ssn = v.sender.ssn };
  receiver = record w.receiver { queues = v.receiver.queues; is_open = v.receiver.is_open };
  reads = v.reads;
  over = v.over;
}

-- Some spans may be over now, and where a span isn't over the next sequence number stays.
keeps_streams : (w v : Direction) → ((s : ℕ) → v.over s ≡ false → w.over s ≡ false)
    → ((s : ℕ) → v.over s ≡ false → v.sender.ssn s ≡ w.sender.ssn s)
    → IsAscending w.sender.plan w.sender.current v.sender.ssn w.sender.reach
    → ((s : ℕ) → v.over s ≡ false
    → StreamWith w w.sender.ssn w.receiver.taken w.receiver.passed (w.skipped s) s (live (v.receiver.queues s))
    (v.reads s))
    → Invariant w → Invariant (with_streams_of w v)
keeps_streams w v spans same ascending streams h = record {
  planned = planned_span w.sender.plan w.over v.over spans h.planned;
  sending =
      let g = h.sending in
      record {
        within = g.within;
        counted = g.counted;
        numbers = g.numbers;
        earlier =
            λ s i o a. subst (λ z. IsEarlier w.sender.plan s (w.sender.next s) z (place_at w.sender.plan o) o)
            (sym (same s i)) (g.earlier s (spans s i) o a);
        going = g.going;
        closed = g.closed;
        given_up = g.given_up;
      };
  ascending = ascending;
  datas = h.datas;
  taken = h.taken;
  accounted = h.accounted;
  passed = h.passed;
  tails = h.tails;
  sacks = h.sacks;
  acknowledged = h.acknowledged;
  cumulative = h.cumulative;
  behind = h.behind;
  forwards =
      all_weaker _ _ _ (λ f. forward_later w.sender.plan w.sender.gone w.over v.over w.sender.acknowledged
      w.sender.acknowledged
      w.sender.reach w.sender.reach f (λ o m. m) (omega arith) spans) h.forwards;
  released = h.released;
  streams =
      λ s i.
      subst (λ z. IsStream w.sender.plan w.sender.gone w.sender.current (w.sender.next s) z w.receiver.taken
      w.receiver.passed (w.skipped s) s (live (v.receiver.queues s)) (v.reads s))
      (sym (same s i)) (streams s i);
}

-- The receiver's application

pub keeps_read : (w : Direction) (s : ℕ) (q : Queue) (t : Taken) → w.receiver.queues s ≡ Some q → next q ≡ Some t
    → IsWithin w → Invariant w
    → Invariant (record w {
      receiver = record w.receiver { queues = put w.receiver.queues s (Some t.rest) };
      reads = put w.reads s (w.reads s ++ t.got ∷ []);
    })
keeps_read w s q t is e l h =
    keeps_streams w
    (record w {
      receiver = record w.receiver { queues = put w.receiver.queues s (Some t.rest) };
      reads = put w.reads s (w.reads s ++ t.got ∷ []);
    })
    (λ r v. v) (λ r v. refl) h.ascending
    (λ r v. ⊎_elim
    (λ (a : r ≡ s).
    subst (λ z. StreamWith w w.sender.ssn w.receiver.taken w.receiver.passed (w.skipped r) r (live z)
    (put w.reads s (w.reads s ++ t.got ∷ []) r)) (sym (at_put w.receiver.queues s r (Some t.rest) a))
    (subst (λ z. StreamWith w w.sender.ssn w.receiver.taken w.receiver.passed (w.skipped r) r t.rest z)
    (sym (at_put w.reads s r (w.reads s ++ t.got ∷ []) a))
    (subst (λ z. StreamWith w w.sender.ssn w.receiver.taken w.receiver.passed (w.skipped z) z t.rest
    (w.reads s ++ t.got ∷ [])) (sym a)
    (stream_read t
    h.planned (subst (λ z. w.over z ≡ false) a v) h.sending (λ o m. (h.taken o m).0)
    (l.unread s (subst (λ z. w.over z ≡ false) a v))
    (subst (λ z. StreamWith w w.sender.ssn w.receiver.taken w.receiver.passed (w.skipped s) s (live z) (w.reads s)) is
    (h.streams s (subst (λ z. w.over z ≡ false) a v))) e))))
    (λ (ne : r ≡ s → ⊥).
    subst (λ z. StreamWith w w.sender.ssn w.receiver.taken w.receiver.passed (w.skipped r) r (live z)
    (put w.reads s (w.reads s ++ t.got ∷ []) r)) (sym (off_put w.receiver.queues s r (Some t.rest) ne))
    (subst (λ z. StreamWith w w.sender.ssn w.receiver.taken w.receiver.passed (w.skipped r) r
    (live (w.receiver.queues r)) z) (sym (off_put w.reads s r (w.reads s ++ t.got ∷ []) ne))
    (h.streams r v)))
    (cases_eq r s))
    h

-- another queue for one stream that is over, or one that reads the same
keeps_queue : (w : Direction) (s : ℕ) (q : Option Queue) → (w.over s ≡ false → live q ≡ live (w.receiver.queues s))
    → Invariant w
    → Invariant (record w { receiver = record w.receiver { queues = put w.receiver.queues s q } })
keeps_queue w s q same h =
    keeps_streams w (record w { receiver = record w.receiver { queues = put w.receiver.queues s q } })
    (λ r v. v) (λ r v. refl) h.ascending
    (λ r v. ⊎_elim
    (λ (a : r ≡ s).
    subst (λ z. StreamWith w w.sender.ssn w.receiver.taken w.receiver.passed (w.skipped r) r (live z) (w.reads r))
    (sym (at_put w.receiver.queues s r q a))
    (subst (λ z. StreamWith w w.sender.ssn w.receiver.taken w.receiver.passed (w.skipped r) r z (w.reads r))
    (ap (λ z. live (w.receiver.queues z)) a ∙ sym (same (subst (λ z. w.over z ≡ false) a v))) (h.streams r v)))
    (λ (ne : r ≡ s → ⊥).
    subst (λ z. StreamWith w w.sender.ssn w.receiver.taken w.receiver.passed (w.skipped r) r (live z) (w.reads r))
    (sym (off_put w.receiver.queues s r q ne)) (h.streams r v))
    (cases_eq r s))
    h

pub keeps_open : (w : Direction) (s : ℕ) → Invariant w
    → Invariant
    (record w { receiver = record w.receiver { queues = put w.receiver.queues s (opened (w.receiver.queues s)) } })
keeps_open w s h = keeps_queue w s (opened (w.receiver.queues s)) (λ v. split (w.receiver.queues s)) h
  where
    split : (q : Option Queue) → live (opened q) ≡ live q
    split None = refl
    split (Some q) = refl

pub keeps_replace : (w : Direction) (s : ℕ) (q : Option Queue) → w.over s ≡ true → Invariant w
    → Invariant (record w { receiver = record w.receiver { queues = put w.receiver.queues s q } })
keeps_replace w s q over h = keeps_queue w s q (λ v. absurd (true≢false (sym over ∙ v))) h

pub keeps_close : (w : Direction) → Invariant w
    → Invariant (record w { receiver = record w.receiver { is_open = false } })
keeps_close w h =
    keeps_streams w (record w { receiver = record w.receiver { is_open = false } })
    (λ s v. v) (λ s v. refl) h.ascending h.streams h

-- Past a span

pub keeps_end : (w : Direction) (s : ℕ) → Invariant w → Invariant (record w { over = put w.over s true })
keeps_end w s h =
    keeps_streams w (record w { over = put w.over s true }) spans (λ t v. refl) h.ascending
    (λ t v. h.streams t (spans t v)) h
  where
    spans : (t : ℕ) → put w.over s true t ≡ false → w.over t ≡ false
    spans t v = ⊎_elim
        (λ (e : t ≡ s). absurd (true≢false (sym (at_put w.over s t true e) ∙ v)))
        (λ (ne : t ≡ s → ⊥). sym (off_put w.over s t true ne) ∙ v)
        (cases_eq t s)

pub keeps_restart : (w : Direction) (s : ℕ) → can_restart w s ≡ true → Invariant w
    → Invariant (record w { sender = record w.sender { ssn = put w.sender.ssn s 0 } })
keeps_restart w s can h =
    keeps_streams w (record w { sender = record w.sender { ssn = put w.sender.ssn s 0 } }) (λ t v. v) same
    (ascending_restart w.sender.plan w.sender.current w.sender.ssn w.sender.reach s rest.0 rest.1 h.ascending)
    h.streams h
  where
    parts : (w.over s ≡ true)
        × ((none_of s (drop w.sender.reach w.sender.plan.places) && none_goes_on s w.sender.current) ≡ true)
    parts = and_parts _ _ can

    rest : (none_of s (drop w.sender.reach w.sender.plan.places) ≡ true) × (none_goes_on s w.sender.current ≡ true)
    rest = and_parts _ _ parts.1

    same : (t : ℕ) → w.over t ≡ false → put w.sender.ssn s 0 t ≡ w.sender.ssn t
    same t v = off_put w.sender.ssn s t 0 (λ e. true≢false (sym parts.0 ∙ ap w.over (sym e) ∙ v))
