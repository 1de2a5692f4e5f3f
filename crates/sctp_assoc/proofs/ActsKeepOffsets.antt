-- What acts leave as it is, and that the first TSN in flight keeps standing on the first offset that is not
-- acknowledged.
use Rattle.std.proofs.Common.{◌≡◌, refl, sym, ap, ◌∙◌, ℕ, zero, suc, ◌<◌, ◌≤◌, ◌+◌, ◌^◌, arith, List, [], ◌∷◌}
use Rattle.std.proofs.Common.{◌++◌, length, slice_get, Bool, true, false, if◌then◌else◌, ◌==◌, Option, Some, None}
use Rattle.std.proofs.lemmas.List.{append_assoc}
use Rattle.sctp_serial.specs.Serial.{tsn}
use Rattle.sctp_outbound_queue.specs.declared.message.InFlight.{InFlight}
use Rattle.sctp_outbound_queue.specs.declared.message.Retransmission.{Retransmission}
use Rattle.sctp_outbound_queue.specs.Waiting.{Waiting}
use Rattle.sctp_outbound_queue.specs.Message.{counted_again}
use Rattle.sctp_outbound_queue.specs.Outbound.{Outbound, changed_from, sent_from, tail_dropped_from, tsn_at}
use Rattle.sctp_outbound_queue.specs.Outbound.{without_first}
use Rattle.sctp_wire_types.specs.declared.ids.PayloadProtocolIdentifier.{PayloadProtocolIdentifier}
use Rattle.sctp_streams.specs.Stream.{StreamView}
use Rattle.sctp_streams.specs.Streams.{StreamMap, stream_at}
use Rattle.sctp_parts.specs.Estimate.{Estimate}
use Rattle.sctp_outbound.specs.declared.sender.Sender.{Sender}
use Rattle.sctp_outbound.specs.Sender.{acknowledged, after_first, sender_after, sender_after_first, streams_after}
use Rattle.sctp_directions.specs.Acts.{Act, Can, CanAll, History, Parts, done, done_all, data_given, all_data_given}
use Rattle.sctp_directions.specs.Acts.{with_abandoned, with_acknowledged, with_dropped, with_tail_abandoned}
use Rattle.sctp_directions.specs.Acts.{with_written}
use Rattle.sctp_fit.specs.Outgoing.{Sending}
use Rattle.sctp_fit.specs.CumulativeAcks.{first_pieces_acknowledged, with_named}
use Rattle.sctp_fit.proofs.BlocksTaken.{sacks_take_what_they_name}
use Rattle.sctp_wire_types.specs.declared.chunk.GapAckBlock.{GapAckBlock}
use Rattle.sctp_received.specs.Received.{is_named}
use Rattle.sctp_outbound.specs.GapAcks.{with_blocks}

-- Acts, one after another.

pub done_append : (xs ys : List Act) (p : Parts) → done_all (xs ++ ys) p ≡ done_all ys (done_all xs p)
done_append [] ys p = refl
done_append (x ∷ xs) ys p = done_append xs ys (done x p)

pub can_append : (xs ys : List Act) (p : Parts) → CanAll xs p → CanAll ys (done_all xs p) → CanAll (xs ++ ys) p
can_append [] ys p c d = d
can_append (x ∷ xs) ys p (c, cs) d = (c, can_append xs ys (done x p) cs d)

pub given_append : (xs ys : List Act) (p : Parts)
    → all_data_given (xs ++ ys) p ≡ all_data_given xs p ++ all_data_given ys (done_all xs p)
given_append [] ys p = refl
given_append (x ∷ xs) ys p =
    rw (given_append xs ys (done x p))
    (sym (append_assoc (data_given x p) (all_data_given xs (done x p)) (all_data_given ys (done_all xs (done x p)))))

-- The first TSN in flight.

abbrev pub Tied : Parts → Type 0
Tied p = p.queue.first_tsn ≡ tsn p.history.own p.history.base

pub acknowledged_tied : (n : ℕ) (blocks : List GapAckBlock) (p : Parts) → Tied p → Tied (with_acknowledged n blocks p)
acknowledged_tied n blocks p e = rw e (past_tied p.history.own p.history.base n)
  where
    past_tied : (own base n : ℕ) → tsn_at (tsn own base) n ≡ tsn own (base + n)
    past_tied own base n = omega arith

written_tied : (o : Option StreamView) (p : Parts) (id : ℕ) (named : Option PayloadProtocolIdentifier) (bytes : List ℕ)
    → Tied p → Tied (with_written o p id named bytes)
written_tied None p id named bytes e = e
written_tied (Some s) p id named bytes e = e

pub sent_first : (fs : List Waiting) (q : Outbound) (now : ℕ) → (sent_from fs q now).first_tsn ≡ q.first_tsn
sent_first [] q now = refl
sent_first (f ∷ fs) q now = refl

resent_first : (by : Retransmission) (o : Option InFlight) (q : Outbound) (index : ℕ)
    → (changed_from (counted_again by) o q index).first_tsn ≡ q.first_tsn
resent_first by None q index = refl
resent_first by (Some p) q index = refl

-- what is given up leaves the first TSN in flight
tail_first : (ms : List Waiting) (q : Outbound) (id : ℕ) → (tail_dropped_from ms q id).0.first_tsn ≡ q.first_tsn
tail_first [] q id = refl
tail_first (m ∷ ms) q id = first_if (m.message.message_id == id) _ q _ _ refl
  where
    first_if : (c : Bool) (p q : Outbound) (n k : ℕ) → p.first_tsn ≡ q.first_tsn
        → (if◌then◌else◌ {A = Outbound × ℕ} c (p, n) (q, k)).0.first_tsn ≡ q.first_tsn
    first_if true p q n k e = e
    first_if false p q n k e = refl

abandoned_tied : (o : Option InFlight) (p : Parts) → Tied p → Tied (with_abandoned o p)
abandoned_tied None p e = e
abandoned_tied (Some x) p e = tail_first p.queue.pending p.queue x.message.message_id ∙ e

tail_tied : (o : Option Waiting) (p : Parts) → Tied p → Tied (with_tail_abandoned o p)
tail_tied None p e = e
tail_tied (Some x) p e = tail_first p.queue.pending p.queue x.message.message_id ∙ e

dropped_tied : (k : ℕ) (o : Option Waiting) (p : Parts) → Tied p → Tied (with_dropped k o p)
dropped_tied k None p e = e
dropped_tied k (Some x) p e = e

pub act_tied : (x : Act) (p : Parts) → Can x p → Tied p → Tied (done x p)
act_tied (Act.PeerKnown t) p c e = e
act_tied (Act.Opened id first kind) p c e = e
act_tied (Act.Wrote id named bytes) p c e = written_tied (stream_at p.streams id) p id named bytes e
act_tied (Act.Adjusted id setting) p c e = e
act_tied (Act.SpansEnded ids m) p c e = e
act_tied (Act.Sent at_once now) p c e = sent_first p.queue.pending p.queue now ∙ e
act_tied (Act.SentAgain at_once by index) p c e = resent_first by (slice_get p.queue.in_flight index) p.queue index ∙ e
act_tied Act.Marked p c e = e
act_tied (Act.Acknowledged n blocks missing) p c e = acknowledged_tied n blocks p e
act_tied (Act.Abandoned index) p c e = abandoned_tied (slice_get p.queue.in_flight index) p e
act_tied Act.TailAbandoned p c e = tail_tied (slice_get p.queue.pending 0) p e
act_tied (Act.Dropped k) p c e = dropped_tied k (slice_get p.queue.pending k) p e
act_tied (Act.Started now) p c e = e
act_tied Act.Forwarded p c e = e
act_tied (Act.Took piece) p c e = e
act_tied (Act.Deferred piece) p c e = e
act_tied (Act.PassedOver t skipped) p c e = e
act_tied Act.Reported p c e = e
act_tied (Act.WasRead id) p c e = e
act_tied Act.Ended p c e = e

pub acts_tied : (xs : List Act) (p : Parts) → CanAll xs p → Tied p → Tied (done_all xs p)
acts_tied [] p c e = e
acts_tied (x ∷ xs) p (c, cs) e = acts_tied xs (done x p) cs (act_tied x p c e)

-- What the sender acknowledges are the first pieces in flight, one after another.

first_queue : (ps : List InFlight) (s : Sender) → s.queue.in_flight ≡ ps
    → (sender_after (slice_get ps 0) s).queue ≡ without_first s.queue
first_queue [] s e = rw e refl
first_queue (p ∷ ps) s e = refl

so_many_acknowledged : (n now base size : ℕ) (s : Sender) (e : Estimate) (m : StreamMap)
    → first_pieces_acknowledged n (record { queue = s.queue; streams = m; base = base; size = size })
    ≡ record {
      queue = (acknowledged n now (s, e, m)).0.queue;
      streams = (acknowledged n now (s, e, m)).2;
      base = base + n;
      size = size;
    }
unfolding after_first
so_many_acknowledged zero now base size s e m = let none : base + 0 ≡ base = omega arith in rw none refl
so_many_acknowledged (suc n) now base size s e m =
    let next : base + suc n ≡ base + 1 + n = omega arith in
    rw (next, ← first_queue s.queue.in_flight s refl)
    (so_many_acknowledged n now (base + 1) size (sender_after_first s) _
    (streams_after (slice_get s.queue.in_flight 0) m))

first_size : (o : Option InFlight) (s : Sender) → (sender_after o s).max_payload_size ≡ s.max_payload_size
first_size None s = refl
first_size (Some p) s = refl

pub size_stays : (n now : ℕ) (s : Sender) (e : Estimate) (m : StreamMap)
    → (acknowledged n now (s, e, m)).0.max_payload_size ≡ s.max_payload_size
unfolding after_first
size_stays zero now s e m = refl
size_stays (suc n) now s e m =
    size_stays n now (sender_after_first s) _ (streams_after (slice_get s.queue.in_flight 0) m)
    ∙ first_size (slice_get s.queue.in_flight 0) s

blocks_named : (now : ℕ) (blocks : List GapAckBlock) (base size : ℕ) (x : Sender × Estimate × StreamMap)
    → with_named (λ j. is_named (j + 1) blocks) (record { queue = x.0.queue; streams = x.2; base = base; size = size })
    ≡ record {
      queue = (with_blocks now blocks x).0.queue;
      streams = (with_blocks now blocks x).2;
      base = base;
      size = size;
    }
blocks_named now blocks base size (s, e, m) = refl

pub blocks_size : (now : ℕ) (blocks : List GapAckBlock) (x : Sender × Estimate × StreamMap)
    → (with_blocks now blocks x).0.max_payload_size ≡ x.0.max_payload_size
blocks_size now blocks (s, e, m) = refl

-- and then those that gap ack blocks name of the pieces behind them
pub pieces_acknowledged : (n now : ℕ) (blocks : List GapAckBlock) (s : Sender) (e : Estimate) (m : StreamMap)
    (h : History)
    → n ≤ length s.queue.in_flight → s.queue.first_tsn < 2 ^ 32
    → with_acknowledged n blocks (record { queue = s.queue; streams = m; size = s.max_payload_size; history = h })
    ≡ record {
      queue = (with_blocks now blocks (acknowledged n now (s, e, m))).0.queue;
      streams = (with_blocks now blocks (acknowledged n now (s, e, m))).2;
      size = (with_blocks now blocks (acknowledged n now (s, e, m))).0.max_payload_size;
      history = record h { base = h.base + n };
    }
pieces_acknowledged n now blocks s e m h within small =
    rw (blocks_size now blocks (acknowledged n now (s, e, m)), size_stays n now s e m)
    (ap (λ (a : Sending). parts_with a)
    (sacks_take_what_they_name
    (record { queue = s.queue; streams = m; base = h.base; size = s.max_payload_size }) n blocks within small
    ∙ ap (with_named (λ j. is_named (j + 1) blocks)) (so_many_acknowledged n now h.base s.max_payload_size s e m)
    ∙ blocks_named now blocks (h.base + n) s.max_payload_size (acknowledged n now (s, e, m))))
  where
    parts_with : Sending → Parts
    parts_with a = record {
      queue = a.queue;
      streams = a.streams;
      size = s.max_payload_size;
      history = record h { base = h.base + n };
    }
