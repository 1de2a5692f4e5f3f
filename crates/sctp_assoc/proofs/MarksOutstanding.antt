-- What is to go out again is neither acknowledged nor abandoned, whatever an association does.
use Rattle.std.proofs.Common.{◌≡◌, refl, ℕ, zero, suc, Bool, true, false, if◌then◌else◌, List, [], ◌∷◌, ◌++◌}
use Rattle.std.proofs.Common.{◌==◌, drop, map, slice_get, slice_set, subst, take, Option, Some, None}
use Rattle.std.specs.List.{AllByRecursion}
use Rattle.std.proofs.lemmas.Bool.{false≢true}
use Rattle.sctp_outbound_queue.specs.declared.message.InFlight.{InFlight}
use Rattle.sctp_outbound_queue.specs.declared.message.Reports.{Reports}
use Rattle.sctp_outbound_queue.specs.Waiting.{Waiting}
use Rattle.sctp_outbound_queue.specs.Message.{acked, counted_again, is_outstanding, marked_again, reported_missing}
use Rattle.sctp_outbound_queue.specs.Message.{flagged, is_of, is_reported, marker_of, misses_after, sent_once}
use Rattle.sctp_outbound_queue.specs.Message.{sent_started, stays_resent}
use Rattle.sctp_outbound_queue.specs.declared.message.Retransmission.{Retransmission}
use Rattle.sctp_outbound_queue.specs.declared.message.Retransmission.TheVariants as causes
use Rattle.sctp_outbound_queue.specs.Outbound.{Outbound, changed_from, sent_from, tail_dropped_from}
use Rattle.sctp_wire_types.specs.declared.ids.PayloadProtocolIdentifier.{PayloadProtocolIdentifier}
use Rattle.sctp_streams.specs.Stream.{StreamView}
use Rattle.sctp_streams.specs.Streams.{stream_at}
use Rattle.sctp_outbound.specs.GapAcks.{acked_among}
use Rattle.sctp_directions.specs.Acts.{Act, Parts, done, done_all, is_acknowledged_by, with_abandoned, with_dropped}
use Rattle.sctp_directions.specs.Acts.{with_tail_abandoned, with_written}

abbrev IsMarkedRight : InFlight → Type 0
IsMarkedRight x = x.retransmit ≡ true → is_outstanding x ≡ true

abbrev pub AreMarkedRight : List InFlight → Type 0
AreMarkedRight xs = AllByRecursion (λ (x : InFlight). x.retransmit ≡ true → is_outstanding x ≡ true) xs

acked_right : (named : Bool) (x : InFlight) → IsMarkedRight x → IsMarkedRight (if named then acked x else x)
acked_right true x m e = absurd (false≢true e)
acked_right false x m e = m e

among_right : (named : ℕ → Bool) (j : ℕ) (xs : List InFlight) → AreMarkedRight xs
    → AreMarkedRight (acked_among named j xs)
among_right named j [] m = tt
among_right named j (x ∷ xs) (m, ms) = (acked_right (named j) x m, among_right named (suc j) xs ms)

drop_right : (n : ℕ) (xs : List InFlight) → AreMarkedRight xs → AreMarkedRight (drop n xs)
drop_right zero [] m = tt
drop_right zero (x ∷ xs) m = m
drop_right (suc n) [] m = tt
drop_right (suc n) (x ∷ xs) (m, ms) = drop_right n xs ms

marked_if : (outstanding : Bool) (x : InFlight) → is_outstanding x ≡ outstanding → IsMarkedRight x
    → IsMarkedRight (if outstanding then record x { retransmit = true } else x)
marked_if true x e m f = e
marked_if false x e m f = m f

all_right : (xs : List InFlight) → AreMarkedRight xs → AreMarkedRight (map marked_again xs)
all_right [] m = tt
all_right (x ∷ xs) (m, ms) = (marked_if (is_outstanding x) x refl m, all_right xs ms)

set_right : (xs : List InFlight) (index : ℕ) (x : InFlight) → IsMarkedRight x → AreMarkedRight xs
    → AreMarkedRight (slice_set xs index x)
set_right [] index x r m = tt
set_right (y ∷ ys) zero x r (m, ms) = (r, ms)
set_right (y ∷ ys) (suc index) x r (m, ms) = (m, set_right ys index x r ms)

append_right : (xs : List InFlight) (x : InFlight) → IsMarkedRight x → AreMarkedRight xs
    → AreMarkedRight (xs ++ x ∷ [])
append_right [] x r m = (r, tt)
append_right (y ∷ ys) x r (m, ms) = (m, append_right ys x r ms)

sent_right : (fs : List Waiting) (q : Outbound) (now : ℕ) → AreMarkedRight q.in_flight
    → AreMarkedRight (sent_from fs q now).in_flight
sent_right [] q now m = m
sent_right (f ∷ fs) q now m = append_right q.in_flight (sent_once now f) (λ e. absurd (false≢true e)) m

pub get_right : (xs : List InFlight) (index : ℕ) (x : InFlight) → slice_get xs index ≡ Some x → AreMarkedRight xs
    → IsMarkedRight x
get_right [] index x e m = absurd (cc)
get_right (y ∷ ys) zero x e (m, ms) = subst IsMarkedRight (let s : y ≡ x = cc in s) m
get_right (y ∷ ys) (suc index) x e (m, ms) = get_right ys index x e ms

counted_right : (by : Retransmission) (x : InFlight) → IsMarkedRight x → IsMarkedRight (counted_again by x)
counted_right causes.Timer x m e = absurd (false≢true e)
counted_right causes.Fast x m e = m e

again_right : (by : Retransmission) (o : Option InFlight) (q : Outbound) (index : ℕ) → slice_get q.in_flight index ≡ o
    → AreMarkedRight q.in_flight
    → AreMarkedRight (changed_from (counted_again by) o q index).in_flight
again_right by None q index e m = m
again_right by (Some p) q index e m =
    set_right q.in_flight index (counted_again by p) (counted_right by p (get_right q.in_flight index p e m)) m

reported_if : (c : Bool) (r : Reports) (x : InFlight) → IsMarkedRight x
    → IsMarkedRight (if c then record x { misses = misses_after r x; resent = stays_resent r.among x } else x)
reported_if true r x m e = m e
reported_if false r x m e = m e

missing_right : (r : Reports) (n : ℕ) (xs : List InFlight) → AreMarkedRight xs
    → AreMarkedRight (map (reported_missing r) (take n xs) ++ drop n xs)
missing_right r zero xs m = m
missing_right r (suc n) [] m = tt
missing_right r (suc n) (x ∷ xs) (m, ms) = (reported_if (is_reported r x) r x m, missing_right r n xs ms)

written_right : (o : Option StreamView) (p : Parts) (id : ℕ) (named : Option PayloadProtocolIdentifier) (bytes : List ℕ)
    → AreMarkedRight p.queue.in_flight → AreMarkedRight (with_written o p id named bytes).queue.in_flight
written_right None p id named bytes m = m
written_right (Some s) p id named bytes m = m

flagged_if : (c : Bool) (x : InFlight) → IsMarkedRight x
    → IsMarkedRight (if c then record x { abandoned = true; retransmit = false } else x)
flagged_if true x m e = absurd (false≢true e)
flagged_if false x m e = m e

flagged_right : (id : ℕ) (xs : List InFlight) → AreMarkedRight xs → AreMarkedRight (map (flagged id) xs)
flagged_right id [] m = tt
flagged_right id (x ∷ xs) (m, ms) = (flagged_if (is_of id x) x m, flagged_right id xs ms)

tail_right : (ms : List Waiting) (q : Outbound) (id : ℕ) → AreMarkedRight q.in_flight
    → AreMarkedRight (tail_dropped_from ms q id).0.in_flight
tail_right [] q id m = m
tail_right (w ∷ ws) q id m =
    tail_if (w.message.message_id == id) _ q _ _ (append_right q.in_flight (marker_of w.message)
    (λ e. absurd (false≢true e)) m) m
  where
    tail_if : (c : Bool) (p q : Outbound) (n k : ℕ) → AreMarkedRight p.in_flight
        → AreMarkedRight q.in_flight
        → AreMarkedRight (if◌then◌else◌ {A = Outbound × ℕ} c (p, n) (q, k)).0.in_flight
    tail_if true p q n k a b = a
    tail_if false p q n k a b = b

abandoned_right : (o : Option InFlight) (p : Parts) → AreMarkedRight p.queue.in_flight
    → AreMarkedRight (with_abandoned o p).queue.in_flight
abandoned_right None p m = m
abandoned_right (Some x) p m =
    flagged_right x.message.message_id _ (tail_right p.queue.pending p.queue x.message.message_id m)

tail_abandoned_right : (o : Option Waiting) (p : Parts) → AreMarkedRight p.queue.in_flight
    → AreMarkedRight (with_tail_abandoned o p).queue.in_flight
tail_abandoned_right None p m = m
tail_abandoned_right (Some x) p m = tail_right p.queue.pending p.queue x.message.message_id m

dropped_right : (k : ℕ) (o : Option Waiting) (p : Parts) → AreMarkedRight p.queue.in_flight
    → AreMarkedRight (with_dropped k o p).queue.in_flight
dropped_right k None p m = m
dropped_right k (Some x) p m = m

started_right : (now : ℕ) (xs : List InFlight) → AreMarkedRight xs → AreMarkedRight (map (sent_started now) xs)
started_right now [] m = tt
started_right now (x ∷ xs) (m, ms) = (λ e. m e, started_right now xs ms)

pub act_marked : (x : Act) (p : Parts) → AreMarkedRight p.queue.in_flight → AreMarkedRight (done x p).queue.in_flight
act_marked (Act.PeerKnown t) p m = m
act_marked (Act.Opened id first kind) p m = m
act_marked (Act.Wrote id named bytes) p m = written_right (stream_at p.streams id) p id named bytes m
act_marked (Act.Adjusted id setting) p m = m
act_marked (Act.SpansEnded ids live) p m = m
act_marked (Act.Sent at_once now) p m = sent_right p.queue.pending p.queue now m
act_marked (Act.SentAgain at_once by index) p m =
    again_right by (slice_get p.queue.in_flight index) p.queue index refl m
act_marked Act.Marked p m = all_right p.queue.in_flight m
act_marked (Act.Acknowledged n blocks missing) p m =
    missing_right missing missing.count _
    (drop_right n _ (among_right (is_acknowledged_by n blocks) 0 p.queue.in_flight m))
act_marked (Act.Abandoned index) p m = abandoned_right (slice_get p.queue.in_flight index) p m
act_marked Act.TailAbandoned p m = tail_abandoned_right (slice_get p.queue.pending 0) p m
act_marked (Act.Dropped k) p m = dropped_right k (slice_get p.queue.pending k) p m
act_marked (Act.Started now) p m = started_right now p.queue.in_flight m
act_marked Act.Forwarded p m = m
act_marked (Act.Took piece) p m = m
act_marked (Act.Deferred piece) p m = m
act_marked (Act.PassedOver t skipped) p m = m
act_marked Act.Reported p m = m
act_marked (Act.WasRead id) p m = m
act_marked Act.Ended p m = m

pub acts_marked : (xs : List Act) (p : Parts) → AreMarkedRight p.queue.in_flight
    → AreMarkedRight (done_all xs p).queue.in_flight
acts_marked [] p m = m
acts_marked (x ∷ xs) p m = acts_marked xs (done x p) (act_marked x p m)
