-- Where no DATA of a stream waits or is in flight, none does behind any act but a write.
use Rattle.std.proofs.Common.{◌≡◌, refl, sym, subst, ℕ, zero, suc, Bool, true, false, ◌==◌}
use Rattle.std.proofs.Common.{if◌then◌else◌, List, [], ◌∷◌, ◌++◌, drop, length, map, slice_get, slice_set, take}
use Rattle.std.proofs.Common.{Option, Some, None}
use Rattle.std.proofs.lemmas.Bool.{or_parts}
use Rattle.std.specs.List.{AllByRecursion, list_any}
use Rattle.std.specs.Prelude.{⊤}
use Rattle.sctp_outbound_queue.specs.declared.message.Attributes.{Attributes}
use Rattle.sctp_outbound_queue.specs.declared.message.InFlight.{InFlight}
use Rattle.sctp_outbound_queue.specs.declared.message.Reports.{Reports}
use Rattle.sctp_outbound_queue.specs.declared.message.Retransmission.{Retransmission}
use Rattle.sctp_outbound_queue.specs.declared.message.Retransmission.TheVariants as causes
use Rattle.sctp_outbound_queue.specs.Message.{accepted, acked, counted_again, flagged, is_of, is_of_stream}
use Rattle.sctp_outbound_queue.specs.Message.{is_outstanding, is_reported}
use Rattle.sctp_outbound_queue.specs.Message.{is_waiting_of_stream, marked_again, marker_of, moved_down}
use Rattle.sctp_outbound_queue.specs.Message.{reported_missing, sent_once, sent_started, share_ssns, waiting_started}
use Rattle.sctp_outbound_queue.specs.Message.{without_piece}
use Rattle.sctp_outbound_queue.specs.Outbound.{Outbound, changed_from, has_stream, sent_from, tail_dropped_from}
use Rattle.sctp_outbound_queue.specs.Outbound.{with_message}
use Rattle.sctp_outbound_queue.specs.Waiting.{Waiting}
use Rattle.sctp_outbound.specs.GapAcks.{acked_among}
use Rattle.sctp_model.proofs.Lists.{all_get, all_push}
use Rattle.sctp_fit.specs.Drops.{without_at}
use Rattle.sctp_directions.specs.Acts.{Act, Parts, done, done_all, is_acknowledged_by, with_abandoned, with_dropped}
use Rattle.sctp_directions.specs.Acts.{with_tail_abandoned}

-- an act is no write
abbrev pub IsNoWrite : Act → Type 0
IsNoWrite (Act.Wrote id named bytes) = ⊥
IsNoWrite act = ⊤

none_found : {X : Type 0} (test : X → Bool) (xs : List X) → list_any test xs ≡ false
    → AllByRecursion (λ (x : X). test x ≡ false) xs
none_found test [] e = tt
none_found test (x ∷ xs) e =
    let parts = or_parts (test x) (list_any test xs) e in (parts.0, none_found test xs parts.1)

finds_none : {X : Type 0} (test : X → Bool) (xs : List X) → AllByRecursion (λ (x : X). test x ≡ false) xs
    → list_any test xs ≡ false
finds_none test [] e = refl
finds_none test (x ∷ xs) (e, es) = rw e (finds_none test xs es)

module _ (id : ℕ) where
  -- a message is of another stream
  abbrev IsOther : Attributes → Type 0
  IsOther m = (m.stream_identifier == id) ≡ false

  abbrev WaitsOther : Waiting → Type 0
  WaitsOther w = is_waiting_of_stream id w ≡ false

  abbrev FliesOther : InFlight → Type 0
  FliesOther x = is_of_stream id x ≡ false

  abbrev AllWait : List Waiting → Type 0
  AllWait ms = AllByRecursion (λ (w : Waiting). is_waiting_of_stream id w ≡ false) ms

  abbrev AllFly : List InFlight → Type 0
  AllFly xs = AllByRecursion (λ (x : InFlight). is_of_stream id x ≡ false) xs

  -- all that waits and is in flight is of other streams
  record HasNone (q : Outbound) : Type 0 where
    waiting : AllByRecursion (λ (w : Waiting). is_waiting_of_stream id w ≡ false) q.pending
    flying : AllByRecursion (λ (x : InFlight). is_of_stream id x ≡ false) q.in_flight

  none_of : (q : Outbound) → has_stream q id ≡ false → HasNone q
  none_of q e =
      let parts =
      or_parts (list_any (is_waiting_of_stream id) q.pending) (list_any (is_of_stream id) q.in_flight) e in
      record {
        waiting = none_found (is_waiting_of_stream id) q.pending parts.0;
        flying = none_found (is_of_stream id) q.in_flight parts.1;
      }

  has_none : (q : Outbound) → HasNone q → has_stream q id ≡ false
  has_none q h =
      rw (finds_none (is_waiting_of_stream id) q.pending h.waiting) (finds_none (is_of_stream id) q.in_flight h.flying)

  -- What is in flight

  same_if : (c : Bool) (x y : InFlight) → y.message ≡ x.message → FliesOther x → FliesOther (if c then y else x)
  same_if true x y m e = subst (λ (z : Attributes). IsOther z) (sym m) e
  same_if false x y m e = e

  set_flies : (xs : List InFlight) (index : ℕ) (x : InFlight) → FliesOther x → AllFly xs → AllFly (slice_set xs index x)
  set_flies [] index x r m = tt
  set_flies (y ∷ ys) zero x r (m, ms) = (r, ms)
  set_flies (y ∷ ys) (suc index) x r (m, ms) = (m, set_flies ys index x r ms)

  counted_flies : (by : Retransmission) (x : InFlight) → FliesOther x → FliesOther (counted_again by x)
  counted_flies causes.Timer x e = e
  counted_flies causes.Fast x e = e

  marked_fly : (xs : List InFlight) → AllFly xs → AllFly (map marked_again xs)
  marked_fly [] m = tt
  marked_fly (x ∷ xs) (m, ms) = (same_if (is_outstanding x) x _ refl m, marked_fly xs ms)

  among_fly : (named : ℕ → Bool) (j : ℕ) (xs : List InFlight) → AllFly xs → AllFly (acked_among named j xs)
  among_fly named j [] m = tt
  among_fly named j (x ∷ xs) (m, ms) = (same_if (named j) x (acked x) refl m, among_fly named (suc j) xs ms)

  drop_fly : (n : ℕ) (xs : List InFlight) → AllFly xs → AllFly (drop n xs)
  drop_fly zero [] m = tt
  drop_fly zero (x ∷ xs) m = m
  drop_fly (suc n) [] m = tt
  drop_fly (suc n) (x ∷ xs) (m, ms) = drop_fly n xs ms

  missing_fly : (r : Reports) (n : ℕ) (xs : List InFlight) → AllFly xs
      → AllFly (map (reported_missing r) (take n xs) ++ drop n xs)
  missing_fly r zero xs m = m
  missing_fly r (suc n) [] m = tt
  missing_fly r (suc n) (x ∷ xs) (m, ms) = (same_if (is_reported r x) x _ refl m, missing_fly r n xs ms)

  flagged_fly : (message : ℕ) (xs : List InFlight) → AllFly xs → AllFly (map (flagged message) xs)
  flagged_fly message [] m = tt
  flagged_fly message (x ∷ xs) (m, ms) = (same_if (is_of message x) x _ refl m, flagged_fly message xs ms)

  started_fly : (now : ℕ) (xs : List InFlight) → AllFly xs → AllFly (map (sent_started now) xs)
  started_fly now [] m = tt
  started_fly now (x ∷ xs) (m, ms) = (m, started_fly now xs ms)

  -- What waits

  started_wait : (now : ℕ) (ws : List Waiting) → AllWait ws → AllWait (map (waiting_started now) ws)
  started_wait now [] m = tt
  started_wait now (w ∷ ws) (m, ms) = (m, started_wait now ws ms)

  moved_if : (c : Bool) (w v : Waiting) → v.message.stream_identifier ≡ w.message.stream_identifier → WaitsOther w
      → WaitsOther (if c then v else w)
  moved_if true w v e m = subst (λ (n : ℕ). (n == id) ≡ false) (sym e) m
  moved_if false w v e m = m

  moved_wait : (a : Attributes) (ws : List Waiting) → AllWait ws → AllWait (map (moved_down a) ws)
  moved_wait a [] m = tt
  moved_wait a (w ∷ ws) (m, ms) = (moved_if (share_ssns a w.message) w _ refl m, moved_wait a ws ms)

  without_wait : (k : ℕ) (ws : List Waiting) → AllWait ws → AllWait (without_at k ws)
  without_wait k [] m = tt
  without_wait zero (w ∷ ws) (m, ms) = moved_wait w.message ws ms
  without_wait (suc k) (w ∷ ws) (m, ms) = (m, without_wait k ws ms)

  left_if : (last : Bool) (w : Waiting) (ws : List Waiting) → WaitsOther w → AllWait ws
      → AllWait (if last then ws else without_piece w ∷ ws)
  left_if true w ws m ms = ms
  left_if false w ws m ms = (m, ms)

  -- Acts

  sent_none : (ws : List Waiting) (q : Outbound) (now : ℕ) → q.pending ≡ ws → HasNone q
      → HasNone (sent_from ws q now)
  sent_none [] q now e h = h
  sent_none (w ∷ ws) q now e h =
      let all : AllWait (w ∷ ws) = subst (λ (z : List Waiting). AllWait z) e h.waiting in
      record {
        waiting = left_if (length w.rest == 0) w ws all.0 all.1;
        flying = all_push (λ (x : InFlight). is_of_stream id x ≡ false) q.in_flight (sent_once now w) h.flying all.0;
      }

  again_none : (by : Retransmission) (o : Option InFlight) (q : Outbound) (index : ℕ)
      → slice_get q.in_flight index ≡ o → HasNone q → HasNone (changed_from (counted_again by) o q index)
  again_none by None q index e h = h
  again_none by (Some x) q index e h = record {
    waiting = h.waiting;
    flying =
        set_flies q.in_flight index (counted_again by x)
        (counted_flies by x (all_get (λ (y : InFlight). is_of_stream id y ≡ false) q.in_flight index x e h.flying))
        h.flying;
  }

  tail_if : (c : Bool) (p q : Outbound) (n k : ℕ) → HasNone p → HasNone q
      → HasNone (if◌then◌else◌ {A = Outbound × ℕ} c (p, n) (q, k)).0
  tail_if true p q n k a b = a
  tail_if false p q n k a b = b

  tail_none : (ws : List Waiting) (q : Outbound) (message : ℕ) → q.pending ≡ ws → HasNone q
      → HasNone (tail_dropped_from ws q message).0
  tail_none [] q message e h = h
  tail_none (w ∷ ws) q message e h =
      let all : AllWait (w ∷ ws) = subst (λ (z : List Waiting). AllWait z) e h.waiting in
      tail_if (w.message.message_id == message)
      (record q { pending = ws; in_flight = q.in_flight ++ marker_of w.message ∷ [] }) q _ _
      (record {
        waiting = all.1;
        flying =
            all_push (λ (x : InFlight). is_of_stream id x ≡ false) q.in_flight (marker_of w.message) h.flying all.0;
      })
      h

  abandoned_none : (o : Option InFlight) (p : Parts) → HasNone p.queue → HasNone (with_abandoned o p).queue
  abandoned_none None p h = h
  abandoned_none (Some x) p h =
      let t = tail_none p.queue.pending p.queue x.message.message_id refl h in
      record { waiting = t.waiting; flying = flagged_fly x.message.message_id _ t.flying }

  tail_abandoned_none : (o : Option Waiting) (p : Parts) → HasNone p.queue → HasNone (with_tail_abandoned o p).queue
  tail_abandoned_none None p h = h
  tail_abandoned_none (Some x) p h = tail_none p.queue.pending p.queue x.message.message_id refl h

  dropped_none : (k : ℕ) (o : Option Waiting) (p : Parts) → HasNone p.queue → HasNone (with_dropped k o p).queue
  dropped_none k None p h = h
  dropped_none k (Some x) p h = record { waiting = without_wait k p.queue.pending h.waiting; flying = h.flying }

  act_none : (act : Act) (p : Parts) → IsNoWrite act → HasNone p.queue → HasNone (done act p).queue
  act_none (Act.PeerKnown t) p w h = h
  act_none (Act.Opened stream first kind) p w h = h
  act_none (Act.Wrote stream named bytes) p w h = absurd w
  act_none (Act.Adjusted stream setting) p w h = h
  act_none (Act.SpansEnded ids m) p w h = h
  act_none (Act.Sent at_once now) p w h = sent_none p.queue.pending p.queue now refl h
  act_none (Act.SentAgain at_once by index) p w h = again_none by (slice_get p.queue.in_flight index) p.queue index refl h
  act_none Act.Marked p w h = record { waiting = h.waiting; flying = marked_fly p.queue.in_flight h.flying }
  act_none (Act.Acknowledged n blocks missing) p w h = record {
    waiting = h.waiting;
    flying =
        missing_fly missing missing.count _
        (drop_fly n _ (among_fly (is_acknowledged_by n blocks) 0 p.queue.in_flight h.flying));
  }
  act_none (Act.Abandoned index) p w h = abandoned_none (slice_get p.queue.in_flight index) p h
  act_none Act.TailAbandoned p w h = tail_abandoned_none (slice_get p.queue.pending 0) p h
  act_none (Act.Dropped k) p w h = dropped_none k (slice_get p.queue.pending k) p h
  act_none (Act.Started now) p w h = record {
    waiting = started_wait now p.queue.pending h.waiting;
    flying = started_fly now p.queue.in_flight h.flying;
  }
  act_none Act.Forwarded p w h = h
  act_none (Act.Took piece) p w h = h
  act_none (Act.Deferred piece) p w h = h
  act_none (Act.PassedOver t skipped) p w h = h
  act_none Act.Reported p w h = h
  act_none (Act.WasRead stream) p w h = h
  act_none Act.Ended p w h = h

  acts_none : (acts : List Act) (p : Parts) → AllByRecursion IsNoWrite acts → HasNone p.queue
      → HasNone (done_all acts p).queue
  acts_none [] p w h = h
  acts_none (act ∷ acts) p (w, ws) h = acts_none acts (done act p) ws (act_none act p w h)

-- nor is any where a message of another stream was accepted
pub message_adds_none : (q : Outbound) (m : Waiting) (id : ℕ) → (m.message.stream_identifier == id) ≡ false
    → has_stream q id ≡ false → has_stream (with_message q m) id ≡ false
message_adds_none q m id other e =
    let h = none_of id q e in
    has_none id (with_message q m) (record {
      waiting =
          all_push (λ (w : Waiting). is_waiting_of_stream id w ≡ false) q.pending (accepted q.next_message_id m)
          h.waiting other;
      flying = h.flying;
    })

-- no DATA of a stream waits or is in flight behind these acts where none did before
pub acts_add_none : (acts : List Act) (p : Parts) (id : ℕ) → AllByRecursion IsNoWrite acts
    → has_stream p.queue id ≡ false → has_stream (done_all acts p).queue id ≡ false
acts_add_none acts p id quiet e =
    has_none id (done_all acts p).queue (acts_none id acts p quiet (none_of id p.queue e))
