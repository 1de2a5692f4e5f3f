-- The chunks of a packet keep the timers where they should run, and a fault stops them all.
use Rattle.std.proofs.Common.{◌≡◌, refl, sym, ap, ◌∙◌, subst, ◌⊎◌, inl, inr, ℕ, ◌<◌, arith, Bool, true, false}
use Rattle.std.proofs.Common.{ltb, if◌then◌else◌, List, [], ◌∷◌, length, map, Option, Some, None, is_some, Result}
use Rattle.std.proofs.Common.{Ok, Err, ◌&&◌}
use Rattle.std.proofs.lemmas.Bool.{false≢true, ltb-false, ltb-true, true≢false}
use Rattle.std.proofs.lemmas.List.{length-map}
use Rattle.sctp_wire_types.specs.declared.chunk.Chunk.{Chunk}
use Rattle.sctp_wire_types.specs.declared.chunk.Chunk.TheVariants as chunks
use Rattle.sctp_wire_types.specs.declared.chunk.ChunkPayloadData.{ChunkPayloadData}
use Rattle.sctp_wire_types.specs.declared.chunk.ChunkHeartbeat.{ChunkHeartbeat}
use Rattle.sctp_wire_types.specs.declared.chunk.ChunkInit.{ChunkInit}
use Rattle.sctp_wire_types.specs.declared.error.Error.{Error}
use Rattle.sctp_wire_types.specs.declared.error.Error.TheVariants as errors
use Rattle.sctp_wire_types.specs.Config.{is_rfc}
use Rattle.sctp_wire_types.specs.declared.packet.CommonHeader.{CommonHeader}
use Rattle.sctp_wire_types.specs.Checks.{checked_chunk}
use Rattle.sctp_wire.specs.declared.packet.Packet.{Packet}
use Rattle.sctp_parts.specs.declared.state.AssociationState.{AssociationState}
use Rattle.sctp_parts.specs.declared.state.AssociationState.TheVariants as states
use Rattle.sctp_parts.specs.declared.timer.Timer.TheVariants as names
use Rattle.sctp_parts.specs.Timers.{Timers, restarted_if_stale, started, with_stopped, without_retries}
use Rattle.sctp_parts.specs.Estimate.{Estimate}
use Rattle.sctp_outbound_queue.specs.declared.message.InFlight.{InFlight}
use Rattle.sctp_outbound_queue.specs.Message.{marked_again}
use Rattle.sctp_streams.specs.declared.event.AssociationError.{AssociationError}
use Rattle.sctp_streams.specs.declared.event.AssociationError.TheVariants as reasons
use Rattle.sctp_streams.specs.Streams.{StreamMap, generation_left, is_readable_in, pushed_in, refusal_in}
use Rattle.sctp_streams.specs.Streams.{stream_at}
use Rattle.sctp_inbound.specs.declared.receiver.AckTrigger.{AckTrigger}
use Rattle.sctp_inbound.specs.declared.receiver.AckTrigger.TheVariants as triggers
use Rattle.sctp_inbound.specs.Greeting.{first_cookie, information_of}
use Rattle.sctp_inbound.specs.Handshake.{comes_back, has_issued}
use Rattle.sctp_inbound.specs.Receiver.{admits, asked, is_new_to, taken_to}
use Rattle.sctp_outbound.specs.declared.sender.Sender.{Sender}
use Rattle.sctp_outbound.specs.declared.sender.SackOutcome.{SackOutcome}
use Rattle.sctp_outbound.specs.declared.sender.SackOutcome.TheVariants as outcomes
use Rattle.sctp_wire_types.specs.declared.chunk.GapAckBlock.{GapAckBlock}
use Rattle.sctp_outbound.specs.Sacks.{progress_of, sack_taken}
use Rattle.sctp_outbound.specs.Sender.{sack_outcome, t3_after_sack, t3_cleared, t3_disarmed, t3_forgiven}
use Rattle.sctp_outbound.specs.declared.progress.Progress.{Progress}
use Rattle.sctp_assoc.specs.declared.inbound.Flow.{Flow}
use Rattle.sctp_assoc.specs.declared.inbound.Flow.TheVariants as flows
use Rattle.sctp_assoc.specs.Calls.{is_beginning, is_cookie_echoed, is_cookie_wait}
use Rattle.sctp_assoc.specs.Closing.{closed_open, is_closed_state, is_exhausted}
use Rattle.sctp_assoc.specs.Calls.{sends_data}
use Rattle.sctp_assoc.specs.Shutdown.{on_shutdown_complete, shutdown_again, shutdown_continued}
use Rattle.sctp_assoc.specs.Handshake.{acknowledged_cookie, acknowledges_again, connected, echoed}
use Rattle.sctp_assoc.specs.Handshake.{information_returned, keeps_peer, on_cookie_ack, on_cookie_echo}
use Rattle.sctp_assoc.specs.Handshake.{on_heartbeat, on_init, on_init_ack, sends_cookie}
use Rattle.sctp_assoc.specs.Chunks.{after_chunks, after_packet, after_packet_of, after_sack, checked_first}
use Rattle.sctp_assoc.specs.Chunks.{counted_data, goes_unread, left_or_handed_over, taken_unless}
use Rattle.sctp_assoc.specs.Chunks.{counted_sack, dispatched, ended, goes_on, on_chunk, on_counted_data}
use Rattle.sctp_assoc.specs.Chunks.{on_counted_sack, on_data, on_new_data, on_sack, stream_found, taken_in, told}
use Rattle.sctp_assoc.specs.Chunks.{asks, asks_or_faults, deferred, deferred_unless, deferred_where_admitted}
use Rattle.sctp_assoc.specs.Chunks.{is_skippable, passed_over, taken_where_admitted, then_skips, with_acknowledged}
use Rattle.sctp_sides.specs.OneSide.{is_delayed}
use Rattle.sctp_assoc.specs.Shown.{Shown, all_waiting, uses_forward_tsn}
use Rattle.sctp_sides.proofs.ForwardKinds.{with_use}
use Rattle.sctp_sides.proofs.TimersRun.{AtRest, FitsTimers, IsSameTime, Ticks, ack_kept, continued_ticks}
use Rattle.sctp_sides.proofs.TimersRun.{fits_as_many, fits_restarted, none_armed, restarted, restarted_keeps_ack}
use Rattle.sctp_sides.proofs.TimersRun.{same_time, ticks_by, time_by, time_on}
use Rattle.sctp_assoc.specs.Closing.{out_of_resource}
use Rattle.sctp_assoc.specs.Control.{queued}
use Rattle.sctp_assoc.specs.Finding.{found_for}
use Rattle.sctp_assoc.specs.Probes.{forgiven_if, is_probing, marked_if}
use Rattle.sctp_sides.proofs.TimersRun.{rest_by, sending_begins_no_more, shutdown_answered_ticks, shutdown_taken_ticks}
use Rattle.std.proofs.Common.{not}
use Rattle.sctp_wire_types.specs.declared.chunk.SkippedStream.{SkippedStream}
use Rattle.sctp_assoc.specs.Skipping.{acknowledged_at_once, on_forward, skips_of, unrecognized_chunk}
use Rattle.sctp_assoc.specs.Skipping.{with_passed, with_skips}
use Rattle.sctp_assoc.specs.Skipping.{asks_behind, is_ahead, with_skip}
use Rattle.sctp_assoc.specs.Resets.{on_reconfig, settled, skips_applied_of}
use Rattle.sctp_assoc.proofs.Probes.{probes_keep}
use Rattle.sctp_assoc.proofs.StreamsFound.{found_for_keeps}
use Rattle.sctp_resets.specs.Resets.{is_hidden, is_retiring, refusal_of}
use Rattle.sctp_sides.proofs.ResetsBeside.{reconfig_changes, settling_changes, skips_of_change}
use Rattle.sctp_sides.proofs.TimersRun.{ticks_beside}

-- DATA leaves all of it

found_time : (there left : Bool) (a : Shown) (id : ℕ) → is_some (stream_at a.streams id) ≡ there
    → generation_left a.streams ≡ left → IsSameTime a (stream_found a id).0
unfolding stream_found
found_time true left a id e f = rw e (same_time a)
found_time false true a id e f = rw (e, f) (time_by a _ refl refl refl refl refl refl)
found_time false false a id e f = rw (e, f) (same_time a)

told_time : (readable kept : Bool) (a : Shown) (id : ℕ) → is_readable_in a.streams id ≡ readable
    → IsSameTime a (told a id kept)
told_time true true a id e = rw e (time_by a _ refl refl refl refl refl refl)
told_time false true a id e = rw e (time_by a _ refl refl refl refl refl refl)
told_time readable false a id e = time_by a _ refl refl refl refl refl refl

taken_unless_time : (refusal : Option Error) (a : Shown) (piece : ChunkPayloadData)
    → IsSameTime a (taken_unless refusal a piece).0
taken_unless_time (Some fault) a piece = same_time a
taken_unless_time None a piece =
    let put = pushed_in a.streams piece.stream_identifier piece in
    let b : Shown = record a { streams = put.0; receiver = taken_to a.receiver piece.tsn } in
    time_on a b _ (time_by a b refl refl refl refl refl refl)
    (told_time (is_readable_in b.streams piece.stream_identifier) put.1 b piece.stream_identifier refl)

left_time : (left : Bool) (a : Shown) (piece : ChunkPayloadData) → IsSameTime a (left_or_handed_over left a piece).0
left_time true a piece = time_by a _ refl refl refl refl refl refl
left_time false a piece =
    taken_unless_time (refusal_in a.streams piece.stream_identifier piece a.receiver.max_receive_message_size) a piece

taken_time : (a : Shown) (piece : ChunkPayloadData) → IsSameTime a (taken_in a piece).0
unfolding taken_in
taken_time a piece = left_time (goes_unread a piece) a piece

ticks_if : {X : Type 0} (c : Bool) (x y : Shown × X) → Ticks x.0 → Ticks y.0 → Ticks (if c then x else y).0
ticks_if true x y h k = h
ticks_if false x y h k = k

asks_tick : (a : Shown) (immediate : Bool) (trigger : AckTrigger) → Ticks a → Ticks (asks a immediate trigger).0
asks_tick a immediate trigger h =
    ticks_if (is_exhausted a) (a, flows.Exhausted) (a, flows.Next (asked a.receiver trigger immediate)) h h

settled_ticks : (a : Shown) → Ticks a → Ticks (settled a)
settled_ticks a h = ticks_beside a (settled a) (settling_changes a) h

skips_behind_tick : (x : Shown × Option Error) (id : ℕ) → Ticks x.0 → Ticks (then_skips x id).0
skips_behind_tick (a, None) id h = ticks_beside a (skips_applied_of id a) (skips_of_change id a) h
skips_behind_tick (a, Some fault) id h = h

behind_ticks : (x : Shown × Option Error) (immediate : Bool) (trigger : AckTrigger) → Ticks x.0
    → Ticks (asks_or_faults x immediate trigger).0
behind_ticks (a, None) immediate trigger h = asks_tick (settled a) immediate trigger (settled_ticks a h)
behind_ticks (a, Some fault) immediate trigger h = h

taken_ticks_in : (a : Shown) (piece : ChunkPayloadData) → Ticks a → Ticks (taken_in a piece).0
taken_ticks_in a piece h = ticks_by a (taken_in a piece).0 (taken_time a piece) h

new_data_ticks : (x : Shown × Bool) (piece : ChunkPayloadData) (trigger : AckTrigger) → Ticks x.0
    → Ticks (on_new_data x piece trigger).0
new_data_ticks (a, false) piece trigger h = h
new_data_ticks (a, true) piece trigger h =
    behind_ticks (taken_where_admitted a piece) piece.immediate_sack trigger
    (ticks_if (admits a.receiver piece.tsn (all_waiting a)) (then_skips (taken_in a piece) piece.stream_identifier)
    (a, None) (skips_behind_tick (taken_in a piece) piece.stream_identifier (taken_ticks_in a piece h)) h)

kept_ticks : (refusal : Option Error) (a : Shown) (piece : ChunkPayloadData) → Ticks a
    → Ticks (deferred_unless refusal a piece).0
kept_ticks (Some fault) a piece h = h
kept_ticks None a piece h =
    ticks_by a (deferred_unless None a piece).0 (time_by a _ refl refl refl refl refl refl) h

deferred_ticks : (a : Shown) (piece : ChunkPayloadData) → Ticks a → Ticks (deferred_where_admitted a piece).0
unfolding deferred_where_admitted
deferred_ticks a piece h =
    ticks_if (admits a.receiver piece.tsn (all_waiting a)) (deferred a piece) (a, None)
    (kept_ticks (refusal_of a.resets piece a.receiver.max_receive_message_size) a piece h) h

counted_data_ticks : (a : Shown) (piece : ChunkPayloadData) (trigger : AckTrigger) → Ticks a
    → Ticks (on_counted_data a piece trigger).0
counted_data_ticks a piece trigger h =
    let known = asks (settled a) piece.immediate_sack trigger in
    let later = asks_or_faults (deferred_where_admitted a piece) piece.immediate_sack trigger in
    let now_read = on_new_data (stream_found a piece.stream_identifier) piece trigger in
    let hidden = is_hidden a.resets piece.stream_identifier piece.tsn in
    ticks_if (not (is_new_to a.receiver piece.tsn)) known (if hidden then later else now_read)
    (asks_tick (settled a) piece.immediate_sack trigger (settled_ticks a h))
    (ticks_if hidden later now_read
    (behind_ticks (deferred_where_admitted a piece) piece.immediate_sack trigger (deferred_ticks a piece h))
    (new_data_ticks (stream_found a piece.stream_identifier) piece trigger
    (ticks_by a (stream_found a piece.stream_identifier).0
    (found_time (is_some (stream_at a.streams piece.stream_identifier)) (generation_left a.streams) a
    piece.stream_identifier refl refl) h)))

data_ticks : (a : Shown) (piece : ChunkPayloadData) (trigger : AckTrigger) → Ticks a
    → Ticks (on_data a piece trigger).0
unfolding on_data
data_ticks a piece trigger h =
    counted_data_ticks (counted_data a) piece trigger
    (ticks_by a (counted_data a) (time_by a (counted_data a) refl refl refl refl refl refl) h)

-- SACK

-- The timers fit these pieces in flight, and those that a SACK left are these.
module _ (s : AssociationState) (f g : List InFlight) (t : Timers) (now rto : ℕ) (b : is_beginning s ≡ false)
    (h : FitsTimers s f t) where
  cleared : (p : Progress) → 0 < length g
      → FitsTimers s g (restarted_if_stale names.T3RTX now rto (t3_cleared p t))
  cleared p l =
      let r = restarted now rto (t3_cleared p t) in
      fits_restarted s f g t (restarted_if_stale names.T3RTX now rto (t3_cleared p t)) b
      (record {
        armed = r.armed;
        init = r.init ∙ kept p.earliest p.any_new;
        cookie = r.cookie ∙ kept_cookie p.earliest p.any_new;
        data_limit = r.data_limit ∙ kept_data p.earliest p.any_new;
        handshake_limit = r.handshake_limit ∙ kept_limit p.earliest p.any_new;
      }) l h
    where
      kept : (c d : Bool) → (t3_disarmed c (t3_forgiven d t)).t1_init ≡ t.t1_init
      kept true true = refl
      kept true false = refl
      kept false true = refl
      kept false false = refl

      kept_cookie : (c d : Bool) → (t3_disarmed c (t3_forgiven d t)).t1_cookie ≡ t.t1_cookie
      kept_cookie true true = refl
      kept_cookie true false = refl
      kept_cookie false true = refl
      kept_cookie false false = refl

      kept_data : (c d : Bool) → (t3_disarmed c (t3_forgiven d t)).data_limit ≡ t.data_limit
      kept_data true true = refl
      kept_data true false = refl
      kept_data false true = refl
      kept_data false false = refl

      kept_limit : (c d : Bool) → (t3_disarmed c (t3_forgiven d t)).handshake_limit ≡ t.handshake_limit
      kept_limit true true = refl
      kept_limit true false = refl
      kept_limit false true = refl
      kept_limit false false = refl

  -- T3-rtx after a SACK that left these pieces in flight
  sack_fits : (left : Bool) (p : Progress) → ltb 0 (length g) ≡ left
      → FitsTimers s g (if left then restarted_if_stale names.T3RTX now rto (t3_cleared p t)
      else with_stopped names.T3RTX t)
  sack_fits true p e = cleared p (ltb-true 0 (length g) e)
  sack_fits false p e = record {
    flies = record { timed = λ _ l. absurd (omega (arith, l, ltb-false 0 (length g) e)); none = λ _. refl };
    inits = h.inits;
    cookies = h.cookies;
    unsent = λ z. absurd (false≢true (sym b ∙ z));
  }

cleared_keeps_ack : (c d : Bool) (t : Timers) → (t3_disarmed c (t3_forgiven d t)).ack ≡ t.ack
cleared_keeps_ack true true t = refl
cleared_keeps_ack true false t = refl
cleared_keeps_ack false true t = refl
cleared_keeps_ack false false t = refl

sack_keeps_ack : (left : Bool) (p : Progress) (t : Timers) (now rto : ℕ)
    → (if left then restarted_if_stale names.T3RTX now rto (t3_cleared p t) else with_stopped names.T3RTX t).ack ≡ t.ack
sack_keeps_ack true p t now rto =
    restarted_keeps_ack now rto (t3_cleared p t) ∙ cleared_keeps_ack p.earliest p.any_new t
sack_keeps_ack false p t now rto = refl

taken_ticks : (a : Shown) (p : Progress) (now : ℕ) (x : Sender × Estimate × StreamMap) → is_beginning a.state ≡ false
    → Ticks a → Ticks (with_acknowledged a p now x)
taken_ticks a p now (s, e, m) b h = record {
  working = h.working;
  not_lost = h.not_lost;
  fits = sack_fits a.state a.sender.queue.in_flight s.queue.in_flight a.timers now e.rto b h.fits
      (ltb 0 (length s.queue.in_flight)) p refl;
  acks = ack_kept (t3_after_sack p (length s.queue.in_flight) now e.rto a.timers) a.timers a.receiver.ack_state
      (sack_keeps_ack (ltb 0 (length s.queue.in_flight)) p a.timers now e.rto) h.acks;
}

-- Behind a SACK that was taken T3-rtx runs where DATA is left in flight, so nothing is lost with its retries.
record IsTimed (a : Shown) : Type 0 where
  ticks : Ticks a
  timed : 0 < length a.sender.queue.in_flight → is_some a.timers.t3_rtx.moment ≡ true

sack_runs : (left : Bool) (p : Progress) (n : ℕ) (t : Timers) (now rto : ℕ) → ltb 0 n ≡ left → 0 < n
    → is_some (if left then restarted_if_stale names.T3RTX now rto (t3_cleared p t)
    else with_stopped names.T3RTX t).t3_rtx.moment ≡ true
sack_runs true p n t now rto e l = (restarted now rto (t3_cleared p t)).armed
sack_runs false p n t now rto e l = absurd (omega (arith, l, ltb-false 0 n e))

taken_runs : (a : Shown) (p : Progress) (now : ℕ) (x : Sender × Estimate × StreamMap)
    → 0 < length (with_acknowledged a p now x).sender.queue.in_flight
    → is_some (with_acknowledged a p now x).timers.t3_rtx.moment ≡ true
taken_runs a p now (s, e, m) l =
    sack_runs (ltb 0 (length s.queue.in_flight)) p (length s.queue.in_flight) a.timers now e.rto refl l

-- a timer that runs needs none of its retries
forgiven_fits : (s : AssociationState) (f : List InFlight) (t : Timers)
    → (0 < length f → is_some t.t3_rtx.moment ≡ true) → FitsTimers s f t
    → FitsTimers s f (without_retries names.T3RTX t)
forgiven_fits s f t timed h = record {
  flies = record { timed = λ _ l. inl (timed l); none = h.flies.none };
  inits = h.inits;
  cookies = h.cookies;
  unsent = h.unsent;
}

forgiven_timed : (a : Shown) → IsTimed a → IsTimed (forgiven_if true a)
forgiven_timed a h = record {
  ticks = record {
    working = h.ticks.working;
    not_lost = h.ticks.not_lost;
    fits = forgiven_fits a.state a.sender.queue.in_flight a.timers h.timed h.ticks.fits;
    acks = h.ticks.acks;
  };
  timed = h.timed;
}

-- as many pieces are in flight once they are marked
marked_timed : (a : Shown) → IsTimed a → IsTimed (marked_if true a)
marked_timed a h = record {
  ticks = record {
    working = h.ticks.working;
    not_lost = h.ticks.not_lost;
    fits = fits_as_many a.state a.sender.queue.in_flight (map marked_again a.sender.queue.in_flight) a.timers
        (length-map a.sender.queue.in_flight marked_again) h.ticks.fits;
    acks = h.ticks.acks;
  };
  timed = λ l. h.timed (subst (λ (n : ℕ). 0 < n) (length-map a.sender.queue.in_flight marked_again) l);
}

outcome_ticks : (o : SackOutcome) (a : Shown) (cumulative_tsn_ack : ℕ) (blocks : List GapAckBlock) (window : ℕ)
    (trigger : AckTrigger) (now : ℕ)
    → is_beginning a.state ≡ false → Ticks a
    → Ticks (on_counted_sack o a cumulative_tsn_ack blocks window trigger now).0
outcome_ticks outcomes.Older a cumulative_tsn_ack blocks window trigger now b h = h
outcome_ticks outcomes.NotInFlight a cumulative_tsn_ack blocks window trigger now b h = h
outcome_ticks outcomes.NamesTheUnsent a cumulative_tsn_ack blocks window trigger now b h = h
outcome_ticks outcomes.Taken a cumulative_tsn_ack blocks window trigger now b h =
    let p = progress_of a.sender cumulative_tsn_ack blocks in
    let x = sack_taken cumulative_tsn_ack blocks window now a.sender a.estimate a.streams in
    let c : Shown = after_sack a cumulative_tsn_ack blocks window now in
    let behind : IsTimed (shutdown_continued c) =
    record { ticks = continued_ticks c (taken_ticks a p now x b h); timed = taken_runs a p now x } in
    let answered =
    probes_keep IsTimed forgiven_timed marked_timed (is_probing a.profile a.sender) window (shutdown_continued c)
    behind in
    answered.ticks

-- The handshake

-- A chunk led on, or was a fault in an association that is as it should be, if it is closed.
pub record IsFaulty (b : Shown) : Type 0 where
  pub working : b.failed ≡ false
  pub not_lost : b.lost ≡ false
  pub if_closed : is_closed_state b.state ≡ true → Ticks b

abbrev pub TicksOn : Shown × Flow → Type 0
TicksOn (b, flows.Next trigger) = Ticks b
TicksOn (b, flows.Fault fault) = IsFaulty b
TicksOn (b, flows.Closed) = IsFaulty b
TicksOn (b, flows.Exhausted) = Ticks b

faulty : (b : Shown) → Ticks b → IsFaulty b
faulty b h = record { working = h.working; not_lost = h.not_lost; if_closed = λ _. h }

ticks_on : (x : Shown × Flow) → Ticks x.0 → TicksOn x
ticks_on (b, flows.Next trigger) h = h
ticks_on (b, flows.Fault fault) h = faulty b h
ticks_on (b, flows.Closed) h = faulty b h
ticks_on (b, flows.Exhausted) h = h

waiting_is_open : (s : AssociationState) → is_cookie_wait s ≡ true
    → (is_closed_state s ≡ false) × (is_beginning s ≡ true)
waiting_is_open states.Closed e = absurd (false≢true e)
waiting_is_open states.CookieWait e = (refl, refl)
waiting_is_open states.CookieEchoed e = absurd (false≢true e)
waiting_is_open states.Established e = absurd (false≢true e)
waiting_is_open states.ShutdownAckSent e = absurd (false≢true e)
waiting_is_open states.ShutdownPending e = absurd (false≢true e)
waiting_is_open states.ShutdownReceived e = absurd (false≢true e)
waiting_is_open states.ShutdownSent e = absurd (false≢true e)

echoed_begins : (s : AssociationState) → is_cookie_echoed s ≡ true → is_beginning s ≡ true
echoed_begins states.Closed e = absurd (false≢true e)
echoed_begins states.CookieWait e = absurd (false≢true e)
echoed_begins states.CookieEchoed e = refl
echoed_begins states.Established e = absurd (false≢true e)
echoed_begins states.ShutdownAckSent e = absurd (false≢true e)
echoed_begins states.ShutdownPending e = absurd (false≢true e)
echoed_begins states.ShutdownReceived e = absurd (false≢true e)
echoed_begins states.ShutdownSent e = absurd (false≢true e)

-- in CookieEchoed the timer of INIT is stopped and that of COOKIE ECHO runs
echo_fits : (s : AssociationState) (f : List InFlight) (t : Timers) (now rto : ℕ) → is_beginning s ≡ true
    → FitsTimers s f t
    → FitsTimers states.CookieEchoed f (started names.T1Cookie now rto (with_stopped names.T1Init t))
echo_fits s f t now rto b h = record {
  flies = record { timed = λ e _. absurd (false≢true e); none = h.flies.none };
  inits = record { alone = λ _. refl; timed = λ e. absurd (false≢true e) };
  cookies = record { alone = λ e. absurd (true≢false e); timed = λ _. inl refl };
  unsent = λ _. h.unsent b;
}

echoed_ticks : (o : Option (List ℕ)) (b : Shown) (trigger : AckTrigger) (now : ℕ) → b.failed ≡ false → b.lost ≡ false
    → is_cookie_wait b.state ≡ true
    → FitsTimers states.CookieEchoed b.sender.queue.in_flight (started names.T1Cookie now b.estimate.rto b.timers)
    → is_some b.timers.ack.moment ≡ is_delayed b.receiver.ack_state → TicksOn (echoed o b trigger now)
unfolding sends_cookie
echoed_ticks None b trigger now works lost e h k = record {
  working = works;
  not_lost = lost;
  if_closed = λ c. absurd (false≢true (sym (waiting_is_open b.state e).0 ∙ c));
}
echoed_ticks (Some cookie) b trigger now works lost e h k = record {
  working = works;
  not_lost = lost;
  fits = h;
  acks = k;
}

-- it is established: neither timer of the handshake runs, and nothing was sent yet
connected_fits : (s : AssociationState) (f : List InFlight) (t : Timers) → is_beginning s ≡ true → FitsTimers s f t
    → FitsTimers states.Established f (with_stopped names.T1Cookie (with_stopped names.T1Init t))
connected_fits s f t b h = record {
  flies = record {
    timed = λ _ p. absurd (omega (arith, p, ap (λ (z : List InFlight). length z) (h.unsent b)));
    none = h.flies.none;
  };
  inits = record { alone = λ _. refl; timed = λ e. absurd (false≢true e) };
  cookies = record { alone = λ _. refl; timed = λ e. absurd (false≢true e) };
  unsent = λ e. absurd (false≢true e);
}

connected_ticks : (a : Shown) → is_beginning a.state ≡ true → Ticks a → Ticks (connected a)
connected_ticks a b h = record {
  working = h.working;
  not_lost = h.not_lost;
  fits = connected_fits a.state a.sender.queue.in_flight a.timers b h.fits;
  acks = h.acks;
}

acknowledges_cookie : (a : Shown) → Ticks a → Ticks (acknowledged_cookie a)
acknowledges_cookie a h = ticks_by a (acknowledged_cookie a)
    (time_by a (acknowledged_cookie a) refl refl refl refl refl refl) h

information_ticks : (o : Option (List ℕ)) (a : Shown) → Ticks a → Ticks (information_returned o a)
information_ticks None a h = h
information_ticks (Some information) a h = ticks_by a _ (time_by a _ refl refl refl refl refl refl) h

-- FORWARD TSN

skip_ticks : (retires : Bool) (a : Shown) (tsn id ssn : ℕ) → is_retiring a.resets id ≡ retires → Ticks a
    → Ticks (with_skip tsn id ssn a)
unfolding with_skip
skip_ticks true a tsn id ssn e h = rw e (ticks_by a _ (time_by a _ refl refl refl refl refl refl) h)
skip_ticks false a tsn id ssn e h = rw e (ticks_by a _ (time_by a _ refl refl refl refl refl refl) h)

skips_tick : (tsn : ℕ) (es : List SkippedStream) (a : Shown) → Ticks a → Ticks (with_skips tsn es a)
skips_tick tsn [] a h = h
skips_tick tsn (e ∷ es) a h =
    skips_tick tsn es (with_skip tsn e.stream_identifier e.stream_sequence_number a)
    (skip_ticks (is_retiring a.resets e.stream_identifier) a tsn e.stream_identifier e.stream_sequence_number refl h)

at_once_ticks : (a : Shown) (now : ℕ) → Ticks a → Ticks (acknowledged_at_once a now)
at_once_ticks a now h = record {
  working = h.working;
  not_lost = h.not_lost;
  fits = record {
    flies = h.fits.flies;
    inits = h.fits.inits;
    cookies = h.fits.cookies;
    unsent = h.fits.unsent;
  };
  acks = refl;
}

passed_ticks : (a : Shown) (tsn : ℕ) (es : List SkippedStream) → Ticks a
    → Ticks (with_passed (with_skips tsn es a) tsn)
passed_ticks a tsn es h =
    let b : Shown = with_skips tsn es a in
    ticks_by b (with_passed b tsn) (time_by b (with_passed b tsn) refl refl refl refl refl refl)
    (skips_tick tsn es a h)

ahead_ticks : (a : Shown) (tsn : ℕ) (es : List SkippedStream) (trigger : AckTrigger) → Ticks a
    → Ticks (asks_behind (settled (with_passed (with_skips tsn es a) tsn)) trigger).0
ahead_ticks a tsn es trigger h =
    let b : Shown = settled (with_passed (with_skips tsn es a) tsn) in
    let k : Ticks b = settled_ticks (with_passed (with_skips tsn es a) tsn) (passed_ticks a tsn es h) in
    ticks_if (is_exhausted b) (b, flows.Exhausted) (b, flows.Next (asked b.receiver trigger false)) k k

-- the streams on which it skips are found or made before
all_found_tick : (tsn : ℕ) (es : List SkippedStream) (a : Shown) → Ticks a → Ticks (found_for tsn es a)
all_found_tick tsn es a h =
    found_for_keeps Ticks
    (λ b id k. ticks_by b (stream_found b id).0
    (found_time (is_some (stream_at b.streams id)) (generation_left b.streams) b id refl refl) k)
    tsn es a h

forward_ticks_by : (uses ahead : Bool) (a : Shown) (tsn : ℕ) (es : List SkippedStream) (trigger : AckTrigger) (now : ℕ)
    → is_ahead a tsn ≡ ahead → Ticks (with_use uses a)
    → Ticks (on_forward (with_use uses a) tsn es trigger now).0
unfolding on_forward
forward_ticks_by false ahead a tsn es trigger now e h =
    let b : Shown = with_use false a in
    ticks_by b (queued b unrecognized_chunk)
    (time_by b (queued b unrecognized_chunk) refl refl refl refl refl refl) h
forward_ticks_by true false a tsn es trigger now e h = rw e (at_once_ticks (with_use true a) now h)
forward_ticks_by true true a tsn es trigger now e h =
    let b : Shown = with_use true a in
    rw e (ahead_ticks (found_for tsn es b) tsn es trigger (all_found_tick tsn es b h))

forward_ticks : (a : Shown) (tsn : ℕ) (es : List SkippedStream) (trigger : AckTrigger) (now : ℕ) → Ticks a
    → Ticks (on_forward a tsn es trigger now).0
forward_ticks a tsn es trigger now h =
    forward_ticks_by (uses_forward_tsn a) (is_ahead a tsn) a tsn es trigger now refl h

-- Each chunk keeps the timers where they should run, or is a fault.
module _ (a : Shown) (trigger : AckTrigger) (h : Ticks a) where
  sack_ticks : (sends : Bool) (cumulative_tsn_ack : ℕ) (blocks : List GapAckBlock) (window now : ℕ)
      → sends_data a.state ≡ sends
      → Ticks (on_sack a cumulative_tsn_ack blocks window trigger now).0
  unfolding on_sack
  sack_ticks true cumulative_tsn_ack blocks window now e =
      rw e (outcome_ticks (sack_outcome a.sender cumulative_tsn_ack blocks)
      (counted_sack a) cumulative_tsn_ack blocks window trigger now
      (sending_begins_no_more a.state e)
      (ticks_by a (counted_sack a) (time_by a (counted_sack a) refl refl refl refl refl refl) h))
  sack_ticks false cumulative_tsn_ack blocks window now e = rw e h

  init_ticks : (c kept : Bool) (header : CommonHeader) (init : ChunkInit) → is_beginning a.state ≡ c
      → keeps_peer a init ≡ kept → Ticks (on_init a header init trigger).0
  unfolding on_init
  init_ticks true true header init e f = rw (e, f)
      (ticks_by a _ (time_by a _ refl refl refl refl refl refl) h)
  init_ticks true false header init e f = rw (e, f)
      (ticks_by a _ (time_by a _ refl refl refl refl refl refl) h)
  init_ticks false kept header init e f = rw e h

  init_ack_ticks : (waits back : Bool) (header : CommonHeader) (init : ChunkInit) (now : ℕ)
      → is_cookie_wait a.state ≡ waits → comes_back a.handshake header ≡ back
      → TicksOn (on_init_ack a header init trigger now)
  unfolding on_init_ack
  init_ack_ticks true true header init now e f =
      rw (e, f) (echoed_ticks (first_cookie init.params) _ trigger now h.working h.not_lost e
      (echo_fits a.state a.sender.queue.in_flight a.timers now a.estimate.rto (waiting_is_open a.state e).1 h.fits)
      h.acks)
  init_ack_ticks true false header init now e f = rw (e, f)
      (ticks_by a _ (time_by a _ refl refl refl refl refl refl) h)
  init_ack_ticks false back header init now e f = rw e h

  cookie_echo_ticks : (issued begins again : Bool) (cookie : List ℕ) → has_issued a.handshake cookie ≡ issued
      → is_beginning a.state ≡ begins → acknowledges_again a ≡ again
      → Ticks (on_cookie_echo a cookie trigger).0
  unfolding on_cookie_echo
  cookie_echo_ticks false begins again cookie e f g = rw e h
  cookie_echo_ticks true true again cookie e f g = rw (e, f)
      (acknowledges_cookie (connected a) (connected_ticks a f h))
  cookie_echo_ticks true false true cookie e f g = rw (e, f, g) (acknowledges_cookie (shutdown_again a)
      (ticks_by a (shutdown_again a) (time_by a (shutdown_again a) refl refl refl refl refl refl) h))
  cookie_echo_ticks true false false cookie e f g = rw (e, f, g) h

  cookie_ack_ticks : (c : Bool) → is_cookie_echoed a.state ≡ c → Ticks (on_cookie_ack a trigger).0
  unfolding on_cookie_ack
  cookie_ack_ticks true e = rw e (connected_ticks a (echoed_begins a.state e) h)
  cookie_ack_ticks false e = rw e h

  heartbeat_ticks : (heartbeat : ChunkHeartbeat) → TicksOn (on_heartbeat a heartbeat trigger)
  unfolding on_heartbeat
  heartbeat_ticks heartbeat = information_ticks (information_of heartbeat.params) a h

  -- any chunk
  kind_ticks : (header : CommonHeader) (c : Chunk) (now : ℕ) → TicksOn (dispatched a header c trigger now)
  kind_ticks header (chunks.Data piece) now = ticks_on (on_data a piece _) (data_ticks a piece _ h)
  kind_ticks header (chunks.SelectiveAck k) now =
      ticks_on (on_sack a k.cumulative_tsn_ack k.gap_ack_blocks k.advertised_receiver_window_credit trigger now)
      (sack_ticks (sends_data a.state) k.cumulative_tsn_ack k.gap_ack_blocks k.advertised_receiver_window_credit
      now refl)
  kind_ticks header (chunks.Init x) now = ticks_on (on_init a header x trigger)
      (init_ticks (is_beginning a.state) (keeps_peer a x) header x refl refl)
  kind_ticks header (chunks.InitAck x) now =
      init_ack_ticks (is_cookie_wait a.state) (comes_back a.handshake header) header x now refl refl
  kind_ticks header (chunks.Heartbeat x) now = heartbeat_ticks x
  kind_ticks header (chunks.HeartbeatAck x) now =
      ticks_on (a, passed_over (is_rfc a.profile) errors.ErrChunkTypeUnhandled trigger) h
  kind_ticks header (chunks.Abort x) now = faulty a h
  kind_ticks header (chunks.Shutdown x) now = shutdown_taken_ticks a h
  kind_ticks header chunks.ShutdownAck now = shutdown_answered_ticks a h
  kind_ticks header (chunks.Error x) now =
      ticks_on (a, passed_over (is_rfc a.profile) errors.ErrAbortChunk trigger) h
  kind_ticks header (chunks.CookieEcho x) now =
      ticks_on (on_cookie_echo a x trigger) (cookie_echo_ticks (has_issued a.handshake x) (is_beginning a.state)
      (acknowledges_again a) x refl refl refl)
  kind_ticks header chunks.CookieAck now = ticks_on (on_cookie_ack a trigger)
      (cookie_ack_ticks (is_cookie_echoed a.state) refl)
  kind_ticks header chunks.ShutdownComplete now = ticks_on (a, on_shutdown_complete a.state trigger) h
  kind_ticks header (chunks.Reconfig x) now = ticks_on (on_reconfig a x trigger)
      (ticks_beside a (on_reconfig a x trigger).0 (reconfig_changes a x trigger) h)
  kind_ticks header (chunks.ForwardTsn x) now = ticks_on (on_forward a x.new_cumulative_tsn x.streams trigger now)
      (forward_ticks a x.new_cumulative_tsn x.streams trigger now h)
  kind_ticks header (chunks.IForwardTsn x) now =
      ticks_on (on_forward a x.new_cumulative_tsn (skips_of x.entries) trigger now)
      (forward_ticks a x.new_cumulative_tsn (skips_of x.entries) trigger now h)
  kind_ticks header (chunks.Other kind flags value) now =
      ticks_on (a, passed_over (is_skippable kind && is_rfc a.profile) errors.ErrChunkTypeUnhandled trigger) h

  checked_ticks : (r : Result (Unit {0}) Error) (header : CommonHeader) (c : Chunk) (now : ℕ)
      → TicksOn (checked_first r a header c trigger now)
  checked_ticks (Err fault) header c now = faulty a h
  checked_ticks (Ok done) header c now = kind_ticks header c now

  chunk_ticks : (header : CommonHeader) (c : Chunk) (now : ℕ) → TicksOn (on_chunk a header c trigger now)
  unfolding on_chunk
  chunk_ticks header c now = checked_ticks (checked_chunk c) header c now

-- A packet

-- it works on, or was lost
abbrev pub IsSound : Shown → Type 0
IsSound a = Ticks a ⊎ AtRest a

pub closed_rests : (a : Shown) (reason : AssociationError) → AtRest (closed_open a reason)
closed_rests a reason =
    record { over = inr refl; closed = λ _. refl; stopped = none_armed a.timers; quiet = λ _. (refl, refl) }

fault_rests : (closed : Bool) (b : Shown) (reason : AssociationError) → is_closed_state b.state ≡ closed → IsFaulty b
    → IsSound (if closed then b else closed_open b reason)
fault_rests true b reason e h = inl (h.if_closed e)
fault_rests false b reason e h = inr (closed_rests b reason)

pub exhausted_sound : (closed : Bool) (b : Shown) → Ticks b
    → IsSound (queued (if closed then b else closed_open b reasons.ReceiveBufferExhausted) out_of_resource)
exhausted_sound true b h = inl (ticks_by b _ (time_by b _ refl refl refl refl refl refl) h)
exhausted_sound false b h =
    let c : Shown = closed_open b reasons.ReceiveBufferExhausted in
    inr (rest_by c _ refl refl refl refl refl (closed_rests b reasons.ReceiveBufferExhausted))

goes_on_soundly : (x : Shown × Flow) (more : Shown → AckTrigger → Shown) → TicksOn x
    → ((b : Shown) (trigger : AckTrigger) → Ticks b → IsSound (more b trigger)) → IsSound (goes_on x more)
goes_on_soundly (b, flows.Next trigger) more h k = k b trigger h
goes_on_soundly (b, flows.Fault fault) more h k = fault_rests (is_closed_state b.state) b reasons.AssociationClosed
    refl h
goes_on_soundly (b, flows.Closed) more h k = fault_rests (is_closed_state b.state) b reasons.AssociationClosed refl h
goes_on_soundly (b, flows.Exhausted) more h k = exhausted_sound (is_closed_state b.state) b h

ended_ticks : (trigger : AckTrigger) (a : Shown) (now : ℕ) → Ticks a → Ticks (ended a trigger now)
ended_ticks triggers.None a now h = record { working = h.working; not_lost = h.not_lost; fits = h.fits; acks = h.acks }
ended_ticks triggers.Delayed a now h = record {
  working = h.working;
  not_lost = h.not_lost;
  fits = record {
    flies = h.fits.flies;
    inits = h.fits.inits;
    cookies = h.fits.cookies;
    unsent = h.fits.unsent;
  };
  acks = refl;
}
ended_ticks triggers.Immediate a now h = at_once_ticks a now h

chunks_sound : (header : CommonHeader) (cs : List Chunk) (a : Shown) (trigger : AckTrigger) (now : ℕ) → Ticks a
    → IsSound (after_chunks header cs a trigger now)
chunks_sound header [] a trigger now h = inl (ended_ticks trigger a now h)
chunks_sound header (c ∷ cs) a trigger now h =
    goes_on_soundly (on_chunk a header c trigger now) (λ b next. after_chunks header cs b next now)
    (chunk_ticks a trigger h header c now)
    (λ b next k. chunks_sound header cs b next now k)

packet_of_sound : (packet : Option Packet) (a : Shown) (now : ℕ) → Ticks a → IsSound (after_packet_of a packet now)
packet_of_sound None a now h = inl h
packet_of_sound (Some packet) a now h = chunks_sound packet.common_header packet.chunks a triggers.None now h

sound_if : (c : Bool) (x y : Shown) → IsSound x → IsSound y → IsSound (if c then x else y)
sound_if true x y h k = h
sound_if false x y h k = k

pub packets_sound : (packet : Option Packet) (a : Shown) (now : ℕ) → Ticks a → IsSound (after_packet a packet now)
packets_sound packet a now h = sound_if a.lost a (after_packet_of a packet now) (inl h) (packet_of_sound packet a now h)
