-- The chunks of a packet keep the order of a shutdown, or close.
use Rattle.std.proofs.Common.{◌≡◌, refl, sym, ap, ◌∙◌, inl, inr, ℕ, Bool, true, false, ◌&&◌, ◌==◌, not}
use Rattle.std.proofs.Common.{if◌then◌else◌, List, [], ◌∷◌, length, ltb, Option, Some, None, is_some, Result, Ok, Err}
use Rattle.std.proofs.lemmas.Bool.{false≢true}
use Rattle.std.proofs.lemmas.List.{length-map}
use Rattle.sctp_wire_types.specs.declared.chunk.Chunk.{Chunk}
use Rattle.sctp_wire_types.specs.declared.chunk.Chunk.TheVariants as chunks
use Rattle.sctp_wire_types.specs.declared.chunk.ChunkHeartbeat.{ChunkHeartbeat}
use Rattle.sctp_wire_types.specs.declared.chunk.ChunkInit.{ChunkInit}
use Rattle.sctp_wire_types.specs.declared.chunk.ChunkPayloadData.{ChunkPayloadData}
use Rattle.sctp_wire_types.specs.declared.chunk.GapAckBlock.{GapAckBlock}
use Rattle.sctp_wire_types.specs.declared.chunk.SkippedStream.{SkippedStream}
use Rattle.sctp_wire_types.specs.declared.error.Error.{Error}
use Rattle.sctp_wire_types.specs.declared.packet.CommonHeader.{CommonHeader}
use Rattle.sctp_wire_types.specs.Checks.{checked_chunk}
use Rattle.sctp_wire.specs.declared.packet.Packet.{Packet}
use Rattle.sctp_parts.specs.declared.state.AssociationState.{AssociationState}
use Rattle.sctp_parts.specs.declared.state.AssociationState.TheVariants as states
use Rattle.sctp_parts.specs.declared.timer.Timer.TheVariants as names
use Rattle.sctp_parts.specs.Estimate.{Estimate}
use Rattle.sctp_parts.specs.State.{is_closing}
use Rattle.sctp_parts.specs.Timers.{TimerState, Timers, is_ahead, moment_of, restarted_if_stale, started, with_stopped}
use Rattle.sctp_streams.specs.declared.event.AssociationError.{AssociationError}
use Rattle.sctp_streams.specs.declared.event.AssociationError.TheVariants as reasons
use Rattle.sctp_streams.specs.Streams.{StreamMap, generation_left, is_readable_in, pushed_in, refusal_in, stream_at}
use Rattle.sctp_inbound.specs.declared.receiver.AckTrigger.{AckTrigger}
use Rattle.sctp_inbound.specs.declared.receiver.AckTrigger.TheVariants as triggers
use Rattle.sctp_inbound.specs.Greeting.{first_cookie, information_of}
use Rattle.sctp_inbound.specs.Handshake.{comes_back, has_issued}
use Rattle.sctp_inbound.specs.Receiver.{admits, asked, is_new_to, taken_to}
use Rattle.sctp_outbound_queue.specs.Message.{marked_again}
use Rattle.sctp_outbound.specs.declared.progress.Progress.{Progress}
use Rattle.sctp_outbound.specs.declared.sender.SackOutcome.{SackOutcome}
use Rattle.sctp_outbound.specs.declared.sender.SackOutcome.TheVariants as outcomes
use Rattle.sctp_outbound.specs.declared.sender.Sender.{Sender}
use Rattle.sctp_outbound.specs.Sacks.{progress_of, sack_taken}
use Rattle.sctp_outbound.specs.Sender.{sack_outcome, t3_cleared, t3_disarmed, t3_forgiven}
use Rattle.sctp_resets.specs.Resets.{is_hidden, is_retiring, refusal_of}
use Rattle.sctp_assoc.specs.declared.inbound.Flow.{Flow}
use Rattle.sctp_assoc.specs.declared.inbound.Flow.TheVariants as flows
use Rattle.sctp_assoc.specs.Calls.{is_beginning, is_cookie_echoed, is_cookie_wait, sends_data}
use Rattle.sctp_assoc.specs.Chunks.{after_chunks, after_packet, after_packet_of, after_sack, asks, asks_or_faults}
use Rattle.sctp_assoc.specs.Chunks.{checked_first, counted_data, counted_sack, deferred, deferred_unless}
use Rattle.sctp_assoc.specs.Chunks.{deferred_where_admitted, dispatched, ended, goes_on, goes_unread}
use Rattle.sctp_assoc.specs.Chunks.{left_or_handed_over, left_unread, on_chunk, on_counted_data}
use Rattle.sctp_assoc.specs.Chunks.{on_counted_sack, on_data, on_new_data, on_sack, stream_found, taken_in}
use Rattle.sctp_assoc.specs.Chunks.{taken_unless, taken_where_admitted, then_skips, told, with_acknowledged}
use Rattle.sctp_assoc.specs.Closing.{closed_open, is_closed_state, is_exhausted, out_of_resource}
use Rattle.sctp_assoc.specs.Control.{queued}
use Rattle.sctp_assoc.specs.Finding.{found_for}
use Rattle.sctp_assoc.specs.Handshake.{acknowledged_cookie, acknowledges_again, connected, echoed}
use Rattle.sctp_assoc.specs.Handshake.{information_returned, keeps_peer, on_cookie_ack, on_cookie_echo}
use Rattle.sctp_assoc.specs.Handshake.{on_heartbeat, on_init, on_init_ack, sends_cookie}
use Rattle.sctp_assoc.specs.Probes.{forgiven_if, is_probing, marked_if}
use Rattle.sctp_assoc.specs.Resets.{on_reconfig, settled, skips_applied_of}
use Rattle.sctp_assoc.specs.Shown.{Shown, all_waiting, uses_forward_tsn}
use Rattle.sctp_assoc.specs.Shutdown.{awaits_answer, shutdown_again, shutdown_continued}
use Rattle.sctp_assoc.specs.Skipping.{acknowledged_at_once, asks_behind, on_forward, skips_of, unrecognized_chunk}
use Rattle.sctp_assoc.specs.Skipping.{with_passed, with_skip, with_skips}
use Rattle.sctp_assoc.specs.Skipping as skipping
use Rattle.sctp_assoc.proofs.Probes.{probes_keep}
use Rattle.sctp_assoc.proofs.StreamsFound.{found_for_keeps}
use Rattle.sctp_sides.proofs.ForwardKinds.{with_use}
use Rattle.sctp_sides.proofs.ResetsBeside.{reconfig_changes, settling_changes, skips_of_change}
use Rattle.sctp_sides.specs.Ending.{IsInOrder}
use Rattle.sctp_sides.proofs.ShutdownOrder.{IsOrderedOrRests, again_order, answered_order, continued_order, in_use}
use Rattle.sctp_sides.proofs.ShutdownOrder.{order_beside, order_by, taken_order}
use Rattle.sctp_sides.proofs.TimersOverChunks.{closed_rests}
use Rattle.sctp_sides.proofs.TimersRun.{rest_by}

order_if : {X : Type 0} (c : Bool) (x y : Shown × X) → IsInOrder x.0 → IsInOrder y.0
    → IsInOrder (if c then x else y).0
order_if true x y h k = h
order_if false x y h k = k

-- DATA leaves all of it

found_order : (there left : Bool) (a : Shown) (id : ℕ) → is_some (stream_at a.streams id) ≡ there
    → generation_left a.streams ≡ left → IsInOrder a → IsInOrder (stream_found a id).0
unfolding stream_found
found_order true left a id e f h = rw e h
found_order false true a id e f h = rw (e, f) (order_by a _ refl refl refl refl h)
found_order false false a id e f h = rw (e, f) h

told_order : (readable kept : Bool) (a : Shown) (id : ℕ) → is_readable_in a.streams id ≡ readable → IsInOrder a
    → IsInOrder (told a id kept)
told_order true true a id e h = rw e (order_by a _ refl refl refl refl h)
told_order false true a id e h = rw e (order_by a _ refl refl refl refl h)
told_order readable false a id e h = order_by a _ refl refl refl refl h

taken_unless_order : (refusal : Option Error) (a : Shown) (piece : ChunkPayloadData) → IsInOrder a
    → IsInOrder (taken_unless refusal a piece).0
taken_unless_order (Some fault) a piece h = h
taken_unless_order None a piece h =
    let put = pushed_in a.streams piece.stream_identifier piece in
    let b : Shown = record a { streams = put.0; receiver = taken_to a.receiver piece.tsn } in
    told_order (is_readable_in b.streams piece.stream_identifier) put.1 b piece.stream_identifier refl
    (order_by a b refl refl refl refl h)

left_order : (left : Bool) (a : Shown) (piece : ChunkPayloadData) → IsInOrder a
    → IsInOrder (left_or_handed_over left a piece).0
left_order true a piece h = order_by a (left_unread a piece) refl refl refl refl h
left_order false a piece h =
    taken_unless_order (refusal_in a.streams piece.stream_identifier piece a.receiver.max_receive_message_size) a piece
    h

taken_in_order : (a : Shown) (piece : ChunkPayloadData) → IsInOrder a → IsInOrder (taken_in a piece).0
unfolding taken_in
taken_in_order a piece h = left_order (goes_unread a piece) a piece h

asks_order : (a : Shown) (immediate : Bool) (trigger : AckTrigger) → IsInOrder a
    → IsInOrder (asks a immediate trigger).0
asks_order a immediate trigger h =
    order_if (is_exhausted a) (a, flows.Exhausted) (a, flows.Next (asked a.receiver trigger immediate)) h h

settled_order : (a : Shown) → IsInOrder a → IsInOrder (settled a)
settled_order a h = order_beside a (settled a) (settling_changes a) h

skips_behind_order : (x : Shown × Option Error) (id : ℕ) → IsInOrder x.0 → IsInOrder (then_skips x id).0
skips_behind_order (a, None) id h = order_beside a (skips_applied_of id a) (skips_of_change id a) h
skips_behind_order (a, Some fault) id h = h

behind_order : (x : Shown × Option Error) (immediate : Bool) (trigger : AckTrigger) → IsInOrder x.0
    → IsInOrder (asks_or_faults x immediate trigger).0
behind_order (a, None) immediate trigger h = asks_order (settled a) immediate trigger (settled_order a h)
behind_order (a, Some fault) immediate trigger h = h

new_data_order : (x : Shown × Bool) (piece : ChunkPayloadData) (trigger : AckTrigger) → IsInOrder x.0
    → IsInOrder (on_new_data x piece trigger).0
new_data_order (a, false) piece trigger h = h
new_data_order (a, true) piece trigger h =
    behind_order (taken_where_admitted a piece) piece.immediate_sack trigger
    (order_if (admits a.receiver piece.tsn (all_waiting a)) (then_skips (taken_in a piece) piece.stream_identifier)
    (a, None) (skips_behind_order (taken_in a piece) piece.stream_identifier (taken_in_order a piece h)) h)

kept_order : (refusal : Option Error) (a : Shown) (piece : ChunkPayloadData) → IsInOrder a
    → IsInOrder (deferred_unless refusal a piece).0
kept_order (Some fault) a piece h = h
kept_order None a piece h = order_by a (deferred_unless None a piece).0 refl refl refl refl h

deferred_order : (a : Shown) (piece : ChunkPayloadData) → IsInOrder a
    → IsInOrder (deferred_where_admitted a piece).0
unfolding deferred_where_admitted
deferred_order a piece h =
    order_if (admits a.receiver piece.tsn (all_waiting a)) (deferred a piece) (a, None)
    (kept_order (refusal_of a.resets piece a.receiver.max_receive_message_size) a piece h) h

counted_data_order : (a : Shown) (piece : ChunkPayloadData) (trigger : AckTrigger) → IsInOrder a
    → IsInOrder (on_counted_data a piece trigger).0
counted_data_order a piece trigger h =
    let known = asks (settled a) piece.immediate_sack trigger in
    let later = asks_or_faults (deferred_where_admitted a piece) piece.immediate_sack trigger in
    let now_read = on_new_data (stream_found a piece.stream_identifier) piece trigger in
    let hidden = is_hidden a.resets piece.stream_identifier piece.tsn in
    order_if (not (is_new_to a.receiver piece.tsn)) known (if hidden then later else now_read)
    (asks_order (settled a) piece.immediate_sack trigger (settled_order a h))
    (order_if hidden later now_read
    (behind_order (deferred_where_admitted a piece) piece.immediate_sack trigger (deferred_order a piece h))
    (new_data_order (stream_found a piece.stream_identifier) piece trigger
    (found_order (is_some (stream_at a.streams piece.stream_identifier)) (generation_left a.streams) a
    piece.stream_identifier refl refl h)))

data_order : (a : Shown) (piece : ChunkPayloadData) (trigger : AckTrigger) → IsInOrder a
    → IsInOrder (on_data a piece trigger).0
unfolding on_data
data_order a piece trigger h =
    counted_data_order (counted_data a) piece trigger (order_by a (counted_data a) refl refl refl refl h)

-- SACK leaves the timer of the answer, and behind it a shutdown that waited for DATA goes on

cleared_leaves : (c d : Bool) (t : Timers) → (t3_disarmed c (t3_forgiven d t)).t2_shutdown ≡ t.t2_shutdown
cleared_leaves true true t = refl
cleared_leaves true false t = refl
cleared_leaves false true t = refl
cleared_leaves false false t = refl

restarted_leaves : (c : Bool) (now rto : ℕ) (t : Timers)
    → (if c then t else started names.T3RTX now rto t).t2_shutdown ≡ t.t2_shutdown
restarted_leaves true now rto t = refl
restarted_leaves false now rto t = refl

sack_leaves : (left : Bool) (p : Progress) (t : Timers) (now rto : ℕ)
    → (if left then restarted_if_stale names.T3RTX now rto (t3_cleared p t) else with_stopped names.T3RTX t).t2_shutdown
    ≡ t.t2_shutdown
sack_leaves true p t now rto =
    restarted_leaves (is_ahead (moment_of names.T3RTX (t3_cleared p t)) now) now rto (t3_cleared p t)
    ∙ cleared_leaves p.earliest p.any_new t
sack_leaves false p t now rto = refl

acknowledged_leaves : (a : Shown) (p : Progress) (now : ℕ) (x : Sender × Estimate × StreamMap)
    → (with_acknowledged a p now x).timers.t2_shutdown ≡ a.timers.t2_shutdown
acknowledged_leaves a p now (s, e, m) = sack_leaves (ltb 0 (length s.queue.in_flight)) p a.timers now e.rto

-- DATA is sent in the states alone in which no answer is awaited
sending_awaits_nothing : (s : AssociationState) → sends_data s ≡ true → awaits_answer s ≡ false
sending_awaits_nothing states.Closed e = refl
sending_awaits_nothing states.CookieWait e = refl
sending_awaits_nothing states.CookieEchoed e = refl
sending_awaits_nothing states.Established e = refl
sending_awaits_nothing states.ShutdownAckSent e = absurd (false≢true e)
sending_awaits_nothing states.ShutdownPending e = refl
sending_awaits_nothing states.ShutdownReceived e = refl
sending_awaits_nothing states.ShutdownSent e = absurd (false≢true e)

-- probes that are answered leave it, and as many pieces in flight
forgiven_order : (a : Shown) → IsInOrder a → IsInOrder (forgiven_if true a)
forgiven_order a h = order_by a (forgiven_if true a) refl refl refl refl h

marked_order : (a : Shown) → IsInOrder a → IsInOrder (marked_if true a)
marked_order a h =
    order_by a (marked_if true a) refl refl refl
    (ap (λ (n : ℕ). (length a.sender.queue.pending == 0) && (n == 0))
    (length-map a.sender.queue.in_flight marked_again)) h

outcome_order : (o : SackOutcome) (a : Shown) (cumulative_tsn_ack : ℕ) (blocks : List GapAckBlock) (window : ℕ)
    (trigger : AckTrigger) (now : ℕ) → sends_data a.state ≡ true → IsInOrder a
    → IsInOrder (on_counted_sack o a cumulative_tsn_ack blocks window trigger now).0
outcome_order outcomes.Older a cumulative_tsn_ack blocks window trigger now s h = h
outcome_order outcomes.NotInFlight a cumulative_tsn_ack blocks window trigger now s h = h
outcome_order outcomes.NamesTheUnsent a cumulative_tsn_ack blocks window trigger now s h = h
outcome_order outcomes.Taken a cumulative_tsn_ack blocks window trigger now s h =
    let b : Shown = after_sack a cumulative_tsn_ack blocks window now in
    let none = sending_awaits_nothing a.state s in
    probes_keep IsInOrder forgiven_order marked_order (is_probing a.profile a.sender) window (shutdown_continued b)
    (continued_order b
    (λ (e : awaits_answer a.state ≡ true). absurd (false≢true (sym none ∙ e)))
    h.order.asked h.order.agreed
    (λ (e : is_some b.timers.t2_shutdown.moment ≡ true).
    h.order.answered (sym (ap (λ (t : TimerState). is_some t.moment)
    (acknowledged_leaves a (progress_of a.sender cumulative_tsn_ack blocks) now
    (sack_taken cumulative_tsn_ack blocks window now a.sender a.estimate a.streams))) ∙ e))
    (λ (e : awaits_answer a.state ≡ true). absurd (false≢true (sym none ∙ e))))

-- The handshake

beginning_is_not_closing : (s : AssociationState) → is_beginning s ≡ true → is_closing s ≡ false
beginning_is_not_closing states.Closed e = refl
beginning_is_not_closing states.CookieWait e = refl
beginning_is_not_closing states.CookieEchoed e = refl
beginning_is_not_closing states.Established e = refl
beginning_is_not_closing states.ShutdownAckSent e = absurd (false≢true e)
beginning_is_not_closing states.ShutdownPending e = absurd (false≢true e)
beginning_is_not_closing states.ShutdownReceived e = absurd (false≢true e)
beginning_is_not_closing states.ShutdownSent e = absurd (false≢true e)

waiting_is_not_closing : (s : AssociationState) → is_cookie_wait s ≡ true → is_closing s ≡ false
waiting_is_not_closing states.Closed e = refl
waiting_is_not_closing states.CookieWait e = refl
waiting_is_not_closing states.CookieEchoed e = refl
waiting_is_not_closing states.Established e = refl
waiting_is_not_closing states.ShutdownAckSent e = absurd (false≢true e)
waiting_is_not_closing states.ShutdownPending e = absurd (false≢true e)
waiting_is_not_closing states.ShutdownReceived e = absurd (false≢true e)
waiting_is_not_closing states.ShutdownSent e = absurd (false≢true e)

echoed_is_not_closing : (s : AssociationState) → is_cookie_echoed s ≡ true → is_closing s ≡ false
echoed_is_not_closing states.Closed e = refl
echoed_is_not_closing states.CookieWait e = refl
echoed_is_not_closing states.CookieEchoed e = refl
echoed_is_not_closing states.Established e = refl
echoed_is_not_closing states.ShutdownAckSent e = absurd (false≢true e)
echoed_is_not_closing states.ShutdownPending e = absurd (false≢true e)
echoed_is_not_closing states.ShutdownReceived e = absurd (false≢true e)
echoed_is_not_closing states.ShutdownSent e = absurd (false≢true e)

-- a cookie is echoed, in a state in which no shutdown goes on
echoed_order : (o : Option (List ℕ)) (b : Shown) (trigger : AckTrigger) (now : ℕ) → is_closing b.state ≡ false
    → IsInOrder b → IsInOrder (echoed o b trigger now).0
unfolding sends_cookie
echoed_order None b trigger now e h = h
echoed_order (Some cookie) b trigger now e h =
    record {
      order =
          in_use _ _ b.state states.CookieEchoed b.shutdown_due (is_some b.timers.t2_shutdown.moment) h.order e refl;
    }

connected_order : (a : Shown) → is_closing a.state ≡ false → IsInOrder a → IsInOrder (connected a)
connected_order a e h = record {
  order = in_use _ _ a.state states.Established a.shutdown_due (is_some a.timers.t2_shutdown.moment) h.order e refl;
}

acknowledges_in_order : (a : Shown) → IsInOrder a → IsInOrder (acknowledged_cookie a)
acknowledges_in_order a h = order_by a (acknowledged_cookie a) refl refl refl refl h

information_order : (o : Option (List ℕ)) (a : Shown) → IsInOrder a → IsInOrder (information_returned o a)
information_order None a h = h
information_order (Some information) a h = order_by a _ refl refl refl refl h

-- FORWARD TSN

skip_order : (retires : Bool) (a : Shown) (tsn id ssn : ℕ) → is_retiring a.resets id ≡ retires → IsInOrder a
    → IsInOrder (with_skip tsn id ssn a)
unfolding with_skip
skip_order true a tsn id ssn e h = rw e (order_by a _ refl refl refl refl h)
skip_order false a tsn id ssn e h = rw e (order_by a _ refl refl refl refl h)

skips_order : (tsn : ℕ) (es : List SkippedStream) (a : Shown) → IsInOrder a → IsInOrder (with_skips tsn es a)
skips_order tsn [] a h = h
skips_order tsn (e ∷ es) a h =
    skips_order tsn es (with_skip tsn e.stream_identifier e.stream_sequence_number a)
    (skip_order (is_retiring a.resets e.stream_identifier) a tsn e.stream_identifier e.stream_sequence_number refl h)

at_once_order : (a : Shown) (now : ℕ) → IsInOrder a → IsInOrder (acknowledged_at_once a now)
at_once_order a now h = order_by a (acknowledged_at_once a now) refl refl refl refl h

ahead_order : (a : Shown) (tsn : ℕ) (es : List SkippedStream) (trigger : AckTrigger) → IsInOrder a
    → IsInOrder (asks_behind (settled (with_passed (with_skips tsn es a) tsn)) trigger).0
ahead_order a tsn es trigger h =
    let skipped : Shown = with_skips tsn es a in
    let b : Shown = settled (with_passed skipped tsn) in
    let k : IsInOrder b =
    settled_order (with_passed skipped tsn)
    (order_by skipped (with_passed skipped tsn) refl refl refl refl (skips_order tsn es a h)) in
    order_if (is_exhausted b) (b, flows.Exhausted) (b, flows.Next (asked b.receiver trigger false)) k k

-- the streams on which it skips are found or made before
all_found_order : (tsn : ℕ) (es : List SkippedStream) (a : Shown) → IsInOrder a → IsInOrder (found_for tsn es a)
all_found_order tsn es a h =
    found_for_keeps IsInOrder
    (λ b id k. found_order (is_some (stream_at b.streams id)) (generation_left b.streams) b id refl refl k)
    tsn es a h

forward_order_by : (uses ahead : Bool) (a : Shown) (tsn : ℕ) (es : List SkippedStream) (trigger : AckTrigger) (now : ℕ)
    → skipping.is_ahead a tsn ≡ ahead → IsInOrder (with_use uses a)
    → IsInOrder (on_forward (with_use uses a) tsn es trigger now).0
unfolding on_forward
forward_order_by false ahead a tsn es trigger now e h =
    order_by (with_use false a) (queued (with_use false a) unrecognized_chunk) refl refl refl refl h
forward_order_by true false a tsn es trigger now e h = rw e (at_once_order (with_use true a) now h)
forward_order_by true true a tsn es trigger now e h =
    let b : Shown = with_use true a in
    rw e (ahead_order (found_for tsn es b) tsn es trigger (all_found_order tsn es b h))

-- Each chunk
module _ (a : Shown) (trigger : AckTrigger) (h : IsInOrder a) where
  sack_order : (sends : Bool) (cumulative_tsn_ack : ℕ) (blocks : List GapAckBlock) (window now : ℕ)
      → sends_data a.state ≡ sends → IsInOrder (on_sack a cumulative_tsn_ack blocks window trigger now).0
  unfolding on_sack
  sack_order true cumulative_tsn_ack blocks window now e =
      rw e (outcome_order (sack_outcome a.sender cumulative_tsn_ack blocks) (counted_sack a) cumulative_tsn_ack blocks
      window trigger now e (order_by a (counted_sack a) refl refl refl refl h))
  sack_order false cumulative_tsn_ack blocks window now e = rw e h

  init_order : (c kept : Bool) (header : CommonHeader) (init : ChunkInit) → is_beginning a.state ≡ c
      → keeps_peer a init ≡ kept → IsInOrder (on_init a header init trigger).0
  unfolding on_init
  init_order true true header init e f = rw (e, f) (order_by a _ refl refl refl refl h)
  init_order true false header init e f = rw (e, f) (order_by a _ refl refl refl refl h)
  init_order false kept header init e f = rw e h

  init_ack_order : (waits back : Bool) (header : CommonHeader) (init : ChunkInit) (now : ℕ)
      → is_cookie_wait a.state ≡ waits → comes_back a.handshake header ≡ back
      → IsInOrder (on_init_ack a header init trigger now).0
  unfolding on_init_ack
  init_ack_order true true header init now e f =
      rw (e, f) (echoed_order (first_cookie init.params) _ trigger now (waiting_is_not_closing a.state e)
      (order_by a _ refl refl refl refl h))
  init_ack_order true false header init now e f = rw (e, f) (order_by a _ refl refl refl refl h)
  init_ack_order false back header init now e f = rw e h

  cookie_echo_order : (issued begins again : Bool) (cookie : List ℕ) → has_issued a.handshake cookie ≡ issued
      → is_beginning a.state ≡ begins → acknowledges_again a ≡ again
      → IsInOrder (on_cookie_echo a cookie trigger).0
  unfolding on_cookie_echo
  cookie_echo_order false begins again cookie e f g = rw e h
  cookie_echo_order true true again cookie e f g = rw (e, f)
      (acknowledges_in_order (connected a) (connected_order a (beginning_is_not_closing a.state f) h))
  cookie_echo_order true false true cookie e f g = rw (e, f, g)
      (acknowledges_in_order (shutdown_again a) (again_order a h))
  cookie_echo_order true false false cookie e f g = rw (e, f, g) h

  cookie_ack_order : (c : Bool) → is_cookie_echoed a.state ≡ c → IsInOrder (on_cookie_ack a trigger).0
  unfolding on_cookie_ack
  cookie_ack_order true e = rw e (connected_order a (echoed_is_not_closing a.state e) h)
  cookie_ack_order false e = rw e h

  heartbeat_order : (heartbeat : ChunkHeartbeat) → IsInOrder (on_heartbeat a heartbeat trigger).0
  unfolding on_heartbeat
  heartbeat_order heartbeat = information_order (information_of heartbeat.params) a h

  kind_order : (header : CommonHeader) (c : Chunk) (now : ℕ) → IsInOrder (dispatched a header c trigger now).0
  kind_order header (chunks.Data piece) now = data_order a piece _ h
  kind_order header (chunks.SelectiveAck k) now =
      sack_order (sends_data a.state) k.cumulative_tsn_ack k.gap_ack_blocks k.advertised_receiver_window_credit now refl
  kind_order header (chunks.Init x) now = init_order (is_beginning a.state) (keeps_peer a x) header x refl refl
  kind_order header (chunks.InitAck x) now =
      init_ack_order (is_cookie_wait a.state) (comes_back a.handshake header) header x now refl refl
  kind_order header (chunks.Heartbeat x) now = heartbeat_order x
  kind_order header (chunks.HeartbeatAck x) now = h
  kind_order header (chunks.Abort x) now = h
  kind_order header (chunks.Shutdown x) now = taken_order a h
  kind_order header chunks.ShutdownAck now = answered_order a h
  kind_order header (chunks.Error x) now = h
  kind_order header (chunks.CookieEcho x) now =
      cookie_echo_order (has_issued a.handshake x) (is_beginning a.state) (acknowledges_again a) x refl refl refl
  kind_order header chunks.CookieAck now = cookie_ack_order (is_cookie_echoed a.state) refl
  kind_order header chunks.ShutdownComplete now = h
  kind_order header (chunks.Reconfig x) now =
      order_beside a (on_reconfig a x trigger).0 (reconfig_changes a x trigger) h
  kind_order header (chunks.ForwardTsn x) now =
      forward_order_by (uses_forward_tsn a) (skipping.is_ahead a x.new_cumulative_tsn) a x.new_cumulative_tsn x.streams
      trigger now refl h
  kind_order header (chunks.IForwardTsn x) now =
      forward_order_by (uses_forward_tsn a) (skipping.is_ahead a x.new_cumulative_tsn) a x.new_cumulative_tsn
      (skips_of x.entries) trigger now refl h
  kind_order header (chunks.Other kind flags value) now = h

  checked_order : (r : Result (Unit {0}) Error) (header : CommonHeader) (c : Chunk) (now : ℕ)
      → IsInOrder (checked_first r a header c trigger now).0
  checked_order (Err fault) header c now = h
  checked_order (Ok done) header c now = kind_order header c now

  chunk_order : (header : CommonHeader) (c : Chunk) (now : ℕ) → IsInOrder (on_chunk a header c trigger now).0
  unfolding on_chunk
  chunk_order header c now = checked_order (checked_chunk c) header c now

-- A packet

pub closed_order : (closed : Bool) (b : Shown) (reason : AssociationError) → IsInOrder b
    → IsOrderedOrRests (if closed then b else closed_open b reason)
closed_order true b reason h = inl h
closed_order false b reason h = inr (closed_rests b reason)

pub exhausted_order : (closed : Bool) (b : Shown) → IsInOrder b
    → IsOrderedOrRests (queued (if closed then b else closed_open b reasons.ReceiveBufferExhausted) out_of_resource)
exhausted_order true b h = inl (order_by b _ refl refl refl refl h)
exhausted_order false b h =
    inr (rest_by (closed_open b reasons.ReceiveBufferExhausted) _ refl refl refl refl refl
    (closed_rests b reasons.ReceiveBufferExhausted))

goes_on_in_order : (x : Shown × Flow) (more : Shown → AckTrigger → Shown) → IsInOrder x.0
    → ((b : Shown) (trigger : AckTrigger) → IsInOrder b → IsOrderedOrRests (more b trigger))
    → IsOrderedOrRests (goes_on x more)
goes_on_in_order (b, flows.Next trigger) more h k = k b trigger h
goes_on_in_order (b, flows.Fault fault) more h k = closed_order (is_closed_state b.state) b reasons.AssociationClosed h
goes_on_in_order (b, flows.Closed) more h k = closed_order (is_closed_state b.state) b reasons.AssociationClosed h
goes_on_in_order (b, flows.Exhausted) more h k = exhausted_order (is_closed_state b.state) b h

ended_order : (trigger : AckTrigger) (a : Shown) (now : ℕ) → IsInOrder a → IsInOrder (ended a trigger now)
ended_order triggers.None a now h = order_by a (ended a triggers.None now) refl refl refl refl h
ended_order triggers.Delayed a now h = order_by a (ended a triggers.Delayed now) refl refl refl refl h
ended_order triggers.Immediate a now h = order_by a (ended a triggers.Immediate now) refl refl refl refl h

chunks_order : (header : CommonHeader) (cs : List Chunk) (a : Shown) (trigger : AckTrigger) (now : ℕ) → IsInOrder a
    → IsOrderedOrRests (after_chunks header cs a trigger now)
chunks_order header [] a trigger now h = inl (ended_order trigger a now h)
chunks_order header (c ∷ cs) a trigger now h =
    goes_on_in_order (on_chunk a header c trigger now) (λ b next. after_chunks header cs b next now)
    (chunk_order a trigger h header c now) (λ b next k. chunks_order header cs b next now k)

packet_of_order : (packet : Option Packet) (a : Shown) (now : ℕ) → IsInOrder a
    → IsOrderedOrRests (after_packet_of a packet now)
packet_of_order None a now h = inl h
packet_of_order (Some packet) a now h = chunks_order packet.common_header packet.chunks a triggers.None now h

order_or_rest_if : (c : Bool) (x y : Shown) → IsOrderedOrRests x → IsOrderedOrRests y
    → IsOrderedOrRests (if c then x else y)
order_or_rest_if true x y h k = h
order_or_rest_if false x y h k = k

pub packets_order : (packet : Option Packet) (a : Shown) (now : ℕ) → IsInOrder a
    → IsOrderedOrRests (after_packet a packet now)
packets_order packet a now h =
    order_or_rest_if a.lost a (after_packet_of a packet now) (inl h) (packet_of_order packet a now h)
