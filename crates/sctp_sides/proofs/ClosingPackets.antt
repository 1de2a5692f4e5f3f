-- A packet closes an association exactly where it is open and a chunk of the packet is a fault, or ends a shutdown, or
-- leaves the receive buffer exhausted.
use Rattle.std.proofs.Common.{◌≡◌, refl, sym, ap, ◌∙◌, ℕ, ◌+◌, arith, Bool, true, false, not, ◌&&◌, if◌then◌else◌, List}
use Rattle.std.proofs.Common.{[], ◌∷◌, ◌++◌, map, Option, Some, None, Result, Ok, Err, is_some}
use Rattle.std.proofs.lemmas.Bool.{false≢true}
use Rattle.std.proofs.lemmas.List.{append-nil}
use Rattle.std.proofs.lemmas.List.Sums.{sum_by-append, sum_by-cons}
use Rattle.sctp_wire_types.specs.declared.chunk.Chunk.{Chunk}
use Rattle.sctp_wire_types.specs.declared.chunk.Chunk.TheVariants as chunks
use Rattle.sctp_wire_types.specs.declared.chunk.ChunkPayloadData.{ChunkPayloadData}
use Rattle.sctp_wire_types.specs.declared.chunk.ChunkHeartbeat.{ChunkHeartbeat}
use Rattle.sctp_wire_types.specs.declared.chunk.ChunkInit.{ChunkInit}
use Rattle.sctp_wire_types.specs.declared.packet.CommonHeader.{CommonHeader}
use Rattle.sctp_wire_types.specs.declared.error.Error.{Error}
use Rattle.sctp_wire_types.specs.declared.event.StreamEvent.TheVariants.{Opened, Readable}
use Rattle.sctp_wire_types.specs.Checks.{checked_chunk}
use Rattle.sctp_wire.specs.declared.packet.Packet.{Packet}
use Rattle.sctp_parts.specs.declared.state.AssociationState.TheVariants as states
use Rattle.sctp_parts.specs.Estimate.{Estimate}
use Rattle.sctp_streams.specs.declared.event.AssociationError.{AssociationError}
use Rattle.sctp_streams.specs.declared.event.AssociationError.TheVariants as reasons
use Rattle.sctp_streams.specs.declared.event.Event.{Event}
use Rattle.sctp_streams.specs.declared.event.Event.TheVariants.{AssociationLost, Connected, DataChannelStatsFinal}
use Rattle.sctp_streams.specs.declared.event.Event.TheVariants.{DatagramReceived}
use Rattle.sctp_streams.specs.declared.event.Event.TheVariants as events
use Rattle.sctp_streams.specs.declared.stats.DataChannelStats.{DataChannelStats}
use Rattle.sctp_streams.specs.Streams.{StreamMap, generation_left, is_readable_in, last_stats, pushed_in}
use Rattle.sctp_streams.specs.Streams.{becomes_ready_in, refusal_in, stream_at}
use Rattle.sctp_inbound.specs.declared.receiver.AckTrigger.{AckTrigger}
use Rattle.sctp_inbound.specs.declared.receiver.AckTrigger.TheVariants as triggers
use Rattle.sctp_inbound.specs.Greeting.{first_cookie, information_of}
use Rattle.sctp_inbound.specs.Handshake.{comes_back, has_issued}
use Rattle.sctp_inbound.specs.Receiver.{admits, asked, is_new_to}
use Rattle.sctp_outbound.specs.declared.sender.Sender.{Sender}
use Rattle.sctp_outbound.specs.declared.progress.Progress.{Progress}
use Rattle.sctp_outbound.specs.declared.sender.SackOutcome.{SackOutcome}
use Rattle.sctp_outbound.specs.declared.sender.SackOutcome.TheVariants as outcomes
use Rattle.sctp_wire_types.specs.declared.chunk.GapAckBlock.{GapAckBlock}
use Rattle.sctp_wire_types.specs.declared.chunk.SkippedStream.{SkippedStream}
use Rattle.sctp_outbound.specs.Sacks.{progress_of, sack_taken}
use Rattle.sctp_streams.specs.LowMarks.{fallen, low_event}
use Rattle.sctp_outbound.specs.Sender.{sack_outcome}
use Rattle.sctp_assoc.specs.declared.inbound.Flow.{Flow}
use Rattle.sctp_assoc.specs.declared.inbound.Flow.TheVariants as flows
use Rattle.sctp_assoc.specs.Calls.{is_beginning, is_cookie_echoed, is_cookie_wait}
use Rattle.sctp_assoc.specs.Closing.{closed_by, is_closed_state}
use Rattle.sctp_assoc.specs.Calls.{sends_data}
use Rattle.sctp_assoc.specs.Shutdown.{all_acknowledged, shutdown_again, shutdown_answered, shutdown_continued}
use Rattle.sctp_assoc.specs.Shutdown.{shutdown_taken, state_at_shutdown}
use Rattle.sctp_assoc.specs.Handshake.{acknowledged_cookie, acknowledges_again, connected, echoed}
use Rattle.sctp_assoc.specs.Handshake.{information_returned, keeps_peer, on_cookie_ack, on_cookie_echo}
use Rattle.sctp_assoc.specs.Handshake.{on_heartbeat, on_init, on_init_ack, sends_cookie}
use Rattle.sctp_assoc.specs.Chunks.{after_sack}
use Rattle.sctp_assoc.specs.Chunks.{after_chunks, after_packet_of, asks_or_faults, checked_first, dispatched, goes_on}
use Rattle.sctp_assoc.specs.Chunks.{goes_unread, left_or_handed_over}
use Rattle.sctp_assoc.specs.Chunks.{on_chunk, on_counted_data, on_counted_sack, on_data, on_new_data}
use Rattle.sctp_assoc.specs.Chunks.{on_sack, taken_in, taken_unless, told, with_acknowledged}
use Rattle.sctp_assoc.specs.Chunks.{asks, deferred_unless, deferred_where_admitted, taken_where_admitted, then_skips}
use Rattle.sctp_assoc.specs.Chunks.{with_message}
use Rattle.sctp_assoc.specs.Resets.{after_param, asking_if, behind_first, behind_params, handled_with, on_reconfig}
use Rattle.sctp_assoc.specs.Resets.{on_request, on_response, responded_with, settled, settled_with, skips_applied}
use Rattle.sctp_assoc.specs.Resets.{skips_applied_of, stopped_if, with_answer, with_beside, with_resetting}
use Rattle.sctp_resets.specs.declared.answers.TimerChange.{TimerChange}
use Rattle.sctp_resets.specs.declared.performing.Handled.{Handled}
use Rattle.sctp_resets.specs.declared.performing.Settled.{Settled}
use Rattle.sctp_resets.specs.Channels.{channels}
use Rattle.sctp_resets.specs.Resets.{Beside, Resetting, handled, is_hidden, is_retiring, read_out, refusal_of}
use Rattle.sctp_resets.specs.Resets.{responded, stopped_reading}
use Rattle.sctp_resets.specs.Resets as resets
use Rattle.sctp_wire_types.specs.declared.chunk.ChunkReconfig.{ChunkReconfig}
use Rattle.sctp_wire_types.specs.declared.param.Param.{Param}
use Rattle.sctp_wire_types.specs.declared.param.Param.TheVariants as params
use Rattle.sctp_wire_types.specs.declared.param.ParamOutgoingResetRequest.{ParamOutgoingResetRequest}
use Rattle.sctp_wire_types.specs.declared.param.ParamReconfigResponse.{ParamReconfigResponse}
use Rattle.sctp_sides.proofs.EndedPolls.{continued_closed}
use Rattle.sctp_sides.specs.Laws.{FaultsAloneClose, IsClosedIf, faults_or, is_faulted, is_faulted_packet, loss_of}
use Rattle.sctp_sides.specs.Laws.{losses}
use Rattle.sctp_assoc.specs.Shown.{Shown, all_waiting}
use Rattle.sctp_assoc.specs.Control.{queued as with_queued}
use Rattle.sctp_assoc.specs.Finding.{found_for, stream_found}
use Rattle.sctp_assoc.specs.Skipping.{acknowledged_at_once, asks_behind, on_forward, readable_told, skips_of}
use Rattle.sctp_assoc.specs.Skipping.{unrecognized_chunk, with_passed, with_skip, with_skips}
use Rattle.sctp_assoc.proofs.Probes.{probes_keep}
use Rattle.sctp_assoc.proofs.StreamsFound.{found_for_keeps}
use Rattle.sctp_sides.proofs.ForwardKinds.{forward_is_one_of}
use Rattle.sctp_assoc.specs.Calls.{after_read, credit_in, drained_behind, eased, holds_of, stopped_open, tells_window}
use Rattle.sctp_assoc.specs.Calls.{told_if, without_read_half_of}
use Rattle.std.proofs.Common.{subst}
use Rattle.sctp_parts.specs.declared.state.AssociationState.{AssociationState}
use Rattle.sctp_streams.specs.Stream.{is_read_half_open}
use Rattle.sctp_assoc.specs.Closing.{exhausted, is_exhausted, relieved}
use Rattle.sctp_assoc.specs.Probes.{is_probing}
use Rattle.sctp_receive_queues.specs.Messages.{ReceivedMessage}
use Rattle.sctp_streams.specs.Streams.{read_in}
use Rattle.sctp_sides.specs.Laws.{ExhaustingReadsAloneClose, ExhaustingStopsAloneClose}
use Rattle.sctp_sides.proofs.ResetLosses.{handled_tells, one_more_told, read_out_tells, responded_tells, settled_tells}
use Rattle.sctp_sides.proofs.ResetLosses.{skips_done_of_tell, skips_done_tell, stopped_reading_tells, tells}

-- What a chunk leaves of an association's end: it isn't closed unless it was, and the mark of a loss and the losses
-- among the events are the same.
pub record StaysOpen (a b : Shown) : Type 0 where
  pub still_open : is_closed_state b.state ≡ true → is_closed_state a.state ≡ true
  pub lost : b.lost ≡ a.lost
  pub told : losses b.events ≡ losses a.events

goes_on_there : (a b c : Shown) → StaysOpen a b → StaysOpen b c → StaysOpen a c
goes_on_there a b c m n =
    record { still_open = λ e. m.still_open (n.still_open e); lost = n.lost ∙ m.lost; told = n.told ∙ m.told }

-- nothing of the end changed, or one event came that is no loss
pub stays : (a b : Shown) → b.state ≡ a.state → b.lost ≡ a.lost → b.events ≡ a.events → StaysOpen a b
stays a b s l e = record { still_open = λ c. ap is_closed_state (sym s) ∙ c; lost = l; told = ap losses e }

-- What a chunk that is of no handshake leaves of an association's end: the state, the mark of a loss, the losses among
-- the events, and the handshake.
pub record Remains (a b : Shown) : Type 0 where
  pub state : b.state ≡ a.state
  pub lost : b.lost ≡ a.lost
  pub told : losses b.events ≡ losses a.events
  pub handshake : b.handshake ≡ a.handshake

remains_on : (a b c : Shown) → Remains a b → Remains b c → Remains a c
remains_on a b c m n = record {
  state = n.state ∙ m.state;
  lost = n.lost ∙ m.lost;
  told = n.told ∙ m.told;
  handshake = n.handshake ∙ m.handshake;
}

remains : (a b : Shown) → b.state ≡ a.state → b.lost ≡ a.lost → b.events ≡ a.events → b.handshake ≡ a.handshake
    → Remains a b
remains a b s l e h = record { state = s; lost = l; told = ap losses e; handshake = h }

pub remains_open : (a b : Shown) → Remains a b → StaysOpen a b
remains_open a b m =
    record { still_open = λ c. ap is_closed_state (sym m.state) ∙ c; lost = m.lost; told = m.told }

-- Resets of streams

skips_done_of_go_on : (id : ℕ) (a : Shown) → Remains a (skips_applied_of id a)
skips_done_of_go_on id a = record {
  state = refl;
  lost = refl;
  handshake = refl;
  told = skips_done_of_tell id a.resets a.streams a.events;
}

skips_done_go_on : (a : Shown) → Remains a (skips_applied a)
skips_done_go_on a =
    record { state = refl; lost = refl; handshake = refl; told = skips_done_tell a.resets a.streams a.events }

resetting_goes_on : (a : Shown) (x : Resetting) → losses x.1.events ≡ losses a.events
    → Remains a (with_resetting a x)
resetting_goes_on a (r, c) e = record { state = refl; lost = refl; handshake = refl; told = e }

asking_goes_on : (asks : Bool) (a : Shown) → Remains a (asking_if asks a)
asking_goes_on true a = remains a (asking_if true a) refl refl refl refl
asking_goes_on false a = remains a a refl refl refl refl

answer_goes_on : (o : Option Settled) (a : Shown) → Remains a (with_answer o a)
answer_goes_on None a = remains a a refl refl refl refl
answer_goes_on (Some q) a =
    let m = asking_goes_on q.asks a in
    record { state = m.state; lost = m.lost; told = m.told; handshake = m.handshake }

settled_with_goes_on : (a : Shown) (x : Resetting × Option Settled) → losses x.0.1.events ≡ losses a.events
    → Remains a (settled_with a x)
settled_with_goes_on a (s, answer) e =
    let b : Shown = with_resetting a s in
    remains_on a b (with_answer answer b) (resetting_goes_on a s e) (answer_goes_on answer b)

settling_goes_on : (a : Shown) → Remains a (settled a)
unfolding settled
settling_goes_on a =
    let last = a.receiver.peer_last_tsn in
    let limit = a.receiver.max_receive_message_size in
    let first = a.sender.queue.next_message_id in
    let x = resets.settled last first limit a.resets (channels a.streams a.events a.to_accept) in
    let b : Shown = settled_with a x in
    remains_on a b (skips_applied b)
    (settled_with_goes_on a x (settled_tells last first limit a.resets (channels a.streams a.events a.to_accept)))
    (skips_done_go_on b)

stopped_if_goes_on : (confirms : Bool) (a : Shown) → Remains a (stopped_if confirms a)
stopped_if_goes_on true a = remains a (stopped_if true a) refl refl refl refl
stopped_if_goes_on false a = remains a a refl refl refl refl

handled_with_goes_on : (a : Shown) (number : ℕ) (x : Resetting × Handled) → losses x.0.1.events ≡ losses a.events
    → Remains a (handled_with a number x)
handled_with_goes_on a number (s, h) e =
    let b : Shown = with_resetting a s in
    let c : Shown = stopped_if h.confirms b in
    let m =
    remains_on a c (asking_if h.asks c)
    (remains_on a b c (resetting_goes_on a s e) (stopped_if_goes_on h.confirms b)) (asking_goes_on h.asks c) in
    record { state = m.state; lost = m.lost; told = m.told; handshake = m.handshake }

request_goes_on : (a : Shown) (param : ParamOutgoingResetRequest) → Remains a (on_request a param)
unfolding on_request
request_goes_on a param =
    handled_with_goes_on a param.reconfig_request_sequence_number
    (handled param a.receiver.peer_last_tsn a.sender.queue.next_message_id a.receiver.max_receive_message_size
    a.resets (channels a.streams a.events a.to_accept))
    (handled_tells param a.receiver.peer_last_tsn a.sender.queue.next_message_id a.receiver.max_receive_message_size
    a.resets (channels a.streams a.events a.to_accept))

responded_with_goes_on : (a : Shown) (x : Beside × TimerChange) → losses x.0.2 ≡ losses a.events
    → Remains a (responded_with a x)
responded_with_goes_on a ((r, m, queued), change) e = record { state = refl; lost = refl; handshake = refl; told = e }

response_goes_on : (a : Shown) (response : ParamReconfigResponse) → Remains a (on_response a response)
unfolding on_response
response_goes_on a response =
    responded_with_goes_on a (responded response a.resets a.streams a.events)
    (responded_tells response a.resets a.streams a.events)

param_goes_on : (param : Param) (a : Shown) → Remains a (after_param param a).0
param_goes_on (params.OutgoingResetRequest request) a = request_goes_on a request
param_goes_on (params.ReconfigResponse response) a = response_goes_on a response
param_goes_on param a = remains a a refl refl refl refl

params_go_on : (x : Shown × Bool) (trigger : AckTrigger) → Remains x.0 (behind_params x trigger).0
params_go_on (a, true) trigger = remains a a refl refl refl refl
params_go_on (a, false) trigger = remains a a refl refl refl refl

first_goes_on : (x : Shown × Bool) (second : Option Param) (trigger : AckTrigger)
    → Remains x.0 (behind_first x second trigger).0
first_goes_on (a, true) None trigger = remains a a refl refl refl refl
first_goes_on (a, true) (Some param) trigger =
    remains_on a (after_param param a).0 _ (param_goes_on param a) (params_go_on (after_param param a) trigger)
first_goes_on (a, false) second trigger = remains a a refl refl refl refl

pub reconfig_goes_on : (a : Shown) (reconfig : ChunkReconfig) (trigger : AckTrigger)
    → Remains a (on_reconfig a reconfig trigger).0
unfolding on_reconfig
reconfig_goes_on a reconfig trigger =
    remains_on a (after_param reconfig.first a).0 _ (param_goes_on reconfig.first a)
    (first_goes_on (after_param reconfig.first a) reconfig.second trigger)

-- DATA

told_goes_on : (c : Bool) (b : Shown) (id : ℕ) (kept : Bool) → (kept && is_readable_in b.streams id) ≡ c
    → Remains b (told b id kept)
told_goes_on true b id kept e = rw e (record {
  state = refl;
  lost = refl;
  handshake = refl;
  told =
      tells (b.events ++ DatagramReceived ∷ []) (events.Stream (Readable id)) refl
      ∙ tells b.events DatagramReceived refl;
})
told_goes_on false b id kept e =
    rw e (record { state = refl; lost = refl; handshake = refl; told = tells b.events DatagramReceived refl })

message_goes_on : (a : Shown) (piece : ChunkPayloadData) (x : StreamMap × Bool) → Remains a (with_message a piece x)
message_goes_on a piece (streams, kept) =
    let m = told_goes_on _ _ piece.stream_identifier kept refl in
    record { state = m.state; lost = m.lost; told = m.told; handshake = m.handshake }

taking_goes_on : (o : Option Error) (a : Shown) (piece : ChunkPayloadData) → Remains a (taken_unless o a piece).0
taking_goes_on (Some fault) a piece = remains a a refl refl refl refl
taking_goes_on None a piece = message_goes_on a piece (pushed_in a.streams piece.stream_identifier piece)

-- what nobody reads is left, and other DATA goes to its stream
leaving_goes_on : (left : Bool) (a : Shown) (piece : ChunkPayloadData)
    → Remains a (left_or_handed_over left a piece).0
leaving_goes_on true a piece =
    record { state = refl; lost = refl; handshake = refl; told = tells a.events DatagramReceived refl }
leaving_goes_on false a piece =
    taking_goes_on (refusal_in a.streams piece.stream_identifier piece a.receiver.max_receive_message_size) a piece

asks_goes_on_if : (e : Bool) (a : Shown) (f g : Flow)
    → Remains a (if◌then◌else◌ {A = Shown × Flow} e (a, f) (a, g)).0
asks_goes_on_if true a f g = remains a a refl refl refl refl
asks_goes_on_if false a f g = remains a a refl refl refl refl

-- what asks to be acknowledged, behind what it settles
asks_goes_on : (a : Shown) (immediate : Bool) (trigger : AckTrigger)
    → Remains a (asks (settled a) immediate trigger).0
asks_goes_on a immediate trigger =
    let b : Shown = settled a in
    remains_on a b (asks b immediate trigger).0 (settling_goes_on a)
    (asks_goes_on_if (is_exhausted b) b flows.Exhausted (flows.Next (asked b.receiver trigger immediate)))

asked_goes_on : (a : Shown) (x : Shown × Option Error) (immediate : Bool) (trigger : AckTrigger)
    → Remains a x.0
    → Remains a (asks_or_faults x immediate trigger).0
asked_goes_on a (b, None) immediate trigger m =
    remains_on a b (asks (settled b) immediate trigger).0 m (asks_goes_on b immediate trigger)
asked_goes_on a (b, Some fault) immediate trigger m = m

skips_behind_go_on : (a : Shown) (x : Shown × Option Error) (id : ℕ) → Remains a x.0
    → Remains a (then_skips x id).0
skips_behind_go_on a (b, None) id m = remains_on a b (skips_applied_of id b) m (skips_done_of_go_on id b)
skips_behind_go_on a (b, Some fault) id m = m

admitted_goes_on : (c : Bool) (b : Shown) (piece : ChunkPayloadData)
    → admits b.receiver piece.tsn (all_waiting b) ≡ c → Remains b (taken_where_admitted b piece).0
unfolding taken_in
admitted_goes_on true b piece e =
    rw e (skips_behind_go_on b (taken_in b piece) piece.stream_identifier
    (leaving_goes_on (goes_unread b piece) b piece))
admitted_goes_on false b piece e = rw e (remains b b refl refl refl refl)

deferring_goes_on : (o : Option Error) (b : Shown) (piece : ChunkPayloadData)
    → Remains b (deferred_unless o b piece).0
deferring_goes_on (Some fault) b piece = remains b b refl refl refl refl
deferring_goes_on None b piece = remains b (deferred_unless None b piece).0 refl refl refl refl

deferred_goes_on : (c : Bool) (b : Shown) (piece : ChunkPayloadData)
    → admits b.receiver piece.tsn (all_waiting b) ≡ c → Remains b (deferred_where_admitted b piece).0
unfolding deferred_where_admitted
deferred_goes_on true b piece e =
    rw e (deferring_goes_on (refusal_of b.resets piece b.receiver.max_receive_message_size) b piece)
deferred_goes_on false b piece e = rw e (remains b b refl refl refl refl)

next_goes_on : (x : Shown × Bool) (piece : ChunkPayloadData) (trigger : AckTrigger)
    → Remains x.0 (on_new_data x piece trigger).0
next_goes_on (b, false) piece trigger = remains b b refl refl refl refl
next_goes_on (b, true) piece trigger =
    asked_goes_on b (taken_where_admitted b piece) piece.immediate_sack trigger (admitted_goes_on _ b piece refl)

found_goes_on : (there left : Bool) (a : Shown) (id : ℕ) → is_some (stream_at a.streams id) ≡ there
    → generation_left a.streams ≡ left
    → Remains a (stream_found a id).0
unfolding stream_found
found_goes_on true left a id e f = rw e (remains a a refl refl refl refl)
found_goes_on false true a id e f =
    rw (e, f) (record {
      state = refl;
      lost = refl;
      handshake = refl;
      told = tells a.events (events.Stream (Opened id)) refl;
    })
found_goes_on false false a id e f = rw (e, f) (remains a a refl refl refl refl)

data_goes_on : (new hidden : Bool) (b : Shown) (piece : ChunkPayloadData) (trigger : AckTrigger)
    → is_new_to b.receiver piece.tsn ≡ new → is_hidden b.resets piece.stream_identifier piece.tsn ≡ hidden
    → Remains b (on_counted_data b piece trigger).0
data_goes_on false hidden b piece trigger e f = rw e (asks_goes_on b piece.immediate_sack trigger)
data_goes_on true true b piece trigger e f =
    rw (e, f) (asked_goes_on b (deferred_where_admitted b piece) piece.immediate_sack trigger
    (deferred_goes_on _ b piece refl))
data_goes_on true false b piece trigger e f =
    let id = piece.stream_identifier in
    rw (e, f) (remains_on b (stream_found b id).0 _ (found_goes_on _ _ b id refl refl)
    (next_goes_on (stream_found b id) piece trigger))

pub on_data_goes_on : (a : Shown) (piece : ChunkPayloadData) (trigger : AckTrigger)
    → Remains a (on_data a piece trigger).0
unfolding on_data
on_data_goes_on a piece trigger =
    let m = data_goes_on _ _ _ piece trigger refl refl in
    record { state = m.state; lost = m.lost; told = m.told; handshake = m.handshake }

-- SACK

-- no low mark that is reached is a loss
low_marks_tell : (ids : List ℕ) → losses (map low_event ids) ≡ 0
low_marks_tell [] = refl
low_marks_tell (id ∷ ids) =
    sum_by-cons loss_of (low_event id) (map low_event ids) ∙ ap (λ (n : ℕ). 0 + n) (low_marks_tell ids)

-- so it is where a poll or a SACK tells of them
pub low_told_tells : (queued : List Event) (ids : List ℕ) → losses (queued ++ map low_event ids) ≡ losses queued
low_told_tells queued ids =
    sum_by-append loss_of queued (map low_event ids)
    ∙ ap (λ (k : ℕ). losses queued + k) (low_marks_tell ids)
    ∙ omega arith

acknowledged_goes_on : (a : Shown) (progress : Progress) (now : ℕ) (x : Sender × Estimate × StreamMap)
    → Remains a (with_acknowledged a progress now x)
acknowledged_goes_on a progress now (s, e, m) = record {
  state = refl;
  lost = refl;
  handshake = refl;
  told = low_told_tells a.events (fallen a.streams m);
}

-- no shutdown that goes on closes
pub continued_goes_on : (a : Shown) → StaysOpen a (shutdown_continued a)
continued_goes_on a =
    record { still_open = λ c. sym (continued_closed a) ∙ c; lost = refl; told = refl }

outcome_goes_on : (o : SackOutcome) (b : Shown) (cumulative_tsn_ack : ℕ) (blocks : List GapAckBlock) (window : ℕ)
    (trigger : AckTrigger) (now : ℕ)
    → StaysOpen b (on_counted_sack o b cumulative_tsn_ack blocks window trigger now).0
outcome_goes_on outcomes.Older b cumulative_tsn_ack blocks window trigger now = stays b b refl refl refl
outcome_goes_on outcomes.NotInFlight b cumulative_tsn_ack blocks window trigger now = stays b b refl refl refl
outcome_goes_on outcomes.NamesTheUnsent b cumulative_tsn_ack blocks window trigger now = stays b b refl refl refl
outcome_goes_on outcomes.Taken b cumulative_tsn_ack blocks window trigger now =
    let c : Shown = after_sack b cumulative_tsn_ack blocks window now in
    probes_keep (StaysOpen b) (λ d m. goes_on_there b d _ m (stays d _ refl refl refl))
    (λ d m. goes_on_there b d _ m (stays d _ refl refl refl)) (is_probing b.profile b.sender) window
    (shutdown_continued c)
    (goes_on_there b c (shutdown_continued c)
    (remains_open b c (acknowledged_goes_on b (progress_of b.sender cumulative_tsn_ack blocks) now
    (sack_taken cumulative_tsn_ack blocks window now b.sender b.estimate b.streams)))
    (continued_goes_on c))

pub sack_goes_on : (c : Bool) (a : Shown) (cumulative_tsn_ack : ℕ) (blocks : List GapAckBlock) (window : ℕ)
    (trigger : AckTrigger)
    (now : ℕ) → sends_data a.state ≡ c
    → StaysOpen a (on_sack a cumulative_tsn_ack blocks window trigger now).0
unfolding on_sack
sack_goes_on true a cumulative_tsn_ack blocks window trigger now e =
    let m = outcome_goes_on
    (sack_outcome a.sender cumulative_tsn_ack blocks) _ cumulative_tsn_ack blocks window trigger now in
    rw e (record { still_open = m.still_open; lost = m.lost; told = m.told })
sack_goes_on false a cumulative_tsn_ack blocks window trigger now e = rw e (stays a a refl refl refl)

-- FORWARD TSN

readable_tells : (ready : Bool) (queued : List Event) (id : ℕ)
    → losses (queued ++ readable_told ready id) ≡ losses queued
readable_tells true queued id = tells queued (events.Stream (Readable id)) refl
readable_tells false queued id = ap losses (append-nil queued)

skip_goes_on : (c : Bool) (tsn id ssn : ℕ) (a : Shown) → is_retiring a.resets id ≡ c
    → Remains a (with_skip tsn id ssn a)
unfolding with_skip
skip_goes_on true tsn id ssn a e = rw e (record { state = refl; lost = refl; handshake = refl; told = refl })
skip_goes_on false tsn id ssn a e = rw e (record {
  state = refl;
  lost = refl;
  handshake = refl;
  told = readable_tells (becomes_ready_in a.streams id ssn) a.events id;
})

skips_go_on : (tsn : ℕ) (es : List SkippedStream) (a : Shown) → Remains a (with_skips tsn es a)
skips_go_on tsn [] a = remains a a refl refl refl refl
skips_go_on tsn (e ∷ es) a =
    let b : Shown = with_skip tsn e.stream_identifier e.stream_sequence_number a in
    remains_on a b (with_skips tsn es b)
    (skip_goes_on _ tsn e.stream_identifier e.stream_sequence_number a refl) (skips_go_on tsn es b)

passed_goes_on : (a : Shown) (tsn : ℕ) (es : List SkippedStream) (trigger : AckTrigger)
    → Remains a (asks_behind (settled (with_passed (with_skips tsn es a) tsn)) trigger).0
passed_goes_on a tsn es trigger =
    let b : Shown = with_skips tsn es a in
    let c : Shown = with_passed b tsn in
    let d : Shown = settled c in
    remains_on a d (asks_behind d trigger).0
    (remains_on a c d (remains_on a b c (skips_go_on tsn es a) (remains b c refl refl refl refl)) (settling_goes_on c))
    (asks_goes_on_if (is_exhausted d) d flows.Exhausted (flows.Next (asked d.receiver trigger false)))

-- the streams on which it skips are found or made before
all_found_go_on : (tsn : ℕ) (es : List SkippedStream) (a : Shown) → Remains a (found_for tsn es a)
all_found_go_on tsn es a =
    found_for_keeps (λ (b : Shown). Remains a b)
    (λ b id m. remains_on a b (stream_found b id).0 m (found_goes_on _ _ b id refl refl)) tsn es a
    (remains a a refl refl refl refl)

pub forward_goes_on : (a : Shown) (tsn : ℕ) (es : List SkippedStream) (trigger : AckTrigger) (now : ℕ)
    → Remains a (on_forward a tsn es trigger now).0
forward_goes_on a tsn es trigger now =
    forward_is_one_of tsn es (λ b x. Remains b x.0) trigger now
    (λ b e. remains b (with_queued b unrecognized_chunk) refl refl refl refl)
    (λ b e f. remains b (acknowledged_at_once b now) refl refl refl refl)
    (λ b e f. passed_goes_on b tsn es trigger)
    (λ b x m. remains_on b (found_for tsn es b) x.0 (all_found_go_on tsn es b) m)
    a

-- SHUTDOWN

shutdown_state_open : (acknowledged : Bool) (s : AssociationState)
    → is_closed_state (state_at_shutdown acknowledged s) ≡ true → is_closed_state s ≡ true
shutdown_state_open acknowledged states.Closed e = refl
shutdown_state_open acknowledged states.CookieWait e = absurd (false≢true e)
shutdown_state_open acknowledged states.CookieEchoed e = absurd (false≢true e)
shutdown_state_open true states.Established e = absurd (false≢true e)
shutdown_state_open false states.Established e = absurd (false≢true e)
shutdown_state_open acknowledged states.ShutdownAckSent e = absurd (false≢true e)
shutdown_state_open acknowledged states.ShutdownPending e = absurd (false≢true e)
shutdown_state_open acknowledged states.ShutdownReceived e = absurd (false≢true e)
shutdown_state_open acknowledged states.ShutdownSent e = absurd (false≢true e)

shutdown_goes_on : (a : Shown) → StaysOpen a (shutdown_taken a)
shutdown_goes_on a =
    record { still_open = shutdown_state_open (all_acknowledged a) a.state; lost = refl; told = refl }

-- the handshake

init_goes_on : (c kept : Bool) (a : Shown) (header : CommonHeader) (init : ChunkInit) (trigger : AckTrigger)
    → is_beginning a.state ≡ c → keeps_peer a init ≡ kept → StaysOpen a (on_init a header init trigger).0
unfolding on_init
init_goes_on true true a header init trigger e f = rw (e, f) (stays a _ refl refl refl)
init_goes_on true false a header init trigger e f = rw (e, f) (stays a _ refl refl refl)
init_goes_on false kept a header init trigger e f = rw e (stays a a refl refl refl)

echoed_goes_on : (o : Option (List ℕ)) (a b : Shown) (trigger : AckTrigger) (now : ℕ) → b.state ≡ a.state
    → b.lost ≡ a.lost → b.events ≡ a.events → StaysOpen a (echoed o b trigger now).0
unfolding sends_cookie
echoed_goes_on None a b trigger now s l e = stays a b s l e
echoed_goes_on (Some cookie) a b trigger now s l e =
    record { still_open = λ c. absurd (false≢true c); lost = l; told = ap losses e }

init_ack_goes_on : (waits back : Bool) (a : Shown) (header : CommonHeader) (init : ChunkInit) (trigger : AckTrigger)
    (now : ℕ) → is_cookie_wait a.state ≡ waits
    → comes_back a.handshake header ≡ back → StaysOpen a (on_init_ack a header init trigger now).0
unfolding on_init_ack
init_ack_goes_on true true a header init trigger now e f =
    rw (e, f) (echoed_goes_on (first_cookie init.params) a _ trigger now refl refl refl)
init_ack_goes_on true false a header init trigger now e f = rw (e, f) (stays a _ refl refl refl)
init_ack_goes_on false back a header init trigger now e f = rw e (stays a a refl refl refl)

connected_goes_on : (a b : Shown) → b.state ≡ states.Established → b.lost ≡ a.lost
    → b.events ≡ a.events ++ Connected ∷ [] → StaysOpen a b
connected_goes_on a b s l e = record {
  still_open = λ c. absurd (false≢true (ap is_closed_state (sym s) ∙ c));
  lost = l;
  told = ap losses e ∙ tells a.events Connected refl;
}

cookie_echo_goes_on : (issued beginning again : Bool) (a : Shown) (cookie : List ℕ) (trigger : AckTrigger)
    → has_issued a.handshake cookie ≡ issued
    → is_beginning a.state ≡ beginning → acknowledges_again a ≡ again
    → StaysOpen a (on_cookie_echo a cookie trigger).0
unfolding on_cookie_echo
cookie_echo_goes_on false beginning again a cookie trigger e f g = rw e (stays a a refl refl refl)
cookie_echo_goes_on true true again a cookie trigger e f g =
    rw (e, f) (connected_goes_on a (acknowledged_cookie (connected a)) refl refl refl)
cookie_echo_goes_on true false true a cookie trigger e f g =
    rw (e, f, g) (stays a (acknowledged_cookie (shutdown_again a)) refl refl refl)
cookie_echo_goes_on true false false a cookie trigger e f g = rw (e, f, g) (stays a a refl refl refl)

cookie_ack_goes_on : (c : Bool) (a : Shown) (trigger : AckTrigger) → is_cookie_echoed a.state ≡ c
    → StaysOpen a (on_cookie_ack a trigger).0
unfolding on_cookie_ack
cookie_ack_goes_on true a trigger e = rw e (connected_goes_on a (connected a) refl refl refl)
cookie_ack_goes_on false a trigger e = rw e (stays a a refl refl refl)

returned_goes_on : (o : Option (List ℕ)) (a : Shown) → StaysOpen a (information_returned o a)
returned_goes_on None a = stays a a refl refl refl
returned_goes_on (Some information) a = stays a (information_returned (Some information) a) refl refl refl

heartbeat_goes_on : (a : Shown) (heartbeat : ChunkHeartbeat) (trigger : AckTrigger)
    → StaysOpen a (on_heartbeat a heartbeat trigger).0
unfolding on_heartbeat
heartbeat_goes_on a heartbeat trigger = returned_goes_on (information_of heartbeat.params) a

-- Any chunk

kind_goes_on : (header : CommonHeader) (c : Chunk) (a : Shown) (trigger : AckTrigger) (now : ℕ)
    → StaysOpen a (dispatched a header c trigger now).0
kind_goes_on header (chunks.Data piece) a trigger now = remains_open a _ (on_data_goes_on a piece _)
kind_goes_on header (chunks.SelectiveAck sack) a trigger now =
    sack_goes_on _ a sack.cumulative_tsn_ack sack.gap_ack_blocks sack.advertised_receiver_window_credit trigger now refl
kind_goes_on header (chunks.Init x) a trigger now = init_goes_on _ _ a header x trigger refl refl
kind_goes_on header (chunks.InitAck x) a trigger now = init_ack_goes_on _ _ a header x trigger now refl refl
kind_goes_on header (chunks.Heartbeat x) a trigger now = heartbeat_goes_on a x trigger
kind_goes_on header (chunks.HeartbeatAck x) a trigger now = stays a a refl refl refl
kind_goes_on header (chunks.Abort x) a trigger now = stays a a refl refl refl
kind_goes_on header (chunks.Shutdown x) a trigger now = shutdown_goes_on a
kind_goes_on header chunks.ShutdownAck a trigger now = stays a (shutdown_answered a) refl refl refl
kind_goes_on header (chunks.Error x) a trigger now = stays a a refl refl refl
kind_goes_on header (chunks.CookieEcho x) a trigger now = cookie_echo_goes_on _ _ _ a x trigger refl refl refl
kind_goes_on header chunks.CookieAck a trigger now = cookie_ack_goes_on _ a trigger refl
kind_goes_on header chunks.ShutdownComplete a trigger now = stays a a refl refl refl
kind_goes_on header (chunks.Reconfig x) a trigger now = remains_open a _ (reconfig_goes_on a x trigger)
kind_goes_on header (chunks.ForwardTsn x) a trigger now =
    remains_open a _ (forward_goes_on a x.new_cumulative_tsn x.streams trigger now)
kind_goes_on header (chunks.IForwardTsn x) a trigger now =
    remains_open a _ (forward_goes_on a x.new_cumulative_tsn (skips_of x.entries) trigger now)
kind_goes_on header (chunks.Other kind flags value) a trigger now = stays a a refl refl refl

checked_goes_on : (r : Result (Unit {0}) Error) (header : CommonHeader) (c : Chunk) (a : Shown) (trigger : AckTrigger)
    (now : ℕ) → StaysOpen a (checked_first r a header c trigger now).0
checked_goes_on (Err fault) header c a trigger now = stays a a refl refl refl
checked_goes_on (Ok done) header c a trigger now = kind_goes_on header c a trigger now

chunk_goes_on : (header : CommonHeader) (c : Chunk) (a : Shown) (trigger : AckTrigger) (now : ℕ)
    → StaysOpen a (on_chunk a header c trigger now).0
unfolding on_chunk
chunk_goes_on header c a trigger now = checked_goes_on (checked_chunk c) header c a trigger now

-- A packet

last_counters_tell : (stats : List DataChannelStats) → losses (map DataChannelStatsFinal stats) ≡ 0
last_counters_tell [] = refl
last_counters_tell (s ∷ ss) =
    sum_by-cons loss_of (DataChannelStatsFinal s) (map DataChannelStatsFinal ss)
    ∙ ap (λ (n : ℕ). 0 + n) (last_counters_tell ss)

loss_told : (queued : List Event) (stats : List DataChannelStats) (reason : AssociationError)
    → losses (queued ++ map DataChannelStatsFinal stats ++ AssociationLost reason ∷ []) ≡ losses queued + 1
loss_told queued stats reason =
    one_more_told (queued ++ map DataChannelStatsFinal stats) (AssociationLost reason)
    ∙ ap (λ (n : ℕ). n + 1) (sum_by-append loss_of queued (map DataChannelStatsFinal stats)
    ∙ ap (λ (n : ℕ). losses queued + n) (last_counters_tell stats)
    ∙ omega arith)

-- an association that is open is closed by a fault, or by the end of a shutdown, that came after chunks that leave its
-- end as it was
pub fault_closes : (closed : Bool) (a b : Shown) (reason : AssociationError) → is_closed_state b.state ≡ closed
    → StaysOpen a b → IsClosedIf (not closed) a (closed_by b reason)
fault_closes true a b reason e m = rw e (record {
  closed = λ c. absurd (false≢true c);
  still_open = λ _ c. m.still_open c;
  lost = m.lost;
  told = m.told ∙ omega arith;
})
fault_closes false a b reason e m = rw e (record {
  closed = λ _. refl;
  still_open = λ c _. absurd (false≢true (sym c));
  lost = refl;
  told = loss_told b.events (last_stats b.streams) reason ∙ ap (λ (n : ℕ). n + 1) m.told;
})

-- what closes an association whose end is as that of another one closes that one
closed_from : (closing : Bool) (a b c : Shown) → StaysOpen a b → IsClosedIf closing b c → IsClosedIf closing a c
closed_from true a b c m n = record {
  closed = n.closed;
  still_open = λ e _. absurd (false≢true (sym e));
  lost = n.lost;
  told = n.told ∙ ap (λ (k : ℕ). k + 1) m.told;
}
closed_from false a b c m n = record {
  closed = n.closed;
  still_open = λ e s. m.still_open (n.still_open e s);
  lost = n.lost ∙ m.lost;
  told = n.told ∙ ap (λ (k : ℕ). k + 0) m.told;
}

stays_open : (a b : Shown) → b.state ≡ a.state → b.lost ≡ a.lost → b.events ≡ a.events → IsClosedIf false a b
stays_open a b s l e = record {
  closed = λ c. absurd (false≢true c);
  still_open = λ _ c. ap is_closed_state (sym s) ∙ c;
  lost = l;
  told = ap losses e ∙ omega arith;
}

-- an exhausted receive buffer closes as a fault does; the ABORT that it queues changes nothing of that
exhausted_closes : (a b : Shown) → StaysOpen a b → IsClosedIf (not (is_closed_state b.state)) a (exhausted b)
exhausted_closes a b m =
    let n = fault_closes (is_closed_state b.state) a b reasons.ReceiveBufferExhausted refl m in
    record { closed = n.closed; still_open = n.still_open; lost = n.lost; told = n.told }

after_fault : (x : Shown × Flow) (a : Shown) (more : Shown → AckTrigger → Shown) (faulted : Shown → AckTrigger → Bool)
    → StaysOpen a x.0
    → ((b : Shown) (trigger : AckTrigger) → IsClosedIf (faulted b trigger) b (more b trigger))
    → IsClosedIf (faults_or x faulted) a (goes_on x more)
after_fault (b, flows.Next trigger) a more faulted m on =
    closed_from (faulted b trigger) a b (more b trigger) m (on b trigger)
after_fault (b, flows.Fault fault) a more faulted m on =
    fault_closes (is_closed_state b.state) a b reasons.AssociationClosed refl m
after_fault (b, flows.Closed) a more faulted m on =
    fault_closes (is_closed_state b.state) a b reasons.AssociationClosed refl m
after_fault (b, flows.Exhausted) a more faulted m on = exhausted_closes a b m

chunks_close : (header : CommonHeader) (cs : List Chunk) (a : Shown) (trigger : AckTrigger) (now : ℕ)
    → IsClosedIf (is_faulted header cs a trigger now) a (after_chunks header cs a trigger now)
chunks_close header [] a trigger now = stays_open a _ refl refl refl
chunks_close header (c ∷ cs) a trigger now =
    after_fault (on_chunk a header c trigger now) a (λ b next. after_chunks header cs b next now)
    (λ b next. is_faulted header cs b next now)
    (chunk_goes_on header c a trigger now) (λ b next. chunks_close header cs b next now)

packet_closes : (packet : Option Packet) (a : Shown) (now : ℕ)
    → IsClosedIf (is_faulted_packet a packet now) a (after_packet_of a packet now)
packet_closes None a now = stays_open a a refl refl refl
packet_closes (Some packet) a now = chunks_close packet.common_header packet.chunks a triggers.None now

packet_closes_unless : (lost : Bool) (packet : Option Packet) (a : Shown) (now : ℕ)
    → IsClosedIf (not lost && is_faulted_packet a packet now) a (if lost then a else after_packet_of a packet now)
packet_closes_unless true packet a now = stays_open a a refl refl refl
packet_closes_unless false packet a now = packet_closes packet a now

pub faults_alone_close : FaultsAloneClose
faults_alone_close a packet now = packet_closes_unless a.lost packet a now

relieved_closes : (e : Bool) (a b : Shown) → StaysOpen a b
    → IsClosedIf (e && not (is_closed_state b.state)) a (if e then exhausted b else b)
relieved_closes true a b m = exhausted_closes a b m
relieved_closes false a b m = closed_from false a b b m (stays_open b b refl refl refl)

-- a window that is told changes nothing of that
told_window_closes : (is_told closing : Bool) (a b : Shown) → IsClosedIf closing a b
    → IsClosedIf closing a (told_if is_told b)
told_window_closes true closing a b n =
    record { closed = n.closed; still_open = n.still_open; lost = n.lost; told = n.told }
told_window_closes false closing a b n = n

eased_closes : (before : ℕ) (a b : Shown) → StaysOpen a b
    → IsClosedIf (is_exhausted b && not (is_closed_state b.state)) a (eased before b)
eased_closes before a b m =
    told_window_closes (tells_window before (relieved b)) (is_exhausted b && not (is_closed_state b.state)) a
    (relieved b) (relieved_closes (is_exhausted b) a b m)

pub drained_goes_on : (a : Shown) (id : ℕ) (streams : StreamMap) → Remains a (drained_behind a id streams)
drained_goes_on a id streams =
    let first = a.sender.queue.next_message_id in
    let limit = a.receiver.max_receive_message_size in
    let c = channels streams a.events a.to_accept in
    resetting_goes_on a (read_out first limit id a.resets c) (read_out_tells first limit id a.resets c)

read_closes_if : (x : StreamMap × Option ReceivedMessage) (a : Shown) (id : ℕ)
    → IsClosedIf ((is_some x.1 && is_exhausted (drained_behind a id x.0)) && not (is_closed_state a.state)) a
    (after_read a id x).0
read_closes_if (streams, None) a id =
    let b : Shown = drained_behind a id streams in
    closed_from false a b b (remains_open a b (drained_goes_on a id streams)) (stays_open b b refl refl refl)
read_closes_if (streams, Some message) a id =
    let b : Shown = drained_behind a id streams in
    let m : Remains a b = drained_goes_on a id streams in
    subst (λ (state : AssociationState).
    IsClosedIf (is_exhausted b && not (is_closed_state state)) a (eased (credit_in a) b)) m.state
    (eased_closes (credit_in a) a b (remains_open a b m))

pub exhausting_reads_alone_close : ExhaustingReadsAloneClose
exhausting_reads_alone_close a id = read_closes_if (read_in a.streams id) a id

-- stopping

beside_goes_on : (a b : Shown) (x : Beside) → Remains a b → losses x.2 ≡ losses a.events
    → Remains a (with_beside b x)
beside_goes_on a b (r, m, queued) k e =
    record { state = k.state; lost = k.lost; told = e; handshake = k.handshake }

stopped_goes_on_if : (retires : Bool) (a : Shown) (id : ℕ) → is_retiring a.resets id ≡ retires
    → Remains a (stopped_open a id)
stopped_goes_on_if true a id e =
    let b : Shown = without_read_half_of a id in
    rw e (beside_goes_on a b (stopped_reading id b.resets b.streams b.events) (remains a b refl refl refl refl)
    (stopped_reading_tells id b.resets b.streams b.events))
stopped_goes_on_if false a id e = rw e (remains a _ refl refl refl refl)

pub stopped_goes_on : (a : Shown) (id : ℕ) → Remains a (stopped_open a id)
stopped_goes_on a id = stopped_goes_on_if (is_retiring a.resets id) a id refl

stop_closes_if : (opened : Bool) (before : ℕ) (a : Shown) (id : ℕ)
    → IsClosedIf ((opened && is_exhausted (stopped_open a id)) && not (is_closed_state a.state)) a
    (if opened then eased before (stopped_open a id) else a)
stop_closes_if true before a id =
    let b : Shown = stopped_open a id in
    let m : Remains a b = stopped_goes_on a id in
    subst (λ (state : AssociationState).
    IsClosedIf (is_exhausted b && not (is_closed_state state)) a (eased before b)) m.state
    (eased_closes before a b (remains_open a b m))
stop_closes_if false before a id = stays_open a a refl refl refl

pub exhausting_stops_alone_close : ExhaustingStopsAloneClose
exhausting_stops_alone_close a id =
    stop_closes_if (holds_of (λ s. is_read_half_open s.halves) a id) (credit_in a) a id
