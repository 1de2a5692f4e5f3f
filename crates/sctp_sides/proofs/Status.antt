-- Calls leave an association's status as it is: whether it failed, its state, whether it was lost, and its payload
-- size; a SACK leaves its stage, since a shutdown may go on behind it.
use Rattle.std.proofs.Common.{◌++◌, ◌≡◌, refl, sym, ap, ◌∙◌, ℕ, Bool, true, false, ◌&&◌, if◌then◌else◌, not}
use Rattle.std.proofs.Common.{List, [], ◌∷◌, Option, Some, None, is_some, Result, Ok, Err}
use Rattle.sctp_wire_types.specs.declared.chunk.Chunk.{Chunk}
use Rattle.sctp_wire_types.specs.declared.chunk.Chunk.TheVariants as chunks
use Rattle.sctp_wire_types.specs.declared.chunk.ChunkPayloadData.{ChunkPayloadData}
use Rattle.sctp_wire_types.specs.declared.error.Error.{Error}
use Rattle.sctp_wire_types.specs.declared.error.Error.TheVariants as errors
use Rattle.sctp_wire_types.specs.declared.packet.CommonHeader.{CommonHeader}
use Rattle.sctp_wire_types.specs.Checks.{checked_chunk}
use Rattle.sctp_wire_types.specs.Config.{is_rfc}
use Rattle.sctp_parts.specs.declared.state.AssociationState.{AssociationState}
use Rattle.sctp_parts.specs.declared.state.AssociationState.TheVariants as states
use Rattle.sctp_parts.specs.declared.timer.Timer.TheVariants as names
use Rattle.sctp_parts.specs.Timers.{expiry_of, with_stopped}
use Rattle.sctp_wire_types.specs.declared.chunk.ChunkReconfig.{ChunkReconfig}
use Rattle.sctp_wire_types.specs.declared.event.StreamResetError.TheVariants as failures
use Rattle.sctp_wire_types.specs.declared.param.Param.{Param}
use Rattle.sctp_wire_types.specs.declared.param.Param.TheVariants as params
use Rattle.sctp_wire_types.specs.declared.param.ParamOutgoingResetRequest.{ParamOutgoingResetRequest}
use Rattle.sctp_wire_types.specs.declared.param.ParamReconfigResponse.{ParamReconfigResponse}
use Rattle.sctp_wire_types.specs.declared.param.ReconfigResult.{ReconfigResult}
use Rattle.sctp_wire_types.specs.declared.param.ReconfigResult.TheVariants as results
use Rattle.sctp_reset_requests.specs.declared.own_request.OwnRequest.{OwnRequest}
use Rattle.sctp_reset_requests.specs.Debts.{DebtsView}
use Rattle.sctp_reset_requests.specs.Own as own_requests
use Rattle.sctp_reset_requests.specs.Own.{OwnView}
use Rattle.sctp_resets.specs.declared.answers.TimerChange.{TimerChange}
use Rattle.sctp_resets.specs.declared.performing.Handled.{Handled}
use Rattle.sctp_resets.specs.declared.performing.Settled.{Settled}
use Rattle.sctp_resets.specs.Answers.{Answering, answering, failed_each, with_told}
use Rattle.sctp_resets.specs.Resets.{Beside, ResetsView, Resetting, event_told, given_up, given_up_for_now}
use Rattle.sctp_resets.specs.Resets.{given_up_where, is_hidden, is_retiring, refusal_of, responded}
use Rattle.sctp_resets.specs.Resets.{skips_done, skips_done_of}
use Rattle.sctp_resets.specs.Resets as resets
use Rattle.sctp_assoc.specs.declared.control.Control.{Control}
use Rattle.sctp_assoc.specs.declared.control.Control.TheVariants as controls
use Rattle.sctp_assoc.specs.declared.inbound.Flow.{Flow}
use Rattle.sctp_assoc.specs.Calls.{credit_in, drained_behind, tells_window, told_if}
use Rattle.sctp_assoc.specs.Chunks.{asks, asks_or_faults, deferred_unless, deferred_where_admitted, taken_unless}
use Rattle.sctp_assoc.specs.Chunks.{taken_where_admitted, then_skips, with_message}
use Rattle.sctp_assoc.specs.Gather.{IsPlainControl}
use Rattle.sctp_assoc.specs.Resets.{after_param, after_reconfig_timer, asking_if, asks_again, behind_first}
use Rattle.sctp_assoc.specs.Resets.{behind_params, channels_of, gives_up, goes_on, handled_with, on_reconfig}
use Rattle.sctp_assoc.specs.Resets.{on_request, on_response, reconfig_expired, responded_with, responding, settled}
use Rattle.sctp_assoc.specs.Resets.{settled_with, stopped_if, with_answer, with_beside, with_resetting}
use Rattle.sctp_streams.specs.declared.event.Event.{Event}
use Rattle.sctp_streams.specs.Stream.{StreamView}
use Rattle.sctp_streams.specs.Streams.{StreamMap, generation_left, is_readable_in, pushed_in, refusal_in}
use Rattle.sctp_streams.specs.Streams.{stream_at}
use Rattle.sctp_inbound.specs.declared.receiver.AckTrigger.{AckTrigger}
use Rattle.sctp_inbound.specs.declared.handshake.Offer.{Offer}
use Rattle.sctp_inbound.specs.Handshake.{comes_back, has_issued, header_of}
use Rattle.sctp_inbound.specs.Receiver.{admits, is_new_to, taken_to}
use Rattle.sctp_outbound.specs.declared.sender.SackOutcome.{SackOutcome}
use Rattle.sctp_outbound.specs.declared.sender.SackOutcome.TheVariants as outcomes
use Rattle.sctp_wire_types.specs.declared.chunk.GapAckBlock.{GapAckBlock}
use Rattle.sctp_assoc.proofs.ActsKeepOffsets.{blocks_size, size_stays}
use Rattle.sctp_outbound.specs.Sender.{acknowledged, tsns_up_to}
use Rattle.sctp_outbound.specs.Sacks.{before_acknowledging}
use Rattle.sctp_outbound.specs.Sender.{sack_outcome}
use Rattle.sctp_wire_types.specs.declared.ids.PayloadProtocolIdentifier.{PayloadProtocolIdentifier}
use Rattle.sctp_assoc.specs.Calls.{accepted_from, after_ack_delay, after_t3, event_from, is_beginning, is_cookie_echoed}
use Rattle.sctp_assoc.specs.Calls.{is_cookie_wait, retransmits, sends_data, t3_expired, written_at}
use Rattle.sctp_assoc.specs.Chunks.{after_sack, checked_first, counted_data, dispatched, counted_sack}
use Rattle.sctp_assoc.specs.Chunks.{on_chunk, on_counted_sack, on_data, on_new_data, on_sack, stream_found, taken_in}
use Rattle.sctp_assoc.specs.Chunks.{goes_unread, left_or_handed_over, told}
use Rattle.sctp_assoc.specs.Finding.{found_for}
use Rattle.sctp_assoc.specs.Handshake.{acknowledges_again, after_t1_init, cookie_queued, echoed, information_returned}
use Rattle.sctp_assoc.specs.Handshake.{init_queued, keeps_peer, on_cookie_ack, on_cookie_echo, on_heartbeat}
use Rattle.sctp_assoc.specs.Handshake.{on_init, on_init_ack, sends_cookie, sends_init, t1_cookie_expired}
use Rattle.sctp_assoc.specs.Handshake.{t1_init_expired}
use Rattle.sctp_assoc.specs.Gather.{single_chunk_packet}
use Rattle.sctp_assoc.specs.Skipping.{acknowledged_at_once as forward_acknowledged}
use Rattle.sctp_assoc.specs.Skipping.{asks_behind, on_forward, skips_of, unrecognized_chunk, with_passed, with_skip}
use Rattle.sctp_assoc.specs.Skipping.{with_skips}
use Rattle.sctp_assoc.proofs.Probes.{probes_keep}
use Rattle.sctp_assoc.proofs.StreamsFound.{found_for_keeps}
use Rattle.sctp_wire_types.specs.declared.chunk.SkippedStream.{SkippedStream}
use Rattle.sctp_sides.proofs.ForwardKinds.{forward_is_one_of}
use Rattle.sctp_sides.proofs.WithoutResets.{nothing_is_drained}
use Rattle.sctp_assoc.specs.Timeouts.{after_handshake_timers, after_shutdown_timer}
use Rattle.sctp_sides.specs.SideLaws.{IsSameStatus, KeepsTheStage, KeepsWorking, Leaves, LimitsKeepTheStatus}
use Rattle.sctp_sides.specs.SideLaws.{OpenedStreamsKeepTheStatus}
use Rattle.sctp_sides.specs.SideLaws.{ReadsChangeStreamsAlone}
use Rattle.sctp_sides.specs.SideLaws.{ReadsKeepTheStatus, TimersKeepTheStatus, ToldEventsKeepTheStatus}
use Rattle.sctp_sides.specs.SideLaws.{AcceptedStreamsKeepTheStatus, SettingsKeepTheStatus, WritesKeepTheStatus}
use Rattle.sctp_sides.specs.Meeting.{IsAsFarOn, IsTruthful, SaysWhatIsSo, WaitsTruthfully, stage_of}
use Rattle.sctp_assoc.specs.Control.{queued, queued_under, untagged}
use Rattle.sctp_inbound.specs.Greeting.{first_cookie, information_of, init_of}
use Rattle.sctp_wire_types.specs.declared.chunk.ChunkInit.{ChunkInit}
use Rattle.sctp_wire_types.specs.declared.chunk.ChunkHeartbeat.{ChunkHeartbeat}
use Rattle.sctp_wire.specs.Packets.{packet_is_plain}
use Rattle.sctp_assoc.specs.Shown.{Shown, all_waiting}
use Rattle.sctp_sides.proofs.HandshakeTruth.{keeps_saying, truthful_still}
use Rattle.sctp_sides.proofs.HandshakeTruth.{truthful_with}
use Rattle.sctp_sides.proofs.WindowsTold.{eased_exhausted, eased_plainly}
use Rattle.sctp_assoc.proofs.StreamReads.{message_given}
use Rattle.sctp_assoc.specs.Calls.{after_read}
use Rattle.sctp_assoc.specs.Closing.{exhausted, is_exhausted}
use Rattle.sctp_assoc.specs.Probes.{is_probing}
use Rattle.sctp_receive_queues.specs.Messages.{ReceivedMessage}
use Rattle.sctp_streams.specs.Streams.{read_in}
use Rattle.std.proofs.Common.{inl, inr, subst}
use Rattle.std.proofs.lemmas.Bool.{false≢true}
use Rattle.sctp_assoc.specs.Shutdown.{all_acknowledged, shutdown_continued, state_behind_data}

pub status_same : (a : Shown) → IsSameStatus a a
status_same a = record {
  failed = refl;
  state = refl;
  lost = refl;
  size = refl;
  side = refl;
  handshake = refl;
  truthful = λ own t. t;
}

-- what waits to go out is as it was, too
pub status_by : (a b : Shown) → b.failed ≡ a.failed → b.state ≡ a.state → b.lost ≡ a.lost
    → b.sender.max_payload_size ≡ a.sender.max_payload_size
    → b.control ≡ a.control → b.handshake ≡ a.handshake → b.side ≡ a.side → IsSameStatus a b
status_by a b f s l z c h side = record {
  failed = f;
  state = s;
  lost = l;
  size = z;
  side = side;
  handshake = h;
  truthful = λ own t. truthful_still own a b t (keeps_saying a b side h) c;
}

pub status_on : (a b c : Shown) → IsSameStatus a b → IsSameStatus b c → IsSameStatus a c
status_on a b c x y = record {
  failed = y.failed ∙ x.failed;
  state = y.state ∙ x.state;
  lost = y.lost ∙ x.lost;
  size = y.size ∙ x.size;
  side = y.side ∙ x.side;
  handshake = y.handshake ∙ x.handshake;
  truthful = λ own t. y.truthful own (x.truthful own t);
}

-- The stage stays where the status does, and over a shutdown that goes on.

pub stage_by_status : (a b : Shown) → IsSameStatus a b → KeepsTheStage a b
stage_by_status a b x = record {
  failed = x.failed;
  state = inl x.state;
  lost = x.lost;
  size = x.size;
  side = x.side;
  handshake = x.handshake;
  truthful = x.truthful;
}

pub stage_on : (a b c : Shown) → IsSameStatus a b → KeepsTheStage b c → KeepsTheStage a c
stage_on a b c x y = record {
  failed = y.failed ∙ x.failed;
  state = subst (λ (s : AssociationState). IsAsFarOn s c.state) x.state y.state;
  lost = y.lost ∙ x.lost;
  size = y.size ∙ x.size;
  side = y.side ∙ x.side;
  handshake = y.handshake ∙ x.handshake;
  truthful = λ own t. y.truthful own (x.truthful own t);
}

-- the stage stays, and then the status
pub status_behind : (a b c : Shown) → KeepsTheStage a b → IsSameStatus b c → KeepsTheStage a c
status_behind a b c x y = record {
  failed = y.failed ∙ x.failed;
  state = subst (λ (s : AssociationState). IsAsFarOn a.state s) (sym y.state) x.state;
  lost = y.lost ∙ x.lost;
  size = y.size ∙ x.size;
  side = y.side ∙ x.side;
  handshake = y.handshake ∙ x.handshake;
  truthful = λ own t. y.truthful own (x.truthful own t);
}

behind_data_far : (acknowledged : Bool) (s : AssociationState)
    → IsAsFarOn s (if acknowledged then state_behind_data s else s)
behind_data_far false s = inl refl
behind_data_far true states.ShutdownPending = inr (refl, refl)
behind_data_far true states.ShutdownReceived = inr (refl, refl)
behind_data_far true s = inl refl

pub continued_stage : (a : Shown) → KeepsTheStage a (shutdown_continued a)
continued_stage a = record {
  failed = refl;
  state = behind_data_far (all_acknowledged a) a.state;
  lost = refl;
  size = refl;
  side = refl;
  handshake = refl;
  truthful =
      λ own t. truthful_still own a (shutdown_continued a) t (keeps_saying a (shutdown_continued a) refl refl) refl;
}

-- Resets of streams

-- more waits, and is truthful
pub more_waits : (a : Shown) (c : Control) → ((own : ℕ) → IsTruthful own a → WaitsTruthfully own (stage_of a) c)
    → IsPlainControl c → IsSameStatus a (record a { control = a.control ++ c ∷ [] })
more_waits a c says plain = record {
  failed = refl;
  state = refl;
  lost = refl;
  size = refl;
  side = refl;
  handshake = refl;
  truthful = λ own t.
      truthful_with own a (record a { control = a.control ++ c ∷ [] }) c t
      (keeps_saying a (record a { control = a.control ++ c ∷ [] }) refl refl) refl (says own t) plain;
}

pub beside_status : (a : Shown) (x : Beside) → IsSameStatus a (with_beside a x)
beside_status a (r, m, events) = status_by a _ refl refl refl refl refl refl refl

resetting_status : (a : Shown) (x : Resetting) → IsSameStatus a (with_resetting a x)
resetting_status a (r, c) = status_by a _ refl refl refl refl refl refl refl

pub asking_status : (made : Bool) (a : Shown) → IsSameStatus a (asking_if made a)
asking_status true a = more_waits a controls.OwnRequest (λ own t. tt) tt
asking_status false a = status_same a

responding_status : (a : Shown) (number : ℕ) (result : ReconfigResult) → IsSameStatus a (responding a number result)
responding_status a number result = more_waits a _ (λ own t. tt) refl

answer_status : (q : Option Settled) (a : Shown) → IsSameStatus a (with_answer q a)
answer_status None a = status_same a
answer_status (Some q) a =
    status_on a (asking_if q.asks a) _ (asking_status q.asks a)
    (responding_status (asking_if q.asks a) q.number results.SuccessPerformed)

settled_with_status : (a : Shown) (x : Resetting × Option Settled) → IsSameStatus a (settled_with a x)
settled_with_status a (s, answer) =
    status_on a (with_resetting a s) _ (resetting_status a s) (answer_status answer (with_resetting a s))

settled_status : (a : Shown) → IsSameStatus a (settled a)
unfolding settled
settled_status a =
    let x =
    resets.settled a.receiver.peer_last_tsn a.sender.queue.next_message_id a.receiver.max_receive_message_size a.resets
    (channels_of a) in
    let b : Shown = settled_with a x in
    status_on a b _ (settled_with_status a x) (beside_status b (skips_done b.resets b.streams b.events))

stopped_status : (confirms : Bool) (a : Shown) → IsSameStatus a (stopped_if confirms a)
stopped_status true a = status_by a _ refl refl refl refl refl refl refl
stopped_status false a = status_same a

handled_status : (a : Shown) (number : ℕ) (x : Resetting × Handled) → IsSameStatus a (handled_with a number x)
handled_status a number (s, h) =
    let b : Shown = with_resetting a s in
    let c : Shown = stopped_if h.confirms b in
    let d : Shown = asking_if h.asks c in
    status_on a b _ (resetting_status a s)
    (status_on b c _ (stopped_status h.confirms b)
    (status_on c d _ (asking_status h.asks c) (responding_status d number h.answer)))

request_status : (a : Shown) (param : ParamOutgoingResetRequest) → IsSameStatus a (on_request a param)
unfolding on_request
request_status a param = handled_status a param.reconfig_request_sequence_number _

responded_status : (a : Shown) (x : Beside × TimerChange) → IsSameStatus a (responded_with a x)
responded_status a (b, change) =
    let c : Shown = with_beside a b in
    status_on a c _ (beside_status a b) (status_by c _ refl refl refl refl refl refl refl)

response_status : (a : Shown) (response : ParamReconfigResponse) → IsSameStatus a (on_response a response)
unfolding on_response
response_status a response = responded_status a (responded response a.resets a.streams a.events)

param_status : (param : Param) (a : Shown) → IsSameStatus a (after_param param a).0
param_status (params.OutgoingResetRequest request) a = request_status a request
param_status (params.ReconfigResponse response) a = response_status a response
param_status (params.HeartbeatInfo value) a = status_same a
param_status (params.StateCookie value) a = status_same a
param_status (params.SupportedExtensions value) a = status_same a
param_status (params.Other kind value) a = status_same a

behind_status : (x : Shown × Bool) (trigger : AckTrigger) → IsSameStatus x.0 (behind_params x trigger).0
behind_status (a, true) trigger = status_same a
behind_status (a, false) trigger = status_same a

first_status : (x : Shown × Bool) (second : Option Param) (trigger : AckTrigger)
    → IsSameStatus x.0 (behind_first x second trigger).0
first_status (a, true) None trigger = status_same a
first_status (a, true) (Some second) trigger =
    status_on a (after_param second a).0 _ (param_status second a) (behind_status (after_param second a) trigger)
first_status (a, false) second trigger = status_same a

reconfig_status : (a : Shown) (reconfig : ChunkReconfig) (trigger : AckTrigger)
    → IsSameStatus a (on_reconfig a reconfig trigger).0
unfolding on_reconfig
reconfig_status a reconfig trigger =
    let x = after_param reconfig.first a in
    status_on a x.0 _ (param_status reconfig.first a) (first_status x reconfig.second trigger)

-- DATA

found_status : (there left : Bool) (a : Shown) (id : ℕ) → is_some (stream_at a.streams id) ≡ there
    → generation_left a.streams ≡ left → IsSameStatus a (stream_found a id).0
unfolding stream_found
found_status true left a id e f = rw e (status_same a)
found_status false true a id e f = rw (e, f) (status_by a _ refl refl refl refl refl refl refl)
found_status false false a id e f = rw (e, f) (status_same a)

told_status : (readable kept : Bool) (a : Shown) (id : ℕ) → is_readable_in a.streams id ≡ readable
    → IsSameStatus a (told a id kept)
told_status true true a id e = rw e (status_by a _ refl refl refl refl refl refl refl)
told_status false true a id e = rw e (status_by a _ refl refl refl refl refl refl refl)
told_status readable false a id e = status_by a _ refl refl refl refl refl refl refl

taken_unless_status : (refusal : Option Error) (a : Shown) (piece : ChunkPayloadData)
    → IsSameStatus a (taken_unless refusal a piece).0
taken_unless_status (Some fault) a piece = status_same a
taken_unless_status None a piece = message_status a piece (pushed_in a.streams piece.stream_identifier piece)
  where
    message_status : (b : Shown) (p : ChunkPayloadData) (x : StreamMap × Bool) → IsSameStatus b (with_message b p x)
    message_status b p (streams, kept) =
        let c : Shown = record b { streams = streams; receiver = taken_to b.receiver p.tsn } in
        status_on b c _ (status_by b c refl refl refl refl refl refl refl)
        (told_status (is_readable_in streams p.stream_identifier) kept c p.stream_identifier refl)

left_status : (left : Bool) (a : Shown) (piece : ChunkPayloadData)
    → IsSameStatus a (left_or_handed_over left a piece).0
left_status true a piece = status_by a _ refl refl refl refl refl refl refl
left_status false a piece =
    taken_unless_status (refusal_in a.streams piece.stream_identifier piece a.receiver.max_receive_message_size) a piece

taken_status : (a : Shown) (piece : ChunkPayloadData) → IsSameStatus a (taken_in a piece).0
unfolding taken_in
taken_status a piece = left_status (goes_unread a piece) a piece

then_skips_status : (x : Shown × Option Error) (id : ℕ) → IsSameStatus x.0 (then_skips x id).0
then_skips_status (a, None) id = beside_status a (skips_done_of id a.resets a.streams a.events)
then_skips_status (a, Some fault) id = status_same a

admitted_status : (credit : Bool) (a : Shown) (piece : ChunkPayloadData)
    → IsSameStatus a (if credit then then_skips (taken_in a piece) piece.stream_identifier else (a, None)).0
admitted_status true a piece =
    status_on a (taken_in a piece).0 _ (taken_status a piece)
    (then_skips_status (taken_in a piece) piece.stream_identifier)
admitted_status false a piece = status_same a

deferred_unless_status : (refusal : Option Error) (a : Shown) (piece : ChunkPayloadData)
    → IsSameStatus a (deferred_unless refusal a piece).0
deferred_unless_status (Some fault) a piece = status_same a
deferred_unless_status None a piece = status_by a _ refl refl refl refl refl refl refl

deferred_if_status : (credit : Bool) (refusal : Option Error) (a : Shown) (piece : ChunkPayloadData)
    → IsSameStatus a (if credit then deferred_unless refusal a piece else (a, None)).0
deferred_if_status true refusal a piece = deferred_unless_status refusal a piece
deferred_if_status false refusal a piece = status_same a

deferred_status : (a : Shown) (piece : ChunkPayloadData) → IsSameStatus a (deferred_where_admitted a piece).0
unfolding deferred_where_admitted
deferred_status a piece =
    deferred_if_status (admits a.receiver piece.tsn (all_waiting a))
    (refusal_of a.resets piece a.receiver.max_receive_message_size) a piece

flow_same : (e : Bool) (a : Shown) (f g : Flow) → (if◌then◌else◌ {A = Shown × Flow} e (a, f) (a, g)).0 ≡ a
flow_same true a f g = refl
flow_same false a f g = refl

asks_status : (a : Shown) (immediate : Bool) (trigger : AckTrigger) → IsSameStatus a (asks a immediate trigger).0
asks_status a immediate trigger =
    subst (IsSameStatus a) (sym (flow_same (is_exhausted a) a _ _)) (status_same a)

settled_asks_status : (a : Shown) (immediate : Bool) (trigger : AckTrigger)
    → IsSameStatus a (asks (settled a) immediate trigger).0
settled_asks_status a immediate trigger =
    status_on a (settled a) _ (settled_status a) (asks_status (settled a) immediate trigger)

faults_status : (x : Shown × Option Error) (immediate : Bool) (trigger : AckTrigger)
    → IsSameStatus x.0 (asks_or_faults x immediate trigger).0
faults_status (a, None) immediate trigger = settled_asks_status a immediate trigger
faults_status (a, Some fault) immediate trigger = status_same a

new_data_status : (x : Shown × Bool) (piece : ChunkPayloadData) (trigger : AckTrigger)
    → IsSameStatus x.0 (on_new_data x piece trigger).0
new_data_status (a, false) piece trigger = status_same a
new_data_status (a, true) piece trigger =
    status_on a (taken_where_admitted a piece).0 _
    (admitted_status (admits a.receiver piece.tsn (all_waiting a)) a piece)
    (faults_status (taken_where_admitted a piece) piece.immediate_sack trigger)

counted_data_status : (next hidden : Bool) (a : Shown) (piece : ChunkPayloadData) (trigger : AckTrigger)
    → IsSameStatus a
    (if not next then asks (settled a) piece.immediate_sack trigger else
    if hidden then asks_or_faults (deferred_where_admitted a piece) piece.immediate_sack trigger else
    on_new_data (stream_found a piece.stream_identifier) piece trigger).0
counted_data_status false hidden a piece trigger = settled_asks_status a piece.immediate_sack trigger
counted_data_status true true a piece trigger =
    status_on a (deferred_where_admitted a piece).0 _ (deferred_status a piece)
    (faults_status (deferred_where_admitted a piece) piece.immediate_sack trigger)
counted_data_status true false a piece trigger =
    status_on a (stream_found a piece.stream_identifier).0 _
    (found_status (is_some (stream_at a.streams piece.stream_identifier)) (generation_left a.streams) a
    piece.stream_identifier refl refl)
    (new_data_status (stream_found a piece.stream_identifier) piece trigger)

data_status : (a : Shown) (piece : ChunkPayloadData) (trigger : AckTrigger) → IsSameStatus a (on_data a piece trigger).0
unfolding on_data
data_status a piece trigger =
    let b : Shown = counted_data a in
    status_on a b _ (status_by a b refl refl refl refl refl refl refl)
    (counted_data_status (is_new_to b.receiver piece.tsn) (is_hidden b.resets piece.stream_identifier piece.tsn) b piece
    trigger)

-- SACK

acknowledged_status : (a : Shown) (cumulative_tsn_ack : ℕ) (blocks : List GapAckBlock) (window now : ℕ)
    → IsSameStatus a (after_sack a cumulative_tsn_ack blocks window now)
acknowledged_status a cumulative_tsn_ack blocks window now =
    status_by a _ refl refl refl
    (blocks_size now blocks
    (acknowledged (tsns_up_to a.sender cumulative_tsn_ack) now
    (before_acknowledging (tsns_up_to a.sender cumulative_tsn_ack) window a.sender, a.estimate, a.streams))
    ∙ size_stays (tsns_up_to a.sender cumulative_tsn_ack) now
    (before_acknowledging (tsns_up_to a.sender cumulative_tsn_ack) window a.sender)
    a.estimate a.streams)
    refl refl refl

outcome_stage : (o : SackOutcome) (a : Shown) (cumulative_tsn_ack : ℕ) (blocks : List GapAckBlock) (window : ℕ)
    (trigger : AckTrigger) (now : ℕ)
    → KeepsTheStage a (on_counted_sack o a cumulative_tsn_ack blocks window trigger now).0
outcome_stage outcomes.Taken a cumulative_tsn_ack blocks window trigger now =
    let b : Shown = after_sack a cumulative_tsn_ack blocks window now in
    probes_keep (KeepsTheStage a)
    (λ c k. status_behind a c _ k (status_by c _ refl refl refl refl refl refl refl))
    (λ c k. status_behind a c _ k (status_by c _ refl refl refl refl refl refl refl))
    (is_probing a.profile a.sender) window (shutdown_continued b)
    (stage_on a b (shutdown_continued b) (acknowledged_status a cumulative_tsn_ack blocks window now)
    (continued_stage b))
outcome_stage other a cumulative_tsn_ack blocks window trigger now = stage_by_status a a (status_same a)

sack_stage : (sends : Bool) (a : Shown) (cumulative_tsn_ack : ℕ) (blocks : List GapAckBlock) (window : ℕ)
    (trigger : AckTrigger) (now : ℕ)
    → sends_data a.state ≡ sends
    → KeepsTheStage a (on_sack a cumulative_tsn_ack blocks window trigger now).0
unfolding on_sack
sack_stage true a cumulative_tsn_ack blocks window trigger now e =
    rw e (stage_on a (counted_sack a) _ (status_by a (counted_sack a) refl refl refl refl refl refl refl)
    (outcome_stage (sack_outcome a.sender cumulative_tsn_ack blocks)
    (counted_sack a) cumulative_tsn_ack blocks window trigger now))
sack_stage false a cumulative_tsn_ack blocks window trigger now e = rw e (stage_by_status a a (status_same a))

-- FORWARD TSN

-- one that isn't in use queues an ERROR, which says nothing of the handshake
refused_status : (a : Shown) → IsSameStatus a (queued a unrecognized_chunk)
refused_status a = more_waits a _ (λ own t. tt) refl

skip_status : (retires : Bool) (tsn id ssn : ℕ) (a : Shown) → is_retiring a.resets id ≡ retires
    → IsSameStatus a (with_skip tsn id ssn a)
unfolding with_skip
skip_status true tsn id ssn a e = rw e (status_by a _ refl refl refl refl refl refl refl)
skip_status false tsn id ssn a e = rw e (status_by a _ refl refl refl refl refl refl refl)

skips_status : (tsn : ℕ) (es : List SkippedStream) (a : Shown) → IsSameStatus a (with_skips tsn es a)
skips_status tsn [] a = status_same a
skips_status tsn (e ∷ es) a =
    let b : Shown = with_skip tsn e.stream_identifier e.stream_sequence_number a in
    status_on a b _
    (skip_status (is_retiring a.resets e.stream_identifier) tsn e.stream_identifier e.stream_sequence_number a refl)
    (skips_status tsn es b)

passed_status : (a : Shown) (tsn : ℕ) (es : List SkippedStream) → IsSameStatus a (with_passed (with_skips tsn es a) tsn)
passed_status a tsn es =
    let b : Shown = with_skips tsn es a in
    status_on a b (with_passed b tsn) (skips_status tsn es a)
    (status_by b (with_passed b tsn) refl refl refl refl refl refl refl)

ahead_status : (a : Shown) (tsn : ℕ) (es : List SkippedStream) (trigger : AckTrigger)
    → IsSameStatus a (asks_behind (settled (with_passed (with_skips tsn es a) tsn)) trigger).0
ahead_status a tsn es trigger =
    let b : Shown = with_passed (with_skips tsn es a) tsn in
    subst (IsSameStatus a) (sym (flow_same (is_exhausted (settled b)) (settled b) _ _))
    (status_on a b (settled b) (passed_status a tsn es) (settled_status b))

-- the streams on which it skips are found or made before
all_found_status : (tsn : ℕ) (es : List SkippedStream) (a : Shown) → IsSameStatus a (found_for tsn es a)
all_found_status tsn es a =
    found_for_keeps (IsSameStatus a)
    (λ b id h. status_on a b (stream_found b id).0 h
    (found_status (is_some (stream_at b.streams id)) (generation_left b.streams) b id refl refl))
    tsn es a (status_same a)

forward_status : (a : Shown) (tsn : ℕ) (es : List SkippedStream) (trigger : AckTrigger) (now : ℕ)
    → IsSameStatus a (on_forward a tsn es trigger now).0
forward_status a tsn es trigger now =
    forward_is_one_of tsn es (λ b x. IsSameStatus b x.0) trigger now
    (λ b e. refused_status b)
    (λ b e f. status_by b (forward_acknowledged b now) refl refl refl refl refl refl refl)
    (λ b e f. ahead_status b tsn es trigger)
    (λ b x h. status_on b (found_for tsn es b) x.0 (all_found_status tsn es b) h)
    a

-- Any chunk: whether it failed, whether it was lost, and its payload size stay

works_same : (a : Shown) → KeepsWorking a a
works_same a = record { failed = refl; lost = refl; size = refl }

works_by : (a b : Shown) → b.failed ≡ a.failed → b.lost ≡ a.lost → b.sender.max_payload_size ≡ a.sender.max_payload_size
    → KeepsWorking a b
works_by a b failed lost size = record { failed = failed; lost = lost; size = size }

init_works : (c kept : Bool) (a : Shown) (header : CommonHeader) (init : ChunkInit) (trigger : AckTrigger)
    → is_beginning a.state ≡ c → keeps_peer a init ≡ kept → KeepsWorking a (on_init a header init trigger).0
unfolding on_init
init_works true true a header init trigger e f = rw (e, f) (works_by a _ refl refl refl)
init_works true false a header init trigger e f = rw (e, f) (works_by a _ refl refl refl)
init_works false kept a header init trigger e f = rw e (works_same a)

cookie_works : (o : Option (List ℕ)) (a : Shown) → KeepsWorking a (cookie_queued o a)
cookie_works None a = works_same a
cookie_works (Some cookie) a = works_by a _ refl refl refl

echo_works : (a : Shown) (now : ℕ) → KeepsWorking a (sends_cookie a now)
unfolding sends_cookie
echo_works a now = let w = cookie_works a.handshake.echo a in works_by a _ w.failed w.lost w.size

echoed_works : (o : Option (List ℕ)) (a b : Shown) (trigger : AckTrigger) (now : ℕ) → KeepsWorking a b
    → KeepsWorking a (echoed o b trigger now).0
echoed_works None a b trigger now h = h
echoed_works (Some cookie) a b trigger now h =
    let c : Shown =
    record b { handshake = (let h = b.handshake in record h { echo = Some cookie }); state = states.CookieEchoed } in
    let w = echo_works c now in
    works_by a _ (w.failed ∙ h.failed) (w.lost ∙ h.lost) (w.size ∙ h.size)

init_ack_works : (waits back : Bool) (a : Shown) (header : CommonHeader) (init : ChunkInit) (trigger : AckTrigger)
    (now : ℕ) → is_cookie_wait a.state ≡ waits
    → comes_back a.handshake header ≡ back → KeepsWorking a (on_init_ack a header init trigger now).0
unfolding on_init_ack
init_ack_works true true a header init trigger now e f =
    rw (e, f) (echoed_works (first_cookie init.params) a _ trigger now (works_by a _ refl refl refl))
init_ack_works true false a header init trigger now e f = rw (e, f) (works_by a _ refl refl refl)
init_ack_works false back a header init trigger now e f = rw e (works_same a)

cookie_echo_works : (issued begins again : Bool) (a : Shown) (cookie : List ℕ) (trigger : AckTrigger)
    → has_issued a.handshake cookie ≡ issued
    → is_beginning a.state ≡ begins → acknowledges_again a ≡ again
    → KeepsWorking a (on_cookie_echo a cookie trigger).0
unfolding on_cookie_echo
cookie_echo_works false begins again a cookie trigger e f g = rw e (works_same a)
cookie_echo_works true true again a cookie trigger e f g = rw (e, f) (works_by a _ refl refl refl)
cookie_echo_works true false true a cookie trigger e f g = rw (e, f, g) (works_by a _ refl refl refl)
cookie_echo_works true false false a cookie trigger e f g = rw (e, f, g) (works_same a)

cookie_ack_works : (c : Bool) (a : Shown) (trigger : AckTrigger) → is_cookie_echoed a.state ≡ c
    → KeepsWorking a (on_cookie_ack a trigger).0
unfolding on_cookie_ack
cookie_ack_works true a trigger e = rw e (works_by a _ refl refl refl)
cookie_ack_works false a trigger e = rw e (works_same a)

information_works : (o : Option (List ℕ)) (a : Shown) → KeepsWorking a (information_returned o a)
information_works None a = works_same a
information_works (Some information) a = works_by a _ refl refl refl

heartbeat_works : (a : Shown) (heartbeat : ChunkHeartbeat) (trigger : AckTrigger)
    → KeepsWorking a (on_heartbeat a heartbeat trigger).0
unfolding on_heartbeat
heartbeat_works a heartbeat trigger = information_works (information_of heartbeat.params) a

-- Any chunk that its own check accepts, or refuses

kind_leaves : (header : CommonHeader) (c : Chunk) (a : Shown) (trigger : AckTrigger) (now : ℕ)
    → Leaves c a (dispatched a header c trigger now).0
kind_leaves header (chunks.Data piece) a trigger now = data_status a piece _
kind_leaves header (chunks.SelectiveAck k) a trigger now =
    sack_stage (sends_data a.state) a k.cumulative_tsn_ack k.gap_ack_blocks k.advertised_receiver_window_credit
    trigger now refl
kind_leaves header (chunks.Init x) a trigger now =
    init_works (is_beginning a.state) (keeps_peer a x) a header x trigger refl refl
kind_leaves header (chunks.InitAck x) a trigger now =
    init_ack_works (is_cookie_wait a.state) (comes_back a.handshake header) a header x trigger now refl refl
kind_leaves header (chunks.Heartbeat x) a trigger now = heartbeat_works a x trigger
kind_leaves header (chunks.HeartbeatAck x) a trigger now = works_same a
kind_leaves header (chunks.Abort x) a trigger now = works_same a
kind_leaves header (chunks.Shutdown x) a trigger now = works_by a _ refl refl refl
kind_leaves header chunks.ShutdownAck a trigger now = works_by a _ refl refl refl
kind_leaves header (chunks.Error x) a trigger now = works_same a
kind_leaves header (chunks.CookieEcho x) a trigger now =
    cookie_echo_works (has_issued a.handshake x) (is_beginning a.state) (acknowledges_again a) a x trigger
    refl refl refl
kind_leaves header chunks.CookieAck a trigger now = cookie_ack_works (is_cookie_echoed a.state) a trigger refl
kind_leaves header chunks.ShutdownComplete a trigger now = works_same a
kind_leaves header (chunks.Reconfig x) a trigger now = reconfig_status a x trigger
kind_leaves header (chunks.ForwardTsn x) a trigger now =
    forward_status a x.new_cumulative_tsn x.streams trigger now
kind_leaves header (chunks.IForwardTsn x) a trigger now =
    forward_status a x.new_cumulative_tsn (skips_of x.entries) trigger now
kind_leaves header (chunks.Other kind flags value) a trigger now = works_same a

same_leaves : (c : Chunk) (a : Shown) → Leaves c a a
same_leaves (chunks.Data piece) a = status_same a
same_leaves (chunks.SelectiveAck k) a = stage_by_status a a (status_same a)
same_leaves (chunks.Init x) a = works_same a
same_leaves (chunks.InitAck x) a = works_same a
same_leaves (chunks.Heartbeat x) a = works_same a
same_leaves (chunks.HeartbeatAck x) a = works_same a
same_leaves (chunks.Abort x) a = works_same a
same_leaves (chunks.Shutdown x) a = works_same a
same_leaves chunks.ShutdownAck a = works_same a
same_leaves (chunks.Error x) a = works_same a
same_leaves (chunks.CookieEcho x) a = works_same a
same_leaves chunks.CookieAck a = works_same a
same_leaves chunks.ShutdownComplete a = works_same a
same_leaves (chunks.Reconfig x) a = status_same a
same_leaves (chunks.ForwardTsn x) a = status_same a
same_leaves (chunks.IForwardTsn x) a = status_same a
same_leaves (chunks.Other kind flags value) a = works_same a

checked_leaves : (r : Result (Unit {0}) Error) (header : CommonHeader) (c : Chunk) (a : Shown) (trigger : AckTrigger)
    (now : ℕ) → Leaves c a (checked_first r a header c trigger now).0
checked_leaves (Err fault) header c a trigger now = same_leaves c a
checked_leaves (Ok done) header c a trigger now = kind_leaves header c a trigger now

pub chunk_leaves : (header : CommonHeader) (c : Chunk) (a : Shown) (trigger : AckTrigger) (now : ℕ)
    → Leaves c a (on_chunk a header c trigger now).0
unfolding on_chunk
chunk_leaves header c a trigger now = checked_leaves (checked_chunk c) header c a trigger now

-- Calls of the application

pub opened_streams_keep_the_status : OpenedStreamsKeepTheStatus
opened_streams_keep_the_status a id kind = status_by a _ refl refl refl refl refl refl refl

written_status : (o : Option StreamView) (a : Shown) (id : ℕ) (named : Option PayloadProtocolIdentifier)
    (bytes : List ℕ) → IsSameStatus a (written_at o a id named bytes)
written_status None a id named bytes = status_same a
written_status (Some t) a id named bytes = status_by a _ refl refl refl refl refl refl refl

pub writes_keep_the_status : WritesKeepTheStatus
writes_keep_the_status a id named bytes = written_status (stream_at a.streams id) a id named bytes

pub settings_keep_the_status : SettingsKeepTheStatus
settings_keep_the_status a id setting = status_by a _ refl refl refl refl refl refl refl

limit_status_if : (failed : Bool) (a : Shown) (size : ℕ)
    → IsSameStatus a (if failed then a else record a { max_send_message_size = size })
    × ((if failed then a else record a { max_send_message_size = size }).streams ≡ a.streams)
limit_status_if true a size = (status_same a, refl)
limit_status_if false a size = (status_by a _ refl refl refl refl refl refl refl, refl)

pub limits_keep_the_status : LimitsKeepTheStatus
limits_keep_the_status a size = limit_status_if a.failed a size

accepted_status : (ids : List ℕ) (a : Shown)
    → IsSameStatus a (accepted_from ids a).0 × ((accepted_from ids a).0.streams ≡ a.streams)
accepted_status [] a = (status_same a, refl)
accepted_status (id ∷ ids) a = (status_by a _ refl refl refl refl refl refl refl, refl)

accepted_status_if : (failed : Bool) (a : Shown)
    → IsSameStatus a (if failed then (a, None) else accepted_from a.to_accept a).0
    × ((if failed then (a, None) else accepted_from a.to_accept a).0.streams ≡ a.streams)
accepted_status_if true a = (status_same a, refl)
accepted_status_if false a = accepted_status a.to_accept a

pub accepted_streams_keep_the_status : AcceptedStreamsKeepTheStatus
accepted_streams_keep_the_status a = accepted_status_if a.failed a

-- a window that opened is told, and the status stays
pub told_windows_keep_the_status : (c : Bool) (a : Shown) → IsSameStatus a (told_if c a)
told_windows_keep_the_status true a = status_by a _ refl refl refl refl refl refl refl
told_windows_keep_the_status false a = status_same a

read_plainly : (x : StreamMap × Option ReceivedMessage) (a : Shown) (id : ℕ)
    → (is_some x.1 && is_exhausted (drained_behind a id x.0)) ≡ false
    → (after_read a id x).0
    ≡ told_if (is_some x.1 && tells_window (credit_in a) (drained_behind a id x.0)) (drained_behind a id x.0)
read_plainly (streams, None) a id e = refl
read_plainly (streams, Some message) a id e = eased_plainly (credit_in a) (drained_behind a id streams) e

read_exhausting : (x : StreamMap × Option ReceivedMessage) (a : Shown) (id : ℕ)
    → (is_some x.1 && is_exhausted (drained_behind a id x.0)) ≡ true
    → (after_read a id x).0 ≡ exhausted (drained_behind a id x.0)
read_exhausting (streams, None) a id e = absurd (false≢true e)
read_exhausting (streams, Some message) a id e = eased_exhausted (credit_in a) (drained_behind a id streams) e

pub reads_keep_the_status : ReadsKeepTheStatus
reads_keep_the_status a id = record {
  same = resetting_status a _;
  plainly = read_plainly (read_in a.streams id) a id;
  exhausts = read_exhausting (read_in a.streams id) a id;
  given = message_given a id (read_in a.streams id);
}

pub reads_change_streams_alone : ReadsChangeStreamsAlone
reads_change_streams_alone a id n = nothing_is_drained a id (read_in a.streams id).0 n.kept

told_beside : (x : ResetsView × List Event × Option Event) (a : Shown)
    → IsSameStatus a (event_from x a).0 × ((event_from x a).0.streams ≡ a.streams)
told_beside (r, left, None) a = (status_by a _ refl refl refl refl refl refl refl, refl)
told_beside (r, left, Some e) a = (status_by a _ refl refl refl refl refl refl refl, refl)

pub told_events_keep_the_status : ToldEventsKeepTheStatus
told_events_keep_the_status a b event e =
    rw (sym (ap (λ (x : Shown × Option Event). x.0) e)) (told_beside (event_told a.resets a.events) a)

-- what timeouts leave: the status and the streams
abbrev IsSameBeside : Shown → Shown → Type 0
IsSameBeside a b = IsSameStatus a b × (b.streams ≡ a.streams)

t3_beside : (expired failure : Bool) (a : Shown) (now : ℕ)
    → IsSameBeside a (if expired then (if failure then t3_expired a now else retransmits (t3_expired a now) now) else a)
t3_beside false failure a now = (status_same a, refl)
t3_beside true true a now = (status_by a _ refl refl refl refl refl refl refl, refl)
t3_beside true false a now = (status_by a _ refl refl refl refl refl refl refl, refl)

-- the timer of requests to reset streams

failed_streams : (a : Answering) (x : DebtsView × List Event) → (with_told a x).streams ≡ a.streams
failed_streams a (d, events) = refl

ended_streams : (x : OwnView × Option OwnRequest) (r : ResetsView) (m : StreamMap) (events : List Event)
    → (given_up_where x r m events).1 ≡ m
ended_streams (own, None) r m events = refl
ended_streams (own, Some q) r m events =
    failed_streams (answering r.debts m events) (failed_each failures.Failed q.ids (r.debts, events))

given_up_streams_if : (by_rfcs : Bool) (r : ResetsView) (m : StreamMap) (events : List Event)
    → (if by_rfcs then given_up_for_now r m events else given_up_where (own_requests.ended r.own) r m events).1 ≡ m
given_up_streams_if true r m events = refl
given_up_streams_if false r m events = ended_streams (own_requests.ended r.own) r m events

given_up_streams : (r : ResetsView) (m : StreamMap) (events : List Event) → (given_up r m events).1 ≡ m
given_up_streams r m events = given_up_streams_if (is_rfc r.own.profile) r m events

beside_streams : (a : Shown) (x : Beside) → (with_beside a x).streams ≡ x.1
beside_streams a (r, m, events) = refl

goes_on_beside_if : (active : Bool) (a : Shown) (now : ℕ)
    → IsSameBeside a (if active then asks_again a now else record a { timers = with_stopped names.Reconfig a.timers })
goes_on_beside_if true a now = (status_by a _ refl refl refl refl refl refl refl, refl)
goes_on_beside_if false a now = (status_by a _ refl refl refl refl refl refl refl, refl)

goes_on_beside : (a : Shown) (now : ℕ) → IsSameBeside a (goes_on a now)
goes_on_beside a now = goes_on_beside_if (is_some a.resets.own.active) a now

gives_up_beside : (a : Shown) (now : ℕ) → IsSameBeside a (gives_up a now)
gives_up_beside a now =
    let x = given_up a.resets a.streams a.events in
    let b : Shown = with_beside a x in
    let on = goes_on_beside b now in (
      status_on a b (gives_up a now) (beside_status a x) on.0,
      on.1 ∙ beside_streams a x ∙ given_up_streams a.resets a.streams a.events,
    )

reconfig_beside : (expired failure : Bool) (a : Shown) (now : ℕ)
    → IsSameBeside a
    (if expired then
    (if failure then gives_up (reconfig_expired a now) now else asks_again (reconfig_expired a now) now) else a)
reconfig_beside false failure a now = (status_same a, refl)
reconfig_beside true true a now =
    let b : Shown = reconfig_expired a now in
    let last = gives_up_beside b now in
    (status_on a b (gives_up b now) (status_by a b refl refl refl refl refl refl refl) last.0, last.1)
reconfig_beside true false a now = (status_by a _ refl refl refl refl refl refl refl, refl)

ack_delay_beside : (expired : Bool) (a b : Shown) (now : ℕ) → (expiry_of names.Ack now b.timers).expired ≡ expired
    → IsSameBeside a b → IsSameBeside a (after_ack_delay b now)
ack_delay_beside false a b now e h = rw e h
ack_delay_beside true a b now e (h, streams) =
    rw e (status_on a b _ h (status_by b _ refl refl refl refl refl refl refl), streams)

-- what the timers of the handshake send says what is so

-- a packet of the handshake more waits, and says what is so
with_queued : (header : CommonHeader) (a b : Shown) (c : Chunk) → IsSameBeside a b
    → ((own : ℕ) → IsTruthful own b → SaysWhatIsSo own (stage_of b) c)
    → packet_is_plain (single_chunk_packet header c) ≡ true → IsSameBeside a (queued_under header b c)
with_queued header a b c (h, streams) says plain =
    (status_on a b (queued_under header b c) h (more_waits b _ says plain), streams)

init_queued_beside : (o : Option Offer) (a b : Shown) → IsSameBeside a b → b.handshake.offer ≡ o
    → IsSameBeside a (init_queued o b)
init_queued_beside None a b h is = h
init_queued_beside (Some offer) a b h is =
    with_queued (untagged (header_of b.handshake)) a b (chunks.Init (init_of b.handshake offer)) h
    (λ own t. (t.tsn, t.offers (ap is_some is))) refl

cookie_queued_beside : (o : Option (List ℕ)) (a b : Shown) → IsSameBeside a b → b.handshake.echo ≡ o
    → IsSameBeside a (cookie_queued o b)
cookie_queued_beside None a b h is = h
cookie_queued_beside (Some cookie) a b h is =
    with_queued (header_of b.handshake) a b (chunks.CookieEcho cookie) h (λ own t. t.echoes (ap is_some is)) refl

offer_beside : (a b : Shown) (now : ℕ) → IsSameBeside a b → IsSameBeside a (sends_init b now)
unfolding sends_init
offer_beside a b now h =
    let c : Shown = init_queued b.handshake.offer b in
    let queued = init_queued_beside b.handshake.offer a b h refl in
    (status_on a c _ queued.0 (status_by c _ refl refl refl refl refl refl refl), queued.1)

echo_beside : (a b : Shown) (now : ℕ) → IsSameBeside a b → IsSameBeside a (sends_cookie b now)
unfolding sends_cookie
echo_beside a b now h =
    let c : Shown = cookie_queued b.handshake.echo b in
    let queued = cookie_queued_beside b.handshake.echo a b h refl in
    (status_on a c _ queued.0 (status_by c _ refl refl refl refl refl refl refl), queued.1)

t1_init_beside : (expired failure : Bool) (a : Shown) (now : ℕ)
    → IsSameBeside a
    (if expired then
    (if failure then (let b = t1_init_expired a now in record b { handshake_fault = Some errors.ErrHandshakeInitAck })
    else sends_init (t1_init_expired a now) now) else a)
t1_init_beside false failure a now = (status_same a, refl)
t1_init_beside true true a now = (status_by a _ refl refl refl refl refl refl refl, refl)
t1_init_beside true false a now =
    offer_beside a (t1_init_expired a now) now
    (status_by a (t1_init_expired a now) refl refl refl refl refl refl refl, refl)

t1_cookie_beside : (expired failure : Bool) (a : Shown) (now : ℕ)
    → IsSameBeside a
    (if expired then
    (if failure then (let b =
    t1_cookie_expired a now in record b { handshake_fault = Some errors.ErrHandshakeCookieEcho }) else
    sends_cookie (t1_cookie_expired a now) now) else a)
t1_cookie_beside false failure a now = (status_same a, refl)
t1_cookie_beside true true a now = (status_by a _ refl refl refl refl refl refl refl, refl)
t1_cookie_beside true false a now =
    echo_beside a (t1_cookie_expired a now) now
    (status_by a (t1_cookie_expired a now) refl refl refl refl refl refl refl, refl)

beside_on : (a b c : Shown) → IsSameBeside a b → IsSameBeside b c → IsSameBeside a c
beside_on a b c (h, s) (k, t) = (status_on a b c h k, t ∙ s)

pub timers_keep_the_status : TimersKeepTheStatus
timers_keep_the_status a now =
    let b : Shown = after_t1_init a now in
    let c : Shown = after_handshake_timers a now in
    let f : Shown = after_shutdown_timer a now in
    let d : Shown = after_t3 f now in
    let e : Shown = after_reconfig_timer d now in
    let first : IsSameBeside a b =
    t1_init_beside (expiry_of names.T1Init now a.timers).expired (expiry_of names.T1Init now a.timers).failed a now in
    let second : IsSameBeside b c =
    t1_cookie_beside (expiry_of names.T1Cookie now b.timers).expired
    (expiry_of names.T1Cookie now b.timers).failed b now in
    let answer : IsSameBeside c f = (status_by c f refl refl refl refl refl refl refl, refl) in
    let third : IsSameBeside f d =
    t3_beside (expiry_of names.T3RTX now f.timers).expired (expiry_of names.T3RTX now f.timers).failed f now in
    let fourth : IsSameBeside d e =
    reconfig_beside (expiry_of names.Reconfig now d.timers).expired (expiry_of names.Reconfig now d.timers).failed d now
    in
    ack_delay_beside (expiry_of names.Ack now e.timers).expired a e now refl
    (beside_on a b e first (beside_on b c e second (beside_on c f e answer (beside_on f d e third fourth))))
