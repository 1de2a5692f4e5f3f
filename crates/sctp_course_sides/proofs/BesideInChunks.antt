-- What waits to go out stays beside streams whatever chunk comes that is no greeting: responses, acknowledgements,
-- errors and the end of an association are all that comes to it.
use Rattle.std.proofs.Common.{◌≡◌, refl, sym, subst, ℕ, Bool, true, false, if◌then◌else◌, not}
use Rattle.std.proofs.Common.{List, [], ◌∷◌, Option, Some, None, is_some, Result, Ok, Err}
use Rattle.sctp_wire_types.specs.declared.chunk.Chunk.{Chunk}
use Rattle.sctp_wire_types.specs.declared.chunk.Chunk.TheVariants as chunks
use Rattle.sctp_wire_types.specs.declared.chunk.ChunkHeartbeat.{ChunkHeartbeat}
use Rattle.sctp_wire_types.specs.declared.chunk.ChunkInit.{ChunkInit}
use Rattle.sctp_wire_types.specs.declared.chunk.ChunkPayloadData.{ChunkPayloadData}
use Rattle.sctp_wire_types.specs.declared.chunk.ChunkReconfig.{ChunkReconfig}
use Rattle.sctp_wire_types.specs.declared.chunk.GapAckBlock.{GapAckBlock}
use Rattle.sctp_wire_types.specs.declared.chunk.SkippedStream.{SkippedStream}
use Rattle.sctp_wire_types.specs.declared.error.Error.{Error}
use Rattle.sctp_wire_types.specs.declared.packet.CommonHeader.{CommonHeader}
use Rattle.sctp_wire_types.specs.declared.param.Param.{Param}
use Rattle.sctp_wire_types.specs.declared.param.Param.TheVariants as params
use Rattle.sctp_wire_types.specs.declared.param.ParamOutgoingResetRequest.{ParamOutgoingResetRequest}
use Rattle.sctp_wire_types.specs.declared.param.ParamReconfigResponse.{ParamReconfigResponse}
use Rattle.sctp_wire_types.specs.Checks.{checked_chunk}
use Rattle.sctp_streams.specs.Streams.{StreamMap, generation_left, is_readable_in, pushed_in, refusal_in, stream_at}
use Rattle.sctp_inbound.specs.declared.receiver.AckTrigger.{AckTrigger}
use Rattle.sctp_inbound.specs.Greeting.{first_cookie, information_of, init_ack_of}
use Rattle.sctp_inbound.specs.Handshake.{comes_back, has_issued, header_of, learned_by_init}
use Rattle.sctp_inbound.specs.Receiver.{admits, is_new_to, taken_to}
use Rattle.sctp_outbound.specs.declared.sender.SackOutcome.{SackOutcome}
use Rattle.sctp_outbound.specs.declared.sender.SackOutcome.TheVariants as outcomes
use Rattle.sctp_outbound.specs.Sender.{sack_outcome}
use Rattle.sctp_resets.specs.declared.answers.TimerChange.{TimerChange}
use Rattle.sctp_resets.specs.declared.performing.Handled.{Handled}
use Rattle.sctp_resets.specs.declared.performing.Settled.{Settled}
use Rattle.sctp_resets.specs.Resets.{Beside, Resetting, handled, responded, skips_done, skips_done_of}
use Rattle.sctp_resets.specs.Resets as resets
use Rattle.sctp_assoc.specs.declared.inbound.Flow.{Flow}
use Rattle.sctp_assoc.specs.declared.inbound.Flow.TheVariants as flows
use Rattle.sctp_assoc.specs.Calls.{is_beginning, is_cookie_echoed, is_cookie_wait, sends_data}
use Rattle.sctp_assoc.specs.Chunks.{asks, asks_or_faults, checked_first, counted_data, counted_sack, deferred_unless}
use Rattle.sctp_assoc.specs.Chunks.{deferred_where_admitted, dispatched, goes_unread, left_or_handed_over, on_chunk}
use Rattle.sctp_assoc.specs.Chunks.{on_counted_sack, on_data, on_new_data, on_sack, stream_found, taken_in}
use Rattle.sctp_assoc.specs.Chunks.{taken_unless, taken_where_admitted, then_skips, told, with_message}
use Rattle.sctp_assoc.specs.Closing.{is_exhausted}
use Rattle.sctp_assoc.specs.Finding.{found_for}
use Rattle.sctp_assoc.specs.Handshake.{acknowledges_again, information_returned, on_cookie_ack}
use Rattle.sctp_assoc.specs.Handshake.{on_cookie_echo, on_heartbeat}
use Rattle.sctp_assoc.specs.Resets.{after_param, asking_if, behind_first, behind_params, channels_of, handled_with}
use Rattle.sctp_assoc.specs.Resets.{on_reconfig, on_request, on_response, responded_with, settled, settled_with}
use Rattle.sctp_assoc.specs.Resets.{skips_applied_of, stopped_if, with_answer, with_beside, with_resetting}
use Rattle.sctp_assoc.specs.Shown.{Shown, all_waiting}
use Rattle.sctp_assoc.specs.Shutdown.{shutdown_again, shutdown_continued}
use Rattle.sctp_assoc.specs.Skipping.{asks_behind, on_forward, skips_of, with_passed, with_skip}
use Rattle.sctp_assoc.specs.Skipping.{with_skips}
use Rattle.sctp_assoc.proofs.Probes.{probes_keep}
use Rattle.sctp_assoc.proofs.StreamsFound.{found_for_keeps}
use Rattle.sctp_sides.proofs.ForwardKinds.{forward_is_one_of}
use Rattle.sctp_sides.proofs.PeerRequestsInChunks.{flow_same}
use Rattle.std.specs.List.{AllByRecursion}
use Rattle.sctp_wire_types.specs.declared.param.ReconfigResult.{ReconfigResult}
use Rattle.sctp_wire_types.specs.declared.param.ReconfigResult.TheVariants as results
use Rattle.sctp_wire.specs.declared.packet.Packet.{Packet}
use Rattle.sctp_streams.specs.declared.event.AssociationError.{AssociationError}
use Rattle.sctp_streams.specs.declared.event.AssociationError.TheVariants as reasons
use Rattle.sctp_inbound.specs.declared.receiver.AckTrigger.TheVariants as triggers
use Rattle.sctp_model.proofs.Lists.{all_push}
use Rattle.sctp_assoc.specs.declared.control.Control.TheVariants as controls
use Rattle.sctp_assoc.specs.Chunks.{after_chunks, after_packet, after_packet_of, after_sack, goes_on}
use Rattle.sctp_assoc.specs.Closing.{closed_by, closed_open, exhausted, is_closed_state, out_of_resource}
use Rattle.sctp_assoc.specs.Control.{queued, queued_under}
use Rattle.sctp_assoc.specs.Handshake.{connected, echoed, keeps_peer, learns_peer, on_init, on_init_ack, sends_cookie}
use Rattle.sctp_assoc.specs.Probes.{is_probing}
use Rattle.sctp_assoc.specs.Resets.{responding}
use Rattle.sctp_assoc.specs.Skipping.{unrecognized_chunk}
use Rattle.sctp_course_sides.specs.Spelled.{ControlIsBeside, IsBesideStreams, WaitsBeside}

abbrev pub Keeps : Shown → Shown → Type 0
Keeps a b = WaitsBeside a → WaitsBeside b

then_on : (a b d : Shown) → Keeps a b → Keeps b d → Keeps a d
then_on a b d f g x = g (f x)

-- where an association is another one as it is
same_keeps : (a b : Shown) → b ≡ a → Keeps a b
same_keeps a b e x = subst WaitsBeside (sym e) x

-- one packet more waits, under whatever header

pub queued_under_keeps : (header : CommonHeader) (a : Shown) (chunk : Chunk) → IsBesideStreams chunk
    → Keeps a (queued_under header a chunk)
queued_under_keeps header a chunk e x = all_push ControlIsBeside a.control _ x e

pub queued_keeps : (a : Shown) (chunk : Chunk) → IsBesideStreams chunk → Keeps a (queued a chunk)
queued_keeps a chunk e x = queued_under_keeps (header_of a.handshake) a chunk e x

pub asking_keeps : (asks_for : Bool) (a : Shown) → Keeps a (asking_if asks_for a)
asking_keeps true a x = all_push ControlIsBeside a.control controls.OwnRequest x tt
asking_keeps false a x = x

responding_keeps : (a : Shown) (number : ℕ) (result : ReconfigResult) → Keeps a (responding a number result)
responding_keeps a number result = queued_keeps a _ (tt, tt)

pub beside_keeps : (a : Shown) (x : Beside) → Keeps a (with_beside a x)
beside_keeps a (r, m, told) x = x

pub resetting_keeps : (a : Shown) (x : Resetting) → Keeps a (with_resetting a x)
resetting_keeps a (r, ch) x = x

stopping_keeps : (stops : Bool) (a : Shown) → Keeps a (stopped_if stops a)
stopping_keeps true a x = x
stopping_keeps false a x = x

answer_keeps : (answer : Option Settled) (a : Shown) → Keeps a (with_answer answer a)
answer_keeps None a x = x
answer_keeps (Some q) a x =
    responding_keeps (asking_if q.asks a) q.number results.SuccessPerformed (asking_keeps q.asks a x)

settled_with_keeps : (a : Shown) (x : Resetting × Option Settled) → Keeps a (settled_with a x)
settled_with_keeps a ((r, ch), answer) x = answer_keeps answer (with_resetting a (r, ch)) x

settled_keeps : (a : Shown) → Keeps a (settled a)
unfolding settled
settled_keeps a =
    let b : Shown =
    settled_with a
    (resets.settled a.receiver.peer_last_tsn a.sender.queue.next_message_id a.receiver.max_receive_message_size a.resets
    (channels_of a)) in
    then_on a b (with_beside b (skips_done b.resets b.streams b.events)) (settled_with_keeps a _)
    (beside_keeps b (skips_done b.resets b.streams b.events))

skipping_keeps : (stream : ℕ) (a : Shown) → Keeps a (skips_applied_of stream a)
skipping_keeps stream a = beside_keeps a (skips_done_of stream a.resets a.streams a.events)

-- DATA

found_keeps : (there left : Bool) (a : Shown) (stream : ℕ) → is_some (stream_at a.streams stream) ≡ there
    → generation_left a.streams ≡ left → Keeps a (stream_found a stream).0
unfolding stream_found
found_keeps true left a stream e f = rw e (λ x. x)
found_keeps false true a stream e f = rw (e, f) (λ x. x)
found_keeps false false a stream e f = rw (e, f) (λ x. x)

told_keeps : (readable taken : Bool) (a : Shown) (stream : ℕ) → is_readable_in a.streams stream ≡ readable
    → Keeps a (told a stream taken)
told_keeps true true a stream e = rw e (λ x. x)
told_keeps false true a stream e = rw e (λ x. x)
told_keeps readable false a stream e = λ x. x

message_keeps : (a : Shown) (piece : ChunkPayloadData) (x : StreamMap × Bool) → Keeps a (with_message a piece x)
message_keeps a piece (streams, taken) =
    let b : Shown = record a { streams = streams; receiver = taken_to a.receiver piece.tsn } in
    told_keeps (is_readable_in streams piece.stream_identifier) taken b piece.stream_identifier refl

taken_unless_keeps : (refusal : Option Error) (a : Shown) (piece : ChunkPayloadData)
    → Keeps a (taken_unless refusal a piece).0
taken_unless_keeps (Some fault) a piece = λ x. x
taken_unless_keeps None a piece = message_keeps a piece (pushed_in a.streams piece.stream_identifier piece)

left_keeps : (left : Bool) (a : Shown) (piece : ChunkPayloadData) → Keeps a (left_or_handed_over left a piece).0
left_keeps true a piece = λ x. x
left_keeps false a piece =
    taken_unless_keeps (refusal_in a.streams piece.stream_identifier piece a.receiver.max_receive_message_size) a
    piece

taken_keeps : (a : Shown) (piece : ChunkPayloadData) → Keeps a (taken_in a piece).0
unfolding taken_in
taken_keeps a piece = left_keeps (goes_unread a piece) a piece

then_skips_keeps : (x : Shown × Option Error) (stream : ℕ) → Keeps x.0 (then_skips x stream).0
then_skips_keeps (a, None) stream = skipping_keeps stream a
then_skips_keeps (a, Some fault) stream = λ x. x

admitted_keeps : (credit : Bool) (a : Shown) (piece : ChunkPayloadData)
    → Keeps a
    (if◌then◌else◌ {A = Shown × Option Error} credit (then_skips (taken_in a piece) piece.stream_identifier)
    (a, None)).0
admitted_keeps true a piece =
    then_on a (taken_in a piece).0 (then_skips (taken_in a piece) piece.stream_identifier).0 (taken_keeps a piece)
    (then_skips_keeps (taken_in a piece) piece.stream_identifier)
admitted_keeps false a piece = λ x. x

deferred_unless_keeps : (refusal : Option Error) (a : Shown) (piece : ChunkPayloadData)
    → Keeps a (deferred_unless refusal a piece).0
deferred_unless_keeps (Some fault) a piece = λ x. x
deferred_unless_keeps None a piece = λ x. x

deferred_if_keeps : (credit : Bool) (refusal : Option Error) (a : Shown) (piece : ChunkPayloadData)
    → Keeps a (if◌then◌else◌ {A = Shown × Option Error} credit (deferred_unless refusal a piece) (a, None)).0
deferred_if_keeps true refusal a piece = deferred_unless_keeps refusal a piece
deferred_if_keeps false refusal a piece = λ x. x

deferred_keeps : (a : Shown) (piece : ChunkPayloadData) → Keeps a (deferred_where_admitted a piece).0
unfolding deferred_where_admitted
deferred_keeps a piece =
    deferred_if_keeps (admits a.receiver piece.tsn (all_waiting a))
    (resets.refusal_of a.resets piece a.receiver.max_receive_message_size) a piece

asks_keeps : (a : Shown) (immediate : Bool) (trigger : AckTrigger) → Keeps a (asks a immediate trigger).0
asks_keeps a immediate trigger = same_keeps a _ (flow_same (is_exhausted a) a _ _)

settled_asks_keeps : (a : Shown) (immediate : Bool) (trigger : AckTrigger)
    → Keeps a (asks (settled a) immediate trigger).0
settled_asks_keeps a immediate trigger =
    then_on a (settled a) (asks (settled a) immediate trigger).0 (settled_keeps a)
    (asks_keeps (settled a) immediate trigger)

faults_keep : (x : Shown × Option Error) (immediate : Bool) (trigger : AckTrigger)
    → Keeps x.0 (asks_or_faults x immediate trigger).0
faults_keep (a, None) immediate trigger = settled_asks_keeps a immediate trigger
faults_keep (a, Some fault) immediate trigger = λ x. x

new_data_keeps : (x : Shown × Bool) (piece : ChunkPayloadData) (trigger : AckTrigger)
    → Keeps x.0 (on_new_data x piece trigger).0
new_data_keeps (a, false) piece trigger = λ x. x
new_data_keeps (a, true) piece trigger =
    then_on a (taken_where_admitted a piece).0
    (asks_or_faults (taken_where_admitted a piece) piece.immediate_sack trigger).0
    (admitted_keeps (admits a.receiver piece.tsn (all_waiting a)) a piece)
    (faults_keep (taken_where_admitted a piece) piece.immediate_sack trigger)

counted_data_keeps : (next hidden : Bool) (a : Shown) (piece : ChunkPayloadData) (trigger : AckTrigger)
    → Keeps a
    (if not next then asks (settled a) piece.immediate_sack trigger else
    if hidden then asks_or_faults (deferred_where_admitted a piece) piece.immediate_sack trigger else
    on_new_data (stream_found a piece.stream_identifier) piece trigger).0
counted_data_keeps false hidden a piece trigger = settled_asks_keeps a piece.immediate_sack trigger
counted_data_keeps true true a piece trigger =
    then_on a (deferred_where_admitted a piece).0
    (asks_or_faults (deferred_where_admitted a piece) piece.immediate_sack trigger).0 (deferred_keeps a piece)
    (faults_keep (deferred_where_admitted a piece) piece.immediate_sack trigger)
counted_data_keeps true false a piece trigger =
    let x = stream_found a piece.stream_identifier in
    then_on a x.0 (on_new_data x piece trigger).0
    (found_keeps (is_some (stream_at a.streams piece.stream_identifier)) (generation_left a.streams) a
    piece.stream_identifier refl refl)
    (new_data_keeps x piece trigger)

data_keeps : (a : Shown) (piece : ChunkPayloadData) (trigger : AckTrigger) → Keeps a (on_data a piece trigger).0
unfolding on_data
data_keeps a piece trigger =
    let b : Shown = counted_data a in
    counted_data_keeps (is_new_to b.receiver piece.tsn)
    (resets.is_hidden b.resets piece.stream_identifier piece.tsn) b piece trigger

-- SACK

outcome_keeps : (o : SackOutcome) (a : Shown) (cumulative_tsn_ack : ℕ) (blocks : List GapAckBlock) (window : ℕ)
    (trigger : AckTrigger) (now : ℕ)
    → Keeps a (on_counted_sack o a cumulative_tsn_ack blocks window trigger now).0
outcome_keeps outcomes.Older a cumulative_tsn_ack blocks window trigger now = λ x. x
outcome_keeps outcomes.NotInFlight a cumulative_tsn_ack blocks window trigger now = λ x. x
outcome_keeps outcomes.NamesTheUnsent a cumulative_tsn_ack blocks window trigger now = λ x. x
outcome_keeps outcomes.Taken a cumulative_tsn_ack blocks window trigger now =
    probes_keep (λ (b : Shown). Keeps a b) (λ b f. f) (λ b f. f) (is_probing a.profile a.sender) window
    (shutdown_continued (after_sack a cumulative_tsn_ack blocks window now)) (λ x. x)

sack_keeps : (sends : Bool) (a : Shown) (cumulative_tsn_ack : ℕ) (blocks : List GapAckBlock) (window : ℕ)
    (trigger : AckTrigger) (now : ℕ) → sends_data a.state ≡ sends
    → Keeps a (on_sack a cumulative_tsn_ack blocks window trigger now).0
unfolding on_sack
sack_keeps true a cumulative_tsn_ack blocks window trigger now e =
    rw e (outcome_keeps (sack_outcome a.sender cumulative_tsn_ack blocks) (counted_sack a) cumulative_tsn_ack blocks
    window trigger now)
sack_keeps false a cumulative_tsn_ack blocks window trigger now e = rw e (λ x. x)

-- FORWARD TSN

-- the streams on which it skips are found or made
founds_keep : (t : ℕ) (es : List SkippedStream) (a : Shown) → Keeps a (found_for t es a)
founds_keep t es a =
    found_for_keeps WaitsBeside
    (λ (b : Shown) (stream : ℕ).
    found_keeps (is_some (stream_at b.streams stream)) (generation_left b.streams) b stream refl refl) t es a

skip_keeps : (retires : Bool) (t stream ssn : ℕ) (a : Shown) → resets.is_retiring a.resets stream ≡ retires
    → Keeps a (with_skip t stream ssn a)
unfolding with_skip
skip_keeps true t stream ssn a e = rw e (λ x. x)
skip_keeps false t stream ssn a e = rw e (λ x. x)

skips_keep : (t : ℕ) (es : List SkippedStream) (a : Shown) → Keeps a (with_skips t es a)
skips_keep t [] a = λ x. x
skips_keep t (e ∷ es) a =
    let b : Shown = with_skip t e.stream_identifier e.stream_sequence_number a in
    then_on a b (with_skips t es b)
    (skip_keeps (resets.is_retiring a.resets e.stream_identifier) t e.stream_identifier e.stream_sequence_number a
    refl)
    (skips_keep t es b)

ahead_keeps : (a : Shown) (t : ℕ) (es : List SkippedStream) (trigger : AckTrigger)
    → Keeps a (asks_behind (settled (with_passed (with_skips t es a) t)) trigger).0
ahead_keeps a t es trigger =
    let b : Shown = with_skips t es a in
    let d : Shown = with_passed b t in
    let settles : Keeps b (settled d) = settled_keeps d in
    then_on a (settled d) (asks_behind (settled d) trigger).0
    (then_on a b (settled d) (skips_keep t es a) settles)
    (same_keeps (settled d) _ (flow_same (is_exhausted (settled d)) (settled d) _ _))

forward_keeps : (a : Shown) (t : ℕ) (es : List SkippedStream) (trigger : AckTrigger) (now : ℕ)
    → Keeps a (on_forward a t es trigger now).0
forward_keeps a t es trigger now =
    forward_is_one_of t es (λ b x. Keeps b x.0) trigger now (λ b e. queued_keeps b unrecognized_chunk tt)
    (λ b e f x. x)
    (λ b e f. ahead_keeps b t es trigger) (λ b x f. then_on b (found_for t es b) x.0 (founds_keep t es b) f) a

-- The handshake

init_keeps : (counts keeps : Bool) (a : Shown) (header : CommonHeader) (init : ChunkInit) (trigger : AckTrigger)
    → is_beginning a.state ≡ counts → keeps_peer a init ≡ keeps → Keeps a (on_init a header init trigger).0
unfolding on_init
init_keeps true true a header init trigger e k =
    let b : Shown = record a { handshake = learned_by_init a.handshake header init } in
    rw (e, k) (queued_keeps b (chunks.InitAck (init_ack_of b.handshake b.receiver.buffer_size)) tt)
init_keeps true false a header init trigger e k =
    let b : Shown =
    learns_peer (record a { handshake = learned_by_init a.handshake header init }) init.initial_tsn
    init.advertised_receiver_window_credit in
    rw (e, k) (queued_keeps b (chunks.InitAck (init_ack_of b.handshake b.receiver.buffer_size)) tt)
init_keeps false keeps a header init trigger e k = rw e (λ x. x)

echoed_keeps : (o : Option (List ℕ)) (a b : Shown) (trigger : AckTrigger) (now : ℕ) → b.control ≡ a.control
    → Keeps a (echoed o b trigger now).0
unfolding sends_cookie
echoed_keeps None a b trigger now same x = subst (AllByRecursion ControlIsBeside) (sym same) x
echoed_keeps (Some cookie) a b trigger now same x =
    queued_keeps b (chunks.CookieEcho cookie) tt (subst (AllByRecursion ControlIsBeside) (sym same) x)

init_ack_keeps : (waits back : Bool) (a : Shown) (header : CommonHeader) (init : ChunkInit) (trigger : AckTrigger)
    (now : ℕ) → is_cookie_wait a.state ≡ waits → comes_back a.handshake header ≡ back
    → Keeps a (on_init_ack a header init trigger now).0
unfolding on_init_ack
init_ack_keeps true true a header init trigger now e f =
    rw (e, f) (echoed_keeps (first_cookie init.params) a _ trigger now refl)
init_ack_keeps true false a header init trigger now e f = rw (e, f) (λ x. x)
init_ack_keeps false back a header init trigger now e f = rw e (λ x. x)

connected_keeps : (a : Shown) → Keeps a (connected a)
connected_keeps a x = x

again_keeps : (a : Shown) → Keeps a (shutdown_again a)
again_keeps a x = x

cookie_echo_keeps : (issued begins again : Bool) (a : Shown) (cookie : List ℕ) (trigger : AckTrigger)
    → has_issued a.handshake cookie ≡ issued → is_beginning a.state ≡ begins → acknowledges_again a ≡ again
    → Keeps a (on_cookie_echo a cookie trigger).0
unfolding on_cookie_echo
cookie_echo_keeps false begins again a cookie trigger e f g = rw e (λ x. x)
cookie_echo_keeps true true again a cookie trigger e f g =
    rw (e, f) (λ x. queued_keeps (connected a) chunks.CookieAck tt (connected_keeps a x))
cookie_echo_keeps true false true a cookie trigger e f g =
    rw (e, f, g) (λ x. queued_keeps (shutdown_again a) chunks.CookieAck tt (again_keeps a x))
cookie_echo_keeps true false false a cookie trigger e f g = rw (e, f, g) (λ x. x)

cookie_ack_keeps : (echoes : Bool) (a : Shown) (trigger : AckTrigger) → is_cookie_echoed a.state ≡ echoes
    → Keeps a (on_cookie_ack a trigger).0
unfolding on_cookie_ack
cookie_ack_keeps true a trigger e = rw e (connected_keeps a)
cookie_ack_keeps false a trigger e = rw e (λ x. x)

information_keeps : (o : Option (List ℕ)) (a : Shown) → Keeps a (information_returned o a)
information_keeps None a = λ x. x
information_keeps (Some information) a = queued_keeps a _ tt

heartbeat_keeps : (a : Shown) (heartbeat : ChunkHeartbeat) (trigger : AckTrigger)
    → Keeps a (on_heartbeat a heartbeat trigger).0
unfolding on_heartbeat
heartbeat_keeps a heartbeat trigger = information_keeps (information_of heartbeat.params) a

-- RE-CONFIG

handled_keeps : (a : Shown) (number : ℕ) (x : Resetting × Handled) → Keeps a (handled_with a number x)
handled_keeps a number ((r, ch), h) x =
    let b : Shown = stopped_if h.confirms (with_resetting a (r, ch)) in
    responding_keeps (asking_if h.asks b) number h.answer
    (asking_keeps h.asks b (stopping_keeps h.confirms (with_resetting a (r, ch)) x))

request_keeps : (a : Shown) (param : ParamOutgoingResetRequest) → Keeps a (on_request a param)
unfolding on_request
request_keeps a param =
    handled_keeps a param.reconfig_request_sequence_number
    (handled param a.receiver.peer_last_tsn a.sender.queue.next_message_id a.receiver.max_receive_message_size a.resets
    (channels_of a))

responded_keeps : (a : Shown) (x : Beside × TimerChange) → Keeps a (responded_with a x)
responded_keeps a ((r, m, told), change) x = x

response_keeps : (a : Shown) (response : ParamReconfigResponse) → Keeps a (on_response a response)
unfolding on_response
response_keeps a response = responded_keeps a (responded response a.resets a.streams a.events)

param_keeps : (param : Param) (a : Shown) → Keeps a (after_param param a).0
param_keeps (params.OutgoingResetRequest request) a = request_keeps a request
param_keeps (params.ReconfigResponse response) a = response_keeps a response
param_keeps (params.HeartbeatInfo value) a = λ x. x
param_keeps (params.StateCookie value) a = λ x. x
param_keeps (params.SupportedExtensions value) a = λ x. x
param_keeps (params.Other kind value) a = λ x. x

second_keeps : (x : Shown × Bool) (trigger : AckTrigger) → Keeps x.0 (behind_params x trigger).0
second_keeps (a, true) trigger = λ x. x
second_keeps (a, false) trigger = λ x. x

first_keeps : (y : Shown × Bool) (second : Option Param) (trigger : AckTrigger)
    → Keeps y.0 (behind_first y second trigger).0
first_keeps (a, true) None trigger = λ x. x
first_keeps (a, true) (Some second) trigger =
    then_on a (after_param second a).0 (behind_params (after_param second a) trigger).0 (param_keeps second a)
    (second_keeps (after_param second a) trigger)
first_keeps (a, false) second trigger = λ x. x

reconfig_keeps : (a : Shown) (reconfig : ChunkReconfig) (trigger : AckTrigger)
    → Keeps a (on_reconfig a reconfig trigger).0
unfolding on_reconfig
reconfig_keeps a reconfig trigger =
    let y = after_param reconfig.first a in
    then_on a y.0 (behind_first y reconfig.second trigger).0 (param_keeps reconfig.first a)
    (first_keeps y reconfig.second trigger)

-- Any chunk

kind_keeps : (header : CommonHeader) (chunk : Chunk) (a : Shown) (trigger : AckTrigger) (now : ℕ)
    → Keeps a (dispatched a header chunk trigger now).0
kind_keeps header (chunks.Data piece) a trigger now = data_keeps a piece _
kind_keeps header (chunks.SelectiveAck k) a trigger now =
    sack_keeps (sends_data a.state) a k.cumulative_tsn_ack k.gap_ack_blocks k.advertised_receiver_window_credit trigger
    now refl
kind_keeps header (chunks.Init y) a trigger now =
    init_keeps (is_beginning a.state) (keeps_peer a y) a header y trigger refl refl
kind_keeps header (chunks.InitAck y) a trigger now =
    init_ack_keeps (is_cookie_wait a.state) (comes_back a.handshake header) a header y trigger now refl refl
kind_keeps header (chunks.Heartbeat y) a trigger now = heartbeat_keeps a y trigger
kind_keeps header (chunks.HeartbeatAck y) a trigger now = λ x. x
kind_keeps header (chunks.Abort y) a trigger now = λ x. x
kind_keeps header (chunks.Shutdown y) a trigger now = λ x. x
kind_keeps header chunks.ShutdownAck a trigger now = λ x. x
kind_keeps header (chunks.Error y) a trigger now = λ x. x
kind_keeps header (chunks.CookieEcho y) a trigger now =
    cookie_echo_keeps (has_issued a.handshake y) (is_beginning a.state) (acknowledges_again a) a y trigger refl refl
    refl
kind_keeps header chunks.CookieAck a trigger now = cookie_ack_keeps (is_cookie_echoed a.state) a trigger refl
kind_keeps header chunks.ShutdownComplete a trigger now = λ x. x
kind_keeps header (chunks.Reconfig y) a trigger now = reconfig_keeps a y trigger
kind_keeps header (chunks.ForwardTsn y) a trigger now =
    forward_keeps a y.new_cumulative_tsn y.streams trigger now
kind_keeps header (chunks.IForwardTsn y) a trigger now =
    forward_keeps a y.new_cumulative_tsn (skips_of y.entries) trigger now
kind_keeps header (chunks.Other kind flags value) a trigger now = λ x. x

checked_keeps : (r : Result (Unit {0}) Error) (header : CommonHeader) (chunk : Chunk) (a : Shown)
    (trigger : AckTrigger) (now : ℕ) → Keeps a (checked_first r a header chunk trigger now).0
checked_keeps (Err fault) header chunk a trigger now = λ x. x
checked_keeps (Ok done) header chunk a trigger now = kind_keeps header chunk a trigger now

pub chunk_stays_beside : (a : Shown) (header : CommonHeader) (chunk : Chunk) (trigger : AckTrigger) (now : ℕ)
    → WaitsBeside a → WaitsBeside (on_chunk a header chunk trigger now).0
unfolding on_chunk
chunk_stays_beside a header chunk trigger now = checked_keeps (checked_chunk chunk) header chunk a trigger now

-- Any packet

-- nothing waits at an association that is closed
pub closed_keeps : (closed : Bool) (a : Shown) (reason : AssociationError)
    → Keeps a (if closed then a else closed_open a reason)
closed_keeps true a reason x = x
closed_keeps false a reason x = tt

pub exhausted_keeps : (a : Shown) → Keeps a (exhausted a)
exhausted_keeps a x =
    queued_keeps (closed_by a reasons.ReceiveBufferExhausted) out_of_resource tt
    (closed_keeps (is_closed_state a.state) a reasons.ReceiveBufferExhausted x)

flow_keeps : (x : Shown × Flow) (more : Shown → AckTrigger → Shown)
    → ((b : Shown) (trigger : AckTrigger) → Keeps b (more b trigger)) → Keeps x.0 (goes_on x more)
flow_keeps (a, flows.Next trigger) more f = f a trigger
flow_keeps (a, flows.Fault fault) more f = closed_keeps (is_closed_state a.state) a reasons.AssociationClosed
flow_keeps (a, flows.Closed) more f = closed_keeps (is_closed_state a.state) a reasons.AssociationClosed
flow_keeps (a, flows.Exhausted) more f = exhausted_keeps a

chunks_keep : (header : CommonHeader) (cs : List Chunk) (a : Shown) (trigger : AckTrigger) (now : ℕ)
    → Keeps a (after_chunks header cs a trigger now)
chunks_keep header [] a trigger now = λ x. x
chunks_keep header (chunk ∷ cs) a trigger now =
    let y = on_chunk a header chunk trigger now in
    let more : Shown → AckTrigger → Shown = λ b next. after_chunks header cs b next now in
    then_on a y.0 (goes_on y more) (chunk_stays_beside a header chunk trigger now)
    (flow_keeps y more (λ b next. chunks_keep header cs b next now))

packet_of_keeps : (packet : Option Packet) (a : Shown) (now : ℕ) → Keeps a (after_packet_of a packet now)
packet_of_keeps None a now = λ x. x
packet_of_keeps (Some packet) a now = chunks_keep packet.common_header packet.chunks a triggers.None now

packet_if : (lost : Bool) (packet : Option Packet) (a : Shown) (now : ℕ)
    → Keeps a (if lost then a else after_packet_of a packet now)
packet_if true packet a now = λ x. x
packet_if false packet a now = packet_of_keeps packet a now

-- What waits stays beside streams over each packet.
pub packet_stays_beside : (packet : Option Packet) (a : Shown) (now : ℕ) → WaitsBeside a
    → WaitsBeside (after_packet a packet now)
packet_stays_beside packet a now = packet_if a.lost packet a now
