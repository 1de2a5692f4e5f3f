-- No chunk that comes makes a request of this side active: the active one stays, or ends.
use Rattle.std.proofs.Common.{◌≡◌, refl, sym, ap, ◌∙◌, ℕ, ◌==◌, Bool, true, false, if◌then◌else◌, not, length, List, []}
use Rattle.std.proofs.Common.{◌∷◌, Option, Some, None, is_some, Result, Ok, Err}
use Rattle.std.proofs.lemmas.Bool.{false≢true}
use Rattle.sctp_wire_types.specs.declared.chunk.Chunk.{Chunk}
use Rattle.sctp_wire_types.specs.declared.chunk.Chunk.TheVariants as chunks
use Rattle.sctp_wire_types.specs.declared.chunk.ChunkHeartbeat.{ChunkHeartbeat}
use Rattle.sctp_wire_types.specs.declared.chunk.ChunkInit.{ChunkInit}
use Rattle.sctp_wire_types.specs.declared.chunk.ChunkPayloadData.{ChunkPayloadData}
use Rattle.sctp_wire_types.specs.declared.chunk.ChunkReconfig.{ChunkReconfig}
use Rattle.sctp_wire_types.specs.declared.chunk.GapAckBlock.{GapAckBlock}
use Rattle.sctp_wire_types.specs.declared.chunk.SkippedStream.{SkippedStream}
use Rattle.sctp_wire_types.specs.declared.error.Error.{Error}
use Rattle.sctp_wire_types.specs.declared.event.StreamResetError.{StreamResetError}
use Rattle.sctp_wire_types.specs.declared.packet.CommonHeader.{CommonHeader}
use Rattle.sctp_wire_types.specs.declared.param.Param.{Param}
use Rattle.sctp_wire_types.specs.declared.param.Param.TheVariants as params
use Rattle.sctp_wire_types.specs.declared.param.ParamOutgoingResetRequest.{ParamOutgoingResetRequest}
use Rattle.sctp_wire_types.specs.declared.param.ParamReconfigResponse.{ParamReconfigResponse}
use Rattle.sctp_wire_types.specs.Checks.{checked_chunk}
use Rattle.sctp_wire_types.specs.Config.{is_rfc}
use Rattle.sctp_streams.specs.declared.event.Event.{Event}
use Rattle.sctp_streams.specs.Streams.{StreamMap, generation_left, is_readable_in, pushed_in, refusal_in, stream_at}
use Rattle.sctp_inbound.specs.declared.receiver.AckTrigger.{AckTrigger}
use Rattle.sctp_inbound.specs.Greeting.{first_cookie, information_of}
use Rattle.sctp_inbound.specs.Handshake.{comes_back, has_issued, learned_by_init, learned_by_init_ack}
use Rattle.sctp_inbound.specs.Receiver.{admits, is_new_to, taken_to}
use Rattle.sctp_outbound.specs.declared.sender.SackOutcome.{SackOutcome}
use Rattle.sctp_outbound.specs.declared.sender.SackOutcome.TheVariants as outcomes
use Rattle.sctp_outbound.specs.Sender.{sack_outcome}
use Rattle.sctp_reset_requests.specs.declared.answer.Arrival.{Arrival}
use Rattle.sctp_reset_requests.specs.declared.answer.Arrival.TheVariants as arrivals
use Rattle.sctp_reset_requests.specs.declared.outcome.Answered.{Answered}
use Rattle.sctp_reset_requests.specs.declared.outcome.Answered.TheVariants as answers
use Rattle.sctp_reset_requests.specs.declared.own_request.OwnRequest.{OwnRequest}
use Rattle.sctp_reset_requests.specs.declared.own_request.SentRequest.{SentRequest}
use Rattle.sctp_reset_requests.specs.Own.{OwnView, answered_with, answers_all, ended, ended_as, has_number}
use Rattle.sctp_reset_requests.specs.Own.{is_confirmed_by, outcome_of, put_off, with_given_up, with_repeat}
use Rattle.sctp_reset_requests.specs.Own.{with_request}
use Rattle.sctp_reset_requests.specs.Own as own
use Rattle.sctp_reset_requests.specs.Peer.{PeerView, advanced, arrived}
use Rattle.sctp_reset_requests.specs.Request.{PeerRequestView, request_of}
use Rattle.sctp_resets.specs.declared.answers.TimerChange.{TimerChange}
use Rattle.sctp_resets.specs.declared.performing.Handled.{Handled}
use Rattle.sctp_resets.specs.declared.performing.Settled.{Settled}
use Rattle.sctp_resets.specs.Channels.{Channels}
use Rattle.sctp_resets.specs.Performing.{Performing, answered_in, named_in, performing, retired_each}
use Rattle.sctp_resets.specs.Resets.{Beside, ResetsView, Resetting, arrived_with, confirmed_by, confirmed_where}
use Rattle.sctp_resets.specs.Resets.{ended_as_answered, handled, handled_behind, performed, performed_with, responded}
use Rattle.sctp_resets.specs.Resets.{settled_by, settled_where, skips_done, skips_done_of, with_channels}
use Rattle.sctp_resets.specs.Resets.{with_skips_done}
use Rattle.sctp_resets.specs.Resets as resets
use Rattle.sctp_resets.specs.Skips.{Skipping}
use Rattle.sctp_resets.specs.Skips as skips
use Rattle.sctp_parts.specs.declared.state.AssociationState.TheVariants as states
use Rattle.sctp_assoc.specs.declared.inbound.Flow.TheVariants as flows
use Rattle.sctp_assoc.specs.Calls.{is_beginning, is_cookie_echoed, is_cookie_wait, sends_data}
use Rattle.sctp_assoc.specs.Chunks.{asks, asks_or_faults, checked_first, counted_data, counted_sack, deferred_unless}
use Rattle.sctp_assoc.specs.Chunks.{deferred_where_admitted, dispatched, on_chunk, on_counted_sack, on_data}
use Rattle.sctp_assoc.specs.Chunks.{after_sack, goes_unread, left_or_handed_over, on_new_data}
use Rattle.sctp_assoc.specs.Chunks.{on_sack, stream_found, taken_in, taken_unless, taken_where_admitted, then_skips}
use Rattle.sctp_assoc.specs.Chunks.{told, with_message}
use Rattle.sctp_assoc.specs.Closing.{is_exhausted}
use Rattle.sctp_assoc.specs.Finding.{found_for}
use Rattle.sctp_assoc.specs.Handshake.{acknowledges_again, answered, cookie_queued, echoed, information_returned}
use Rattle.sctp_assoc.specs.Handshake.{keeps_peer, learned_back, learned_unless, on_cookie_ack, on_cookie_echo}
use Rattle.sctp_assoc.specs.Handshake.{on_heartbeat, on_init, on_init_ack, sends_cookie}
use Rattle.sctp_assoc.specs.Probes.{is_probing}
use Rattle.sctp_assoc.specs.Resets.{after_param, asking_if, behind_first, behind_params, channels_of, handled_with}
use Rattle.sctp_assoc.specs.Resets.{on_reconfig, on_request, on_response, responded_with, settled, settled_with}
use Rattle.sctp_assoc.specs.Resets.{skips_applied_of, stopped_if, with_answer, with_beside, with_resetting}
use Rattle.sctp_assoc.specs.Shown.{Shown, all_waiting}
use Rattle.sctp_assoc.specs.Shutdown.{shutdown_continued}
use Rattle.sctp_assoc.specs.Skipping.{acknowledged_at_once, asks_behind, on_forward, skips_of, with_passed, with_skip}
use Rattle.sctp_assoc.specs.Skipping.{with_skips}
use Rattle.sctp_assoc.proofs.Probes.{probes_keep}
use Rattle.sctp_assoc.proofs.StreamsFound.{found_for_is}
use Rattle.sctp_sides.specs.Restarts.{is_reset_by}
use Rattle.sctp_sides.proofs.ForwardKinds.{forward_is_one_of}
use Rattle.sctp_sides.proofs.PeerRequestsInChunks.{flow_same}

-- An active request of this side resets no stream that the one before it did not.
pub record ActiveFrom (before after : Option SentRequest) : Type 0 where
  pub from : (id : ℕ) → is_reset_by after id ≡ true → is_reset_by before id ≡ true

pub active_same : (before after : Option SentRequest) → after ≡ before → ActiveFrom before after
active_same before after e =
    record { from = λ id names. sym (ap (λ (o : Option SentRequest). is_reset_by o id) e) ∙ names }

pub active_ended : (before after : Option SentRequest) → after ≡ None → ActiveFrom before after
active_ended before after e = record {
  from = λ id names. absurd (false≢true (sym (ap (λ (o : Option SentRequest). is_reset_by o id) e) ∙ names));
}

pub active_then : (x y z : Option SentRequest) → ActiveFrom x y → ActiveFrom y z → ActiveFrom x z
active_then x y z a b = record { from = λ id names. a.from id (b.from id names) }

-- whether it is to go out again does not count
pub active_repeated : (due : Bool) (o : Option SentRequest) → ActiveFrom o (with_repeat due o)
active_repeated due None = active_same None None refl
active_repeated due (Some s) = record { from = λ id names. names }

-- nor does whether the peer put it off
active_put_off : (marks : Bool) (o : Option SentRequest) → ActiveFrom o (put_off marks o)
active_put_off marks None = active_same None None refl
active_put_off marks (Some s) = record { from = λ id names. names }

-- nor whether it was given up
pub active_given_up : (o : Option SentRequest) → ActiveFrom o (with_given_up o)
active_given_up None = active_same None None refl
active_given_up (Some s) = record { from = λ id names. names }

-- The end of the active request

pub ending_if : (ends : Bool) (o : OwnView)
    → ActiveFrom o.active (if◌then◌else◌ {A = OwnView × Option OwnRequest} ends (ended o) (o, None)).0.active
ending_if true o = active_ended o.active None refl
ending_if false o = active_same o.active o.active refl

confirmed_active : (x : OwnView × Option OwnRequest) (r : ResetsView) (m : StreamMap) (told : List Event)
    → (confirmed_where x r m told).0.0.own.active ≡ x.0.active
confirmed_active (o, None) r m told = refl
confirmed_active (o, Some q) r m told = refl

ended_as_active : (x : OwnView × Option OwnRequest) (outcome : Result (Unit {0}) StreamResetError)
    → (ended_as x outcome).0.active ≡ x.0.active
ended_as_active (o, None) outcome = refl
ended_as_active (o, Some q) (Ok done) = refl
ended_as_active (o, Some q) (Err reason) = refl

answered_from : (outcome : Option (Result (Unit {0}) StreamResetError)) (o : OwnView)
    → ActiveFrom o.active (answered_with outcome o).0.active
answered_from None o = active_put_off (is_rfc o.profile) o.active
answered_from (Some outcome) o =
    active_ended o.active (ended_as (ended o) outcome).0.active (ended_as_active (ended o) outcome)

answering_if : (names_it : Bool) (outcome : Option (Result (Unit {0}) StreamResetError)) (o : OwnView)
    → ActiveFrom o.active
    (if◌then◌else◌ {A = OwnView × Answered} names_it (answered_with outcome o) (o, answers.Ignored)).0.active
answering_if true outcome o = answered_from outcome o
answering_if false outcome o = active_same o.active o.active refl

responded_active : (x : OwnView × Answered) (r : ResetsView) (m : StreamMap) (told : List Event)
    → (ended_as_answered x r m told).0.0.own.active ≡ x.0.active
responded_active (o, answers.Ignored) r m told = refl
responded_active (o, answers.InProgress) r m told = refl
responded_active (o, answers.Ended q (Ok done)) r m told = refl
responded_active (o, answers.Ended q (Err reason)) r m told = refl

-- A request of the peer

made_if : (none all : Bool) (o : OwnView) (number : ℕ) (ids : List ℕ)
    → (if none then o else with_request o number all ids).active ≡ o.active
made_if true all o number ids = refl
made_if false all o number ids = refl

released_active : (q : PeerRequestView) (first limit : ℕ) (r : ResetsView) (to_accept named : List ℕ)
    (x : Performing × List ℕ) → (performed_with q first limit r to_accept named x).0.0.own.active ≡ r.own.active
released_active q first limit r to_accept named (p, ids) =
    made_if (length ids == 0) (answers_all r.own q ids) r.own q.number ids

performed_active : (q : PeerRequestView) (first limit : ℕ) (r : ResetsView) (c : Channels)
    → (performed q first limit r c).0.0.own.active ≡ r.own.active
unfolding performed
performed_active q first limit r c =
    let named = named_in r.own c.streams q in
    released_active q first limit r c.to_accept named
    (answered_in r.own named (retired_each q (performing r.generations r.debts c.streams c.events)))

settled_by_active : (q : PeerRequestView) (x : Resetting × Bool)
    → (settled_by q x).0.0.own.active ≡ x.0.0.own.active
settled_by_active q (s, asks) = refl

settled_where_active : (x : PeerView × Option PeerRequestView) (first limit : ℕ) (r : ResetsView) (c : Channels)
    → (settled_where x first limit r c).0.0.own.active ≡ r.own.active
settled_where_active (p, None) first limit r c = refl
settled_where_active (p, Some q) first limit r c =
    let s : ResetsView = record r { peer = p } in
    settled_by_active q (performed q first limit s c) ∙ performed_active q first limit s c

skips_active : (r : ResetsView) (x : Skipping) → (with_skips_done r x).0.own.active ≡ r.own.active
skips_active r (g, m, told) = refl

channels_active : (c : Channels) (x : Beside) → (with_channels c x).0.own.active ≡ x.0.own.active
channels_active c (r, m, told) = refl

answer_active : (confirms : Bool) (arrival : Arrival) (x : Resetting × Bool)
    → (resets.with_answer confirms arrival x).0.0.own.active ≡ x.0.0.own.active
answer_active confirms arrival ((r, c), asks) =
    channels_active c (skips_done r c.streams c.events)
    ∙ skips_active r (skips.skips_applied (r.generations, c.streams, c.events))

arrived_active : (confirms : Bool) (first limit : ℕ) (x : PeerView × Arrival) (r : ResetsView) (c : Channels)
    → (arrived_with confirms first limit x r c).0.0.own.active ≡ r.own.active
arrived_active confirms first limit (p, arrivals.Answered answer) r c = refl
arrived_active confirms first limit (p, arrivals.Performed q) r c =
    let s : ResetsView = record r { peer = p } in
    answer_active confirms (arrivals.Performed q) (performed q first limit s c) ∙ performed_active q first limit s c

handled_active : (param : ParamOutgoingResetRequest) (cumulative_tsn first limit : ℕ) (c : Channels)
    (x : Beside × Bool)
    → (handled_behind param cumulative_tsn first limit c x).0.0.own.active ≡ x.0.0.own.active
handled_active param cumulative_tsn first limit c ((r, m, told), confirms) =
    arrived_active confirms first limit (arrived r.peer (request_of param) cumulative_tsn) r
    (record c { streams = m; events = told })

-- Of an association

-- Its active request resets no stream that it did not before.
pub record LeavesActive (a b : Shown) : Type 0 where
  pub from : ActiveFrom a.resets.own.active b.resets.own.active

pub by_active : (a b : Shown) → b.resets.own.active ≡ a.resets.own.active → LeavesActive a b
by_active a b e = record { from = active_same a.resets.own.active b.resets.own.active e }

pub then_on : (a b c : Shown) → LeavesActive a b → LeavesActive b c → LeavesActive a c
then_on a b c x y =
    record { from = active_then a.resets.own.active b.resets.own.active c.resets.own.active x.from y.from }

pub beside_leaves : (a : Shown) (x : Beside) → ActiveFrom a.resets.own.active x.0.own.active
    → LeavesActive a (with_beside a x)
beside_leaves a (r, m, told) e = record { from = e }

pub resetting_leaves : (a : Shown) (x : Resetting) → ActiveFrom a.resets.own.active x.0.own.active
    → LeavesActive a (with_resetting a x)
resetting_leaves a (r, c) e = record { from = e }

skipping_leaves : (id : ℕ) (a : Shown) → LeavesActive a (skips_applied_of id a)
skipping_leaves id a =
    let x = skips_done_of id a.resets a.streams a.events in
    beside_leaves a x
    (active_same a.resets.own.active x.0.own.active
    (skips_active a.resets (skips.skips_applied_of (a.resets.generations, a.streams, a.events) id)))

asking_leaves : (asks : Bool) (a : Shown) → LeavesActive a (asking_if asks a)
asking_leaves true a = by_active a _ refl
asking_leaves false a = by_active a _ refl

stopping_leaves : (stops : Bool) (a : Shown) → LeavesActive a (stopped_if stops a)
stopping_leaves true a = by_active a _ refl
stopping_leaves false a = by_active a _ refl

answer_leaves : (answer : Option Settled) (a : Shown) → LeavesActive a (with_answer answer a)
answer_leaves None a = by_active a _ refl
answer_leaves (Some q) a = record { from = (asking_leaves q.asks a).from }

-- A request of the peer is performed where it is due

settled_with_leaves : (a : Shown) (x : Resetting × Option Settled) → x.0.0.own.active ≡ a.resets.own.active
    → LeavesActive a (settled_with a x)
settled_with_leaves a ((r, c), answer) e =
    let b : Shown = with_resetting a (r, c) in
    then_on a b (with_answer answer b) (by_active a b e) (answer_leaves answer b)

settled_leaves : (a : Shown) → LeavesActive a (settled a)
unfolding settled
settled_leaves a =
    let t = a.receiver.peer_last_tsn in
    let first = a.sender.queue.next_message_id in
    let limit = a.receiver.max_receive_message_size in
    let x = resets.settled t first limit a.resets (channels_of a) in
    let b : Shown = settled_with a x in
    let y = skips_done b.resets b.streams b.events in
    then_on a b _
    (settled_with_leaves a x (settled_where_active (advanced a.resets.peer t) first limit a.resets (channels_of a)))
    (beside_leaves b y
    (active_same b.resets.own.active y.0.own.active
    (skips_active b.resets (skips.skips_applied (b.resets.generations, b.streams, b.events)))))

-- RE-CONFIG

handled_leaves : (a : Shown) (number : ℕ) (x : Resetting × Handled)
    → ActiveFrom a.resets.own.active x.0.0.own.active → LeavesActive a (handled_with a number x)
handled_leaves a number ((r, c), h) e =
    let b : Shown = with_resetting a (r, c) in
    let stopped : Shown = stopped_if h.confirms b in
    let asked : Shown = asking_if h.asks stopped in
    record {
      from = (then_on a b asked (record { from = e })
          (then_on b stopped asked (stopping_leaves h.confirms b) (asking_leaves h.asks stopped))).from;
    }

request_leaves : (a : Shown) (param : ParamOutgoingResetRequest) → LeavesActive a (on_request a param)
unfolding on_request
request_leaves a param =
    let t = a.receiver.peer_last_tsn in
    let first = a.sender.queue.next_message_id in
    let limit = a.receiver.max_receive_message_size in
    let number = param.reconfig_response_sequence_number in
    let x = confirmed_by number a.resets a.streams a.events in
    let y = handled param t first limit a.resets (channels_of a) in
    let o = a.resets.own in
    let c = own.confirmed o number in
    handled_leaves a param.reconfig_request_sequence_number y
    (active_then o.active c.0.active y.0.0.own.active (ending_if (is_confirmed_by o.active number) o)
    (active_same c.0.active y.0.0.own.active
    (handled_active param t first limit (channels_of a) x ∙ confirmed_active c a.resets a.streams a.events)))

responded_leaves : (a : Shown) (x : Beside × TimerChange) → ActiveFrom a.resets.own.active x.0.0.own.active
    → LeavesActive a (responded_with a x)
responded_leaves a ((r, m, told), change) e = record { from = e }

response_leaves : (a : Shown) (response : ParamReconfigResponse) → LeavesActive a (on_response a response)
unfolding on_response
response_leaves a response =
    let o = a.resets.own in
    let x = own.answered o response in
    let y = responded response a.resets a.streams a.events in
    responded_leaves a y
    (active_then o.active x.0.active y.0.0.own.active
    (answering_if (has_number o.active response.reconfig_response_sequence_number) (outcome_of response.result) o)
    (active_same x.0.active y.0.0.own.active (responded_active x a.resets a.streams a.events)))

pub param_leaves : (param : Param) (a : Shown) → LeavesActive a (after_param param a).0
param_leaves (params.OutgoingResetRequest request) a = request_leaves a request
param_leaves (params.ReconfigResponse response) a = response_leaves a response
param_leaves (params.HeartbeatInfo value) a = by_active a _ refl
param_leaves (params.StateCookie value) a = by_active a _ refl
param_leaves (params.SupportedExtensions value) a = by_active a _ refl
param_leaves (params.Other kind value) a = by_active a _ refl

second_leaves : (x : Shown × Bool) (trigger : AckTrigger) → LeavesActive x.0 (behind_params x trigger).0
second_leaves (a, true) trigger = by_active a _ refl
second_leaves (a, false) trigger = by_active a _ refl

first_leaves : (x : Shown × Bool) (second : Option Param) (trigger : AckTrigger)
    → LeavesActive x.0 (behind_first x second trigger).0
first_leaves (a, true) None trigger = by_active a _ refl
first_leaves (a, true) (Some second) trigger =
    then_on a (after_param second a).0 _ (param_leaves second a) (second_leaves (after_param second a) trigger)
first_leaves (a, false) second trigger = by_active a _ refl

reconfig_leaves : (a : Shown) (reconfig : ChunkReconfig) (trigger : AckTrigger)
    → LeavesActive a (on_reconfig a reconfig trigger).0
unfolding on_reconfig
reconfig_leaves a reconfig trigger =
    let x = after_param reconfig.first a in
    then_on a x.0 _ (param_leaves reconfig.first a) (first_leaves x reconfig.second trigger)

-- DATA

found_leaves : (there left : Bool) (a : Shown) (id : ℕ) → is_some (stream_at a.streams id) ≡ there
    → generation_left a.streams ≡ left → LeavesActive a (stream_found a id).0
unfolding stream_found
found_leaves true left a id e f = rw e (by_active a _ refl)
found_leaves false true a id e f = rw (e, f) (by_active a _ refl)
found_leaves false false a id e f = rw (e, f) (by_active a _ refl)

told_leaves : (readable taken : Bool) (a : Shown) (id : ℕ) → is_readable_in a.streams id ≡ readable
    → LeavesActive a (told a id taken)
told_leaves true true a id e = rw e (by_active a _ refl)
told_leaves false true a id e = rw e (by_active a _ refl)
told_leaves readable false a id e = by_active a _ refl

message_leaves : (a : Shown) (piece : ChunkPayloadData) (x : StreamMap × Bool)
    → LeavesActive a (with_message a piece x)
message_leaves a piece (streams, taken) =
    let b : Shown = record a { streams = streams; receiver = taken_to a.receiver piece.tsn } in
    then_on a b _ (by_active a b refl)
    (told_leaves (is_readable_in streams piece.stream_identifier) taken b piece.stream_identifier refl)

taken_unless_leaves : (refusal : Option Error) (a : Shown) (piece : ChunkPayloadData)
    → LeavesActive a (taken_unless refusal a piece).0
taken_unless_leaves (Some fault) a piece = by_active a _ refl
taken_unless_leaves None a piece = message_leaves a piece (pushed_in a.streams piece.stream_identifier piece)

left_leaves : (left : Bool) (a : Shown) (piece : ChunkPayloadData)
    → LeavesActive a (left_or_handed_over left a piece).0
left_leaves true a piece = by_active a _ refl
left_leaves false a piece =
    taken_unless_leaves (refusal_in a.streams piece.stream_identifier piece a.receiver.max_receive_message_size) a piece

taken_leaves : (a : Shown) (piece : ChunkPayloadData) → LeavesActive a (taken_in a piece).0
unfolding taken_in
taken_leaves a piece = left_leaves (goes_unread a piece) a piece

then_skips_leaves : (x : Shown × Option Error) (id : ℕ) → LeavesActive x.0 (then_skips x id).0
then_skips_leaves (a, None) id = skipping_leaves id a
then_skips_leaves (a, Some fault) id = by_active a _ refl

admitted_leaves : (credit : Bool) (a : Shown) (piece : ChunkPayloadData)
    → LeavesActive a (if credit then then_skips (taken_in a piece) piece.stream_identifier else (a, None)).0
admitted_leaves true a piece =
    then_on a (taken_in a piece).0 _ (taken_leaves a piece)
    (then_skips_leaves (taken_in a piece) piece.stream_identifier)
admitted_leaves false a piece = by_active a _ refl

deferred_unless_leaves : (refusal : Option Error) (a : Shown) (piece : ChunkPayloadData)
    → LeavesActive a (deferred_unless refusal a piece).0
deferred_unless_leaves (Some fault) a piece = by_active a _ refl
deferred_unless_leaves None a piece = by_active a _ refl

deferred_if_leaves : (credit : Bool) (refusal : Option Error) (a : Shown) (piece : ChunkPayloadData)
    → LeavesActive a (if credit then deferred_unless refusal a piece else (a, None)).0
deferred_if_leaves true refusal a piece = deferred_unless_leaves refusal a piece
deferred_if_leaves false refusal a piece = by_active a _ refl

deferred_leaves : (a : Shown) (piece : ChunkPayloadData) → LeavesActive a (deferred_where_admitted a piece).0
unfolding deferred_where_admitted
deferred_leaves a piece =
    deferred_if_leaves (admits a.receiver piece.tsn (all_waiting a))
    (resets.refusal_of a.resets piece a.receiver.max_receive_message_size) a piece

asks_leaves : (a : Shown) (immediate : Bool) (trigger : AckTrigger) → LeavesActive a (asks a immediate trigger).0
asks_leaves a immediate trigger =
    by_active a _ (ap (λ (z : Shown). z.resets.own.active) (flow_same (is_exhausted a) a _ _))

settled_asks_leaves : (a : Shown) (immediate : Bool) (trigger : AckTrigger)
    → LeavesActive a (asks (settled a) immediate trigger).0
settled_asks_leaves a immediate trigger =
    then_on a (settled a) _ (settled_leaves a) (asks_leaves (settled a) immediate trigger)

faults_leave : (x : Shown × Option Error) (immediate : Bool) (trigger : AckTrigger)
    → LeavesActive x.0 (asks_or_faults x immediate trigger).0
faults_leave (a, None) immediate trigger = settled_asks_leaves a immediate trigger
faults_leave (a, Some fault) immediate trigger = by_active a _ refl

new_data_leaves : (x : Shown × Bool) (piece : ChunkPayloadData) (trigger : AckTrigger)
    → LeavesActive x.0 (on_new_data x piece trigger).0
new_data_leaves (a, false) piece trigger = by_active a _ refl
new_data_leaves (a, true) piece trigger =
    then_on a (taken_where_admitted a piece).0 _
    (admitted_leaves (admits a.receiver piece.tsn (all_waiting a)) a piece)
    (faults_leave (taken_where_admitted a piece) piece.immediate_sack trigger)

counted_data_leaves : (next hidden : Bool) (a : Shown) (piece : ChunkPayloadData) (trigger : AckTrigger)
    → LeavesActive a
    (if not next then asks (settled a) piece.immediate_sack trigger else
    if hidden then asks_or_faults (deferred_where_admitted a piece) piece.immediate_sack trigger else
    on_new_data (stream_found a piece.stream_identifier) piece trigger).0
counted_data_leaves false hidden a piece trigger = settled_asks_leaves a piece.immediate_sack trigger
counted_data_leaves true true a piece trigger =
    then_on a (deferred_where_admitted a piece).0 _ (deferred_leaves a piece)
    (faults_leave (deferred_where_admitted a piece) piece.immediate_sack trigger)
counted_data_leaves true false a piece trigger =
    then_on a (stream_found a piece.stream_identifier).0 _
    (found_leaves (is_some (stream_at a.streams piece.stream_identifier)) (generation_left a.streams) a
    piece.stream_identifier refl refl)
    (new_data_leaves (stream_found a piece.stream_identifier) piece trigger)

data_leaves : (a : Shown) (piece : ChunkPayloadData) (trigger : AckTrigger)
    → LeavesActive a (on_data a piece trigger).0
unfolding on_data
data_leaves a piece trigger =
    let b : Shown = counted_data a in
    then_on a b _ (by_active a b refl)
    (counted_data_leaves (is_new_to b.receiver piece.tsn)
    (resets.is_hidden b.resets piece.stream_identifier piece.tsn) b piece trigger)

-- SACK

outcome_leaves : (o : SackOutcome) (a : Shown) (cumulative_tsn_ack : ℕ) (blocks : List GapAckBlock) (window : ℕ)
    (trigger : AckTrigger) (now : ℕ)
    → LeavesActive a (on_counted_sack o a cumulative_tsn_ack blocks window trigger now).0
outcome_leaves outcomes.Older a cumulative_tsn_ack blocks window trigger now = by_active a _ refl
outcome_leaves outcomes.NotInFlight a cumulative_tsn_ack blocks window trigger now = by_active a _ refl
outcome_leaves outcomes.NamesTheUnsent a cumulative_tsn_ack blocks window trigger now = by_active a _ refl
outcome_leaves outcomes.Taken a cumulative_tsn_ack blocks window trigger now =
    let b : Shown = shutdown_continued (after_sack a cumulative_tsn_ack blocks window now) in
    probes_keep (LeavesActive a) (λ c k. record { from = k.from }) (λ c k. record { from = k.from })
    (is_probing a.profile a.sender) window b (by_active a b refl)

sack_leaves : (sends : Bool) (a : Shown) (cumulative_tsn_ack : ℕ) (blocks : List GapAckBlock) (window : ℕ)
    (trigger : AckTrigger) (now : ℕ) → sends_data a.state ≡ sends
    → LeavesActive a (on_sack a cumulative_tsn_ack blocks window trigger now).0
unfolding on_sack
sack_leaves true a cumulative_tsn_ack blocks window trigger now e =
    rw e (then_on a (counted_sack a) _ (by_active a (counted_sack a) refl)
    (outcome_leaves (sack_outcome a.sender cumulative_tsn_ack blocks) (counted_sack a) cumulative_tsn_ack blocks window
    trigger now))
sack_leaves false a cumulative_tsn_ack blocks window trigger now e = rw e (by_active a _ refl)

-- FORWARD TSN

skip_leaves : (retires : Bool) (tsn id ssn : ℕ) (a : Shown) → resets.is_retiring a.resets id ≡ retires
    → LeavesActive a (with_skip tsn id ssn a)
unfolding with_skip
skip_leaves true tsn id ssn a e = rw e (by_active a _ refl)
skip_leaves false tsn id ssn a e = rw e (by_active a _ refl)

skips_leave : (tsn : ℕ) (es : List SkippedStream) (a : Shown) → LeavesActive a (with_skips tsn es a)
skips_leave tsn [] a = by_active a _ refl
skips_leave tsn (e ∷ es) a =
    let b : Shown = with_skip tsn e.stream_identifier e.stream_sequence_number a in
    then_on a b _
    (skip_leaves (resets.is_retiring a.resets e.stream_identifier) tsn e.stream_identifier e.stream_sequence_number a
    refl)
    (skips_leave tsn es b)

ahead_leaves : (a : Shown) (tsn : ℕ) (es : List SkippedStream) (trigger : AckTrigger)
    → LeavesActive a (asks_behind (settled (with_passed (with_skips tsn es a) tsn)) trigger).0
ahead_leaves a tsn es trigger =
    let b : Shown = with_skips tsn es a in
    let c : Shown = with_passed b tsn in
    then_on a (settled c) _
    (then_on a b (settled c) (skips_leave tsn es a)
    (then_on b c (settled c) (by_active b c refl) (settled_leaves c)))
    (by_active (settled c) _
    (ap (λ (z : Shown). z.resets.own.active) (flow_same (is_exhausted (settled c)) (settled c) _ _)))

-- the streams on which it skips are found or made before
all_found_leave : (tsn : ℕ) (es : List SkippedStream) (a : Shown) → LeavesActive a (found_for tsn es a)
all_found_leave tsn es a =
    by_active a (found_for tsn es a) (ap (λ (z : Shown). z.resets.own.active) (found_for_is tsn es a))

forward_leaves : (a : Shown) (tsn : ℕ) (es : List SkippedStream) (trigger : AckTrigger) (now : ℕ)
    → LeavesActive a (on_forward a tsn es trigger now).0
forward_leaves a tsn es trigger now =
    forward_is_one_of tsn es (λ b x. LeavesActive b x.0) trigger now
    (λ b e. by_active b _ refl)
    (λ b e f. by_active b (acknowledged_at_once b now) refl)
    (λ b e f. ahead_leaves b tsn es trigger)
    (λ b x k. then_on b (found_for tsn es b) x.0 (all_found_leave tsn es b) k)
    a

-- The handshake

answered_leaves : (keeps : Bool) (a : Shown) (header : CommonHeader) (init : ChunkInit)
    → LeavesActive a
    (answered (learned_unless keeps (record a { handshake = learned_by_init a.handshake header init }) init))
answered_leaves true a header init = by_active a _ refl
answered_leaves false a header init = by_active a _ refl

init_leaves : (begins : Bool) (a : Shown) (header : CommonHeader) (init : ChunkInit) (trigger : AckTrigger)
    → is_beginning a.state ≡ begins → LeavesActive a (on_init a header init trigger).0
unfolding on_init
init_leaves true a header init trigger e = rw e (answered_leaves (keeps_peer a init) a header init)
init_leaves false a header init trigger e = rw e (by_active a _ refl)

queued_leaves : (o : Option (List ℕ)) (a : Shown) → LeavesActive a (cookie_queued o a)
queued_leaves None a = by_active a _ refl
queued_leaves (Some cookie) a = by_active a _ refl

pub cookie_leaves : (a : Shown) (now : ℕ) → LeavesActive a (sends_cookie a now)
unfolding sends_cookie
cookie_leaves a now = record { from = (queued_leaves a.handshake.echo a).from }

echoed_leaves : (cookie : Option (List ℕ)) (a : Shown) (trigger : AckTrigger) (now : ℕ)
    → LeavesActive a (echoed cookie a trigger now).0
echoed_leaves None a trigger now = by_active a _ refl
echoed_leaves (Some cookie) a trigger now =
    let b : Shown = record a {
      handshake = (let h = a.handshake in record h { echo = Some cookie });
      state = states.CookieEchoed;
    } in
    record { from = (cookie_leaves b now).from }

init_ack_if : (waits back : Bool) (a : Shown) (header : CommonHeader) (init : ChunkInit) (trigger : AckTrigger)
    (now : ℕ)
    → LeavesActive a
    (if waits then
    (if back then echoed (first_cookie init.params) (learned_back a header init) trigger now
    else (record a { handshake = learned_by_init_ack a.handshake header init }, flows.Next trigger))
    else (a, flows.Next trigger)).0
init_ack_if false back a header init trigger now = by_active a _ refl
init_ack_if true false a header init trigger now = by_active a _ refl
init_ack_if true true a header init trigger now =
    let b : Shown = learned_back a header init in
    record { from = (echoed_leaves (first_cookie init.params) b trigger now).from }

init_ack_leaves : (a : Shown) (header : CommonHeader) (init : ChunkInit) (trigger : AckTrigger) (now : ℕ)
    → LeavesActive a (on_init_ack a header init trigger now).0
unfolding on_init_ack
init_ack_leaves a header init trigger now =
    init_ack_if (is_cookie_wait a.state) (comes_back a.handshake header) a header init trigger now

cookie_echo_leaves : (issued begins again : Bool) (a : Shown) (cookie : List ℕ) (trigger : AckTrigger)
    → has_issued a.handshake cookie ≡ issued → is_beginning a.state ≡ begins → acknowledges_again a ≡ again
    → LeavesActive a (on_cookie_echo a cookie trigger).0
unfolding on_cookie_echo
cookie_echo_leaves false begins again a cookie trigger e f g = rw e (by_active a _ refl)
cookie_echo_leaves true true again a cookie trigger e f g = rw (e, f) (by_active a _ refl)
cookie_echo_leaves true false true a cookie trigger e f g = rw (e, f, g) (by_active a _ refl)
cookie_echo_leaves true false false a cookie trigger e f g = rw (e, f, g) (by_active a _ refl)

cookie_ack_leaves : (echoes : Bool) (a : Shown) (trigger : AckTrigger) → is_cookie_echoed a.state ≡ echoes
    → LeavesActive a (on_cookie_ack a trigger).0
unfolding on_cookie_ack
cookie_ack_leaves true a trigger e = rw e (by_active a _ refl)
cookie_ack_leaves false a trigger e = rw e (by_active a _ refl)

information_leaves : (o : Option (List ℕ)) (a : Shown) → LeavesActive a (information_returned o a)
information_leaves None a = by_active a _ refl
information_leaves (Some information) a = by_active a _ refl

heartbeat_leaves : (a : Shown) (heartbeat : ChunkHeartbeat) (trigger : AckTrigger)
    → LeavesActive a (on_heartbeat a heartbeat trigger).0
unfolding on_heartbeat
heartbeat_leaves a heartbeat trigger = information_leaves (information_of heartbeat.params) a

-- Any chunk

kind_leaves : (header : CommonHeader) (c : Chunk) (a : Shown) (trigger : AckTrigger) (now : ℕ)
    → LeavesActive a (dispatched a header c trigger now).0
kind_leaves header (chunks.Data piece) a trigger now = data_leaves a piece _
kind_leaves header (chunks.SelectiveAck k) a trigger now =
    sack_leaves (sends_data a.state) a k.cumulative_tsn_ack k.gap_ack_blocks k.advertised_receiver_window_credit trigger
    now refl
kind_leaves header (chunks.Init x) a trigger now = init_leaves (is_beginning a.state) a header x trigger refl
kind_leaves header (chunks.InitAck x) a trigger now = init_ack_leaves a header x trigger now
kind_leaves header (chunks.Heartbeat x) a trigger now = heartbeat_leaves a x trigger
kind_leaves header (chunks.HeartbeatAck x) a trigger now = by_active a _ refl
kind_leaves header (chunks.Abort x) a trigger now = by_active a _ refl
kind_leaves header (chunks.Shutdown x) a trigger now = by_active a _ refl
kind_leaves header chunks.ShutdownAck a trigger now = by_active a _ refl
kind_leaves header (chunks.Error x) a trigger now = by_active a _ refl
kind_leaves header (chunks.CookieEcho x) a trigger now =
    cookie_echo_leaves (has_issued a.handshake x) (is_beginning a.state) (acknowledges_again a) a x trigger refl refl
    refl
kind_leaves header chunks.CookieAck a trigger now = cookie_ack_leaves (is_cookie_echoed a.state) a trigger refl
kind_leaves header chunks.ShutdownComplete a trigger now = by_active a _ refl
kind_leaves header (chunks.Reconfig x) a trigger now = reconfig_leaves a x trigger
kind_leaves header (chunks.ForwardTsn x) a trigger now = forward_leaves a x.new_cumulative_tsn x.streams trigger now
kind_leaves header (chunks.IForwardTsn x) a trigger now =
    forward_leaves a x.new_cumulative_tsn (skips_of x.entries) trigger now
kind_leaves header (chunks.Other kind flags value) a trigger now = by_active a _ refl

checked_leaves : (r : Result (Unit {0}) Error) (header : CommonHeader) (c : Chunk) (a : Shown) (trigger : AckTrigger)
    (now : ℕ) → LeavesActive a (checked_first r a header c trigger now).0
checked_leaves (Err fault) header c a trigger now = by_active a _ refl
checked_leaves (Ok done) header c a trigger now = kind_leaves header c a trigger now

pub chunk_leaves : (header : CommonHeader) (c : Chunk) (a : Shown) (trigger : AckTrigger) (now : ℕ)
    → LeavesActive a (on_chunk a header c trigger now).0
unfolding on_chunk
chunk_leaves header c a trigger now = checked_leaves (checked_chunk c) header c a trigger now
