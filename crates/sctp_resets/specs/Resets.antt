-- The resets of an association (RFC 6525 section 5, RFC 8831 section 6.7).
use Rattle.std.specs.Prelude.{ℕ, Bool, true, false, ◌≡◌, ◌==◌, ◌||◌, not, fold, if◌then◌else◌}
use Rattle.std.specs.Prelude.{List, length, remove, slice_get, Option, Some, None, Result, Ok, Err}
use Rattle.std.specs.List.{filter}
use Rattle.sctp_wire_types.specs.declared.chunk.ChunkPayloadData.{ChunkPayloadData}
use Rattle.sctp_wire_types.specs.Config.{is_rfc}
use Rattle.sctp_wire_types.specs.declared.config.Profile.{Profile}
use Rattle.sctp_wire_types.specs.declared.error.Error.{Error}
use Rattle.sctp_wire_types.specs.declared.event.StreamResetError.{StreamResetError}
use Rattle.sctp_wire_types.specs.declared.event.StreamResetError.TheVariants as reasons
use Rattle.sctp_wire_types.specs.declared.param.ParamOutgoingResetRequest.{ParamOutgoingResetRequest}
use Rattle.sctp_wire_types.specs.declared.param.ParamReconfigResponse.{ParamReconfigResponse}
use Rattle.sctp_outbound_queue.specs.Outbound.{Outbound}
use Rattle.sctp_streams.specs.declared.event.Event.{Event}
use Rattle.sctp_streams.specs.Events.{is_told_of}
use Rattle.sctp_streams.specs.Stream.{without_unread}
use Rattle.sctp_streams.specs.Streams.{StreamMap, changed_stream, without_stream}
use Rattle.sctp_generations.specs.Generations as generations
use Rattle.sctp_generations.specs.Generations.{GenerationsView, has_newest, no_generations, retires}
use Rattle.sctp_reset_requests.specs.declared.answer.Arrival.{Arrival}
use Rattle.sctp_reset_requests.specs.declared.answer.Arrival.TheVariants as arrivals
use Rattle.sctp_reset_requests.specs.declared.outcome.Answered.{Answered}
use Rattle.sctp_reset_requests.specs.declared.outcome.Answered.TheVariants as answers
use Rattle.sctp_reset_requests.specs.declared.own_request.OwnRequest.{OwnRequest}
use Rattle.sctp_reset_requests.specs.Debts.{DebtsView, bars, no_debt}
use Rattle.sctp_reset_requests.specs.Own as own
use Rattle.sctp_reset_requests.specs.Own.{OwnView, is_asked_for, no_own_request}
use Rattle.sctp_reset_requests.specs.Peer as peer
use Rattle.sctp_reset_requests.specs.Peer.{PeerView, boundary_of, no_peer_request, result_of}
use Rattle.sctp_reset_requests.specs.Request.{PeerRequestView, request_of}
use Rattle.sctp_resets.specs.declared.answers.TimerChange.{TimerChange}
use Rattle.sctp_resets.specs.declared.answers.TimerChange.TheVariants as changes
use Rattle.sctp_resets.specs.declared.performing.Handled.{Handled}
use Rattle.sctp_resets.specs.declared.performing.Settled.{Settled}
use Rattle.sctp_resets.specs.Answers.{Answering, answering, failures_told, request_ended}
use Rattle.sctp_resets.specs.Channels.{Channels, channels, delivered, final_told}
use Rattle.sctp_resets.specs.Draining.{Reading, drained_out}
use Rattle.sctp_resets.specs.Performing.{Performing, answered_in, named_in, performing, retired_each}
use Rattle.sctp_resets.specs.Skips.{Skipping, skips_applied, skips_applied_of}
use Rattle.sctp_resets.specs.Telling.{debts_told, next_told}

pub record ResetsView : Type 0 where
  -- this side's requests
  pub own : OwnView
  -- the peer's requests
  pub peer : PeerView
  -- what the application is still to be told
  pub debts : DebtsView
  -- the generations that ended and are still read, and what came for those behind
  pub generations : GenerationsView

abbrev pub no_resets : Profile → ℕ → ResetsView
no_resets profile first_number = record {
  own = no_own_request profile first_number;
  peer = no_peer_request;
  debts = no_debt;
  generations = no_generations;
}

abbrev pub met_peer : ResetsView → ℕ → ResetsView
met_peer r initial_tsn = record r { peer = peer.met r.peer initial_tsn }

-- a generation of the stream ended and is still read
abbrev pub is_retiring : ResetsView → ℕ → Bool
is_retiring r id = retires r.generations id

-- The stream is neither opened nor written: it is to be reset, the end of a reset is owed or failed, or a generation of
-- it ended and is still read.
abbrev pub is_blocked : ResetsView → ℕ → Bool
is_blocked r id = is_asked_for r.own id || bars r.debts id || is_retiring r id

-- new DATA of the stream is of a generation that is not read yet
abbrev pub is_hidden : ResetsView → ℕ → ℕ → Bool
is_hidden r id tsn = generations.is_hidden r.generations id tsn (boundary_of r.peer id)

abbrev pub refusal_of : ResetsView → ChunkPayloadData → ℕ → Option Error
refusal_of r d limit = generations.refusal_of r.generations d (boundary_of r.peer d.stream_identifier) limit

abbrev pub with_generations : ResetsView → GenerationsView → ResetsView
with_generations r g = record r { generations = g }

abbrev pub with_deferred : ResetsView → ChunkPayloadData → ResetsView
with_deferred r d = with_generations r (generations.with_deferred r.generations d)

-- a FORWARD TSN passed over the ordered messages of the newest generation of a stream up to an SSN
abbrev pub with_skip : ResetsView → ℕ → ℕ → ℕ → ResetsView
with_skip r id ssn tsn =
    with_generations r (generations.skipped r.generations id ssn tsn (boundary_of r.peer id))

-- it passed over the unordered messages up to a TSN
abbrev pub without_unordered : ResetsView → ℕ → ResetsView
without_unordered r tsn = with_generations r (generations.unordered_skipped r.generations tsn)

-- the stream is to be reset
abbrev pub waiting_for : ResetsView → ℕ → ResetsView
waiting_for r id = record r { own = own.with_waiting r.own id }

-- Resets, live streams and events.
abbrev pub Beside : Type 0
Beside = ResetsView × StreamMap × List Event

abbrev pub with_skips_done : ResetsView → Skipping → Beside
with_skips_done r (g, m, told) = (with_generations r g, m, told)

abbrev pub skips_done_of : ℕ → ResetsView → StreamMap → List Event → Beside
skips_done_of id r m told = with_skips_done r (skips_applied_of (r.generations, m, told) id)

abbrev pub skips_done : ResetsView → StreamMap → List Event → Beside
skips_done r m told = with_skips_done r (skips_applied (r.generations, m, told))

abbrev pub with_channels : Channels → Beside → ResetsView × Channels
with_channels c (r, m, told) = (r, record c { streams = m; events = told })

-- Resets, and the streams and all that is told of them.
abbrev pub Resetting : Type 0
Resetting = ResetsView × Channels

-- DATA that waited for the end of a generation goes to its streams, in the order of the TSNs
abbrev pub all_released : ℕ → ℕ → ResetsView → Channels → Resetting
all_released first limit r c = (
  with_generations r (generations.after_given_to_all r.generations),
  fold (delivered first limit) c (generations.given_to_all r.generations),
)

-- a request that names these streams was performed, and this side resets those in answer
abbrev pub own_answered : PeerRequestView → List ℕ → List ℕ → OwnView → OwnView
own_answered q named ids o = own.with_performed (own.reciprocated o q ids) named

-- whether a request was made for it
abbrev pub with_answers : PeerRequestView → List ℕ → List ℕ → ResetsView → ResetsView × Bool
with_answers q named ids r = (record r { own = own_answered q named ids r.own }, not (length ids == 0))

abbrev pub performed_with : PeerRequestView → ℕ → ℕ → ResetsView → List ℕ → List ℕ → Performing × List ℕ
    → Resetting × Bool
performed_with q first limit r to_accept named (p, ids) = (
  all_released first limit (record r {
    own = own_answered q named ids r.own;
    debts = p.debts;
    generations = generations.without_newest_of p.generations q.ids;
  }) (channels p.streams p.events to_accept),
  not (length ids == 0),
)

-- A request of the peer is performed: the streams that it names end or retire, DATA that waited goes to its streams,
-- and a request of this side resets the other direction, where this side did not begin to; whether one was made.
unfoldable pub performed : PeerRequestView → ℕ → ℕ → ResetsView → Channels → Resetting × Bool
performed q first limit r c =
    performed_with q first limit r c.to_accept (named_in r.own c.streams q)
    (answered_in r.own (named_in r.own c.streams q)
    (retired_each q (performing r.generations r.debts c.streams c.events)))

abbrev pub settled_by : PeerRequestView → Resetting × Bool → Resetting × Option Settled
settled_by q (s, asks) = (s, Some (record { number = q.number; asks = asks }))

abbrev pub settled_where : PeerView × Option PeerRequestView → ℕ → ℕ → ResetsView → Channels
    → Resetting × Option Settled
settled_where (p, None) first limit r c = ((record r { peer = p }, c), None)
settled_where (p, Some q) first limit r c = settled_by q (performed q first limit (record r { peer = p }) c)

-- the request of the peer that waited for the last TSN in order is performed; what is to be answered
abbrev pub settled : ℕ → ℕ → ℕ → ResetsView → Channels → Resetting × Option Settled
settled cumulative_tsn first limit r c =
    settled_where (peer.advanced r.peer cumulative_tsn) first limit r c

-- The end of a request of this side.

abbrev pub with_ended : ResetsView → Answering → Beside
with_ended r a = (record r { debts = a.debts }, a.streams, a.events)

abbrev pub request_over : Result (Unit {0}) StreamResetError → OwnRequest → ResetsView → StreamMap → List Event → Beside
request_over outcome q r m told =
    with_ended r (request_ended (is_rfc r.own.profile) outcome q.ids (answering r.debts m told))

abbrev pub confirmed_where : OwnView × Option OwnRequest → ResetsView → StreamMap → List Event → Beside × Bool
confirmed_where (o, None) r m told = ((record r { own = o }, m, told), false)
confirmed_where (o, Some q) r m told = (request_over (Ok tt) q (record r { own = o }) m told, true)

-- a request of the peer names this number of the active request, which was performed so
abbrev pub confirmed_by : ℕ → ResetsView → StreamMap → List Event → Beside × Bool
confirmed_by number r m told = confirmed_where (own.confirmed r.own number) r m told

abbrev pub ended_as_answered : OwnView × Answered → ResetsView → StreamMap → List Event → Beside × TimerChange
ended_as_answered (o, answers.Ignored) r m told = ((record r { own = o }, m, told), changes.Unchanged)
ended_as_answered (o, answers.InProgress) r m told = ((record r { own = o }, m, told), changes.Exempted)
ended_as_answered (o, answers.Ended q outcome) r m told =
    (request_over outcome q (record r { own = o }) m told, changes.Stopped)

-- a response of the peer came: it ends the active request, or says that this is in progress
abbrev pub responded : ParamReconfigResponse → ResetsView → StreamMap → List Event → Beside × TimerChange
responded response r m told = ended_as_answered (own.answered r.own response) r m told

abbrev pub given_up_where : OwnView × Option OwnRequest → ResetsView → StreamMap → List Event → Beside
given_up_where (o, None) r m told = (record r { own = o }, m, told)
given_up_where (o, Some q) r m told = request_over (Err reasons.Failed) q (record r { own = o }) m told

-- it failed, which is told once, and stays active: its number is spent, so that the peer takes up no other one before
-- it
abbrev pub given_up_for_now : ResetsView → StreamMap → List Event → Beside
given_up_for_now r m told = (
  record r { own = own.marked_given_up r.own },
  m,
  failures_told r.debts m (own.failing_ids r.own.active) told,
)

-- the timer of the active request expired too often: by the rules of the port it ends
abbrev pub given_up : ResetsView → StreamMap → List Event → Beside
given_up r m told =
    if is_rfc r.own.profile then given_up_for_now r m told else given_up_where (own.ended r.own) r m told

-- A request of the peer.

abbrev pub skips_done_in : Resetting → Resetting
skips_done_in (r, c) = with_channels c (skips_done r c.streams c.events)

abbrev pub with_answer : Bool → Arrival → Resetting × Bool → Resetting × Handled
with_answer confirms arrival (s, asks) =
    (skips_done_in s, record { confirms = confirms; asks = asks; answer = result_of arrival })

abbrev pub arrived_with : Bool → ℕ → ℕ → PeerView × Arrival → ResetsView → Channels → Resetting × Handled
arrived_with confirms first limit (p, arrivals.Answered answer) r c =
    ((record r { peer = p }, c), record { confirms = confirms; asks = false; answer = answer })
arrived_with confirms first limit (p, arrivals.Performed q) r c =
    with_answer confirms (arrivals.Performed q) (performed q first limit (record r { peer = p }) c)

abbrev pub handled_after : ParamOutgoingResetRequest → ℕ → ℕ → ℕ → Bool → Resetting → Resetting × Handled
handled_after param cumulative_tsn first limit confirms (r, c) =
    arrived_with confirms first limit (peer.arrived r.peer (request_of param) cumulative_tsn) r c

abbrev pub handled_behind : ParamOutgoingResetRequest → ℕ → ℕ → ℕ → Channels → Beside × Bool → Resetting × Handled
handled_behind param cumulative_tsn first limit c (b, confirms) =
    handled_after param cumulative_tsn first limit confirms (with_channels c b)

-- a request of the peer came: it ends the active request of this side that it names, and then leads to what its number
-- says
abbrev pub handled : ParamOutgoingResetRequest → ℕ → ℕ → ℕ → ResetsView → Channels → Resetting × Handled
handled param cumulative_tsn first limit r c =
    handled_behind param cumulative_tsn first limit c
    (confirmed_by param.reconfig_response_sequence_number r c.streams c.events)

-- This side's requests go out.

abbrev pub timer_expired : ResetsView → ResetsView
timer_expired r = record r { own = own.expired r.own }

abbrev pub with_own : ResetsView → OwnView × Option ParamOutgoingResetRequest → ResetsView × Option ParamOutgoingResetRequest
with_own r (o, param) = (record r { own = o }, param)

abbrev pub request_again : ResetsView → ResetsView × Option ParamOutgoingResetRequest
request_again r = with_own r (own.repeated r.own)

abbrev pub request_sent : ResetsView → Outbound → ResetsView × Option ParamOutgoingResetRequest
request_sent r q = with_own r (own.sent_first r.own q)

abbrev pub with_asked : ResetsView → OwnView × Bool → ResetsView × Bool
with_asked r (o, made) = (record r { own = o }, made)

-- only this side's requests may have changed
pub record OwnAlone (r s : ResetsView) : Type 0 where
  pub peer : s.peer ≡ r.peer
  pub debts : s.debts ≡ r.debts
  pub generations : s.generations ≡ r.generations

abbrev pub request_asked : ResetsView → Outbound → ResetsView × Bool
request_asked r q = with_asked r (own.asked r.own q r.peer)

-- The application reads, stops and asks for events.

abbrev pub with_read : ResetsView → Reading → Resetting
with_read r (g, c) = (with_generations r g, c)

-- the generations of a stream that ended and of which no byte waits are over
abbrev pub read_out : ℕ → ℕ → ℕ → ResetsView → Channels → Resetting
read_out first limit id r c =
    with_read r (drained_out first limit id (boundary_of r.peer id) (r.generations, c))

abbrev pub ended_unless : Bool → ResetsView → ℕ → StreamMap → List Event → Beside
ended_unless true r id m told = (r, m, told)
ended_unless false r id m told = (r, without_stream m id, final_told m id told)

-- the stream is to be reset; else it ends
abbrev pub reset_or_ended : Bool → ResetsView → ℕ → StreamMap → List Event → Beside
reset_or_ended true r id m told = (waiting_for r id, m, told)
reset_or_ended false r id m told = (r, without_stream m id, final_told m id told)

-- By the rules of the RFCs a stream of which more came than the peer ended is to be reset, and else it ends. By those
-- of the port it ends, unless a reset of it is open in the other direction.
abbrev pub dropped : Bool → ResetsView → ℕ → StreamMap → List Event → Beside
dropped more r id m told =
    if is_rfc r.own.profile then reset_or_ended more r id m told else ended_unless (is_blocked r id) r id m told

-- no more is read of a stream that retires: what waits of it is dropped
abbrev pub stopped_reading : ℕ → ResetsView → StreamMap → List Event → Beside
stopped_reading id r m told =
    dropped (has_newest r.generations id) (with_generations r (generations.discarded r.generations id)) id
    (changed_stream without_unread m id) (filter (λ e. not (is_told_of id e)) told)

abbrev pub with_event : Option Event → ResetsView → List Event → ResetsView × List Event × Option Event
with_event None r rest = (r, rest, None)
with_event (Some e) r rest = (record r { debts = debts_told e r.debts }, rest, Some e)

abbrev pub event_told_at : Option ℕ → ResetsView → List Event → ResetsView × List Event × Option Event
event_told_at None r told = (r, told, None)
event_told_at (Some index) r told = with_event (slice_get told index) r (remove told index)

-- the event that is told next, and what is owed then
abbrev pub event_told : ResetsView → List Event → ResetsView × List Event × Option Event
event_told r told = event_told_at (next_told r.generations r.debts told) r told

-- an association that is closed resets nothing; the numbers of both sides go on
abbrev pub all_closed : ResetsView → ResetsView
all_closed r = record {
  own = own.own_closed r.own;
  peer = peer.peer_closed r.peer;
  debts = no_debt;
  generations = no_generations;
}
