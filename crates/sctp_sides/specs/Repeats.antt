-- Requests to reset streams over what can happen to an association (RFC 6525 sections 5.1, 5.2.1 and 5.2.2): a repeat
-- of a request of the peer that was completed is answered as performed and retires nothing, this side's requests wait
-- for DATA of their streams, and DATA behind a request of the peer stays out of its stream. That at most one request of
-- the peer is in progress, and at most one of this side is active, is said by their types: each is an Option.
use Rattle.std.specs.Prelude.{◌≡◌, ◌⊎◌, ℕ, ◌+◌, ◌<◌, ◌≤◌, ◌^◌, Bool, true, false, List, ◌∷◌, ◌++◌, Some, None}
use Rattle.std.specs.List.{AllByRecursion}
use Rattle.sctp_serial.specs.Serial.{tsn}
use Rattle.sctp_wire_types.specs.declared.chunk.ChunkPayloadData.{ChunkPayloadData}
use Rattle.sctp_wire_types.specs.declared.param.ParamOutgoingResetRequest.{ParamOutgoingResetRequest}
use Rattle.sctp_wire_types.specs.declared.param.ReconfigResult.TheVariants as results
use Rattle.sctp_outbound_queue.specs.Outbound.{has_stream}
use Rattle.sctp_streams.specs.declared.event.Event.{Event}
use Rattle.sctp_inbound.specs.declared.receiver.AckTrigger.{AckTrigger}
use Rattle.sctp_inbound.specs.Receiver.{is_new_to}
use Rattle.sctp_generations.specs.Retiring.{boundaries_at}
use Rattle.sctp_reset_requests.specs.declared.answer.Standing.TheVariants as standings
use Rattle.sctp_reset_requests.specs.declared.own_request.OwnRequest.{OwnRequest}
use Rattle.sctp_reset_requests.specs.Laws.{IsCompletedUpTo}
use Rattle.sctp_reset_requests.specs.Own.{last_tsn_of, param_of, resets}
use Rattle.sctp_reset_requests.specs.Own as own
use Rattle.sctp_reset_requests.specs.Peer.{is_completed, is_current, is_deferred, standing_of}
use Rattle.sctp_resets.specs.Resets.{Beside, confirmed_by, request_sent}
use Rattle.sctp_resets.specs.Telling.{is_finished_of}
use Rattle.sctp_assoc.specs.Calls.{is_beginning}
use Rattle.sctp_assoc.specs.Chunks.{counted_data, deferred_where_admitted, on_data}
use Rattle.sctp_assoc.specs.Resets.{on_request, responding, settling_takes_memory, stopped_if, with_beside}
use Rattle.sctp_assoc.specs.Shown.{Shown}
use Rattle.sctp_sides.specs.Intake.{is_for_later}
use Rattle.sctp_sides.specs.OneSide.{Call, IsRun}

-- Repeats of completed requests

-- a request of the peer is a repeat of one that was completed
abbrev pub IsRepeat : Shown → ParamOutgoingResetRequest → Type 0
IsRepeat a param = standing_of a.resets.peer param.reconfig_request_sequence_number ≡ standings.Completed

-- it is one where its number is at or below that of the last one that was completed, and is not in progress
abbrev pub CompletedNumbersAreRepeats : Type 0
CompletedNumbersAreRepeats =
    (a : Shown) (param : ParamOutgoingResetRequest)
    → is_completed a.resets.peer.last_completed param.reconfig_request_sequence_number ≡ true
    → is_current a.resets.peer.in_progress param.reconfig_request_sequence_number ≡ false → IsRepeat a param

-- A request of the peer names a number of this side's requests, too, and ends the active one of this side if that has
-- the number; by the rules of the RFCs not one of which the peer answered that it is in progress. What this leaves of
-- the resets, the streams and the events, and whether one ended.
abbrev pub confirming : Shown → ParamOutgoingResetRequest → Beside × Bool
confirming a param = confirmed_by param.reconfig_response_sequence_number a.resets a.streams a.events

abbrev pub confirms : Shown → ParamOutgoingResetRequest → Bool
confirms a param = (confirming a param).1

abbrev pub confirmed : Shown → ParamOutgoingResetRequest → Shown
confirmed a param = with_beside a (confirming a param).0

-- the answer that the request was performed waits to go out
abbrev pub answered : Shown → ParamOutgoingResetRequest → Shown
answered a param = responding a param.reconfig_request_sequence_number results.SuccessPerformed

-- it is answered as performed, and ends no more than the request of this side that it names
abbrev pub IsAnsweredAlone : Shown → ParamOutgoingResetRequest → Type 0
IsAnsweredAlone a param =
    on_request a param ≡ answered (stopped_if (confirms a param) (confirmed a param)) param

abbrev pub RepeatsRetireNothing : Type 0
RepeatsRetireNothing =
    (a : Shown) (param : ParamOutgoingResetRequest) → IsRepeat a param → IsAnsweredAlone a param

-- a repeat that ends no active request of this side changes nothing but what waits to go out
abbrev pub RepeatsAreOnlyAnswered : Type 0
RepeatsAreOnlyAnswered =
    (a : Shown) (param : ParamOutgoingResetRequest) → IsRepeat a param
    → (own.confirmed a.resets.own param.reconfig_response_sequence_number).1 ≡ None
    → on_request a param ≡ answered a param

-- an event does not tell Finished of any stream
abbrev pub TellsNoEnd : Event → Type 0
TellsNoEnd event = (id : ℕ) → is_finished_of id event ≡ false

-- No generation of a stream ended: those that are kept are as they were, and so are the peer's requests, and no
-- Finished was told.
pub record RetiresNothing (a b : Shown) : Type 0 where
  pub generations : b.resets.generations ≡ a.resets.generations
  pub requests : b.resets.peer ≡ a.resets.peer
  pub more : List Event
  pub told : b.events ≡ a.events ++ more
  pub endless : AllByRecursion TellsNoEnd more

abbrev pub RepeatsEndNoGeneration : Type 0
RepeatsEndNoGeneration =
    (a : Shown) (param : ParamOutgoingResetRequest) → IsRepeat a param → RetiresNothing a (on_request a param)

-- Over every list of calls

-- its handshake is over, or it was lost: no INIT and no INIT ACK tells it the peer's numbers any more
abbrev pub IsPastHandshake : Shown → Type 0
IsPastHandshake a = (is_beginning a.state ≡ false) ⊎ (a.lost ≡ true)

-- the first n requests of the peer that were completed, from the first number on, stay so
abbrev pub CompletedRequestsStay : Type 0
CompletedRequestsStay =
    (first n : ℕ) (calls : List Call) (told : List Event) (a b : Shown) → IsPastHandshake a
    → IsCompletedUpTo first n a.resets.peer → IsRun calls told a b → b.failed ≡ false
    → (m : ℕ) × (n ≤ m) × IsCompletedUpTo first m b.resets.peer

-- A request is answered as a repeat is.
pub record IsKnown (b : Shown) (param : ParamOutgoingResetRequest) : Type 0 where
  pub answer : IsAnsweredAlone b param
  pub retires : RetiresNothing b (on_request b param)

-- So many requests of the peer are completed, the first n among them, and each of those n is known, unless half the
-- range of numbers was used up since.
pub record KnowsTheFirst (first n : ℕ) (b : Shown) : Type 0 where
  pub count : ℕ
  pub enough : n ≤ count
  pub completed : IsCompletedUpTo first count b.resets.peer
  pub known : (k : ℕ) (param : ParamOutgoingResetRequest) → k < n → count < k + 2 ^ 31
      → param.reconfig_request_sequence_number ≡ tsn first k → IsKnown b param

abbrev pub RepeatsStayKnown : Type 0
RepeatsStayKnown =
    (first n : ℕ) (calls : List Call) (told : List Event) (a b : Shown) → IsPastHandshake a
    → IsCompletedUpTo first n a.resets.peer → IsRun calls told a b → b.failed ≡ false → KnowsTheFirst first n b

-- This side's requests

-- A request of this side goes out for the first time: it is the oldest that was made, no other one is active, and no
-- DATA of the streams that it resets waits or is in flight.
pub record WaitedForItsStreams (a : Shown) (param : ParamOutgoingResetRequest) : Type 0 where
  pub request : OwnRequest
  pub later : List OwnRequest
  pub oldest : a.resets.own.queued ≡ request ∷ later
  pub said : param ≡ param_of request (last_tsn_of a.sender.queue)
  pub alone : a.resets.own.active ≡ None
  pub quiet : (id : ℕ) → resets id request ≡ true → has_stream a.sender.queue id ≡ false

abbrev pub OwnRequestsWait : Type 0
OwnRequestsWait =
    (a : Shown) (param : ParamOutgoingResetRequest)
    → (request_sent a.resets a.sender.queue).1 ≡ Some param → WaitedForItsStreams a param

-- DATA behind a request of the peer

-- The streams, what is told of them, and those that wait to be accepted are as they were.
pub record LeavesTheStreams (a b : Shown) : Type 0 where
  pub streams : b.streams ≡ a.streams
  pub events : b.events ≡ a.events
  pub to_accept : b.to_accept ≡ a.to_accept

-- DATA above the last TSN of a request in progress, of a stream that it names, is of a generation that is not read yet
abbrev pub DataBehindIsForLater : Type 0
DataBehindIsForLater =
    (a : Shown) (piece : ChunkPayloadData) → is_deferred a.resets.peer piece.stream_identifier piece.tsn ≡ true
    → is_for_later a piece ≡ true

-- A generation of this stream ended and is still read: the boundaries are kept of it and of those behind it that ended,
-- which are the last TSNs of the requests that ended them.
pub record IsReadOfOld (a : Shown) (id : ℕ) : Type 0 where
  pub boundaries : List ℕ
  pub kept : boundaries_at a.resets.generations.retiring id ≡ Some boundaries

-- new DATA of such a stream is of a generation that is not read yet
abbrev pub RetiringDataIsForLater : Type 0
RetiringDataIsForLater =
    (a : Shown) (piece : ChunkPayloadData) → IsReadOfOld a piece.stream_identifier → is_for_later a piece ≡ true

-- no other DATA is: of a stream that retires not, DATA that lies above the last TSN of no request in progress that
-- names the stream is of the generation that is read
abbrev pub OtherDataIsReadNow : Type 0
OtherDataIsReadNow =
    (a : Shown) (piece : ChunkPayloadData) → is_for_later a piece ≡ true
    → IsReadOfOld a piece.stream_identifier ⊎ (is_deferred a.resets.peer piece.stream_identifier piece.tsn ≡ true)

-- what is kept of such DATA, or refused, reaches no stream
abbrev pub KeptDataReachesNoStream : Type 0
KeptDataReachesNoStream =
    (a : Shown) (piece : ChunkPayloadData) → LeavesTheStreams a (deferred_where_admitted a piece).0

-- new DATA of such a generation stays out of its stream where nothing that waited for it is due behind it: no request
-- of the peer, and no skip that is kept
abbrev pub LaterDataStaysOut : Type 0
LaterDataStaysOut =
    (a : Shown) (piece : ChunkPayloadData) (trigger : AckTrigger) → is_new_to a.receiver piece.tsn ≡ true
    → is_for_later a piece ≡ true
    → settling_takes_memory (deferred_where_admitted (counted_data a) piece).0 ≡ false
    → LeavesTheStreams a (on_data a piece trigger).0

-- So does new DATA of a stream of which an ended generation is still read.
abbrev pub RetiringDataStaysOut : Type 0
RetiringDataStaysOut =
    (a : Shown) (piece : ChunkPayloadData) (trigger : AckTrigger) → is_new_to a.receiver piece.tsn ≡ true
    → IsReadOfOld a piece.stream_identifier
    → settling_takes_memory (deferred_where_admitted (counted_data a) piece).0 ≡ false
    → LeavesTheStreams a (on_data a piece trigger).0
