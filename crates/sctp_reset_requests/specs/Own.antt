-- This side's requests to reset its outgoing streams (RFC 6525 section 5.1).
use Rattle.std.specs.Prelude.{◌≡◌, ℕ, Bool, true, false, ◌==◌, ◌≤◌, ◌&&◌, ◌||◌, not, nat_le}
use Rattle.std.specs.Prelude.{if◌then◌else◌, List, [], ◌∷◌, ◌++◌, filter, fold, length, take, sum_by, Option, Some}
use Rattle.std.specs.Prelude.{None}
use Rattle.std.specs.Prelude.{is_some, Result, Ok, Err}
use Rattle.std.specs.List.{count_by, list_any}
use Rattle.std.specs.Ordering.{nat_cmp}
use Rattle.std.specs.BTreeMap.{is_at}
use Rattle.std.specs.BTreeSet.{insert_key}
use Rattle.sctp_serial.specs.Serial.{tsn_after}
use Rattle.sctp_wire_types.specs.Config.{is_rfc}
use Rattle.sctp_wire_types.specs.declared.config.Profile.{Profile}
use Rattle.sctp_wire_types.specs.declared.event.StreamResetError.{StreamResetError}
use Rattle.sctp_wire_types.specs.declared.event.StreamResetError.TheVariants as errors
use Rattle.sctp_wire_types.specs.declared.param.ParamOutgoingResetRequest.{ParamOutgoingResetRequest}
use Rattle.sctp_wire_types.specs.declared.param.ParamReconfigResponse.{ParamReconfigResponse}
use Rattle.sctp_wire_types.specs.declared.param.ReconfigResult.{ReconfigResult}
use Rattle.sctp_wire_types.specs.declared.param.ReconfigResult.TheVariants as results
use Rattle.sctp_outbound_queue.specs.Outbound.{Outbound, has_stream, next_tsn_of}
use Rattle.sctp_reset_requests.specs.Ids.{has_id, without}
use Rattle.sctp_reset_requests.specs.Named.{NamedView, count_at, is_twice}
use Rattle.sctp_reset_requests.specs.Request.{PeerRequestView, names_all}
use Rattle.sctp_reset_requests.specs.Peer.{PeerView, number_before}
use Rattle.sctp_reset_requests.specs.declared.own_request.OwnRequest.{OwnRequest}
use Rattle.sctp_reset_requests.specs.declared.own_request.SentRequest.{SentRequest}
use Rattle.sctp_reset_requests.specs.declared.outcome.Answered.{Answered}
use Rattle.sctp_reset_requests.specs.declared.outcome.Answered.TheVariants as answers

pub record OwnView : Type 0 where
  -- the rules that are kept
  pub profile : Profile
  -- the number that the next request gets
  pub next_number : ℕ
  -- the streams that are to be reset and are in no request yet, ascending
  pub waiting : List ℕ
  -- the requests that were never sent, oldest first
  pub queued : List OwnRequest
  -- the request that was sent and is not answered
  pub active : Option SentRequest
  -- By the rules of the RFCs, the streams that this side reset first, ascending: a request that answers none of the
  -- peer names each, is open or ended in success, and no request of the peer was performed since that resets the other
  -- half.
  pub ahead : List ℕ

abbrev pub no_own_request : Profile → ℕ → OwnView
no_own_request profile first_number = record {
  profile = profile;
  next_number = first_number;
  waiting = [];
  queued = [];
  active = None;
  ahead = [];
}

-- the requests that are not answered, in the order of their numbers
abbrev pub open_with : Option SentRequest → List OwnRequest → List OwnRequest
open_with None queued = queued
open_with (Some s) queued = s.request ∷ queued

abbrev pub open_requests : OwnView → List OwnRequest
open_requests o = open_with o.active o.queued

-- a request resets a stream
abbrev pub resets : ℕ → OwnRequest → Bool
resets id r = r.names_all || has_id id r.ids

-- a stream is to be reset: it waits, a request that is not answered names it, or the peer did not reset its half yet
abbrev pub is_asked_for : OwnView → ℕ → Bool
is_asked_for o id = has_id id o.waiting || (list_any (resets id) (open_requests o) || has_id id o.ahead)

-- no DATA of its streams waits to be sent or is unacknowledged; for all streams none at all
abbrev pub is_quiet : OwnRequest → Outbound → Bool
is_quiet r q =
    if r.names_all then (length q.pending == 0) && (length q.in_flight == 0) else
    not (list_any (has_stream q) r.ids)

-- so many streams can one request name, of which the chunk's length is told in 16 bits
abbrev pub most_ids : ℕ
most_ids = 32757

-- a chunk has room for the request that goes out
abbrev pub HasRoom : Option ParamOutgoingResetRequest → Type 0
HasRoom None = Unit {0}
HasRoom (Some p) = length p.stream_identifiers ≤ most_ids

abbrev pub fits_chunk : OwnRequest → Bool
fits_chunk r = r.names_all || nat_le (length r.ids) most_ids

-- a stream is to be reset
abbrev pub with_waiting : OwnView → ℕ → OwnView
with_waiting o id = record o { waiting = insert_key nat_cmp o.waiting id }

-- a request is made, under the next number; its streams wait no more
abbrev pub with_request : OwnView → ℕ → Bool → List ℕ → OwnView
with_request o response_number all ids = record o {
  next_number = tsn_after o.next_number;
  waiting = without o.waiting ids;
  queued = o.queued ++ record { number = o.next_number; response_number = response_number; names_all = all; ids = ids }
      ∷ [];
}

-- how often the requests name a stream
abbrev pub times_named : ℕ → List OwnRequest → ℕ
times_named id rs = sum_by (λ (r : OwnRequest). count_by (is_at (nat_cmp id)) r.ids) rs

-- how many of the requests are for all streams
abbrev pub times_all : List OwnRequest → ℕ
times_all rs = count_by (λ (r : OwnRequest). r.names_all) rs

-- more than one of the requests is for all streams, or names this one
abbrev pub are_to_reset_twice : List OwnRequest → ℕ → Bool
are_to_reset_twice rs id = is_twice (times_all rs) (times_named id rs)

-- Of streams that the peer's request resets, this side makes no request for those that it reset first, and none for
-- those that two requests reset already which are not answered.
abbrev pub is_reset_here : OwnView → ℕ → Bool
is_reset_here o id = has_id id o.ahead || are_to_reset_twice (open_requests o) id

-- The streams that this side resets in answer to a request of the peer. By the rules of the RFCs those that it names,
-- live or not, and that this side does not reset by itself (RFC 8831 section 6.7); by those of the port the ones of
-- which a generation ended.
abbrev pub to_reset : OwnView → List ℕ → List ℕ → List ℕ
to_reset o named retired =
    if is_rfc o.profile then filter (λ id. not (is_reset_here o id)) named else retired

-- The streams of which a request of the peer ends a reset that this side began: it resets the other half, and no
-- request of this side is open that names them.
abbrev pub ends_here : OwnView → ℕ → Bool
ends_here o id = has_id id o.ahead && not (list_any (resets id) (open_requests o))

-- a request of the peer that names these streams was performed: of them this side is ahead no longer
abbrev pub with_performed : OwnView → List ℕ → OwnView
with_performed o named = record o { ahead = without o.ahead named }

-- The answer is for all streams where the peer's request is. Where this side is ahead it lists them, unless a chunk has
-- no room for so many.
abbrev pub answers_all : OwnView → PeerRequestView → List ℕ → Bool
answers_all o r ids = names_all r && (length o.ahead == 0 || not (nat_le (length ids) most_ids))

-- the peer's request was performed: this side resets these streams, too (RFC 8831 section 6.7)
abbrev pub reciprocated : OwnView → PeerRequestView → List ℕ → OwnView
reciprocated o r ids = if length ids == 0 then o else with_request o r.number (answers_all o r ids) ids

-- of the streams that wait, those of which no DATA waits to be sent or is unacknowledged, as many as a request can name
abbrev pub quiet_ids : OwnView → Outbound → List ℕ
quiet_ids o q = take most_ids (filter (λ id. not (has_stream q id)) o.waiting)

abbrev pub ahead_with : Bool → List ℕ → List ℕ → List ℕ
ahead_with true ahead ids = fold (insert_key nat_cmp) ahead ids
ahead_with false ahead ids = ahead

-- by the rules of the RFCs this side resets these streams first
abbrev pub put_ahead : OwnView → List ℕ → OwnView
put_ahead o ids = record o { ahead = ahead_with (is_rfc o.profile) o.ahead ids }

abbrev pub asked_for : List ℕ → Option ℕ → OwnView → OwnView × Bool
asked_for ids None o = (o, false)
asked_for ids (Some last) o =
    if length ids == 0 then (o, false) else (with_request (put_ahead o ids) last false ids, true)

-- where no request is queued or active, one is made for the streams that wait and are quiet; its response number is
-- that of the last request of the peer that was completed
abbrev pub asked : OwnView → Outbound → PeerView → OwnView × Bool
asked o q p =
    if is_some o.active || not (length o.queued == 0) then (o, false) else
    asked_for (quiet_ids o q) p.last_completed o

abbrev pub stream_identifiers_of : OwnRequest → List ℕ
stream_identifiers_of r = if r.names_all then [] else r.ids

-- a request as it is sent (RFC 6525 section 4.1)
abbrev pub param_of : OwnRequest → ℕ → ParamOutgoingResetRequest
param_of r last_tsn = record {
  reconfig_request_sequence_number = r.number;
  reconfig_response_sequence_number = r.response_number;
  sender_last_tsn = last_tsn;
  stream_identifiers = stream_identifiers_of r;
}

abbrev pub sent_param : SentRequest → ParamOutgoingResetRequest
sent_param s = param_of s.request s.last_tsn

-- the last TSN that was given out
abbrev pub last_tsn_of : Outbound → ℕ
last_tsn_of q = number_before (next_tsn_of q)

-- a request can go out for the first time
abbrev pub may_go : OwnRequest → Outbound → Bool
may_go r q = is_quiet r q && fits_chunk r

abbrev pub sent_of : OwnRequest → Outbound → SentRequest
sent_of r q = record {
  request = r;
  last_tsn = last_tsn_of q;
  repeat_due = false;
  is_put_off = false;
  is_given_up = false;
}

abbrev pub sent_from : List OwnRequest → OwnView → Outbound → OwnView × Option ParamOutgoingResetRequest
sent_from [] o q = (o, None)
sent_from (r ∷ rs) o q =
    if may_go r q then
    (record o { queued = rs; active = Some (sent_of r q) }, Some (sent_param (sent_of r q)))
    else (o, None)

-- the oldest request that was never sent goes out where none is active and its streams are quiet; its last TSN is fixed
-- then (RFC 6525 section 5.1.2)
abbrev pub sent_first : OwnView → Outbound → OwnView × Option ParamOutgoingResetRequest
sent_first o q = if is_some o.active then (o, None) else sent_from o.queued o q

abbrev pub with_repeat : Bool → Option SentRequest → Option SentRequest
with_repeat due None = None
with_repeat due (Some s) = Some (record s { repeat_due = due })

abbrev pub with_active : OwnView → Option SentRequest → OwnView
with_active o active = record o { active = active }

-- the timer expired: the active request is to go out again
abbrev pub expired : OwnView → OwnView
expired o = with_active o (with_repeat true o.active)

abbrev pub param_again : Option SentRequest → Option ParamOutgoingResetRequest
param_again None = None
param_again (Some s) = if s.repeat_due then Some (sent_param s) else None

-- the active request goes out again as it went out first, once for each expiry
abbrev pub repeated : OwnView → OwnView × Option ParamOutgoingResetRequest
repeated o = (with_active o (with_repeat false o.active), param_again o.active)

abbrev pub request_sent : Option SentRequest → Option OwnRequest
request_sent None = None
request_sent (Some s) = Some s.request

-- the active request ends
abbrev pub ended : OwnView → OwnView × Option OwnRequest
ended o = (with_active o None, request_sent o.active)

abbrev pub has_number : Option SentRequest → ℕ → Bool
has_number None number = false
has_number (Some s) number = s.request.number == number

-- a response number of the peer ends the active request, of which the peer did not answer that it is in progress
abbrev pub is_confirmed_by : Option SentRequest → ℕ → Bool
is_confirmed_by None number = false
is_confirmed_by (Some s) number = s.request.number == number && not s.is_put_off

-- a request of the peer that names the active request in its response number ends it (RFC 6525 section 5.2.2, E1)
abbrev pub confirmed : OwnView → ℕ → OwnView × Option OwnRequest
confirmed o number = if is_confirmed_by o.active number then ended o else (o, None)

-- the active request was given up before: its timer expired too often, and it goes out again all the same
abbrev pub was_given_up : Option SentRequest → Bool
was_given_up None = false
was_given_up (Some s) = s.is_given_up

abbrev pub with_given_up : Option SentRequest → Option SentRequest
with_given_up None = None
with_given_up (Some s) = Some (record s { is_given_up = true })

-- The timer of the active request expired too often. By the rules of the RFCs it counts as given up and stays active,
-- since its number is spent: the peer takes up no later one before it.
abbrev pub marked_given_up : OwnView → OwnView
marked_given_up o = with_active o (with_given_up o.active)

-- how a result ends a request; None: it does not
abbrev pub outcome_of : ReconfigResult → Option (Result (Unit {0}) StreamResetError)
outcome_of results.SuccessNop = Some (Ok tt)
outcome_of results.SuccessPerformed = Some (Ok tt)
outcome_of results.InProgress = None
outcome_of results.Denied = Some (Err errors.Denied)
outcome_of _ = Some (Err errors.Failed)

abbrev pub ahead_after : Result (Unit {0}) StreamResetError → List ℕ → List ℕ → List ℕ
ahead_after (Ok done) ahead ids = ahead
ahead_after (Err reason) ahead ids = without ahead ids

-- where a request for these streams failed this side is not ahead of them
abbrev pub behind_after : Result (Unit {0}) StreamResetError → OwnView → List ℕ → OwnView
behind_after outcome o ids = record o { ahead = ahead_after outcome o.ahead ids }

abbrev pub ended_as : OwnView × Option OwnRequest → Result (Unit {0}) StreamResetError → OwnView × Answered
ended_as (o, None) outcome = (o, answers.Ignored)
ended_as (o, Some r) outcome = (behind_after outcome o r.ids, answers.Ended r outcome)

-- The peer answered that the active request is in progress. By the rules of the RFCs no response number ends it from
-- then on, since a peer may name there the request that it took up last.
abbrev pub put_off : Bool → Option SentRequest → Option SentRequest
put_off marks None = None
put_off marks (Some s) = Some (record s { repeat_due = false; is_put_off = s.is_put_off || marks })

abbrev pub answered_with : Option (Result (Unit {0}) StreamResetError) → OwnView → OwnView × Answered
answered_with None o = (with_active o (put_off (is_rfc o.profile) o.active), answers.InProgress)
answered_with (Some outcome) o = ended_as (ended o) outcome

-- a response came: one that does not name the active request is ignored (RFC 6525 section 5.2.7, H1)
abbrev pub answered : OwnView → ParamReconfigResponse → OwnView × Answered
answered o response =
    if has_number o.active response.reconfig_response_sequence_number then
    answered_with (outcome_of response.result) o
    else (o, answers.Ignored)

-- an association that is closed asks for nothing; the numbers go on
abbrev pub own_closed : OwnView → OwnView
own_closed o = no_own_request o.profile o.next_number

-- that the active request is given up takes memory to be told: once
abbrev pub is_given_up_anew : OwnView → Bool
is_given_up_anew o = is_some o.active && not (is_rfc o.profile && was_given_up o.active)

-- the streams of which it is told that their reset failed, where the active request is given up and is to go on: once
abbrev pub failing_ids : Option SentRequest → List ℕ
failing_ids None = []
failing_ids (Some s) = if s.is_given_up then [] else s.request.ids

-- the counts are those of the requests
abbrev pub AreCounted : NamedView → List OwnRequest → Type 0
AreCounted n rs = ((id : ℕ) → count_at n id ≡ times_named id rs) × (n.all ≡ times_all rs)

abbrev pub FitsChunk : Option SentRequest → Type 0
FitsChunk None = Unit {0}
FitsChunk (Some s) = fits_chunk s.request ≡ true

-- each request has the number after that of the one before it, and the next number follows the last one
abbrev pub AreNumbered : List OwnRequest → ℕ → Type 0
AreNumbered [] next = Unit {0}
AreNumbered (r ∷ []) next = tsn_after r.number ≡ next
AreNumbered (r ∷ s ∷ rs) next = (tsn_after r.number ≡ s.number) × AreNumbered (s ∷ rs) next

-- the request that was queued behind the one that ended has the number after it
abbrev pub IsFollowed : Option OwnRequest → OwnView → Type 0
IsFollowed None o = Unit {0}
IsFollowed (Some r) o = AreNumbered (r ∷ o.queued) o.next_number

-- what is kept as requests come and go
pub record AreKept (named : NamedView) (queued : List OwnRequest) (active : Option SentRequest) (next : ℕ) : Type 0
  where
    pub counted : AreCounted named (open_with active queued)
    pub fits : FitsChunk active
    pub numbered : AreNumbered (open_with active queued) next
