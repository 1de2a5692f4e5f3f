-- As a request of this side ends, its streams alone change; and no DATA of those waits or is in flight.
use Rattle.std.proofs.Common.{◌≡◌, refl, ap, ◌∙◌, ◌≢◌, ◌⊎◌, ⊎_elim, inl, inr, ℕ, ◌&&◌, ◌||◌, Bool, true, false, not}
use Rattle.std.proofs.Common.{if◌then◌else◌, List, Option, Some, None, Result, Ok, Err}
use Rattle.std.proofs.lemmas.Bool.{cases_Bool, false≢true}
use Rattle.sctp_wire_types.specs.declared.event.StreamResetError.{StreamResetError}
use Rattle.sctp_wire_types.specs.declared.param.Param.{Param}
use Rattle.sctp_wire_types.specs.declared.param.Param.TheVariants as params
use Rattle.sctp_wire_types.specs.declared.param.ParamOutgoingResetRequest.{ParamOutgoingResetRequest}
use Rattle.sctp_wire_types.specs.declared.param.ParamReconfigResponse.{ParamReconfigResponse}
use Rattle.sctp_wire_types.specs.declared.param.ReconfigResult.TheVariants as results
use Rattle.sctp_outbound_queue.specs.Outbound.{has_stream}
use Rattle.sctp_outbound.specs.declared.sender.Sender.{Sender}
use Rattle.sctp_streams.specs.declared.event.Event.{Event}
use Rattle.sctp_streams.specs.Streams.{StreamMap, stream_at}
use Rattle.sctp_reset_requests.specs.declared.outcome.Answered.{Answered}
use Rattle.sctp_reset_requests.specs.declared.outcome.Answered.TheVariants as answers
use Rattle.sctp_reset_requests.specs.declared.own_request.OwnRequest.{OwnRequest}
use Rattle.sctp_reset_requests.specs.declared.own_request.SentRequest.{SentRequest}
use Rattle.sctp_reset_requests.specs.Ids.{has_id}
use Rattle.sctp_reset_requests.specs.Own.{OwnView, answered_with, ended_as, has_number, is_confirmed_by, outcome_of}
use Rattle.sctp_reset_requests.specs.Own.{request_sent, with_active}
use Rattle.sctp_resets.specs.declared.answers.TimerChange.{TimerChange}
use Rattle.sctp_resets.specs.declared.performing.Handled.{Handled}
use Rattle.sctp_resets.specs.Concerned.{StayBeside, active_ids, sent_ids}
use Rattle.sctp_resets.specs.Resets.{Beside, ResetsView, Resetting, confirmed_by, confirmed_where, ended_as_answered}
use Rattle.sctp_resets.specs.Resets.{handled, responded}
use Rattle.sctp_resets.proofs.AnsweredBeside.{responded_stays}
use Rattle.sctp_assoc.specs.Resets.{after_param, asking_if, channels_of, handled_with, on_request, on_response}
use Rattle.sctp_assoc.specs.Resets.{responded_with, stopped_if, with_beside, with_resetting}
use Rattle.sctp_assoc.specs.Shown.{Shown}
use Rattle.sctp_sides.specs.Repeats.{confirmed}
use Rattle.sctp_sides.specs.Restarts.{ActiveIsQuiet, ParametersRestartQuietly, RestartsQuietStreams}
use Rattle.sctp_sides.specs.Restarts.{RestartsQuietly, UnperformedRequestsRestartNothing, is_being_reset, is_reset_by}
use Rattle.sctp_sides.proofs.ActiveInChunks.{param_leaves}

-- a stream that is named in the active request is being reset
named_if : (all found : Bool) → found ≡ true → (all || found) ≡ true
named_if true found e = refl
named_if false found e = e

named_is_reset : (o : Option SentRequest) (id : ℕ) → has_id id (sent_ids o) ≡ true → is_reset_by o id ≡ true
named_is_reset None id e = absurd (false≢true e)
named_is_reset (Some s) id e = named_if s.request.names_all (has_id id s.request.ids) e

-- Where the streams stay but those of the active request, and what waits and is in flight stays, each stream is as it
-- was, or it is being reset and quiet.
stays_beside : (a b : Shown) → ActiveIsQuiet a → b.sender ≡ a.sender
    → ((t : ℕ) → has_id t (active_ids a.resets) ≡ false → stream_at b.streams t ≡ stream_at a.streams t)
    → RestartsQuietStreams a b
stays_beside a b quiet sender stays id =
    ⊎_elim
    (λ (named : has_id id (active_ids a.resets) ≡ true).
    (let reset : is_being_reset a id ≡ true = named_is_reset a.resets.own.active id named in
    let none : has_stream a.sender.queue id ≡ false = quiet id reset in
    inr (reset, none, ap (λ (z : Sender). has_stream z.queue id) sender ∙ none)))
    (λ (apart : has_id id (active_ids a.resets) ≡ false). inl (stays id apart))
    (cases_Bool (has_id id (active_ids a.resets)))

-- Responses

responded_streams : (a : Shown) (x : Beside × TimerChange) → (responded_with a x).streams ≡ x.0.1
responded_streams a ((r, m, told), change) = refl

responded_sender : (a : Shown) (x : Beside × TimerChange) → (responded_with a x).sender ≡ a.sender
responded_sender a ((r, m, told), change) = refl

response_sender : (a : Shown) (response : ParamReconfigResponse) → (on_response a response).sender ≡ a.sender
unfolding on_response
response_sender a response = responded_sender a (responded response a.resets a.streams a.events)

response_restarts : (a : Shown) (response : ParamReconfigResponse) → ActiveIsQuiet a
    → RestartsQuietStreams a (on_response a response)
unfolding on_response
response_restarts a response quiet =
    let x = responded response a.resets a.streams a.events in
    stays_beside a (responded_with a x) quiet (responded_sender a x)
    (λ t apart.
    ap (λ (m : StreamMap). stream_at m t) (responded_streams a x)
    ∙ responded_stays response a.resets a.streams a.events t apart)

-- A response that does not tell of success changes no stream.

module _ (r : ResetsView) (m : StreamMap) (told : List Event) where
  failed_unchanged : (o : OwnView) (active : Option SentRequest) (reason : StreamResetError)
      → (ended_as_answered (ended_as (o, request_sent active) (Err reason)) r m told).0.1 ≡ m
  failed_unchanged o None reason = refl
  failed_unchanged o (Some s) reason = refl

  unperformed_unchanged : (names_it : Bool) (outcome : Option (Result (Unit {0}) StreamResetError))
      → outcome ≢ Some (Ok tt)
      → (ended_as_answered (if◌then◌else◌ {A = OwnView × Answered} names_it (answered_with outcome r.own)
      (r.own, answers.Ignored)) r m told).0.1 ≡ m
  unperformed_unchanged false outcome other = refl
  unperformed_unchanged true None other = refl
  unperformed_unchanged true (Some (Ok done)) other = absurd (other refl)
  unperformed_unchanged true (Some (Err reason)) other =
      failed_unchanged (with_active r.own None) r.own.active reason

pub unperformed_restart_nothing : UnperformedRequestsRestartNothing
unfolding on_response
unperformed_restart_nothing a response other =
    responded_streams a (responded response a.resets a.streams a.events)
    ∙ unperformed_unchanged a.resets a.streams a.events
    (has_number a.resets.own.active response.reconfig_response_sequence_number) (outcome_of response.result) other

-- A request of the peer that ends the active request ends it as a response does that tells of success; else it changes
-- no stream.

-- that response
abbrev confirming_response : ℕ → ParamReconfigResponse
confirming_response number =
    record { reconfig_response_sequence_number = number; result = results.SuccessPerformed }

module _ (r : ResetsView) (m : StreamMap) (told : List Event) where
  -- the streams behind such a request
  abbrev left_by_request : Bool → Option SentRequest → StreamMap
  left_by_request ends_it active =
      (confirmed_where (if◌then◌else◌ {A = OwnView × Option OwnRequest} ends_it
      (with_active r.own None, request_sent active) (r.own, None)) r m told).0.1

  -- those behind that response
  abbrev left_by_response : Bool → Option SentRequest → StreamMap
  left_by_response names_it active =
      (ended_as_answered (if◌then◌else◌ {A = OwnView × Answered} names_it
      (ended_as (with_active r.own None, request_sent active) (Ok tt)) (r.own, answers.Ignored)) r m told).0.1

  left_alike : (active : Option SentRequest) → left_by_request true active ≡ left_by_response true active
  left_alike None = refl
  left_alike (Some s) = refl

  -- a request that the peer put off is ended by a response alone
  confirmed_if : (names_it put_off : Bool) (active : Option SentRequest)
      → (left_by_request (names_it && not put_off) active ≡ m)
      ⊎ (left_by_request (names_it && not put_off) active ≡ left_by_response names_it active)
  confirmed_if true true active = inl refl
  confirmed_if true false active = inr (left_alike active)
  confirmed_if false put_off active = inl refl

  confirmed_as : (active : Option SentRequest) (number : ℕ)
      → (left_by_request (is_confirmed_by active number) active ≡ m)
      ⊎ (left_by_request (is_confirmed_by active number) active ≡ left_by_response (has_number active number) active)
  confirmed_as None number = inl refl
  confirmed_as (Some s) number = confirmed_if (has_number (Some s) number) s.is_put_off (Some s)

  -- all streams stay but those of the active request
  confirmed_stays : (number : ℕ) → StayBeside (active_ids r) m (confirmed_by number r m told).0.1
  confirmed_stays number t apart =
      ⊎_elim
      (λ (none : (confirmed_by number r m told).0.1 ≡ m). ap (λ (n : StreamMap). stream_at n t) none)
      (λ (same : (confirmed_by number r m told).0.1 ≡ (responded (confirming_response number) r m told).0.1).
      ap (λ (n : StreamMap). stream_at n t) same
      ∙ responded_stays (confirming_response number) r m told t apart)
      (confirmed_as r.own.active number)

beside_streams : (a : Shown) (x : Beside) → (with_beside a x).streams ≡ x.1
beside_streams a (r, m, told) = refl

beside_sender : (a : Shown) (x : Beside) → (with_beside a x).sender ≡ a.sender
beside_sender a (r, m, told) = refl

confirmation_restarts : (a : Shown) (request : ParamOutgoingResetRequest) → ActiveIsQuiet a
    → RestartsQuietStreams a (confirmed a request)
confirmation_restarts a request quiet =
    let number = request.reconfig_response_sequence_number in
    let x = (confirmed_by number a.resets a.streams a.events).0 in
    stays_beside a (with_beside a x) quiet (beside_sender a x)
    (λ t apart.
    ap (λ (m : StreamMap). stream_at m t) (beside_streams a x)
    ∙ confirmed_stays a.resets a.streams a.events number t apart)

-- where the active request is quiet, both restart the numbers of quiet streams alone
pub quiet_restarts : (a : Shown) → ActiveIsQuiet a → RestartsQuietly a
quiet_restarts a quiet = record {
  active = quiet;
  responses = λ response. response_restarts a response quiet;
  confirmations = λ request. confirmation_restarts a request quiet;
}

-- Parameters of a RE-CONFIG

resetting_sender : (a : Shown) (x : Resetting) → (with_resetting a x).sender ≡ a.sender
resetting_sender a (r, c) = refl

stopped_sender : (stops : Bool) (a : Shown) → (stopped_if stops a).sender ≡ a.sender
stopped_sender true a = refl
stopped_sender false a = refl

asking_sender : (asks : Bool) (a : Shown) → (asking_if asks a).sender ≡ a.sender
asking_sender true a = refl
asking_sender false a = refl

handled_sender : (a : Shown) (number : ℕ) (x : Resetting × Handled) → (handled_with a number x).sender ≡ a.sender
handled_sender a number (s, h) =
    let b : Shown = with_resetting a s in
    asking_sender h.asks (stopped_if h.confirms b) ∙ stopped_sender h.confirms b ∙ resetting_sender a s

request_sender : (a : Shown) (request : ParamOutgoingResetRequest) → (on_request a request).sender ≡ a.sender
unfolding on_request
request_sender a request =
    handled_sender a request.reconfig_request_sequence_number
    (handled request a.receiver.peer_last_tsn a.sender.queue.next_message_id a.receiver.max_receive_message_size
    a.resets
    (channels_of a))

param_sender : (param : Param) (a : Shown) → (after_param param a).0.sender ≡ a.sender
param_sender (params.OutgoingResetRequest request) a = request_sender a request
param_sender (params.ReconfigResponse response) a = response_sender a response
param_sender (params.HeartbeatInfo value) a = refl
param_sender (params.StateCookie value) a = refl
param_sender (params.SupportedExtensions value) a = refl
param_sender (params.Other kind value) a = refl

pub parameters_restart_quietly : ParametersRestartQuietly
parameters_restart_quietly param a quiet =
    let b : Shown = (after_param param a).0 in
    quiet_restarts b (λ id named.
    ap (λ (z : Sender). has_stream z.queue id) (param_sender param a)
    ∙ quiet id ((param_leaves param a).from.from id named))
