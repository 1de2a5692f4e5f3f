-- RE-CONFIG that comes keeps a side on the course of a stream.
use Rattle.std.proofs.Common.{◌≡◌, refl, sym, ap, ◌∙◌, subst, ℕ, ◌<◌, Bool, true, false, length}
use Rattle.std.proofs.Common.{Option, Some, None}
use Rattle.sctp_wire_types.specs.declared.chunk.ChunkPayloadData.{ChunkPayloadData}
use Rattle.sctp_wire_types.specs.declared.chunk.ChunkReconfig.{ChunkReconfig}
use Rattle.sctp_wire_types.specs.declared.param.Param.{Param}
use Rattle.sctp_wire_types.specs.declared.param.Param.TheVariants as params
use Rattle.sctp_wire_types.specs.declared.param.ParamOutgoingResetRequest.{ParamOutgoingResetRequest}
use Rattle.sctp_wire_types.specs.declared.param.ParamReconfigResponse.{ParamReconfigResponse}
use Rattle.sctp_inbound.specs.declared.receiver.AckTrigger.{AckTrigger}
use Rattle.sctp_reset_requests.specs.Request.{names, request_of}
use Rattle.sctp_resets.specs.declared.answers.TimerChange.{TimerChange}
use Rattle.sctp_resets.specs.declared.performing.Handled.{Handled}
use Rattle.sctp_resets.specs.Resets.{Beside, Resetting, handled, responded}
use Rattle.sctp_courses.specs.Course.{Course, boundary_at, is_named}
use Rattle.sctp_reset_fit.specs.Keeping.{GoesOn, GoesOnBeside, KeepsCourse}
use Rattle.sctp_reset_fit.specs.Stands.{last_below}
use Rattle.sctp_reset_fit.proofs.Answering.{responded_keeps, responded_peer}
use Rattle.sctp_reset_fit.proofs.Arriving.{request_arrives}
use Rattle.sctp_reset_fit.proofs.Keeping.{goes_leaves}
use Rattle.sctp_directions.specs.Acts.{History}
use Rattle.sctp_assoc.specs.Resets.{after_param, behind_first, behind_params, channels_of, handled_with, on_reconfig}
use Rattle.sctp_assoc.specs.Resets.{on_request, on_response, responded_with, stopped_if, with_resetting}
use Rattle.sctp_assoc.specs.Shown.{Shown}
use Rattle.sctp_assoc.proofs.Leading.{past_itself}
use Rattle.sctp_assoc.proofs.ResetsLeadOn.{request_leads, response_leads}
use Rattle.sctp_course_sides.specs.Following.{LeadsFollowing}
use Rattle.sctp_course_sides.specs.Follows.{Follows, IsAskedIn, ParamComes, ParamComesIf}
use Rattle.sctp_course_sides.proofs.Reaching.{asking_seen, beside_seen, goes_following, keeps_following, last_is}
use Rattle.sctp_course_sides.proofs.Reaching.{point_small, resetting_seen, same_following, seen, then_following}

stopped_seen : (confirms : Bool) (a : Shown) → seen (stopped_if confirms a) ≡ seen a
stopped_seen true a = refl
stopped_seen false a = refl

handled_seen : (a : Shown) (number : ℕ) (x : Resetting × Handled)
    → seen (handled_with a number x) ≡ (x.0.0, x.0.1.streams, x.0.1.events)
handled_seen a number (s, h) =
    asking_seen h.asks (stopped_if h.confirms (with_resetting a s)) ∙ stopped_seen h.confirms (with_resetting a s)
    ∙ resetting_seen a s

responded_seen : (a : Shown) (x : Beside × TimerChange) → seen (responded_with a x) ≡ x.0
responded_seen a (b, change) = beside_seen a b

-- a request of a course stays one of it where the course goes on
asked_still : (initial id : ℕ) (c d : Course) (param : ParamOutgoingResetRequest) → GoesOn c d
    → IsAskedIn initial id c param → IsAskedIn initial id d param
asked_still initial id c d param goes came =
    let same : d.asked ≡ c.asked = (goes_leaves c d goes).0 in
    record {
      index = came.index;
      asked = subst (λ qs. came.index < length qs) (sym same) came.asked;
      number = came.number;
      last = subst (λ qs. param.sender_last_tsn ≡ last_below initial (boundary_at qs came.index)) (sym same) came.last;
      named = subst (λ qs. names (request_of param) id ≡ is_named qs came.index) (sym same) came.named;
    }

pub param_still : (initial id : ℕ) (c d : Course) → GoesOn c d → (param : Param) → ParamComes initial id c param
    → ParamComes initial id d param
param_still initial id c d goes (params.OutgoingResetRequest request) came =
    asked_still initial id c d request goes came
param_still initial id c d goes (params.ReconfigResponse response) came = tt
param_still initial id c d goes (params.HeartbeatInfo value) came = tt
param_still initial id c d goes (params.StateCookie value) came = tt
param_still initial id c d goes (params.SupportedExtensions value) came = tt
param_still initial id c d goes (params.Other kind value) came = tt

pub param_still_if : (initial id : ℕ) (c d : Course) → GoesOn c d → (param : Option Param)
    → ParamComesIf initial id c param → ParamComesIf initial id d param
param_still_if initial id c d goes None came = tt
param_still_if initial id c d goes (Some param) came = param_still initial id c d goes param came

module _ (P : ChunkPayloadData → Type 0) (initial id : ℕ) where
  -- a request
  request_following : (a : Shown) (h : History) (c : Course) (param : ParamOutgoingResetRequest)
      → IsAskedIn initial id c param → Follows P initial id a h c → LeadsFollowing P initial id (on_request a param) c
  unfolding on_request
  request_following a h c param came f =
      let last = a.receiver.peer_last_tsn in
      let first = a.sender.queue.next_message_id in
      let limit = a.receiver.max_receive_message_size in
      goes_following P initial id a (on_request a param) h h c f (request_leads a param h f.binds).binds (past_itself h)
      (subst (λ (z : Beside). GoesOnBeside P initial id z.0 z.1 c)
      (sym (handled_seen a param.reconfig_request_sequence_number
      (handled param last first limit a.resets (channels_of a))))
      (request_arrives P initial id last first limit a.resets (channels_of a) c param came.index came.asked came.number
      came.last came.named f.small f.few (point_small P initial id a h c f) (last_is P initial id a h c f) f.stands))

  -- a response
  response_following : (a : Shown) (h : History) (c : Course) (response : ParamReconfigResponse)
      → Follows P initial id a h c → LeadsFollowing P initial id (on_response a response) c
  unfolding on_response
  response_following a h c response f =
      let x : Beside × TimerChange = responded response a.resets a.streams a.events in
      let is : seen (responded_with a x) ≡ x.0 = responded_seen a x in
      keeps_following P initial id a (on_response a response) h h c f (response_leads a response h f.binds).binds
      (past_itself h)
      (subst (λ (z : Beside). KeepsCourse P initial id a.resets a.streams z.0 z.1) (sym is)
      (responded_keeps P initial id a.resets a.streams a.events response))
      (ap (λ (z : Beside). z.0.peer) is ∙ responded_peer a.resets a.streams a.events response)

  param_following : (param : Param) (a : Shown) (h : History) (c : Course) → ParamComes initial id c param
      → Follows P initial id a h c → LeadsFollowing P initial id (after_param param a).0 c
  param_following (params.OutgoingResetRequest request) a h c came f = request_following a h c request came f
  param_following (params.ReconfigResponse response) a h c came f = response_following a h c response f
  param_following (params.HeartbeatInfo value) a h c came f = same_following P initial id a h c f
  param_following (params.StateCookie value) a h c came f = same_following P initial id a h c f
  param_following (params.SupportedExtensions value) a h c came f = same_following P initial id a h c f
  param_following (params.Other kind value) a h c came f = same_following P initial id a h c f

  params_behind : (x : Shown × Bool) (trigger : AckTrigger) (c : Course) → LeadsFollowing P initial id x.0 c
      → LeadsFollowing P initial id (behind_params x trigger).0 c
  params_behind (a, true) trigger c l = l
  params_behind (a, false) trigger c l = l

  second_following : (x : Shown × Bool) (second : Option Param) (trigger : AckTrigger) (c : Course)
      → ParamComesIf initial id c second → LeadsFollowing P initial id x.0 c
      → LeadsFollowing P initial id (behind_first x second trigger).0 c
  second_following (a, true) None trigger c came l = l
  second_following (a, true) (Some second) trigger c came l =
      params_behind (after_param second a) trigger c
      (then_following P initial id a (after_param second a).0 c l
      (param_following second a l.past l.after (param_still initial id c l.after l.goes second came) l.follows))
  second_following (a, false) second trigger c came l = l

  -- A RE-CONFIG chunk of requests of the course keeps to it.
  pub reconfig_follows : (a : Shown) (h : History) (c : Course) (reconfig : ChunkReconfig) (trigger : AckTrigger)
      → ParamComes initial id c reconfig.first → ParamComesIf initial id c reconfig.second → Follows P initial id a h c
      → LeadsFollowing P initial id (on_reconfig a reconfig trigger).0 c
  unfolding on_reconfig
  reconfig_follows a h c reconfig trigger first second f =
      second_following (after_param reconfig.first a) reconfig.second trigger c second
      (param_following reconfig.first a h c first f)
