-- What a side says stays true of the course of a stream of its peer over single steps: as more is performed, as a chunk
-- waits to go out, and as requests of this side change.
use Rattle.std.proofs.Common.{◌≡◌, sym, subst, ◌≤◌, ℕ, Bool, true, false, List, [], ◌∷◌, ◌++◌, Option, Some, None}
use Rattle.std.specs.List.{AllByRecursion}
use Rattle.sctp_model.proofs.Lists.{all_push, all_weaker}
use Rattle.sctp_wire_types.specs.declared.chunk.Chunk.{Chunk}
use Rattle.sctp_wire_types.specs.declared.chunk.Chunk.TheVariants as chunks
use Rattle.sctp_wire_types.specs.declared.packet.CommonHeader.{CommonHeader}
use Rattle.sctp_wire_types.specs.declared.param.Param.{Param}
use Rattle.sctp_wire_types.specs.declared.param.Param.TheVariants as params
use Rattle.sctp_wire_types.specs.declared.param.ReconfigResult.{ReconfigResult}
use Rattle.sctp_inbound.specs.Handshake.{header_of}
use Rattle.sctp_reset_requests.specs.declared.own_request.OwnRequest.{OwnRequest}
use Rattle.sctp_reset_requests.specs.Own.{OwnView, open_with}
use Rattle.sctp_resets.specs.Resets.{Beside, Resetting}
use Rattle.sctp_courses.specs.Course.{Course}
use Rattle.sctp_assoc.specs.declared.control.Control.{Control}
use Rattle.sctp_assoc.specs.declared.control.Control.TheVariants as controls
use Rattle.sctp_assoc.specs.Control.{asking, queued, queued_under}
use Rattle.sctp_assoc.specs.Resets.{asking_if, responding, with_beside, with_resetting}
use Rattle.sctp_assoc.specs.Shown.{Shown}
use Rattle.sctp_course_sides.specs.Answers.{AnswersTruly, ChunkIsTrue, ControlIsTrue, IsOfPerformed, ParamIsTrue}
use Rattle.sctp_course_sides.specs.Answers.{ParamIsTrueIf}
use Rattle.sctp_course_sides.proofs.TruthOfRequests.{IsSuccess, OwnIsTrue, true_of}

-- More was performed.
module _ (initial : ℕ) (c d : Course) (grows : c.performed ≤ d.performed) where
  param_grows : (p : Param) → ParamIsTrue initial c p → ParamIsTrue initial d p
  param_grows (params.HeartbeatInfo value) t = tt
  param_grows (params.StateCookie value) t = tt
  param_grows (params.OutgoingResetRequest request) t =
      true_of initial c d request.reconfig_response_sequence_number t grows
  param_grows (params.ReconfigResponse response) t =
      λ (s : IsSuccess response.result). true_of initial c d response.reconfig_response_sequence_number (t s) grows
  param_grows (params.SupportedExtensions value) t = tt
  param_grows (params.Other kind value) t = tt

  param_grows_if : (p : Option Param) → ParamIsTrueIf initial c p → ParamIsTrueIf initial d p
  param_grows_if None t = tt
  param_grows_if (Some p) t = param_grows p t

  chunk_grows : (k : Chunk) → ChunkIsTrue initial c k → ChunkIsTrue initial d k
  chunk_grows (chunks.Data x) t = tt
  chunk_grows (chunks.Init x) t = tt
  chunk_grows (chunks.InitAck x) t = tt
  chunk_grows (chunks.SelectiveAck x) t = tt
  chunk_grows (chunks.Heartbeat x) t = tt
  chunk_grows (chunks.HeartbeatAck x) t = tt
  chunk_grows (chunks.Abort x) t = tt
  chunk_grows (chunks.Shutdown x) t = tt
  chunk_grows chunks.ShutdownAck t = tt
  chunk_grows (chunks.Error x) t = tt
  chunk_grows (chunks.CookieEcho x) t = tt
  chunk_grows chunks.CookieAck t = tt
  chunk_grows chunks.ShutdownComplete t = tt
  chunk_grows (chunks.Reconfig x) t = (param_grows x.first t.0, param_grows_if x.second t.1)
  chunk_grows (chunks.ForwardTsn x) t = tt
  chunk_grows (chunks.IForwardTsn x) t = tt
  chunk_grows (chunks.Other kind flags value) t = tt

  control_grows : (k : Control) → ControlIsTrue initial c k → ControlIsTrue initial d k
  control_grows (controls.Packet packet) t = chunk_grows packet.chunk t
  control_grows controls.OwnRequest t = tt

  -- what was true stays so
  pub answers_grow : (a : Shown) → AnswersTruly initial a c → AnswersTruly initial a d
  answers_grow a w = record {
    own =
        all_weaker (λ (r : OwnRequest). IsOfPerformed initial c r.response_number)
        (λ (r : OwnRequest). IsOfPerformed initial d r.response_number)
        (open_with a.resets.own.active a.resets.own.queued)
        (λ (r : OwnRequest) (t : IsOfPerformed initial c r.response_number).
        true_of initial c d r.response_number t grows)
        w.own;
    control = all_weaker (ControlIsTrue initial c) (ControlIsTrue initial d) a.control control_grows w.control;
  }

-- Steps of an association.
module _ (initial : ℕ) (d : Course) where
  -- only this side's requests and what waits to go out count
  pub same_answers : (a b : Shown) → b.resets.own ≡ a.resets.own → b.control ≡ a.control → AnswersTruly initial a d
      → AnswersTruly initial b d
  same_answers a b own control w = record {
    own = subst (λ (o : OwnView). OwnIsTrue (IsOfPerformed initial d) o) (sym own) w.own;
    control = subst (AllByRecursion (ControlIsTrue initial d)) (sym control) w.control;
  }

  -- this side's requests become others
  pub own_answers : (a b : Shown) → OwnIsTrue (IsOfPerformed initial d) b.resets.own → b.control ≡ a.control
      → AnswersTruly initial a d → AnswersTruly initial b d
  own_answers a b own control w = record {
    own = own;
    control = subst (AllByRecursion (ControlIsTrue initial d)) (sym control) w.control;
  }

  one_more_truly : (cs : List Control) (one : Control) → ControlIsTrue initial d one
      → AllByRecursion (ControlIsTrue initial d) cs → AllByRecursion (ControlIsTrue initial d) (cs ++ one ∷ [])
  one_more_truly cs one h each = all_push (ControlIsTrue initial d) cs one each h

  -- one packet more waits, under whatever header
  pub queued_under_truly : (header : CommonHeader) (a : Shown) (chunk : Chunk) → ChunkIsTrue initial d chunk
      → AnswersTruly initial a d → AnswersTruly initial (queued_under header a chunk) d
  queued_under_truly header a chunk h w =
      record { own = w.own; control = one_more_truly a.control _ h w.control }

  pub queued_truly : (a : Shown) (chunk : Chunk) → ChunkIsTrue initial d chunk → AnswersTruly initial a d
      → AnswersTruly initial (queued a chunk) d
  queued_truly a chunk h w = queued_under_truly (header_of a.handshake) a chunk h w

  -- the response to a request does
  pub responding_truly : (a : Shown) (number : ℕ) (result : ReconfigResult)
      → (IsSuccess result → IsOfPerformed initial d number) → AnswersTruly initial a d
      → AnswersTruly initial (responding a number result) d
  responding_truly a number result says w = queued_truly a _ (says, tt) w

  -- a request of this side has its place
  pub asking_truly : (a : Shown) → AnswersTruly initial a d → AnswersTruly initial (asking a) d
  asking_truly a w = record { own = w.own; control = one_more_truly a.control _ tt w.control }

  pub asking_if_truly : (asks : Bool) (a : Shown) → AnswersTruly initial a d
      → AnswersTruly initial (asking_if asks a) d
  asking_if_truly true a w = asking_truly a w
  asking_if_truly false a w = w

  pub beside_truly : (a : Shown) (x : Beside) → OwnIsTrue (IsOfPerformed initial d) x.0.own → AnswersTruly initial a d
      → AnswersTruly initial (with_beside a x) d
  beside_truly a (r, m, told) own w = record { own = own; control = w.control }

  pub resetting_truly : (a : Shown) (x : Resetting) → OwnIsTrue (IsOfPerformed initial d) x.0.own
      → AnswersTruly initial a d → AnswersTruly initial (with_resetting a x) d
  resetting_truly a (r, c) own w = record { own = own; control = w.control }
