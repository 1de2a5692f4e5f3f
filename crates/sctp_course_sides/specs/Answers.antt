-- What a side says of its peer's requests is true of the course of each stream that the peer sends.
use Rattle.std.specs.Prelude.{◌≡◌, ◌≤◌, ⊤, ℕ, Option, Some, None, Ok}
use Rattle.std.specs.List.{AllByRecursion}
use Rattle.sctp_serial.specs.Serial.{tsn}
use Rattle.sctp_wire_types.specs.declared.chunk.Chunk.{Chunk}
use Rattle.sctp_wire_types.specs.declared.chunk.Chunk.TheVariants as chunks
use Rattle.sctp_wire_types.specs.declared.param.Param.{Param}
use Rattle.sctp_wire_types.specs.declared.param.Param.TheVariants as params
use Rattle.sctp_reset_requests.specs.declared.own_request.OwnRequest.{OwnRequest}
use Rattle.sctp_reset_requests.specs.Own.{open_with, outcome_of}
use Rattle.sctp_reset_requests.specs.Peer.{number_before}
use Rattle.sctp_courses.specs.Course.{Course}
use Rattle.sctp_assoc.specs.declared.control.Control.{Control}
use Rattle.sctp_assoc.specs.declared.control.Control.TheVariants as controls
use Rattle.sctp_assoc.specs.Shown.{Shown}

-- the number of a request that was performed, or the one before that of the first request
pub record IsOfPerformed (initial : ℕ) (c : Course) (number : ℕ) : Type 0 where
  pub count : ℕ
  pub performed : count ≤ c.performed
  pub is : number ≡ number_before (tsn initial count)

-- A response that says success names a request that was performed, and so does a request by its response number
-- (RFC 6525 section 4.1).
abbrev pub ParamIsTrue : ℕ → Course → Param → Type 0
ParamIsTrue initial c (params.ReconfigResponse response) =
    outcome_of response.result ≡ Some (Ok tt) → IsOfPerformed initial c response.reconfig_response_sequence_number
ParamIsTrue initial c (params.OutgoingResetRequest request) =
    IsOfPerformed initial c request.reconfig_response_sequence_number
ParamIsTrue initial c param = ⊤

abbrev pub ParamIsTrueIf : ℕ → Course → Option Param → Type 0
ParamIsTrueIf initial c None = ⊤
ParamIsTrueIf initial c (Some param) = ParamIsTrue initial c param

abbrev pub ChunkIsTrue : ℕ → Course → Chunk → Type 0
ChunkIsTrue initial c (chunks.Reconfig reconfig) =
    ParamIsTrue initial c reconfig.first × ParamIsTrueIf initial c reconfig.second
ChunkIsTrue initial c chunk = ⊤

abbrev pub ControlIsTrue : ℕ → Course → Control → Type 0
ControlIsTrue initial c (controls.Packet packet) = ChunkIsTrue initial c packet.chunk
ControlIsTrue initial c controls.OwnRequest = ⊤

-- What waits to go out, and what this side's open requests say, is true of the course of a stream of the peer.
pub record AnswersTruly (initial : ℕ) (a : Shown) (c : Course) : Type 0 where
  pub own : AllByRecursion (λ (r : OwnRequest). IsOfPerformed initial c r.response_number)
      (open_with a.resets.own.active a.resets.own.queued)
  pub control : AllByRecursion (ControlIsTrue initial c) a.control
