-- What an honest peer says of requests: its answers are true, and its own requests list their streams.
use Rattle.std.specs.Prelude.{◌<◌, ⊤, ℕ, Option, Some, None, length}
use Rattle.std.specs.List.{AllByRecursion}
use Rattle.sctp_wire_types.specs.declared.chunk.Chunk.{Chunk}
use Rattle.sctp_wire_types.specs.declared.chunk.Chunk.TheVariants as chunks
use Rattle.sctp_wire_types.specs.declared.param.Param.{Param}
use Rattle.sctp_wire_types.specs.declared.param.Param.TheVariants as params
use Rattle.sctp_wire_types.specs.declared.param.ParamOutgoingResetRequest.{ParamOutgoingResetRequest}
use Rattle.sctp_wire.specs.declared.packet.Packet.{Packet}
use Rattle.sctp_courses.specs.Course.{Course}
use Rattle.sctp_course_sides.specs.Answers.{ChunkIsTrue}
use Rattle.sctp_course_sides.specs.Sends.{AreIdentifiers}

-- a request lists its streams, one at least, by identifiers
abbrev pub RequestNames : ParamOutgoingResetRequest → Type 0
RequestNames request =
    (0 < length request.stream_identifiers) × AreIdentifiers request.stream_identifiers

abbrev pub ParamNames : Param → Type 0
ParamNames (params.OutgoingResetRequest request) = RequestNames request
ParamNames param = ⊤

abbrev pub ParamNamesIf : Option Param → Type 0
ParamNamesIf None = ⊤
ParamNamesIf (Some param) = ParamNames param

abbrev pub ChunkNames : Chunk → Type 0
ChunkNames (chunks.Reconfig reconfig) = ParamNames reconfig.first × ParamNamesIf reconfig.second
ChunkNames chunk = ⊤

-- what a chunk says of this side's requests is true, and its own requests list their streams
abbrev pub IsHonest : ℕ → Course → Chunk → Type 0
IsHonest initial c chunk = ChunkIsTrue initial c chunk × ChunkNames chunk

-- so it is of each chunk of a packet that comes, if there is one
abbrev pub BringsHonest : ℕ → Course → Option Packet → Type 0
BringsHonest initial c None = ⊤
BringsHonest initial c (Some packet) = AllByRecursion (λ (chunk : Chunk). IsHonest initial c chunk) packet.chunks
