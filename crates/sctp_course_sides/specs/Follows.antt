-- A side that receives follows the course of each stream that its peer sends. The course says what was sent; what comes
-- is of it.
use Rattle.std.specs.Prelude.{◌≡◌, ◌<◌, ◌≤◌, ◌^◌, ⊤, ℕ, true, [], length, Option, Some, None}
use Rattle.sctp_serial.specs.Serial.{tsn}
use Rattle.sctp_wire_types.specs.declared.chunk.Chunk.{Chunk}
use Rattle.sctp_wire_types.specs.declared.chunk.Chunk.TheVariants as chunks
use Rattle.sctp_wire_types.specs.declared.chunk.ChunkPayloadData.{ChunkPayloadData}
use Rattle.sctp_wire_types.specs.declared.param.Param.{Param}
use Rattle.sctp_wire_types.specs.declared.param.Param.TheVariants as params
use Rattle.sctp_wire_types.specs.declared.param.ParamOutgoingResetRequest.{ParamOutgoingResetRequest}
use Rattle.sctp_model.specs.Packets.{mem}
use Rattle.sctp_reset_requests.specs.Request.{names, request_of}
use Rattle.sctp_courses.specs.Course.{Course, boundary_at, is_named}
use Rattle.sctp_courses.specs.Invariants.{Invariant}
use Rattle.sctp_reset_fit.specs.Keeping.{StandsBeside}
use Rattle.sctp_reset_fit.specs.Laws.{Stands}
use Rattle.sctp_reset_fit.specs.Stands.{IsReadOn, last_below}
use Rattle.sctp_directions.specs.Acts.{History, reach_in}
use Rattle.sctp_assoc.specs.Leads.{Binds}
use Rattle.sctp_assoc.specs.Shown.{Shown}

-- DATA of a course: its TSN stands on an offset that was assigned, to this stream if it is of this one.
pub record IsOfCourse (initial id : ℕ) (c : Course) (piece : ChunkPayloadData) : Type 0 where
  pub offset : ℕ
  pub assigned : offset < c.assigned
  pub is : piece.tsn ≡ tsn initial offset
  pub mine : piece.stream_identifier ≡ id → mem offset c.mine ≡ true

-- all up to a TSN was sent
pub record IsSentUpTo (initial : ℕ) (c : Course) (last : ℕ) : Type 0 where
  pub reach : ℕ
  pub some : 0 < reach
  pub assigned : reach ≤ c.assigned
  pub is : last ≡ last_below initial reach

-- A request is one of those of the course, under its number and with its boundary (RFC 6525 section 4.1).
pub record IsAskedIn (initial id : ℕ) (c : Course) (param : ParamOutgoingResetRequest) : Type 0 where
  pub index : ℕ
  pub asked : index < length c.asked
  pub number : param.reconfig_request_sequence_number ≡ tsn initial index
  pub last : param.sender_last_tsn ≡ last_below initial (boundary_at c.asked index)
  pub named : names (request_of param) id ≡ is_named c.asked index

abbrev pub ParamComes : ℕ → ℕ → Course → Param → Type 0
ParamComes initial id c (params.OutgoingResetRequest request) = IsAskedIn initial id c request
ParamComes initial id c param = ⊤

abbrev pub ParamComesIf : ℕ → ℕ → Course → Option Param → Type 0
ParamComesIf initial id c None = ⊤
ParamComesIf initial id c (Some param) = ParamComes initial id c param

-- a chunk is of the course's sender, in what it says of DATA and of requests
abbrev pub ChunkComes : ℕ → ℕ → Course → Chunk → Type 0
ChunkComes initial id c (chunks.Data piece) = IsOfCourse initial id c piece
ChunkComes initial id c (chunks.ForwardTsn forward) = IsSentUpTo initial c forward.new_cumulative_tsn
ChunkComes initial id c (chunks.IForwardTsn forward) = IsSentUpTo initial c forward.new_cumulative_tsn
ChunkComes initial id c (chunks.Reconfig reconfig) =
    ParamComes initial id c reconfig.first × ParamComesIf initial id c reconfig.second
ChunkComes initial id c chunk = ⊤

-- The receiver came as far as the course says: its cumulative reach is that of the course, what was taken in of the
-- stream was taken in, and nothing came that was not sent.
pub record HasReached (initial : ℕ) (h : History) (c : Course) : Type 0 where
  pub peer : h.peer ≡ initial
  pub point : c.point ≡ reach_in h
  pub taken : (o : ℕ) → mem o c.taken ≡ true → mem o h.taken ≡ true
  pub assigned : (o : ℕ) → mem o h.taken ≡ true → o < c.assigned
  pub passed : h.passed ≤ c.assigned

-- A side that knows its peer's initial TSN follows the course of a stream.
pub record Follows (P : ChunkPayloadData → Type 0) (initial id : ℕ) (a : Shown) (h : History)
    (c : Course) : Type 0 where
  pub small : initial < 2 ^ 32
  pub few : length c.asked < 2 ^ 31
  pub binds : Binds a h
  pub stands : StandsBeside P initial id a.resets a.streams c
  pub reached : HasReached initial h c

-- Nothing was sent, and nothing came.
pub record IsUntouched (c : Course) : Type 0 where
  pub asked : c.asked ≡ []
  pub assigned : c.assigned ≡ 0
  pub performed : c.performed ≡ 0
  pub point : c.point ≡ 0
  pub taken : c.taken ≡ []

-- A side that does not know its peer yet: nothing was sent to it.
pub record AwaitsIts (P : ChunkPayloadData → Type 0) (initial id : ℕ) (a : Shown) (c : Course) : Type 0 where
  pub kept : Invariant c
  pub stands : Stands P initial id a.resets.generations a.streams a.resets.peer.in_progress c
  pub read_on : IsReadOn c
  pub unknown : a.resets.peer.last_completed ≡ None
  pub untouched : IsUntouched c
