-- What is promised of one side and the courses of streams, where its peer sends by them.
use Rattle.std.specs.Prelude.{◌<◌, ◌^◌, ℕ, List, Option}
use Rattle.std.specs.declared.net.ip_addr.IpAddr.{IpAddr}
use Rattle.std.specs.declared.net.socket_addr.SocketAddr.{SocketAddr}
use Rattle.sctp_wire_types.specs.declared.chunk.ChunkPayloadData.{ChunkPayloadData}
use Rattle.sctp_wire_types.specs.declared.chunk.ChunkInit.{ChunkInit}
use Rattle.sctp_wire_types.specs.Config.{Settings}
use Rattle.sctp_courses.specs.Course.{Course, fresh_course}
use Rattle.sctp_directions.specs.Acts.{History}
use Rattle.sctp_assoc.specs.Created.{joined}
use Rattle.sctp_assoc.specs.Shown.{Shown}
use Rattle.sctp_course_sides.specs.Follows.{Follows}
use Rattle.sctp_course_sides.specs.Turns.{KeepsAlong, Turn}

-- A side that follows the course of a stream keeps its boundaries, over every list of calls and whatever the peer sends
-- by the course between them. Where P is so of each DATA that comes, it is so of all that messages are made of.
abbrev pub OneSideKeepsBoundaries : (ChunkPayloadData → Type 0) → Type 0
OneSideKeepsBoundaries P =
    (initial id : ℕ) (turns : List Turn) (a : Shown) (h : History) (c : Course) → Follows P initial id a h c
    → KeepsAlong P initial id turns a c

-- So does a side that two tokens joined, for every stream of its peer and from the course in which nothing happened.
abbrev pub JoinedSidesKeepBoundaries : (ChunkPayloadData → Type 0) → Type 0
JoinedSidesKeepBoundaries P =
    (config : Settings) (size : ℕ) (remote_addr : SocketAddr) (local_ip : Option IpAddr) (own peer : ChunkInit)
    (id : ℕ) (turns : List Turn) → own.initial_tsn < 2 ^ 32 → peer.initial_tsn < 2 ^ 32
    → KeepsAlong P peer.initial_tsn id turns (joined config size remote_addr local_ip own peer) fresh_course
