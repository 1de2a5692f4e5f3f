-- What a receiver does leads the course of a stream on, and it follows that.
use Rattle.std.specs.Prelude.{◌≡◌, ⊤, ℕ, false, List, Option, Some, None}
use Rattle.std.specs.List.{AllByRecursion}
use Rattle.sctp_wire_types.specs.declared.chunk.ChunkPayloadData.{ChunkPayloadData}
use Rattle.sctp_wire_types.specs.declared.chunk.Chunk.{Chunk}
use Rattle.sctp_wire_types.specs.declared.chunk.Chunk.TheVariants as chunks
use Rattle.sctp_wire.specs.declared.packet.Packet.{Packet}
use Rattle.sctp_courses.specs.Course.{Course}
use Rattle.sctp_reset_fit.specs.Keeping.{GoesOn}
use Rattle.sctp_directions.specs.Acts.{History}
use Rattle.sctp_assoc.specs.Shown.{Shown}
use Rattle.sctp_course_sides.specs.Follows.{ChunkComes, Follows}

-- The course goes on to one that the side follows, with what came until then; nothing is read.
pub record LeadsFollowing (P : ChunkPayloadData → Type 0) (initial id : ℕ) (b : Shown) (c : Course) : Type 0 where
  pub after : Course
  pub past : History
  pub goes : GoesOn c after
  pub told : after.told ≡ c.told
  pub follows : Follows P initial id b past after

-- So it does unless the association was lost.
pub record LeadsUnlessLost (P : ChunkPayloadData → Type 0) (initial id : ℕ) (b : Shown) (c : Course) : Type 0 where
  pub after : Course
  pub goes : GoesOn c after
  pub told : after.told ≡ c.told
  pub follows : b.lost ≡ false → (past : History) × Follows P initial id b past after

-- a chunk tells no initial TSN: it is neither INIT nor INIT ACK
abbrev pub IsNoGreeting : Chunk → Type 0
IsNoGreeting (chunks.Init init) = ⊥
IsNoGreeting (chunks.InitAck init) = ⊥
IsNoGreeting chunk = ⊤

-- each of these chunks is of the course's sender, and begins no association
abbrev pub ChunksCome : ℕ → ℕ → Course → List Chunk → Type 0
ChunksCome initial id c all = AllByRecursion (λ (chunk : Chunk). ChunkComes initial id c chunk × IsNoGreeting chunk) all

-- so is each of a packet, if there is one
abbrev pub PacketComes : ℕ → ℕ → Course → Option Packet → Type 0
PacketComes initial id c None = ⊤
PacketComes initial id c (Some packet) = ChunksCome initial id c packet.chunks
