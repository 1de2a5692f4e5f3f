-- A stream between two associations that exchange datagrams, and its courses in both directions.
use Rattle.std.specs.Prelude.{◌≡◌, ◌⊎◌, ℕ, true, false, List, [], slice_get, Option, Some, None}
use Rattle.std.specs.List.{AllByRecursion}
use Rattle.sctp_wire_types.specs.declared.chunk.Chunk.{Chunk}
use Rattle.sctp_wire_types.specs.declared.chunk.Chunk.TheVariants as chunks
use Rattle.sctp_wire_types.specs.declared.chunk.ChunkPayloadData.{ChunkPayloadData}
use Rattle.sctp_wire_types.specs.declared.ids.Side.TheVariants as sides
use Rattle.sctp_wire.specs.declared.packet.Packet.{Packet}
use Rattle.sctp_courses.specs.Course.{Course}
use Rattle.sctp_courses.specs.Invariants.{Invariant}
use Rattle.sctp_directions.specs.Acts.{History}
use Rattle.sctp_assoc.specs.Leads.{Binds}
use Rattle.sctp_assoc.specs.Replies.{packet_in}
use Rattle.sctp_assoc.specs.Shown.{Shown}
use Rattle.sctp_sides.specs.Meeting.{Greets, IsDoneAmongClients, MayHear, Stage}
use Rattle.sctp_sides.specs.SideLaws.{OfEachChunk}
use Rattle.sctp_course_sides.specs.Answers.{AnswersTruly}
use Rattle.sctp_course_sides.specs.Follows.{ChunkComes, Follows}
use Rattle.sctp_course_sides.specs.Honest.{IsHonest}
use Rattle.sctp_course_sides.specs.Meets.{IsAtStage, Meets, SpeaksOfStage}
use Rattle.sctp_course_sides.specs.Over.{IsOver}
use Rattle.sctp_course_sides.specs.Sends.{Sends}
use Rattle.sctp_course_sides.specs.Spelled.{WaitsBeside}
use Rattle.sctp_course_sides.specs.Turns.{IsFew, IsPresent}
use Rattle.sctp_steps.specs.Ends.{Ends}

-- what was sent on the stream from A to B, and from B to A
pub record Courses : Type 0 where
  pub ab : Course
  pub ba : Course

-- both have fewer requests and offsets than numbers of 32 bits tell apart
abbrev pub AreFew : Courses → Type 0
AreFew w = IsFew w.ab × IsFew w.ba

-- there is a packet, and it has this piece for DATA
abbrev pub HasPiece : Option Packet → ChunkPayloadData → Type 0
HasPiece None piece = ⊥
HasPiece (Some packet) piece = (k : ℕ) × (slice_get packet.chunks k ≡ Some (chunks.Data piece))

-- a piece is DATA of one of these packets
abbrev pub IsGivenOut : List (List ℕ) → ChunkPayloadData → Type 0
IsGivenOut packets piece = (number : ℕ) × (bytes : List ℕ) × (slice_get packets number ≡ Some bytes)
    × HasPiece (packet_in bytes) piece

-- A side that is present sends by the one course and follows the other, and what it answers is true of that. What it
-- holds of the stream are pieces of which P is so. What else waits to go out says nothing of what it sends, and what
-- it says of the side's handshake is so.
pub record StandsAt (P : ChunkPayloadData → Type 0) (own peer id : ℕ) (s : Stage) (x : Shown) (out coming : Course)
    : Type 0 where
  pub at : IsAtStage own s x
  pub sent : History
  pub sent_binds : Binds x sent
  pub sends : Sends own id x sent out
  pub came : History
  pub follows : Follows P peer id x came coming
  pub answers : AnswersTruly peer x coming
  pub beside : WaitsBeside x

-- It failed, or it was lost and nothing of it is left.
abbrev pub IsGone : Shown → Type 0
IsGone x = (x.failed ≡ true) ⊎ IsOver x

abbrev pub IsPresentOrGone : Shown → Type 0
IsPresentOrGone x = IsPresent x ⊎ IsGone x

-- Each chunk of what these datagrams spell, if anything, is so.
abbrev pub OfEachDatagram : (Chunk → Type 0) → List (List ℕ) → Type 0
OfEachDatagram Is packets = AllByRecursion (λ (bytes : List ℕ). OfEachChunk Is (packet_in bytes)) packets

-- What a chunk says of DATA and of requests is of the sender's course, what it says of the other one is true, and what
-- it says of the sender's handshake is so.
abbrev pub IsSaid : ℕ → ℕ → ℕ → Stage → Course → Course → Chunk → Type 0
IsSaid own peer id s out coming chunk =
    ChunkComes own id out chunk × IsHonest peer coming chunk × SpeaksOfStage own s chunk

-- nothing was sent: no offset was assigned, and no request was asked for
abbrev pub IsUnsent : Course → Type 0
IsUnsent c = (c.asked ≡ []) × (c.assigned ≡ 0)

-- Two sides that meet: neither was established by its handshake, which is in the stages s and t (RFC 4960 section 5.1).
-- Nothing was sent on the stream in either direction, and their datagrams spell their handshakes alone. Not both are
-- clients.
pub record AreMeeting (own peer id : ℕ) (s t : Stage) (x y : Shown) (of_x of_y : List (List ℕ)) (out coming : Course)
    : Type 0 where
  pub never_x : s.completed ≡ false
  pub never_y : t.completed ≡ false
  pub no_clients : s.side ≡ sides.Client → t.side ≡ sides.Client → ⊥
  pub unsent_out : IsUnsent out
  pub unsent_coming : IsUnsent coming
  pub at_x : IsPresent x → Meets (IsGivenOut of_y) own peer id s x out coming
  pub at_y : IsPresent y → Meets (IsGivenOut of_x) peer own id t y coming out
  pub greets_x : OfEachDatagram (Greets own s) of_x
  pub greets_y : OfEachDatagram (Greets peer t) of_y

-- Two sides that talk: each may hear the other, and what a side that is present holds of the stream is DATA that the
-- other one gave out.
pub record AreTalking (own peer id : ℕ) (s t : Stage) (x y : Shown) (of_x of_y : List (List ℕ)) (out coming : Course)
    : Type 0 where
  pub hears_x : MayHear s
  pub hears_y : MayHear t
  pub one_x : IsDoneAmongClients s t
  pub one_y : IsDoneAmongClients t s
  pub at_x : IsPresent x → StandsAt (IsGivenOut of_y) own peer id s x out coming
  pub at_y : IsPresent y → StandsAt (IsGivenOut of_x) peer own id t y coming out
  pub said_x : OfEachDatagram (IsSaid own peer id s out coming) of_x
  pub said_y : OfEachDatagram (IsSaid peer own id t coming out) of_y

-- Two sides x and y, with their initial TSNs and all datagrams that they gave out, stand between the courses of a
-- stream: they are meeting, or they talk. A side may have failed, or be lost.
pub record Stand (own peer id : ℕ) (x y : Shown) (of_x of_y : List (List ℕ)) (out coming : Course) : Type 0 where
  pub kept_out : Invariant out
  pub kept_coming : Invariant coming
  pub here_x : IsPresentOrGone x
  pub here_y : IsPresentOrGone y
  pub stage_x : Stage
  pub stage_y : Stage
  pub between : AreMeeting own peer id stage_x stage_y x y of_x of_y out coming
      ⊎ AreTalking own peer id stage_x stage_y x y of_x of_y out coming

-- The two sides of a pair do.
abbrev pub StandBetween : ℕ → ℕ → ℕ → Ends → Courses → Type 0
StandBetween own_a own_b id p w = Stand own_a own_b id p.a p.b p.packets_a p.packets_b w.ab w.ba
