-- A side that meets its peer, before either is established: nothing was sent on streams, and a stream's courses are
-- those in which nothing happened but at their receivers (RFC 4960 section 5.1).
use Rattle.std.specs.Prelude.{◌≡◌, ◌⊎◌, ◌<◌, ◌^◌, ⊤, ℕ, true, false, is_some}
use Rattle.sctp_wire_types.specs.declared.chunk.Chunk.{Chunk}
use Rattle.sctp_wire_types.specs.declared.chunk.Chunk.TheVariants as chunks
use Rattle.sctp_wire_types.specs.declared.chunk.ChunkPayloadData.{ChunkPayloadData}
use Rattle.sctp_courses.specs.Course.{Course}
use Rattle.sctp_directions.specs.Acts.{History}
use Rattle.sctp_assoc.specs.Leads.{Binds}
use Rattle.sctp_assoc.specs.Shown.{Shown}
use Rattle.sctp_sides.specs.Meeting.{Greets, HasCome, IsTruthful, Stage, stage_of}
use Rattle.sctp_sides.specs.NoReset.{HasNoReset}
use Rattle.sctp_course_sides.specs.Follows.{AwaitsIts, Follows}
use Rattle.sctp_course_sides.specs.Sends.{Sends}

-- The handshake of a side, whose initial TSN is own, is in this stage, and what waits to go out of it is so.
pub record IsAtStage (own : ℕ) (s : Stage) (x : Shown) : Type 0 where
  pub stage : stage_of x ≡ s
  pub come : HasCome x
  pub truthful : IsTruthful own x

-- What a chunk says of the handshake of the side that gives it out is so. DATA, SACK, FORWARD TSN and RE-CONFIG say
-- nothing of it.
abbrev pub SpeaksOfStage : ℕ → Stage → Chunk → Type 0
SpeaksOfStage own s (chunks.Data piece) = ⊤
SpeaksOfStage own s (chunks.SelectiveAck sack) = ⊤
SpeaksOfStage own s (chunks.ForwardTsn forward) = ⊤
SpeaksOfStage own s (chunks.IForwardTsn forward) = ⊤
SpeaksOfStage own s (chunks.Reconfig reconfig) = ⊤
SpeaksOfStage own s chunk = Greets own s chunk

-- A side that knows its peer's initial TSN follows the course of a stream, and one that does not awaits it.
abbrev pub FollowsOrAwaits : (ChunkPayloadData → Type 0) → ℕ → ℕ → Shown → Course → Type 0
FollowsOrAwaits P initial id x c =
    ((is_some x.handshake.peer_initial_tsn ≡ true) × (h : History) × Follows P initial id x h c)
    ⊎ ((is_some x.handshake.peer_initial_tsn ≡ false) × AwaitsIts P initial id x c)

-- It sends by its own course, follows the other one or awaits it, and no reset of a stream is under way.
pub record Meets (P : ChunkPayloadData → Type 0) (own peer id : ℕ) (s : Stage) (x : Shown) (out coming : Course)
    : Type 0 where
  pub at : IsAtStage own s x
  pub small : peer < 2 ^ 32
  pub sent : History
  pub sent_binds : Binds x sent
  pub sends : Sends own id x sent out
  pub receives : FollowsOrAwaits P peer id x coming
  pub no_reset : HasNoReset x
