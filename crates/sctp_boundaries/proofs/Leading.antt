-- How a side goes on that talks to its peer, and one that meets it.
use Rattle.std.proofs.Common.{◌≡◌, ◌⊎◌, ℕ, Bool, true, List, Option}
use Rattle.sctp_wire_types.specs.declared.chunk.ChunkPayloadData.{ChunkPayloadData}
use Rattle.sctp_receive_queues.specs.Messages.{ReceivedMessage}
use Rattle.sctp_courses.specs.Course.{Course}
use Rattle.sctp_reset_fit.specs.Keeping.{GoesOn}
use Rattle.sctp_assoc.specs.Shown.{Shown}
use Rattle.sctp_sides.specs.Meeting.{Greets, IsNoEarlier, MayHear, Stage}
use Rattle.sctp_course_sides.specs.Meets.{Meets}
use Rattle.sctp_course_sides.specs.Turns.{Grows, IsFew, IsPresent}
use Rattle.sctp_boundaries.specs.Between.{IsSaid, OfEachDatagram, StandsAt}
use Rattle.sctp_boundaries.proofs.Led.{Moves}

-- A side that talks moves both courses, stands between them then, and what it gives out is said.
pub record SideTalks (P : ChunkPayloadData → Type 0) (own peer id : ℕ) (s : Stage) (x : Shown) (out coming : Course)
    (polls : Bool) (message : Option ReceivedMessage) (z : Shown) (given : List (List ℕ)) : Type 0 where
  pub moves : Moves P own peer id polls x message z out coming
  pub stage : Stage
  pub later : IsNoEarlier s stage
  pub stands : IsFew moves.out_after → IsFew moves.coming_after → IsPresent z
      → StandsAt P own peer id stage z moves.out_after moves.coming_after
  pub said : OfEachDatagram (IsSaid own peer id stage moves.out_after moves.coming_after) given

-- A side that meets its peer, which is in the stage t, sends nothing. What it gives out is of its handshake, and where
-- that establishes it the peer may hear it.
pub record SideMeets (P : ChunkPayloadData → Type 0) (own peer id : ℕ) (t s : Stage) (x : Shown) (out coming : Course)
    (polls : Bool) (message : Option ReceivedMessage) (z : Shown) (given : List (List ℕ)) : Type 0 where
  pub after : Course
  pub goes : GoesOn coming after
  pub grows : Grows P peer id message x coming.told after.told
  pub stage : Stage
  pub later : IsNoEarlier s stage
  pub completes : stage.completed ≡ true → (s.completed ≡ true) ⊎ MayHear t
  pub meets : IsPresent z → Meets P own peer id stage z out after
  pub greets : OfEachDatagram (Greets own stage) given
