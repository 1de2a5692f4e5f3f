-- A side that follows the course of a stream, where something is so of each piece that it holds, follows it with all
-- that follows from that.
use Rattle.std.proofs.Common.{ℕ}
use Rattle.sctp_wire_types.specs.declared.chunk.ChunkPayloadData.{ChunkPayloadData}
use Rattle.sctp_courses.specs.Course.{Course}
use Rattle.sctp_reset_fit.proofs.Weaker.{beside_weaker}
use Rattle.sctp_directions.specs.Acts.{History}
use Rattle.sctp_assoc.specs.Shown.{Shown}
use Rattle.sctp_course_sides.specs.Follows.{Follows}

pub follows_weaker : (P Q : ChunkPayloadData → Type 0) (weaker : (x : ChunkPayloadData) → P x → Q x) (initial id : ℕ)
    (a : Shown) (h : History) (c : Course) → Follows P initial id a h c → Follows Q initial id a h c
follows_weaker P Q weaker initial id a h c f = record {
  small = f.small;
  few = f.few;
  binds = f.binds;
  stands = beside_weaker P Q weaker initial id a.resets a.streams c f.stands;
  reached = f.reached;
}
