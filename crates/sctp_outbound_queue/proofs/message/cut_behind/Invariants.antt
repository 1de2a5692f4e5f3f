use Rattle.std.proofs.Common.{length}
use Rattle.sctp_outbound_queue.proofs.PiecesCut.{IsCutSoFar}
use Rattle.sctp_outbound_queue.proofs.message.cut_behind.Given as goal

abbrev pub invariant-pieces : goal.invariant-pieces
invariant-pieces l = IsCutSoFar l.size l.fn.bytes l.rest.items l.left

abbrev pub decreases-pieces : goal.decreases-pieces
decreases-pieces l = length l.left
