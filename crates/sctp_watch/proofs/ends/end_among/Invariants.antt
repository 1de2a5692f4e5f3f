use Rattle.std.proofs.Common.{length}
use Rattle.sctp_wire.specs.Chunks.{chunks_at}
use Rattle.sctp_watch.proofs.FirstEnds.{Left}
use Rattle.sctp_watch.proofs.ends.end_among.Given as goal

abbrev pub invariant-chunks : goal.invariant-chunks
invariant-chunks l = Left (chunks_at l.fn.chunks) l.otherwise (chunks_at l.rest)

abbrev pub decreases-chunks : goal.decreases-chunks
decreases-chunks l = length l.rest
