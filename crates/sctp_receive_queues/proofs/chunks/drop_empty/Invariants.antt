use Rattle.std.proofs.Common.{◌≡◌, length}
use Rattle.sctp_receive_queues.specs.Messages.{filled}
use Rattle.sctp_receive_queues.proofs.chunks.drop_empty.Given as goal

abbrev pub invariant-loop-pieces : goal.invariant-loop-pieces
invariant-loop-pieces l = filled l.pieces ≡ filled l.fn.pieces

abbrev pub decreases-loop-pieces : goal.decreases-loop-pieces
decreases-loop-pieces l = length l.pieces
