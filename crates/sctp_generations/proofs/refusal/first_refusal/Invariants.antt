use Rattle.std.proofs.Common.{◌≡◌}
use Rattle.std.specs.VecDeque.{deque_len}
use Rattle.sctp_receive_queues.specs.Reassembly.{empty_reassembly}
use Rattle.sctp_generations.specs.Refusals.{first_refusal}
use Rattle.sctp_generations.proofs.refusal.first_refusal.Given as goal

abbrev pub invariant-loop-piece : goal.invariant-loop-piece
invariant-loop-piece l =
    first_refusal l.queue l.pieces.items l.fn.limit ≡ first_refusal empty_reassembly l.fn.pieces.items l.fn.limit

abbrev pub decreases-loop-piece : goal.decreases-loop-piece
decreases-loop-piece l = deque_len l.pieces
