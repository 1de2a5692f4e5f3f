use Rattle.std.proofs.Common.{◌≡◌, Some}
use Rattle.std.specs.VecDeque.Iter.{deque_iter_rest}
use Rattle.sctp_receive_queues.specs.Pieces.{follows}
use Rattle.sctp_receive_queues.proofs.row.follow.Given as goal

abbrev pub invariant-loop-piece : goal.invariant-loop-piece
invariant-loop-piece l = follows (Some l.last) (deque_iter_rest l.piece-iterator)
    ≡ follows (Some l.fn.tsn) l.pieces.items
