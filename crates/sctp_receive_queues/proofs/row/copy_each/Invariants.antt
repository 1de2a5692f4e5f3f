use Rattle.std.proofs.Common.{◌≡◌, ◌≤◌, ◌+◌, ◌++◌, take, drop, length}
use Rattle.std.specs.VecDeque.Iter.{deque_iter_rest}
use Rattle.sctp_receive_queues.specs.Messages.{joined}
use Rattle.sctp_receive_queues.proofs.row.copy_each.Given as goal

-- the bytes that were copied stand in front, and with those of the pieces to come over the bytes behind them the buffer
-- would be as it is to be
abbrev pub invariant-loop-piece : goal.invariant-loop-piece
invariant-loop-piece l =
    let rest = joined (deque_iter_rest l.piece-iterator) in record {
      room : l.copied + length rest ≤ length l.buffer;
      copied : take l.copied l.buffer ++ rest ++ drop (l.copied + length rest) l.buffer
          ≡ joined l.pieces.items ++ drop (length (joined l.pieces.items)) l.fn.buffer;
    }
