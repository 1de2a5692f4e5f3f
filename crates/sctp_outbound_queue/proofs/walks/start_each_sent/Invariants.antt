use Rattle.std.proofs.Common.{◌≡◌, ◌++◌, map, take, drop}
use Rattle.sctp_outbound_queue.specs.Message.{sent_started}
use Rattle.sctp_outbound_queue.proofs.walks.start_each_sent.Given as goal

abbrev pub invariant-loop-piece : goal.invariant-loop-piece
invariant-loop-piece l =
    l.pieces ≡ map (sent_started l.now) (take l.piece-index l.fn.pieces) ++ drop l.piece-index l.fn.pieces
