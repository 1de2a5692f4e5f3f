use Rattle.std.proofs.Common.{arith}
use Rattle.std.proofs.lemmas.List.Edits.{map_over_more}
use Rattle.sctp_outbound_queue.specs.Message.{sent_started}
use Rattle.sctp_outbound_queue.proofs.walks.start_each_sent.Goals as goal

pub loop-piece-preserved : goal.loop-piece-preserved
loop-piece-preserved c =
    rw (c.start.ensures, ← c.piece-item.is)
    (map_over_more (sent_started c.args.now) c.args.pieces.now c.loop-piece.pieces c.loop-piece.piece-index
    c.piece-item.result
    (omega arith) c.loop-piece.invariant c.piece-item.is)
