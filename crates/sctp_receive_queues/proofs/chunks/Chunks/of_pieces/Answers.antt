use Rattle.std.proofs.Common.{◌∙◌, sym}
use Rattle.sctp_receive_queues.proofs.BytesWaiting.{message_length}
use Rattle.sctp_receive_queues.proofs.chunks.Chunks.of_pieces.Goals as goal

pub invariant_of-result : goal.invariant_of-result
invariant_of-result c = c.requires ∙ sym (message_length c.args.pieces)
