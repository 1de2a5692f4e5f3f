use Rattle.sctp_outbound_queue.proofs.PiecesCut.{is_cut}
use Rattle.sctp_outbound_queue.proofs.laws.pieces_are_the_bytes.Goals as goal

pub returns : goal.returns
returns c = is_cut
