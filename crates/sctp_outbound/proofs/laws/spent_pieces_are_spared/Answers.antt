use Rattle.sctp_outbound.proofs.Spared.{spent_are_spared}
use Rattle.sctp_outbound.proofs.laws.spent_pieces_are_spared.Goals as goal

pub returns : goal.returns
returns c = spent_are_spared
