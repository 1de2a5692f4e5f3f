use Rattle.sctp_fit.proofs.PlacesCounted.{few_pieces_stay_within}
use Rattle.sctp_fit.proofs.few_pieces.few_pieces_stay_within.Goals as goal

pub returns : goal.returns
returns c = record { within = few_pieces_stay_within }
