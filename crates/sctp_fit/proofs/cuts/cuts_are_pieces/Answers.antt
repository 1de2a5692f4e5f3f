use Rattle.sctp_fit.proofs.CutsGiven.{cuts_give_the_pieces}
use Rattle.sctp_fit.proofs.cuts.cuts_are_pieces.Goals as goal

pub returns : goal.returns
returns c = record { cuts = cuts_give_the_pieces }
