use Rattle.sctp_fit.proofs.MessageDropped.{drops_are_alike}
use Rattle.sctp_fit.proofs.drops.drops_are_alike.Goals as goal

pub returns : goal.returns
returns c = drops_are_alike
