use Rattle.sctp_fit.proofs.TailMarked.{abandonments_are_alike, tails_are_abandoned_alike}
use Rattle.sctp_fit.proofs.abandonments.abandonments_are_alike.Goals as goal

pub returns-clause-pieces : goal.returns-clause-pieces
returns-clause-pieces c = abandonments_are_alike

pub returns-clause-tails : goal.returns-clause-tails
returns-clause-tails c = tails_are_abandoned_alike
