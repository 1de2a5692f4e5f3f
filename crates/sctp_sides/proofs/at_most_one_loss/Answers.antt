use Rattle.sctp_sides.proofs.LossToldOnce.{losses_are_told_once}
use Rattle.sctp_sides.proofs.TimersOverRuns.{created_sides_are_fresh, joined_sides_are_fresh}
use Rattle.sctp_sides.proofs.at_most_one_loss.Goals as goal

pub returns-clause-created : goal.returns-clause-created
returns-clause-created c = created_sides_are_fresh

pub returns-clause-joined : goal.returns-clause-joined
returns-clause-joined c = joined_sides_are_fresh

pub returns-clause-told : goal.returns-clause-told
returns-clause-told c = losses_are_told_once
