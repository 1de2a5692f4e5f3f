use Rattle.sctp_directions.proofs.Proved.{events_keep_the_limits, fresh_directions_are_within}
use Rattle.sctp_directions.proofs.directions_stay_within.Goals as goal

pub returns-clause-fresh : goal.returns-clause-fresh
returns-clause-fresh c = fresh_directions_are_within

pub returns-clause-limits : goal.returns-clause-limits
returns-clause-limits c = events_keep_the_limits
