use Rattle.sctp_model.proofs.OffsetSets.{reach_from, reach_below, reach_stops, sack_named, sack_names}
use Rattle.sctp_model.proofs.sacks_are_exact.Goals as goal

pub returns-clause-reach : goal.returns-clause-reach
returns-clause-reach c r = (reach_below r, reach_from r, reach_stops r)

pub returns-clause-sack : goal.returns-clause-sack
returns-clause-sack c r o = (sack_named r o, sack_names r o)
