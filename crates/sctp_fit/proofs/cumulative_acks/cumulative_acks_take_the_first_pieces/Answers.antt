use Rattle.sctp_fit.proofs.BlocksTaken.{sacks_take_what_they_name}
use Rattle.sctp_fit.proofs.CumulativeAcksTaken.{cumulative_acks_take_the_first_pieces}
use Rattle.sctp_fit.proofs.cumulative_acks.cumulative_acks_take_the_first_pieces.Goals as goal

pub returns-clause-first : goal.returns-clause-first
returns-clause-first c = cumulative_acks_take_the_first_pieces

pub returns-clause-blocks : goal.returns-clause-blocks
returns-clause-blocks c = sacks_take_what_they_name
