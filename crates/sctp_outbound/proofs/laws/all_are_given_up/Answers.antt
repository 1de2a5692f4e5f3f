use Rattle.sctp_outbound.proofs.NoneLeft.{none_is_left}
use Rattle.sctp_outbound.proofs.laws.all_are_given_up.Goals as goal

pub returns : goal.returns
returns c = none_is_left
