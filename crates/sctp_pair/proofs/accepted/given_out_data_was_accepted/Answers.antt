use Rattle.sctp_pair.proofs.FewInAll.{few_stay_few}
use Rattle.sctp_pair.proofs.GivenAndAccepted.{what_was_given_out_was_accepted}
use Rattle.sctp_pair.proofs.accepted.given_out_data_was_accepted.Goals as goal

pub returns-clause-given_out : goal.returns-clause-given_out
returns-clause-given_out c = what_was_given_out_was_accepted

pub returns-clause-few : goal.returns-clause-few
returns-clause-few c more answers p q led = few_stay_few more answers p q led
