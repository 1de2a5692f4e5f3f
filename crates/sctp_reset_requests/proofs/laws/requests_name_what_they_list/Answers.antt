use Rattle.sctp_reset_requests.proofs.Sets.{those_listed}
use Rattle.sctp_reset_requests.proofs.laws.requests_name_what_they_list.Goals as goal

pub returns : goal.returns
returns c = those_listed
