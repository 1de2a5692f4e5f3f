use Rattle.sctp_reset_requests.proofs.Repeats.{are_known, asked_ends_none, stay_completed}
use Rattle.sctp_reset_requests.proofs.laws.completed_requests_are_known.Goals as goal

pub returns : goal.returns
returns c = record { stay = stay_completed; known = are_known; none_ended = asked_ends_none }
