use Rattle.sctp_reset_fit.specs.Laws.{Passes}
use Rattle.sctp_reset_fit.proofs.Proved.{requests_are_performed}
use Rattle.sctp_reset_fit.proofs.performed_requests_follow_the_course.Goals as goal

pub returns : goal.returns
returns c = record { performed = λ test. requests_are_performed (Passes test) }
