use Rattle.sctp_reset_fit.specs.Laws.{Passes}
use Rattle.sctp_reset_fit.proofs.Proved.{messages_are_read, streams_are_read_out}
use Rattle.sctp_reset_fit.proofs.reads_follow_the_course.Goals as goal

pub returns-clause-message : goal.returns-clause-message
returns-clause-message c = λ test. messages_are_read (Passes test)

pub returns-clause-out : goal.returns-clause-out
returns-clause-out c = λ test. streams_are_read_out (Passes test)
