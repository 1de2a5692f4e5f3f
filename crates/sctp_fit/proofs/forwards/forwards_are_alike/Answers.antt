use Rattle.sctp_fit.proofs.ForwardTaken.{forwards_that_come_are_taken}
use Rattle.sctp_fit.proofs.ForwardTold.{pairs_tell_the_last}
use Rattle.sctp_fit.proofs.FrontAlike.{forwards_say_the_same}
use Rattle.sctp_fit.proofs.forwards.forwards_are_alike.Goals as goal

pub returns-clause-made : goal.returns-clause-made
returns-clause-made c = forwards_say_the_same

pub returns-clause-told : goal.returns-clause-told
returns-clause-told c = pairs_tell_the_last

pub returns-clause-taken : goal.returns-clause-taken
returns-clause-taken c = forwards_that_come_are_taken
