use Rattle.sctp_fit.proofs.MessagesAccepted.{writes_are_accepted}
use Rattle.sctp_fit.proofs.NothingToSend.{fresh_ones_fit, opened_streams_send_nothing}
use Rattle.sctp_fit.proofs.writes.writes_are_accepted.Goals as goal

pub returns-clause-writes : goal.returns-clause-writes
returns-clause-writes c = writes_are_accepted

pub returns-clause-opened : goal.returns-clause-opened
returns-clause-opened c = opened_streams_send_nothing

pub returns-clause-fresh : goal.returns-clause-fresh
returns-clause-fresh c = fresh_ones_fit
