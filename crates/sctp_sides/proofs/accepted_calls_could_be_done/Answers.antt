use Rattle.sctp_sides.proofs.Proved.{accepted_writes_fit, found_streams_are_live, opened_streams_were_not_live}
use Rattle.sctp_sides.proofs.accepted_calls_could_be_done.Goals as goal

pub returns-clause-found : goal.returns-clause-found
returns-clause-found c = found_streams_are_live

pub returns-clause-opened : goal.returns-clause-opened
returns-clause-opened c = opened_streams_were_not_live

pub returns-clause-written : goal.returns-clause-written
returns-clause-written c = accepted_writes_fit
