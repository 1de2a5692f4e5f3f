use Rattle.sctp_driver.proofs.TimersMet.{met_then, takes_memory_then}
use Rattle.sctp_driver.proofs.lending.meet_timers.Goals as goal

pub returns-clause-ok : goal.returns-clause-ok
returns-clause-ok c =
    met_then c.args.association.now c.from_nanos.result c.args.now c.from_nanos.ensures c.handle_timeout.result
    c.handle_timeout.new.self c.handle_timeout.ensures.ok

pub returns-clause-again : goal.returns-clause-again
returns-clause-again c lacks =
    takes_memory_then c.args.association.now c.from_nanos.result c.args.now c.from_nanos.ensures
    (c.handle_timeout.ensures.again lacks)
