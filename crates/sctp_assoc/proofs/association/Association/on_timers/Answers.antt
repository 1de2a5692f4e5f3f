use Rattle.sctp_outbound.proofs.SenderSteps.{on_err}
use Rattle.sctp_assoc.proofs.TimersTake.{giving_up_takes}
use Rattle.sctp_assoc.proofs.association.Association.on_timers.Goals as goal

pub returns-in_err-on_reconfig_timeout-clause-again : goal.returns-in_err-on_reconfig_timeout-clause-again
returns-in_err-on_reconfig_timeout-clause-again c =
    on_err c.from_residual-in_err-on_reconfig_timeout.result
    (giving_up_takes c.args.self.now c.on_t1_init.new.self c.on_t1_cookie.new.self c.on_t2_shutdown.new.self
    c.on_t3.new.self c.args.now c.in_ok-on_t1_init.ensures.exact c.in_ok-on_t1_cookie.ensures.exact
    c.on_t2_shutdown.ensures c.on_t3.ensures c.in_err-on_reconfig_timeout.ensures.grows)
