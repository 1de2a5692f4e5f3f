use Rattle.std.proofs.Common.{◌≡◌, subst, true}
use Rattle.sctp_driver.specs.Driving.{Driving}
use Rattle.sctp_driver.specs.Silence.{timing_out_takes_memory}
use Rattle.sctp_driver.proofs.Silenced.{timed_beside}
use Rattle.sctp_driver.proofs.driver.Driver.handle_timeout.Goals as goal

pub returns-clause-ok : goal.returns-clause-ok
returns-clause-ok c =
    timed_beside c.time_out.result (record {
      association = c.self.inside.association;
      own_tag = c.self.inside.own_tag;
      shutdown_limit = c.self.inside.shutdown_limit;
      waiting = c.self.inside.waiting.items;
      kept = c.self.inside.kept.items;
    }) c.args.self.now c.time_out.new.association c.args.now c.self.view_is c.time_out.ensures.ok

pub returns-clause-again : goal.returns-clause-again
returns-clause-again c lacks =
    subst (λ (d : Driving). timing_out_takes_memory d.association d.shutdown_limit c.args.now ≡ true) c.self.view_is
    (c.time_out.ensures.again lacks)
