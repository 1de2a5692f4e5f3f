use Rattle.std.proofs.Common.{subst}
use Rattle.channel_pair.specs.Shapes.{Shape}
use Rattle.channel_pair.specs.Steps.{RunsAll}
use Rattle.channel_callers.proofs.FewReceived.{hold_from_new, if_both_ok}
use Rattle.channel_callers.proofs.running.run_new.Goals as goal

pub returns-clause-led : goal.returns-clause-led
returns-clause-led c =
    if_both_ok c.run.result c.run.ensures.ok c.run.ensures.ok (λ replies led again. (
      c.run.new.self,
      subst (λ (p : Shape). RunsAll c.args.steps.now replies.items p c.run.new.self) c.new-pair.ensures.made led,
    ))

pub returns-clause-fronts : goal.returns-clause-fronts
returns-clause-fronts c =
    if_both_ok c.run.result c.run.ensures.ok c.run.ensures.headline (λ replies led leads.
    hold_from_new c.args.steps.now replies.items c.new-pair.result c.run.new.self led c.args.pair
    c.new-pair.ensures.new leads)
