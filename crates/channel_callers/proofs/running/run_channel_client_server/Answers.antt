use Rattle.std.proofs.Common.{subst}
use Rattle.sctp_steps.specs.Ends.{Ends}
use Rattle.sctp_pair.proofs.AnsweredValues.{if_ok}
use Rattle.channel_callers.specs.Telling.{LeadsFrom}
use Rattle.channel_callers.proofs.FewReceived.{refused_after}
use Rattle.channel_callers.proofs.running.run_channel_client_server.Goals as goal

pub returns-clause-led : goal.returns-clause-led
returns-clause-led c =
    if_ok c.run_new.result _ _ c.run_new.ensures.led (λ replies led.
    subst (λ (z : Ends). LeadsFrom c.args.id c.args.steps.now replies.items z) c.in_ok-pair.ensures.created led)

pub returns-clause-refused : goal.returns-clause-refused
returns-clause-refused c =
    refused_after c.run_new.result _ _ c.in_ok-pair.ensures.refused.0 c.in_ok-pair.ensures.refused.1
    c.run_new.ensures.refused

pub returns-clause-fronts : goal.returns-clause-fronts
returns-clause-fronts c =
    if_ok c.run_new.result _ _ c.run_new.ensures.fronts (λ replies hold.
    hold c.args.tsns.0 c.args.tsns.1 c.args.max_payload_size c.in_ok-pair.ensures.fits)
