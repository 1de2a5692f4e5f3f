use Rattle.pair_callers.proofs.FewAccepted.{runs_tell}
use Rattle.sctp_pair.proofs.AnsweredValues.{if_ok}
use Rattle.pair_callers.proofs.running.run_and_tell.Goals as goal

pub returns : goal.returns
returns c =
    if_ok c.run.result _ _ c.run.ensures.headline (λ replies h w fits. runs_tell c.args.steps.now replies.items w
    c.run.new.self (h w fits))
