use Rattle.pair_callers.proofs.FewAccepted.{runs_count}
use Rattle.sctp_pair.proofs.AnsweredValues.{if_ok}
use Rattle.pair_callers.proofs.running.run_and_count.Goals as goal

pub returns : goal.returns
returns c =
    if_ok c.run.result _ _ c.run.ensures.counted (λ replies h t w fits.
    runs_count c.args.steps.now replies.items w t c.args.pair.now c.run.new.self (h t w fits))
