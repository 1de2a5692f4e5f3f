use Rattle.pair_callers.proofs.QuestionSteps.{as_many_replies}
use Rattle.sctp_pair.proofs.AnsweredValues.{if_ok}
use Rattle.pair_callers.proofs.running.try_to_run.Goals as goal

pub returns-clause-each : goal.returns-clause-each
returns-clause-each c =
    if_ok c.run.result _ _ c.run.ensures.ok (λ replies h. as_many_replies c.args.steps.now replies.items
    c.args.pair.now c.run.new.self h)
