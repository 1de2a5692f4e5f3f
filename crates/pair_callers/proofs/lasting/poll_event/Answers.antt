use Rattle.pair_callers.proofs.LastingFacts.{polls_end_no_span, polls_pass_nothing}
use Rattle.pair_callers.proofs.lasting.poll_event.Goals as goal

pub returns-clause-span : goal.returns-clause-span
returns-clause-span c =
    polls_end_no_span c.args.side c.step.result c.args.pair.now c.step.new.self c.step.ensures.headline

pub returns-clause-passed : goal.returns-clause-passed
returns-clause-passed c =
    polls_pass_nothing c.args.side c.step.result c.args.pair.now c.step.new.self c.step.ensures.headline
