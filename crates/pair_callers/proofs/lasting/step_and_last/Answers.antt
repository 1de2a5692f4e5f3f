use Rattle.pair_callers.proofs.LastingFacts.{closed_on, over_on, receives_on, reliable_on}
use Rattle.pair_callers.proofs.lasting.step_and_last.Goals as goal

pub returns-clause-reliable : goal.returns-clause-reliable
returns-clause-reliable c =
    reliable_on c.args.step.now c.step.result c.args.pair.now c.step.new.self c.step.ensures.headline

pub returns-clause-receives : goal.returns-clause-receives
returns-clause-receives c =
    receives_on c.args.step.now c.step.result c.args.pair.now c.step.new.self c.step.ensures.headline

pub returns-clause-over : goal.returns-clause-over
returns-clause-over c = over_on c.args.step.now c.step.result c.args.pair.now c.step.new.self c.step.ensures.headline

pub returns-clause-closed : goal.returns-clause-closed
returns-clause-closed c =
    closed_on c.args.step.now c.step.result c.args.pair.now c.step.new.self c.step.ensures.headline
