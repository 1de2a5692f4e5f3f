use Rattle.std.proofs.Common.{◌∙◌}
use Rattle.pair_callers.proofs.QuestionSteps.{lost_same, lost_told}
use Rattle.pair_callers.proofs.running.is_lost.Goals as goal

pub returns-clause-lost : goal.returns-clause-lost
returns-clause-lost c =
    c.answer_of.ensures ∙ lost_told c.args.side c.step.result c.args.pair.now c.step.new.self c.step.ensures.exact

pub returns-clause-unchanged : goal.returns-clause-unchanged
returns-clause-unchanged c = lost_same c.args.side c.step.result c.args.pair.now c.step.new.self c.step.ensures.exact
