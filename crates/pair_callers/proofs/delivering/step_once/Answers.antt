use Rattle.pair_callers.proofs.TakenAndAssigned.{acknowledged_on, assigned_on}
use Rattle.pair_callers.proofs.delivering.step_once.Goals as goal

pub returns-clause-acknowledged : goal.returns-clause-acknowledged
returns-clause-acknowledged c =
    acknowledged_on c.args.step.now c.step.result c.args.pair.now c.step.new.self c.step.ensures.headline

pub returns-clause-assigned : goal.returns-clause-assigned
returns-clause-assigned c =
    assigned_on c.args.step.now c.step.result c.args.pair.now c.step.new.self c.step.ensures.headline
