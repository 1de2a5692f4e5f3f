use Rattle.pair_callers.proofs.ReadyOrBuffered.{front_on, mixed_on, ready_on}
use Rattle.pair_callers.proofs.buffering.step_and_look.Goals as goal

pub returns-clause-ready : goal.returns-clause-ready
returns-clause-ready c = ready_on c.args.step.now c.step.result c.args.pair.now c.step.new.self c.step.ensures.headline

pub returns-clause-front : goal.returns-clause-front
returns-clause-front c = front_on c.args.step.now c.step.result c.args.pair.now c.step.new.self c.step.ensures.headline

pub returns-clause-mixed : goal.returns-clause-mixed
returns-clause-mixed c = mixed_on c.args.step.now c.step.result c.args.pair.now c.step.new.self c.step.ensures.headline
