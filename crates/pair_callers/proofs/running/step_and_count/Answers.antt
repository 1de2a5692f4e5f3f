use Rattle.pair_callers.proofs.FewAccepted.{steps_tell}
use Rattle.pair_callers.proofs.running.step_and_count.Goals as goal

pub returns : goal.returns
returns c = steps_tell c.args.step.now c.step.result c.args.pair.now c.step.new.self c.step.ensures.counted
