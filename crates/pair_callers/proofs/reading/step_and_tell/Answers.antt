use Rattle.pair_callers.proofs.ReadMessages.{numbered}
use Rattle.pair_callers.proofs.reading.step_and_tell.Goals as goal

pub returns-clause-numbered : goal.returns-clause-numbered
returns-clause-numbered c =
    numbered c.args.step.now c.step.result c.args.pair.now c.step.new.self c.step.ensures.headline
