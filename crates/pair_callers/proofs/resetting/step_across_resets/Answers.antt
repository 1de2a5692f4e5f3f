use Rattle.pair_callers.proofs.ReadAcrossResets.{parts_once_more}
use Rattle.pair_callers.proofs.resetting.step_across_resets.Goals as goal

pub returns : goal.returns
returns c =
    parts_once_more c.args.step.now c.args.pair.now c.step.result c.step.new.self c.step.ensures.boundaries
