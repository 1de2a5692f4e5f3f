use Rattle.pair_callers.proofs.ReadAcrossResets.{reads_anew}
use Rattle.pair_callers.proofs.resetting.read_across_resets.Goals as goal

pub returns : goal.returns
returns c =
    reads_anew c.args.id c.args.pair.now c.step.new.self c.step.result c.step.ensures.boundaries
