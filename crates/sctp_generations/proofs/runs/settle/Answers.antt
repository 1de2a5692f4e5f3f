use Rattle.std.proofs.Common.{◌∙◌}
use Rattle.sctp_generations.proofs.TsnSets.{has_next}
use Rattle.sctp_generations.proofs.runs.settle.Goals as goal

pub loop-tsn-preserved : goal.loop-tsn-preserved
loop-tsn-preserved c tsn =
    has_next tsn c.loop-tsn.whole.keys c.insert.new.self.keys c.args.undecided.now c.loop-tsn.tsn-index _
    c.loop-tsn-test.true (c.in_ok-insert.ensures.updates.0 tsn)
    ∙ c.loop-tsn.invariant tsn
