use Rattle.std.proofs.Common.{◌∙◌}
use Rattle.sctp_generations.specs.Skips.{with_id}
use Rattle.sctp_generations.proofs.Walks.{fold_step}
use Rattle.sctp_generations.proofs.skips.ids_of.Goals as goal

pub loop-skip-preserved : goal.loop-skip-preserved
loop-skip-preserved c =
    rw c.in_ok-insert.ensures.keys
    (fold_step with_id c.loop-skip.ids.keys c.args.skips.now c.loop-skip.skip-index _ c.loop-skip-test.true
    ∙ c.loop-skip.invariant)
