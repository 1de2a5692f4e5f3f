use Rattle.std.proofs.Common.{◌∙◌}
use Rattle.sctp_generations.proofs.Walks.{fold_step}
use Rattle.sctp_resets.specs.Answers.{failed_one}
use Rattle.sctp_resets.proofs.answers.fail_each.Goals as goal

pub loop-id-preserved : goal.loop-id-preserved
loop-id-preserved c =
    rw c.in_ok-fail.ensures
    (fold_step (failed_one c.args.reason) (c.loop-id.debts, c.loop-id.events) c.args.ids.now c.loop-id.id-index _
    c.loop-id-test.true
    ∙ c.loop-id.invariant)
