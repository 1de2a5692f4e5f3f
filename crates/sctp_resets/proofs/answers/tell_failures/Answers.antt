use Rattle.std.proofs.Common.{◌∙◌}
use Rattle.sctp_generations.proofs.Walks.{fold_step}
use Rattle.sctp_resets.specs.Answers.{failure_told}
use Rattle.sctp_resets.proofs.answers.tell_failures.Goals as goal

pub loop-id-preserved : goal.loop-id-preserved
loop-id-preserved c =
    rw c.in_ok-tell_failure.ensures
    (fold_step (failure_told c.args.debts.now c.args.streams.now) c.loop-id.events c.args.ids.now c.loop-id.id-index _
    c.loop-id-test.true
    ∙ c.loop-id.invariant)
