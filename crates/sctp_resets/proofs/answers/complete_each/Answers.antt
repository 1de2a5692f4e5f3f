use Rattle.std.proofs.Common.{◌∙◌}
use Rattle.sctp_generations.proofs.Walks.{fold_step}
use Rattle.sctp_resets.specs.Answers.{answering, completed_one}
use Rattle.sctp_resets.proofs.answers.complete_each.Goals as goal

pub loop-id-preserved : goal.loop-id-preserved
loop-id-preserved c =
    rw c.in_ok-complete.ensures
    (fold_step (completed_one c.args.by_rfcs) (answering c.loop-id.debts c.loop-id.streams c.loop-id.events)
    c.args.ids.now c.loop-id.id-index _ c.loop-id-test.true
    ∙ c.loop-id.invariant)
