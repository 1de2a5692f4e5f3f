use Rattle.std.proofs.Common.{◌∙◌}
use Rattle.sctp_generations.proofs.Walks.{fold_step}
use Rattle.sctp_resets.specs.Performing.{end_told}
use Rattle.sctp_resets.proofs.performing.tell_ends.Goals as goal

pub loop-id-preserved : goal.loop-id-preserved
loop-id-preserved c =
    rw c.in_ok-tell_end.ensures
    (fold_step (end_told c.args.own.now) (c.loop-id.debts, c.loop-id.events) c.args.named.now c.loop-id.id-index _
    c.loop-id-test.true
    ∙ c.loop-id.invariant)
