use Rattle.std.proofs.Common.{◌∙◌, nat_cmp}
use Rattle.std.specs.BTreeSet.{insert_key}
use Rattle.sctp_reset_requests.proofs.Walks.{fold_step}
use Rattle.sctp_reset_requests.proofs.own.insert_each.Goals as goal

pub loop-id-preserved : goal.loop-id-preserved
loop-id-preserved c =
    rw c.in_ok-insert.ensures.keys
    (fold_step (insert_key nat_cmp) c.loop-id.ahead.keys c.args.ids.now c.loop-id.id-index 0 c.loop-id-test.true
    ∙ c.loop-id.invariant)
