use Rattle.std.proofs.Common.{sym, ap, ◌∙◌, nat_cmp}
use Rattle.std.specs.BTreeSet.{insert_key}
use Rattle.sctp_streams.proofs.LowMarks.{ascending_more}
use Rattle.sctp_streams.proofs.low_marks.insert_each.Goals as goal

pub loop-id-preserved : goal.loop-id-preserved
loop-id-preserved c =
    c.in_ok-insert.ensures.keys ∙ ap (λ z. insert_key nat_cmp z c.in-Some.id) c.loop-id.invariant
    ∙ sym (ascending_more c.args.set.now.keys c.loop-id.yielded c.in-Some.id)
