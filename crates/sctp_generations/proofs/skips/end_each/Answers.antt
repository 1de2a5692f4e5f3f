use Rattle.std.proofs.Common.{◌<◌, length, arith}
use Rattle.std.proofs.lemmas.List.Edits.{map_over_more}
use Rattle.std.proofs.lemmas.List.{get_or_default}
use Rattle.sctp_generations.specs.Skips.{with_boundary}
use Rattle.sctp_generations.proofs.skips.end_each.Goals as goal

pub loop-kept-preserved : goal.loop-kept-preserved
loop-kept-preserved c =
    let ks = c.loop-kept.skips in
    let i = c.loop-kept.kept-index in
    let within : i < length ks = omega (arith, c.loop-kept.auto.skips) in
    rw c.end.ensures
    (map_over_more (with_boundary c.args.id c.args.boundary) c.args.skips.now ks i _ (omega arith)
    c.loop-kept.invariant (get_or_default ks i _ _ within))
