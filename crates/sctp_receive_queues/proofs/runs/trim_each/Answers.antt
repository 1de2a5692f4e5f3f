use Rattle.std.proofs.Common.{arith, ap, set, sym, ◌∙◌}
use Rattle.std.proofs.lemmas.List.Edits.{map_over_more}
use Rattle.sctp_receive_queues.specs.Reassembly.{above}
use Rattle.sctp_receive_queues.proofs.runs.trim_each.Goals as goal

pub loop-run-preserved : goal.loop-run-preserved
loop-run-preserved c =
    ap (λ r. set c.loop-run.runs c.loop-run.run-index r) c.drop_up_to.ensures ∙
    ap (λ r. set c.loop-run.runs c.loop-run.run-index (above c.args.tsn r)) (sym c.run-item.is) ∙
    map_over_more (above c.args.tsn) c.args.runs.now c.loop-run.runs c.loop-run.run-index c.run-item.result
    (omega arith) c.loop-run.invariant c.run-item.is
