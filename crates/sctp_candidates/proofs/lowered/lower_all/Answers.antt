use Rattle.std.proofs.Common.{◌∙◌, ap, arith}
use Rattle.sctp_ranges.specs.Stored.{Stored}
use Rattle.sctp_candidates.proofs.LessNumbers.{lowered_more}
use Rattle.sctp_candidates.proofs.lowered.lower_all.Goals as goal

pub loop-index-preserved : goal.loop-index-preserved
loop-index-preserved c = record {
  list =
      ap (λ (s : Stored). s.list) c.set.ensures ∙
      lowered_more c.args.by c.loop-index.index c.at-run.result c.args.row.now.list c.loop-index.row.list
      c.loop-index.invariant.list c.at-run.ensures.run (omega (arith, c.loop-index-test.true, c.len-index-end.ensures));
  room = ap (λ (s : Stored). s.room) c.set.ensures ∙ c.loop-index.invariant.room;
}
