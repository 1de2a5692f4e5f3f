use Rattle.std.proofs.Common.{sym, ◌∙◌}
use Rattle.sctp_outbound.proofs.SenderSteps.{on_err}
use Rattle.sctp_assoc.proofs.FindsTold.{find_more, find_told}
use Rattle.sctp_assoc.proofs.association.Association.find_streams.Goals as goal

pub returns-in_err-find_skipped-clause-grows : goal.returns-in_err-find_skipped-clause-grows
returns-in_err-find_skipped-clause-grows c =
    on_err c.from_residual.result
    (c.loop-skip.invariant.grows
    (find_told c.args.tsn c.args.skipped.now c.loop-skip.skip-index _ c.loop-skip.self c.loop-skip-test.true
    c.in_err-find_skipped.ensures.grows))

pub loop-skip-preserved : goal.loop-skip-preserved
loop-skip-preserved c =
    let more =
    find_more c.args.tsn c.args.skipped.now c.loop-skip.skip-index _ c.loop-skip.self c.loop-skip-test.true
    c.find_skipped.new.self c.in_ok-find_skipped.ensures.exact in
    record {
      same = sym more.0 ∙ c.loop-skip.invariant.same;
      grows = λ told. c.loop-skip.invariant.grows (more.1 told);
    }
