use Rattle.std.proofs.Common.{sym, ◌∙◌}
use Rattle.sctp_outbound.proofs.SenderSteps.{on_err}
use Rattle.sctp_assoc.proofs.SkipsTold.{skip_more, skip_told}
use Rattle.sctp_assoc.proofs.association.Association.skip_streams.Goals as goal

pub returns-in_err-skip_stream-clause-grows : goal.returns-in_err-skip_stream-clause-grows
returns-in_err-skip_stream-clause-grows c =
    on_err c.from_residual.result
    (c.loop-skip.invariant.grows
    (skip_told c.args.tsn c.args.skipped.now c.loop-skip.skip-index _ c.loop-skip.self c.loop-skip-test.true
    c.in_err-skip_stream.ensures.grows))

pub loop-skip-preserved : goal.loop-skip-preserved
loop-skip-preserved c =
    let more =
    skip_more c.args.tsn c.args.skipped.now c.loop-skip.skip-index _ c.loop-skip.self c.loop-skip-test.true
    c.skip_stream.new.self c.in_ok-skip_stream.ensures.exact in
    record {
      same = sym more.0 ∙ c.loop-skip.invariant.same;
      grows = λ told. c.loop-skip.invariant.grows (more.1 told);
    }
