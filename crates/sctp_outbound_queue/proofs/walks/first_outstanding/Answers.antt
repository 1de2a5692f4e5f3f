use Rattle.std.proofs.Common.{arith, ◌∙◌}
use Rattle.sctp_outbound_queue.proofs.FirstOutstanding.{all_passed, found_there, passed_there}
use Rattle.sctp_outbound_queue.proofs.walks.first_outstanding.Goals as goal

pub returns-then-is_outstanding_at : goal.returns-then-is_outstanding_at
returns-then-is_outstanding_at c =
    found_there c.args.pieces.now.items c.loop-index.index c.loop-index.invariant c.is_outstanding_at.ensures
    c.if-is_outstanding_at.true

pub loop-index-preserved : goal.loop-index-preserved
loop-index-preserved c =
    passed_there c.args.pieces.now.items c.loop-index.index
    (omega (arith, c.loop-index-test.true, c.len-index-end.ensures, c.args.pieces.now.ok.0))
    c.loop-index.invariant c.is_outstanding_at.ensures c.if-is_outstanding_at.false

pub returns : goal.returns
returns c =
    all_passed c.args.pieces.now.items c.loop-index.index c.loop-index.invariant
    (omega (arith, c.loop-index-test.false, c.len-index-end.ensures, c.args.pieces.now.ok.0))
    (c.len.ensures ∙ c.args.pieces.now.ok.0)
