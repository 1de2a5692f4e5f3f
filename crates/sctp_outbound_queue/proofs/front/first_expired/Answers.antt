use Rattle.std.proofs.Common.{arith, ◌∙◌}
use Rattle.sctp_outbound_queue.specs.Message.{is_expired_piece}
use Rattle.sctp_outbound_queue.proofs.Positions.{all_passed, found, passed}
use Rattle.sctp_outbound_queue.proofs.front.first_expired.Goals as goal

pub returns-then-is_expired_at : goal.returns-then-is_expired_at
returns-then-is_expired_at c =
    found (is_expired_piece c.args.now) c.args.pieces.now.items c.loop-index.index c.loop-index.invariant
    c.is_expired_at.ensures c.if-is_expired_at.true

pub loop-index-preserved : goal.loop-index-preserved
loop-index-preserved c =
    passed (is_expired_piece c.args.now) c.args.pieces.now.items c.loop-index.index
    (omega (arith, c.loop-index-test.true, c.len-index-end.ensures, c.args.pieces.now.ok.0))
    c.loop-index.invariant c.is_expired_at.ensures c.if-is_expired_at.false

pub returns : goal.returns
returns c =
    all_passed (is_expired_piece c.args.now) c.args.pieces.now.items c.loop-index.index c.loop-index.invariant
    (omega (arith, c.loop-index-test.false, c.len-index-end.ensures, c.args.pieces.now.ok.0))
    (c.len.ensures ∙ c.args.pieces.now.ok.0)
