use Rattle.std.proofs.Common.{arith, not, ◌∙◌}
use Rattle.sctp_outbound_queue.specs.declared.message.InFlight.{InFlight}
use Rattle.sctp_outbound_queue.proofs.Positions.{all_passed, found, passed}
use Rattle.sctp_outbound_queue.proofs.front.abandoned_from.Goals as goal

pub returns-then-is_kept_at : goal.returns-then-is_kept_at
returns-then-is_kept_at c =
    found (λ (p : InFlight). not p.abandoned) c.args.pieces.now.items c.loop-index.index c.loop-index.invariant
    c.is_kept_at.ensures c.if-is_kept_at.true

pub loop-index-preserved : goal.loop-index-preserved
loop-index-preserved c =
    passed (λ (p : InFlight). not p.abandoned) c.args.pieces.now.items c.loop-index.index
    (omega (arith, c.loop-index-test.true, c.len-index-end.ensures, c.args.pieces.now.ok.0))
    c.loop-index.invariant c.is_kept_at.ensures c.if-is_kept_at.false

pub returns : goal.returns
returns c =
    all_passed (λ (p : InFlight). not p.abandoned) c.args.pieces.now.items c.loop-index.index c.loop-index.invariant
    (omega (arith, c.loop-index-test.false, c.len-index-end.ensures, c.args.pieces.now.ok.0))
    (c.len.ensures ∙ c.args.pieces.now.ok.0)
