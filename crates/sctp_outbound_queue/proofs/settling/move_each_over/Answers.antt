use Rattle.std.proofs.Common.{◌≡◌, ◌∙◌, ◌+◌, ap, arith, length}
use Rattle.std.proofs.lemmas.List.Edits.{length-swap}
use Rattle.sctp_outbound_queue.specs.Owed.{standing}
use Rattle.sctp_outbound_queue.proofs.EmptyPlaces.{moved_over}
use Rattle.sctp_outbound_queue.proofs.settling.move_each_over.Goals as goal

pub swap-requires-clause-j_in_bounds : goal.swap-requires-clause-j_in_bounds
swap-requires-clause-j_in_bounds c =
    omega (arith, c.loop-index.invariant.1, c.loop-index-test.true, c.requires.to)

pub loop-index-preserved : goal.loop-index-preserved
loop-index-preserved c =
    let many = c.loop-index.invariant.1 in (
      ap (standing (c.loop-index.index + 1) c.args.dead) c.swap.ensures.items
          ∙ moved_over c.loop-index.index c.args.dead c.loop-index.items.items c.requires.some
          (omega (arith, many, c.loop-index-test.true, c.requires.to))
          ∙ c.loop-index.invariant.0,
      ap length c.swap.ensures.items
          ∙ length-swap c.loop-index.items.items c.loop-index.index (c.loop-index.index + c.args.dead) ∙ many,
    )

pub returns-clause-same : goal.returns-clause-same
returns-clause-same c =
    let at : c.args.to ≡ c.loop-index.index =
    omega (arith, c.loop-index-test.false, c.loop-index.auto.index-end c.requires.from) in
    ap (λ k. standing k c.args.dead c.loop-index.items.items) at ∙ c.loop-index.invariant.0

pub returns-clause-len : goal.returns-clause-len
returns-clause-len c = c.loop-index.invariant.1
