use Rattle.std.proofs.Common.{◌++◌, List, ℕ, refl, ap, arith}
use Rattle.sctp_wire.specs.Frames.{frame_fits}
use Rattle.sctp_wire.proofs.ListsWritten.{owed_all, owed_next, owed_end, all_more, all_done, all_taken, all_whole}
use Rattle.sctp_wire.proofs.items.put_items.Goals as goal

pub items-init : goal.items-init
items-init g c =
    (ap (λ (r : List ℕ). c.args.out.now.items ++ r) (owed_all g.T.PutItem.frame_of c.args.items.now), refl, tt)

pub items-preserved : goal.items-preserved
items-preserved g c = (
  owed_next g.T.PutItem.frame_of c.items.last_len c.items.out.items _ c.args.items.now c.items.item-index
      c.item-item.result _ _ (omega arith) c.item-item.is
      (rw c.in_ok-put_padding.ensures at c.in_ok-last_len.ensures.bytes.1) c.in_ok-last_len.ensures.bytes.2
      c.items.invariant.0,
  all_more (λ x. frame_fits (g.T.PutItem.frame_of x)) c.args.items.now c.items.item-index c.item-item.result
      (omega arith) c.item-item.is c.in_ok-last_len.ensures.bytes.0 c.items.invariant.1,
  all_taken g.T.PutItem.IsItem c.args.items.now c.items.item-index c.item-item.result (omega arith) c.item-item.is
      c.in_ok-last_len.ensures.range c.items.invariant.2,
)

pub returns-clause-bytes : goal.returns-clause-bytes
returns-clause-bytes g c = (
  all_done (λ x. frame_fits (g.T.PutItem.frame_of x)) c.args.items.now c.items.item-index (omega arith)
      c.items.invariant.1,
  owed_end g.T.PutItem.frame_of c.items.last_len c.items.out.items c.args.items.now c.items.item-index _ (omega arith)
      c.items.invariant.0,
)

pub returns-clause-range : goal.returns-clause-range
returns-clause-range g c =
    all_whole g.T.PutItem.IsItem c.args.items.now c.items.item-index (omega arith) c.items.invariant.2
