use Rattle.std.proofs.Common.{◌≡◌, length}
use Rattle.sctp_wire.specs.Frames.{items_at, with_front}
use Rattle.sctp_wire.proofs.items.read_behind.Given as goal

abbrev pub invariant-items : goal.invariant-items
invariant-items g l =
    with_front l.items (items_at g.T.Item.item_of l.least l.rest)
    ≡ with_front l.fn.before (items_at g.T.Item.item_of l.least l.fn.bytes)

abbrev pub decreases-items : goal.decreases-items
decreases-items g l = length l.rest
