use Rattle.std.proofs.Common.{◌≡◌, ◌++◌, take, drop}
use Rattle.std.specs.List.{list_all, AllByRecursion}
use Rattle.sctp_wire.specs.Frames.{frame_fits, joined}
use Rattle.sctp_wire.proofs.ListsWritten.{owed}
use Rattle.sctp_wire.proofs.items.put_items.Given as goal

abbrev pub invariant-items : goal.invariant-items
invariant-items g l =
    (l.out.items ++ owed g.T.PutItem.frame_of l.last_len (drop l.item-index l.items)
    ≡ l.fn.out.items ++ joined g.T.PutItem.frame_of l.items)
    × (list_all (λ x. frame_fits (g.T.PutItem.frame_of x)) (drop l.item-index l.items)
    ≡ list_all (λ x. frame_fits (g.T.PutItem.frame_of x)) l.items)
    × AllByRecursion g.T.PutItem.IsItem (take l.item-index l.items)
