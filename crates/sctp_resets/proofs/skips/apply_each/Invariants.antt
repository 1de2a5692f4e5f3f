use Rattle.std.proofs.Common.{◌≡◌, fold}
use Rattle.std.specs.Vec.Iter.{into_iter_items}
use Rattle.sctp_resets.specs.Skips.{skip_tried}
use Rattle.sctp_resets.proofs.skips.apply_each.Given as goal

abbrev pub invariant-loop-skip : goal.invariant-loop-skip
invariant-loop-skip l =
    fold skip_tried (l.generations, l.streams, l.events) (into_iter_items l.skip-iterator)
    ≡ fold skip_tried (l.fn.generations, l.fn.streams, l.fn.events) l.fn.skips.items
