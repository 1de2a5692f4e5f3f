use Rattle.std.proofs.Common.{◌≡◌, ℕ, ◌||◌}
use Rattle.std.specs.BTreeSet.{contains}
use Rattle.std.specs.Ordering.{nat_cmp}
use Rattle.std.specs.VecDeque.Iter.{deque_iter_rest}
use Rattle.sctp_generations.specs.Later.{has_later}
use Rattle.sctp_generations.proofs.later.with_later.Given as goal

abbrev pub invariant-loop-chunk : goal.invariant-loop-chunk
invariant-loop-chunk l = (q : ℕ)
    → (contains nat_cmp l.ids q || has_later l.retiring l.upto (deque_iter_rest l.chunk-iterator) q)
    ≡ has_later l.retiring l.upto l.chunks.items q
