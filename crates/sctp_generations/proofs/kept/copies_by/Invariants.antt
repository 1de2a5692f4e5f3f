use Rattle.std.proofs.Common.{◌≡◌, ◌++◌, filter}
use Rattle.std.specs.VecDeque.Iter.{deque_iter_rest}
use Rattle.sctp_generations.specs.Sieves.{keeps}
use Rattle.sctp_generations.proofs.kept.copies_by.Given as goal

abbrev pub invariant-loop-chunk : goal.invariant-loop-chunk
invariant-loop-chunk l =
    l.copies.items ++ filter (keeps l.sieve) (deque_iter_rest l.chunk-iterator)
    ≡ filter (keeps l.sieve) l.chunks.items
