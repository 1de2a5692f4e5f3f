use Rattle.std.proofs.Common.{◌≡◌, ◌+◌, ◌≤◌, ◌++◌, filter, not}
use Rattle.std.specs.VecDeque.{deque_len, deque_capacity}
use Rattle.sctp_generations.specs.Deferred.{is_due, released, still_deferred}
use Rattle.sctp_generations.proofs.deferred.take_due.Given as goal

abbrev pub invariant-loop-chunk : goal.invariant-loop-chunk
invariant-loop-chunk l =
    (l.given.items ++ filter (is_due l.fn.due l.fn.retiring) l.chunks.items
    ≡ released l.fn.due l.fn.retiring l.fn.chunks.items)
    × (l.left.items ++ filter (λ d. not (is_due l.fn.due l.fn.retiring d)) l.chunks.items
    ≡ still_deferred l.fn.due l.fn.retiring l.fn.chunks.items)
    × (deque_len l.given + deque_len l.chunks ≤ deque_capacity l.given)
    × (deque_len l.left + deque_len l.chunks ≤ deque_capacity l.left)

abbrev pub decreases-loop-chunk : goal.decreases-loop-chunk
decreases-loop-chunk l = deque_len l.chunks
