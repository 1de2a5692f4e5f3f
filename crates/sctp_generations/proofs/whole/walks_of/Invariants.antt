use Rattle.std.proofs.Common.{◌≡◌, fold}
use Rattle.std.specs.VecDeque.Iter.{deque_iter_rest}
use Rattle.sctp_wire_types.specs.declared.chunk.ChunkPayloadData.{ChunkPayloadData}
use Rattle.sctp_generations.specs.Whole.{gone_over_with, walked}
use Rattle.sctp_generations.specs.Walks.{walk_at}
use Rattle.sctp_generations.proofs.whole.walks_of.Given as goal

abbrev pub invariant-loop-chunk : goal.invariant-loop-chunk
invariant-loop-chunk l =
    (of : ChunkPayloadData) → of.stream_identifier ≡ l.id
    → fold (gone_over_with l.span of) (walk_at l.walks.entries of.stream_sequence_number)
    (deque_iter_rest l.chunk-iterator)
    ≡ walked l.span l.chunks.items of
