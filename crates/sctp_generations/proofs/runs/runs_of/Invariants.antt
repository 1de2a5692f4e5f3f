use Rattle.std.proofs.Common.{◌≡◌, fold}
use Rattle.std.specs.VecDeque.Iter.{deque_iter_rest}
use Rattle.sctp_wire_types.specs.declared.chunk.ChunkPayloadData.{ChunkPayloadData}
use Rattle.sctp_generations.specs.Whole.{run_over_beside, run_walked}
use Rattle.sctp_generations.specs.Runs.{run_in}
use Rattle.sctp_generations.proofs.runs.runs_of.Given as goal

abbrev pub invariant-loop-chunk : goal.invariant-loop-chunk
invariant-loop-chunk l =
    (of : ChunkPayloadData)
    → fold (run_over_beside of) (run_in l.runs.entries of) (deque_iter_rest l.chunk-iterator)
    ≡ run_walked l.chunks.items of
