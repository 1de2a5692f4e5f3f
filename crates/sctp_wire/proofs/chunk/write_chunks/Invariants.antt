use Rattle.std.proofs.Common.{◌≡◌, ◌++◌, take, drop}
use Rattle.std.specs.List.{flat_map, list_all, AllByRecursion}
use Rattle.sctp_wire.specs.Chunks.{chunk_fits, chunk_bytes, IsChunk}
use Rattle.sctp_wire.proofs.chunk.write_chunks.Given as goal

abbrev pub invariant-chunks : goal.invariant-chunks
invariant-chunks l =
    (l.out.items ≡ l.fn.out.items ++ flat_map chunk_bytes (take l.chunk-index l.chunks))
    × (list_all chunk_fits (drop l.chunk-index l.chunks) ≡ list_all chunk_fits l.chunks)
    × AllByRecursion IsChunk (take l.chunk-index l.chunks)
