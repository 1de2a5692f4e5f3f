-- The chunks of a packet, one alone or several (RFC 4960 section 3).
use Rattle.std.specs.Prelude.{List}
use Rattle.sctp_wire_types.specs.declared.chunk.Chunk.{Chunk}
use Rattle.sctp_wire.specs.declared.chunk_list.PacketChunks.{PacketChunks}
use Rattle.sctp_wire.specs.declared.chunk_list.PacketChunks.TheVariants as packets

-- the chunks, in order
abbrev pub chunks_in : PacketChunks → List Chunk
chunks_in (packets.One chunks) = chunks
chunks_in (packets.Several chunks) = chunks
