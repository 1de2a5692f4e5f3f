-- A RE-CONFIG leaves an association's status as it is, whatever streams it names.
use Rattle.sctp_wire_types.specs.declared.chunk.Chunk.TheVariants as chunks
use Rattle.sctp_wire_types.specs.declared.chunk.ChunkReconfig.{ChunkReconfig}
use Rattle.sctp_wire_types.specs.declared.packet.CommonHeader.{CommonHeader}
use Rattle.sctp_assoc.specs.Shown.{Shown}
use Rattle.sctp_sides.specs.SideLaws.{IsSameStatus, TakesChunk}

-- a response to a request of the peer may wait to go out behind it, and says nothing of a handshake
pub reconfigs_keep_the_status : (a b : Shown) (header : CommonHeader) (reconfig : ChunkReconfig)
    → TakesChunk header (chunks.Reconfig reconfig) a b → IsSameStatus a b
reconfigs_keep_the_status a b header reconfig takes = takes.leaves
