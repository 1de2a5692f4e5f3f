-- Chunks that are refused before they are processed.
use Rattle.std.specs.Prelude.{◌==◌, ◌||◌, if◌then◌else◌, nat_lt, Result, Ok, Err}
use Rattle.sctp_wire_types.specs.declared.error.Error.{Error}
use Rattle.sctp_wire_types.specs.declared.error.Error.TheVariants as errors
use Rattle.sctp_wire_types.specs.declared.error.Fault.TheVariants as faults
use Rattle.sctp_wire_types.specs.declared.chunk.Chunk.{Chunk}
use Rattle.sctp_wire_types.specs.declared.chunk.Chunk.TheVariants as chunks
use Rattle.sctp_wire_types.specs.declared.chunk.ChunkInit.{ChunkInit}

-- an INIT or INIT ACK with a tag 0, a stream count 0 or a window below 1500 bytes is refused
-- (RFC 4960 sections 3.3.2 and 3.3.3)
abbrev pub checked_init : ChunkInit → Result (Unit {0}) Error
checked_init init =
    if init.initiate_tag == 0 then Err (errors.Malformed faults.InitiateTag) else
    if init.num_outbound_streams == 0 || init.num_inbound_streams == 0 then
    Err (errors.Malformed faults.StreamCount) else
    if nat_lt init.advertised_receiver_window_credit 1500 then Err (errors.Malformed faults.Window) else Ok tt

-- other chunks pass
abbrev pub checked_chunk : Chunk → Result (Unit {0}) Error
checked_chunk (chunks.Init init) = checked_init init
checked_chunk (chunks.InitAck init) = checked_init init
checked_chunk _ = Ok tt
