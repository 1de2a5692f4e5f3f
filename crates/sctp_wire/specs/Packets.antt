-- Packets (RFC 4960 section 3).
use Rattle.std.specs.Prelude.{ℕ, ◌==◌, if◌then◌else◌, nat_lt, not, Bool, true, false, ◌&&◌, ◌||◌, List}
use Rattle.std.specs.Prelude.{◌++◌, length, take, drop, Result, Ok, Err}
use Rattle.std.specs.List.{flat_map, list_all, list_any, AllByRecursion}
use Rattle.std.specs.Int.{w16, w32, from_le_bytes, to_le_bytes, to_be_bytes}
use Rattle.sctp_crc.specs.Crc.{sum_of_packet}
use Rattle.sctp_wire_types.specs.declared.error.Error.{Error}
use Rattle.sctp_wire_types.specs.declared.error.Error.TheVariants as errors
use Rattle.sctp_wire_types.specs.declared.error.Fault.{Fault}
use Rattle.sctp_wire_types.specs.declared.error.Fault.TheVariants as faults
use Rattle.sctp_wire_types.specs.declared.chunk.Chunk.{Chunk}
use Rattle.sctp_wire_types.specs.declared.chunk.Chunk.TheVariants as chunks
use Rattle.sctp_wire_types.specs.declared.packet.CommonHeader.{CommonHeader}
use Rattle.sctp_wire.specs.Results.{◌>>=◌}
use Rattle.sctp_wire.specs.Numbers.{u16_at, u32_at, IsU16, IsU32}
use Rattle.sctp_wire.specs.Chunks.{chunks_at, chunk_fits, chunk_bytes, IsChunk, chunk_is_plain}
use Rattle.sctp_wire.specs.declared.packet.Packet.{Packet}
use Rattle.sctp_wire.specs.declared.partial.PartialDecode.{PartialDecode}

abbrev pub header_at : List ℕ → CommonHeader
header_at bytes =
    record { source_port = u16_at bytes 0; destination_port = u16_at bytes 2; verification_tag = u32_at bytes 4 }

-- the checksum that stands in a packet, low byte first (RFC 4960 appendix B)
abbrev pub sum_at : List ℕ → ℕ
sum_at bytes = from_le_bytes w32 (take 4 (drop 8 bytes))

-- the common header and the bytes after it
unfoldable pub partial_at : List ℕ → Result PartialDecode Fault
partial_at bytes =
    if nat_lt (length bytes) 12 then Err faults.Short else
    if not (sum_at bytes == sum_of_packet bytes) then Err faults.Checksum else
    Ok (record { common_header = header_at bytes; remaining = drop 12 bytes })

unfoldable pub finished : PartialDecode → Result Packet Fault
finished partial =
    chunks_at partial.remaining >>= λ chunks. Ok (record { common_header = partial.common_header; chunks = chunks })

-- what a datagram spells, or its first fault
abbrev pub packet_at : List ℕ → Result Packet Fault
packet_at bytes = partial_at bytes >>= finished

-- a packet of these chunks
abbrev pub packet_with : CommonHeader → List Chunk → Packet
packet_with header chunks = record { common_header = header; chunks = chunks }

-- whether the lengths of all chunks and of what stands in them fit their fields
abbrev pub packet_fits : Packet → Bool
packet_fits packet = list_all chunk_fits packet.chunks

-- the bytes of a header's ports and verification tag
abbrev pub header_bytes : CommonHeader → List ℕ
header_bytes header =
    to_be_bytes w16 header.source_port ++ to_be_bytes w16 header.destination_port
    ++ to_be_bytes w32 header.verification_tag

abbrev pub unsummed : Packet → List ℕ
unsummed packet = header_bytes packet.common_header ++ to_be_bytes w32 0 ++ flat_map chunk_bytes packet.chunks

unfoldable pub spelling : Packet → List ℕ
spelling packet =
    header_bytes packet.common_header ++ to_le_bytes w32 (sum_of_packet (unsummed packet))
    ++ flat_map chunk_bytes packet.chunks

unfoldable pub written : Packet → Result (List ℕ) Fault
written packet = if packet_fits packet then Ok (spelling packet) else Err faults.Long

-- whether nothing in it is kept under `Other` whose type has a variant of its own
abbrev pub packet_is_plain : Packet → Bool
packet_is_plain packet = list_all chunk_is_plain packet.chunks

-- the ranges of the numbers in a packet
abbrev pub IsHeader : CommonHeader → Type 0
IsHeader header = IsU16 header.source_port × IsU16 header.destination_port × IsU32 header.verification_tag

abbrev pub IsPacket : Packet → Type 0
IsPacket packet = IsHeader packet.common_header × AllByRecursion IsChunk packet.chunks

abbrev pub is_init : Chunk → Bool
is_init (chunks.Init _) = true
is_init _ = false

-- a packet with a port 0, with an INIT that is not alone or with an INIT under a tag is refused
-- (RFC 4960 sections 3.1, 6.10 and 8.5.1)
abbrev pub checked : Packet → Result (Unit {0}) Error
checked packet =
    if packet.common_header.source_port == 0 || packet.common_header.destination_port == 0 then
    Err (errors.Malformed faults.Port) else
    if list_any is_init packet.chunks && not (length packet.chunks == 1) then
    Err (errors.Malformed faults.InitBundled) else
    if list_any is_init packet.chunks && not (packet.common_header.verification_tag == 0) then
    Err (errors.Malformed faults.InitTag) else Ok tt
