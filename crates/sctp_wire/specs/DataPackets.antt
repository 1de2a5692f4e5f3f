-- Packets of DATA (RFC 4960 sections 3 and 6.10).
use Rattle.std.specs.Prelude.{◌≡◌, ℕ, ◌==◌, Bool, true, not, if◌then◌else◌, nat_le, List, [], ◌∷◌, ◌++◌, drop}
use Rattle.std.specs.Prelude.{length, map, take, Result, Ok, Err}
use Rattle.std.specs.Int.{w32, to_be_bytes, to_le_bytes}
use Rattle.std.specs.List.{flat_map, list_all, AllByRecursion}
use Rattle.sctp_crc.specs.Crc.{sum_of_packet}
use Rattle.sctp_wire_types.specs.declared.chunk.Chunk.{Chunk}
use Rattle.sctp_wire_types.specs.declared.chunk.Chunk.TheVariants as chunks
use Rattle.sctp_wire_types.specs.declared.chunk.ChunkPayloadData.{ChunkPayloadData}
use Rattle.sctp_wire_types.specs.declared.error.Fault.{Fault}
use Rattle.sctp_wire_types.specs.declared.packet.CommonHeader.{CommonHeader}
use Rattle.sctp_wire.specs.declared.packet.Packet.{Packet}
use Rattle.sctp_wire.specs.Chunks.{chunk_fits, chunks_at}
use Rattle.sctp_wire.specs.Packets.{IsHeader, header_bytes, packet_at, spelling, unsummed}
use Rattle.sctp_wire.specs.PayloadData.{IsPayloadData}

-- a packet of this DATA
abbrev pub data_packet : CommonHeader → List ChunkPayloadData → Packet
data_packet header pieces = record { common_header = header; chunks = map (λ c. chunks.Data c) pieces }

-- its length fits its length field
abbrev pub data_fits : ChunkPayloadData → Bool
data_fits c = chunk_fits (chunks.Data c)

-- a packet with its checksum in place of zeros
abbrev pub summed : List ℕ → List ℕ
summed bytes = take 8 bytes ++ to_le_bytes w32 (sum_of_packet bytes) ++ drop 12 bytes

-- The packet that is being written

abbrev pub data_among : List Chunk → List ChunkPayloadData
data_among [] = []
data_among (chunks.Data c ∷ cs) = c ∷ data_among cs
data_among (chunk ∷ cs) = data_among cs

abbrev pub data_read : Result (List Chunk) Fault → List ChunkPayloadData
data_read (Ok cs) = data_among cs
data_read (Err fault) = []

-- the DATA behind its common header
abbrev pub data_in : List ℕ → List ChunkPayloadData
data_in bytes = data_read (chunks_at (drop 12 bytes))

-- its bytes, with zeros for the checksum: none as long as it has no DATA
abbrev pub being_written : CommonHeader → List ChunkPayloadData → List ℕ
being_written header [] = []
being_written header (c ∷ cs) = unsummed (data_packet header (c ∷ cs))

pub record IsBeingWritten (header : CommonHeader) (bytes : List ℕ) : Type 0 where
  pub bytes_are : bytes ≡ being_written header (data_in bytes)
  pub ports : (bytes ≡ [] → ⊥) → IsHeader header
  pub ranges : AllByRecursion IsPayloadData (data_in bytes)
  pub fit : list_all data_fits (data_in bytes) ≡ true

-- the datagram of a packet that is done
pub record IsDone (header : CommonHeader) (datagram : List ℕ) : Type 0 where
  pub datagram_is : datagram ≡ spelling (data_packet header (data_in datagram))
  pub ports : IsHeader header
  pub ranges : AllByRecursion IsPayloadData (data_in datagram)
  pub fit : list_all data_fits (data_in datagram) ≡ true

-- the common header of a packet, with zeros for the checksum
abbrev pub started : CommonHeader → List ℕ
started header = header_bytes header ++ to_be_bytes w32 0

-- what DATA is written behind: what is being written already, or the common header
abbrev pub begun : CommonHeader → List ℕ → List ℕ
begun header bytes = if length bytes == 0 then started header else bytes

-- All packets

-- packets of DATA: what those that are done carry, and what the one carries that is being written
pub record DataWritten : Type 0 where
  pub header : CommonHeader
  -- the length that no packet of two chunks or more passes
  pub mtu : ℕ
  pub done : List (List ChunkPayloadData)
  pub current : List ChunkPayloadData

abbrev pub nothing_written : CommonHeader → ℕ → DataWritten
nothing_written header mtu = record { header = header; mtu = mtu; done = []; current = [] }

abbrev pub unless_empty : List ChunkPayloadData → List (List ChunkPayloadData)
unless_empty [] = []
unless_empty (c ∷ cs) = (c ∷ cs) ∷ []

-- the packet that is being written is done, if it carries something
abbrev pub closed : DataWritten → DataWritten
closed w = record w { done = w.done ++ unless_empty w.current; current = [] }

-- all DATA of these packets, in order
abbrev pub all_of : List (List ChunkPayloadData) → List ChunkPayloadData
all_of bundles = flat_map (λ cs. cs) bundles

-- the packets that are done, as datagrams
abbrev pub datagrams_of : CommonHeader → List (List ChunkPayloadData) → List (List ℕ)
datagrams_of header bundles = map (λ cs. spelling (data_packet header cs)) bundles

-- the datagram of this DATA is read as the packet that it was made of
abbrev pub IsReadBack : CommonHeader → List ChunkPayloadData → Type 0
IsReadBack header cs = packet_at (spelling (data_packet header cs)) ≡ Ok (data_packet header cs)

-- with this DATA the packet that is being written is no longer than it may be
abbrev pub has_room : DataWritten → ChunkPayloadData → Bool
has_room w c = nat_le (length (unsummed (data_packet w.header (w.current ++ c ∷ [])))) w.mtu

abbrev pub joined_by : DataWritten → ChunkPayloadData → DataWritten
joined_by w c = record w { current = w.current ++ c ∷ [] }

-- DATA goes behind the last, into the same packet where that has room, and else begins the next packet; DATA that is
-- longer than its length field can say is left out
abbrev pub with_data : DataWritten → ChunkPayloadData → DataWritten
with_data w c =
    if not (data_fits c) then w else
    if has_room w c then joined_by w c else joined_by (closed w) c

abbrev pub with_all : DataWritten → List ChunkPayloadData → DataWritten
with_all w [] = w
with_all w (c ∷ cs) = with_all (with_data w c) cs
