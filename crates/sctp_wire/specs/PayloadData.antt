-- DATA: what bytes are read as, what it is spelled as, and the ranges of its numbers.
use Rattle.std.specs.Prelude.{ℕ, ◌+◌, ◌/◌, ◌%◌, ◌==◌, if◌then◌else◌, nat_lt, List, ◌++◌, length, drop, Result, Ok, Err}
use Rattle.std.specs.Int.{w16, w32, to_be_bytes}
use Rattle.sctp_wire_types.specs.declared.error.Fault.{Fault}
use Rattle.sctp_wire_types.specs.declared.error.Fault.TheVariants.{Short}
use Rattle.sctp_wire_types.specs.declared.chunk.ChunkPayloadData.{ChunkPayloadData}
use Rattle.sctp_wire_types.specs.Ids.{identifier_of, number_of}
use Rattle.sctp_wire.specs.Numbers.{u16_at, u32_at, IsU16, IsU32, bit}

-- DATA (RFC 4960 section 3.3.1), with the I bit of RFC 7053
unfoldable pub payload_data_of : ℕ → List ℕ → Result ChunkPayloadData Fault
payload_data_of flags value =
    if nat_lt (length value) 12 then Err Short else
    Ok (record {
      unordered = flags / 4 % 2 == 1;
      beginning_fragment = flags / 2 % 2 == 1;
      ending_fragment = flags % 2 == 1;
      immediate_sack = flags / 8 % 2 == 1;
      tsn = u32_at value 0;
      stream_identifier = u16_at value 4;
      stream_sequence_number = u16_at value 6;
      payload_type = identifier_of (u32_at value 8);
      user_data = drop 12 value;
    })

abbrev pub payload_data_flags : ChunkPayloadData → ℕ
payload_data_flags c = bit c.ending_fragment 1 + bit c.beginning_fragment 2 + bit c.unordered 4 + bit c.immediate_sack 8

abbrev pub payload_data_value : ChunkPayloadData → List ℕ
payload_data_value c =
    to_be_bytes w32 c.tsn ++ to_be_bytes w16 c.stream_identifier ++ to_be_bytes w16 c.stream_sequence_number
    ++ to_be_bytes w32 (number_of c.payload_type) ++ c.user_data

-- the fields before the payload
abbrev pub data_fields : ChunkPayloadData → List ℕ
data_fields c =
    to_be_bytes w32 c.tsn ++ to_be_bytes w16 c.stream_identifier ++ to_be_bytes w16 c.stream_sequence_number
    ++ to_be_bytes w32 (number_of c.payload_type)

-- all that stands before the payload, of a chunk whose value is so long
abbrev pub data_header : ChunkPayloadData → ℕ → List ℕ
data_header c len = to_be_bytes w16 (payload_data_flags c) ++ to_be_bytes w16 (4 + len) ++ data_fields c

abbrev pub IsPayloadData : ChunkPayloadData → Type 0
IsPayloadData c = IsU32 c.tsn × IsU16 c.stream_identifier × IsU16 c.stream_sequence_number
