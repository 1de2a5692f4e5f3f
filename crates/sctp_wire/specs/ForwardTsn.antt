-- FORWARD TSN and I-FORWARD-TSN: what bytes are read as, what they are spelled as, and the ranges of their numbers.
use Rattle.std.specs.Prelude.{ℕ, ◌-◌, ◌/◌, ◌%◌, ◌==◌, if◌then◌else◌, nat_lt, List, ◌++◌, length, drop, Result, Ok, Err}
use Rattle.std.specs.Int.{w16, w32, to_be_bytes}
use Rattle.std.specs.List.{flat_map, AllByRecursion}
use Rattle.sctp_wire_types.specs.declared.error.Fault.{Fault}
use Rattle.sctp_wire_types.specs.declared.error.Fault.TheVariants.{Short}
use Rattle.sctp_wire_types.specs.declared.chunk.ChunkForwardTsn.{ChunkForwardTsn}
use Rattle.sctp_wire_types.specs.declared.chunk.SkippedStream.{SkippedStream}
use Rattle.sctp_wire_types.specs.declared.chunk.ChunkIForwardTsn.{ChunkIForwardTsn}
use Rattle.sctp_wire_types.specs.declared.chunk.IForwardTsnEntry.{IForwardTsnEntry}
use Rattle.sctp_wire.specs.Numbers.{u16_at, u32_at, IsU16, IsU32, bit}
use Rattle.sctp_wire.specs.Frames.{entries_at}

abbrev pub skipped_at : List ℕ → SkippedStream
skipped_at bytes = record { stream_identifier = u16_at bytes 0; stream_sequence_number = u16_at bytes 2 }

abbrev pub skipped_bytes : SkippedStream → List ℕ
skipped_bytes s = to_be_bytes w16 s.stream_identifier ++ to_be_bytes w16 s.stream_sequence_number

abbrev pub IsSkipped : SkippedStream → Type 0
IsSkipped s = IsU16 s.stream_identifier × IsU16 s.stream_sequence_number

-- FORWARD TSN (RFC 3758 section 3.2)
unfoldable pub forward_tsn_of : List ℕ → Result ChunkForwardTsn Fault
forward_tsn_of value =
    if nat_lt (length value) 4 then Err Short else
    Ok (record {
      new_cumulative_tsn = u32_at value 0;
      streams = entries_at skipped_at 4 ((length value - 4) / 4) (drop 4 value);
    })

abbrev pub forward_tsn_value : ChunkForwardTsn → List ℕ
forward_tsn_value c = to_be_bytes w32 c.new_cumulative_tsn ++ flat_map skipped_bytes c.streams

abbrev pub IsForwardTsn : ChunkForwardTsn → Type 0
IsForwardTsn c = IsU32 c.new_cumulative_tsn × AllByRecursion IsSkipped c.streams

abbrev pub message_skip_at : List ℕ → IForwardTsnEntry
message_skip_at bytes = record {
  stream_identifier = u16_at bytes 0;
  unordered = u16_at bytes 2 % 2 == 1;
  message_identifier = u32_at bytes 4;
}

abbrev pub message_skip_bytes : IForwardTsnEntry → List ℕ
message_skip_bytes e =
    to_be_bytes w16 e.stream_identifier ++ to_be_bytes w16 (bit e.unordered 1) ++ to_be_bytes w32 e.message_identifier

abbrev pub IsMessageSkip : IForwardTsnEntry → Type 0
IsMessageSkip e = IsU16 e.stream_identifier × IsU32 e.message_identifier

-- I-FORWARD-TSN (RFC 8260 section 2.3.1)
unfoldable pub i_forward_tsn_of : List ℕ → Result ChunkIForwardTsn Fault
i_forward_tsn_of value =
    if nat_lt (length value) 4 then Err Short else
    Ok (record {
      new_cumulative_tsn = u32_at value 0;
      entries = entries_at message_skip_at 8 ((length value - 4) / 8) (drop 4 value);
    })

abbrev pub i_forward_tsn_value : ChunkIForwardTsn → List ℕ
i_forward_tsn_value c = to_be_bytes w32 c.new_cumulative_tsn ++ flat_map message_skip_bytes c.entries

abbrev pub IsIForwardTsn : ChunkIForwardTsn → Type 0
IsIForwardTsn c = IsU32 c.new_cumulative_tsn × AllByRecursion IsMessageSkip c.entries
