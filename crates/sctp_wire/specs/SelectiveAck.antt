-- SACK: what bytes are read as, what it is spelled as, and the ranges of its numbers.
use Rattle.std.specs.Prelude.{ℕ, ◌+◌, ◌*◌, if◌then◌else◌, nat_lt, List, ◌++◌, length, drop, Result, Ok, Err}
use Rattle.std.specs.Int.{w16, w32, to_be_bytes}
use Rattle.std.specs.List.{flat_map, AllByRecursion}
use Rattle.sctp_wire_types.specs.declared.error.Fault.{Fault}
use Rattle.sctp_wire_types.specs.declared.error.Fault.TheVariants.{Short}
use Rattle.sctp_wire_types.specs.declared.chunk.ChunkSelectiveAck.{ChunkSelectiveAck}
use Rattle.sctp_wire_types.specs.declared.chunk.GapAckBlock.{GapAckBlock}
use Rattle.sctp_wire.specs.Numbers.{u16_at, u32_at, IsU16, IsU32}
use Rattle.sctp_wire.specs.Frames.{entries_at}

abbrev pub block_at : List ℕ → GapAckBlock
block_at bytes = record { start = u16_at bytes 0; end = u16_at bytes 2 }

abbrev pub block_bytes : GapAckBlock → List ℕ
block_bytes block = to_be_bytes w16 block.start ++ to_be_bytes w16 block.end

abbrev pub IsBlock : GapAckBlock → Type 0
IsBlock block = IsU16 block.start × IsU16 block.end

abbrev pub tsn_at : List ℕ → ℕ
tsn_at bytes = u32_at bytes 0

abbrev pub tsn_bytes : ℕ → List ℕ
tsn_bytes tsn = to_be_bytes w32 tsn

-- SACK (RFC 4960 section 3.3.4)
unfoldable pub selective_ack_of : List ℕ → Result ChunkSelectiveAck Fault
selective_ack_of value =
    if nat_lt (length value) 12 then Err Short else
    if nat_lt (length value) (12 + 4 * u16_at value 8 + 4 * u16_at value 10) then Err Short else
    Ok (record {
      cumulative_tsn_ack = u32_at value 0;
      advertised_receiver_window_credit = u32_at value 4;
      gap_ack_blocks = entries_at block_at 4 (u16_at value 8) (drop 12 value);
      duplicate_tsn = entries_at tsn_at 4 (u16_at value 10) (drop (12 + 4 * u16_at value 8) value);
    })

abbrev pub selective_ack_value : ChunkSelectiveAck → List ℕ
selective_ack_value c =
    to_be_bytes w32 c.cumulative_tsn_ack ++ to_be_bytes w32 c.advertised_receiver_window_credit
    ++ to_be_bytes w16 (length c.gap_ack_blocks) ++ to_be_bytes w16 (length c.duplicate_tsn)
    ++ flat_map block_bytes c.gap_ack_blocks ++ flat_map tsn_bytes c.duplicate_tsn

abbrev pub IsSack : ChunkSelectiveAck → Type 0
IsSack c =
    IsU32 c.cumulative_tsn_ack × IsU32 c.advertised_receiver_window_credit × AllByRecursion IsBlock c.gap_ack_blocks
    × AllByRecursion IsU32 c.duplicate_tsn
