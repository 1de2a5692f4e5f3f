-- INIT and INIT ACK: what bytes are read as, what they are spelled as, and the ranges of their numbers.
use Rattle.std.specs.Prelude.{ℕ, if◌then◌else◌, nat_lt, List, ◌++◌, length, drop, Result, Ok, Err}
use Rattle.std.specs.Int.{w16, w32, to_be_bytes}
use Rattle.std.specs.List.{AllByRecursion}
use Rattle.sctp_wire_types.specs.declared.error.Fault.{Fault}
use Rattle.sctp_wire_types.specs.declared.error.Fault.TheVariants.{Short}
use Rattle.sctp_wire_types.specs.declared.chunk.ChunkInit.{ChunkInit}
use Rattle.sctp_wire.specs.Results.{◌>>=◌}
use Rattle.sctp_wire.specs.Numbers.{u16_at, u32_at, IsU16, IsU32}
use Rattle.sctp_wire.specs.Frames.{joined}
use Rattle.sctp_wire.specs.Params.{param_frame, IsParam, params_at}

-- INIT and INIT ACK (RFC 4960 sections 3.3.2 and 3.3.3)
unfoldable pub init_of : List ℕ → Result ChunkInit Fault
init_of value =
    if nat_lt (length value) 16 then Err Short else
    (params_at (drop 16 value) >>= λ params. Ok (record {
      initiate_tag = u32_at value 0;
      advertised_receiver_window_credit = u32_at value 4;
      num_outbound_streams = u16_at value 8;
      num_inbound_streams = u16_at value 10;
      initial_tsn = u32_at value 12;
      params = params;
    }))

abbrev pub init_value : ChunkInit → List ℕ
init_value c =
    to_be_bytes w32 c.initiate_tag ++ to_be_bytes w32 c.advertised_receiver_window_credit
    ++ to_be_bytes w16 c.num_outbound_streams ++ to_be_bytes w16 c.num_inbound_streams
    ++ to_be_bytes w32 c.initial_tsn ++ joined param_frame c.params

abbrev pub IsInit : ChunkInit → Type 0
IsInit c =
    IsU32 c.initiate_tag × IsU32 c.advertised_receiver_window_credit × IsU16 c.num_outbound_streams
    × IsU16 c.num_inbound_streams
    × IsU32 c.initial_tsn × AllByRecursion IsParam c.params
