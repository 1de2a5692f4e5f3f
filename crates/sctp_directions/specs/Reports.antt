-- What an acknowledgement says of what came and was taken in (RFC 4960 section 3.3.4).
use Rattle.std.specs.Prelude.{◌≡◌, ◌<◌, ℕ, ◌+◌, ◌-◌, List}
use Rattle.sctp_wire_types.specs.declared.chunk.ChunkSelectiveAck.{ChunkSelectiveAck}
use Rattle.sctp_received.specs.Received.{is_named}
use Rattle.sctp_model.specs.Packets.{mem}
use Rattle.sctp_serial.specs.Serial.{tsn}
use Rattle.sctp_fit.specs.Incoming.{tsn_before}

-- A SACK says what came, as far as it was taken in: its cumulative TSN ack is the TSN before that of this reach, and of
-- the offsets from the reach on its blocks name exactly those that came. Blocks count from the SACK's cumulative TSN
-- ack: the reach itself is their 1.
pub record SaysWhatWasTaken (peer reach : ℕ) (came : List ℕ) (sack : ChunkSelectiveAck) : Type 0 where
  pub at : sack.cumulative_tsn_ack ≡ tsn_before (tsn peer reach)
  pub set : (o : ℕ) → 0 < o → is_named o sack.gap_ack_blocks ≡ mem (reach + o - 1) came
