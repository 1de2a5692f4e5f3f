-- What waits to be read of one side was made of nothing but DATA of which something is so: on the streams each message
-- of the pieces of one message, and in what is kept for generations that are not read yet each piece by itself.
use Rattle.std.specs.Prelude.{ℕ}
use Rattle.std.specs.List.{AllByRecursion}
use Rattle.sctp_wire_types.specs.declared.chunk.ChunkPayloadData.{ChunkPayloadData}
use Rattle.sctp_streams.specs.Stream.{StreamView}
use Rattle.sctp_streams.specs.Streams.{StreamMap}
use Rattle.sctp_resets.specs.Resets.{ResetsView}
use Rattle.sctp_reset_fit.specs.Pieces.{HoldsOnly}

-- each live stream holds nothing else
abbrev pub StreamsHoldOnly : (ChunkPayloadData → Type 0) → StreamMap → Type 0
StreamsHoldOnly P m = AllByRecursion (λ (e : ℕ × StreamView). HoldsOnly P e.0 e.1.reassembly) m.by_id

-- and of each piece that is kept for a generation that is not read yet; which of these belong to one message is looked
-- at only when that generation is read
pub record IsHeldOnly (P : ChunkPayloadData → Type 0) (r : ResetsView) (m : StreamMap) : Type 0 where
  pub streams : StreamsHoldOnly P m
  pub kept : AllByRecursion P r.generations.deferred
