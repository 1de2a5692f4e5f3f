-- Where something is so of each piece that waits to be read, so is all that follows from it.
use Rattle.std.proofs.Common.{ℕ}
use Rattle.sctp_model.proofs.Lists.{all_weaker}
use Rattle.sctp_wire_types.specs.declared.chunk.ChunkPayloadData.{ChunkPayloadData}
use Rattle.sctp_streams.specs.Stream.{StreamView}
use Rattle.sctp_streams.specs.Streams.{StreamMap}
use Rattle.sctp_resets.specs.Resets.{ResetsView}
use Rattle.sctp_reset_fit.specs.Pieces.{HoldsOnly}
use Rattle.sctp_reset_fit.proofs.Weaker.{stream_weaker}
use Rattle.sctp_sides.specs.Held.{IsHeldOnly}

-- What is so of pieces, and what follows from it.
module _ (P Q : ChunkPayloadData → Type 0) (weaker : (x : ChunkPayloadData) → P x → Q x) where
  pub held_weaker : (r : ResetsView) (m : StreamMap) → IsHeldOnly P r m → IsHeldOnly Q r m
  held_weaker r m h = record {
    streams =
        all_weaker (λ (e : ℕ × StreamView). HoldsOnly P e.0 e.1.reassembly)
        (λ (e : ℕ × StreamView). HoldsOnly Q e.0 e.1.reassembly) m.by_id
        (λ e. stream_weaker P Q weaker e.0 e.1.reassembly)
        h.streams;
    kept = all_weaker P Q r.generations.deferred weaker h.kept;
  }
