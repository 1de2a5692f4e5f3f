use Rattle.std.proofs.Common.{◌≡◌, ◌∙◌, ◌<◌, ◌^◌, length, not, arith}
use Rattle.sctp_wire_types.specs.declared.chunk.ChunkPayloadData.{ChunkPayloadData}
use Rattle.sctp_serial.specs.Serial.{tsn_lte}
use Rattle.sctp_receive_queues.specs.Pieces.{bytes_of}
use Rattle.sctp_receive_queues.proofs.SaturatedSums.{saturated_sum, filter_sum}
use Rattle.sctp_receive_queues.proofs.pieces.Pieces.drop_up_to.Goals as goal

pub invariant_of-self : goal.invariant_of-self
invariant_of-self c =
    let e = c.drop_up_to.ensures in
    let less =
    filter_sum (λ (p : ChunkPayloadData). length p.user_data) (λ (p : ChunkPayloadData). not (tsn_lte p.tsn c.args.tsn))
    c.self.inside.list in
    let small : bytes_of c.drop_up_to.new.self < 2 ^ 64 = rw e (omega (arith, less, c.self.invariant.0)) in (
      c.bytes-self-inside.ensures ∙
          saturated_sum (λ (p : ChunkPayloadData). length p.user_data) c.drop_up_to.new.self small,
      tt,
    )
