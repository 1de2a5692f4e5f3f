use Rattle.std.proofs.Common.{◌<◌, ◌^◌, ◌∙◌, length, not, arith}
use Rattle.sctp_receive_queues.proofs.SaturatedSums.{filter_sum, saturated_sum}
use Rattle.sctp_receive_queues.specs.Pieces.{bytes_of}
use Rattle.sctp_wire_types.specs.declared.chunk.ChunkPayloadData.{ChunkPayloadData}
use Rattle.sctp_generations.specs.Deferred.{is_of, without_stream}
use Rattle.sctp_generations.proofs.deferred.Deferred.discard.Goals as goal

pub invariant_of-self : goal.invariant_of-self
invariant_of-self c =
    let ds = c.self.inside.chunks.items in
    let left = without_stream c.args.id ds in
    let fewer = filter_sum (λ (d : ChunkPayloadData). length d.user_data) (λ d. not (is_of c.args.id d)) ds in
    let small : bytes_of left < 2 ^ 64 = omega (arith, fewer, c.self.invariant) in
    rw c.drop_stream.ensures (
    c.add_bytes-self-inside.ensures
    ∙ rw c.drop_stream.ensures (saturated_sum (λ (d : ChunkPayloadData). length d.user_data) left small)
    )
