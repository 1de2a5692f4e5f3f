use Rattle.std.proofs.Common.{◌≡◌, ◌<◌, ◌^◌, ◌∙◌, length, arith, rules}
use Rattle.sctp_receive_queues.proofs.SaturatedSums.{filter_sum, saturated_sum}
use Rattle.sctp_receive_queues.specs.Pieces.{bytes_of}
use Rattle.sctp_wire_types.specs.declared.chunk.ChunkPayloadData.{ChunkPayloadData}
use Rattle.sctp_generations.specs.Kept.{is_kept, kept_of}
use Rattle.sctp_generations.proofs.deferred.Deferred.kept.Goals as goal

pub invariant_of-result : goal.invariant_of-result
invariant_of-result c =
    let ds = c.self.inside.chunks.items in
    let left = kept_of c.args.kept ds in
    let all : c.in_ok-chunks.chunks.items ≡ left = search rules in
    let fewer = filter_sum (λ (d : ChunkPayloadData). length d.user_data) (is_kept c.args.kept ds) ds in
    let small : bytes_of left < 2 ^ 64 = omega (arith, fewer, c.self.invariant) in
    c.add_bytes-bytes.ensures ∙ rw all (saturated_sum (λ (d : ChunkPayloadData). length d.user_data) left small)
