use Rattle.std.proofs.Common.{◌≡◌, ◌<◌, ◌^◌, ◌∙◌, length, not, arith, rules}
use Rattle.sctp_receive_queues.proofs.SaturatedSums.{filter_sum, saturated_sum}
use Rattle.sctp_receive_queues.specs.Pieces.{bytes_of}
use Rattle.sctp_wire_types.specs.declared.chunk.ChunkPayloadData.{ChunkPayloadData}
use Rattle.sctp_generations.specs.Deferred.{is_due, still_deferred}
use Rattle.sctp_generations.proofs.deferred.Deferred.release.Goals as goal

pub invariant_of-self-2 : goal.invariant_of-self-2
invariant_of-self-2 c =
    let ds = c.self.inside.chunks.items in
    let m = c.args.retiring.now in
    let left = still_deferred c.args.due m ds in
    let all : c.take_due.new.chunks.items ≡ left = search rules in
    let fewer = filter_sum (λ (d : ChunkPayloadData). length d.user_data) (λ d. not (is_due c.args.due m d)) ds in
    let small : bytes_of left < 2 ^ 64 = omega (arith, fewer, c.self.invariant) in
    rw all (
    c.add_bytes-self-inside.ensures
    ∙ rw all (saturated_sum (λ (d : ChunkPayloadData). length d.user_data) left small)
    )
