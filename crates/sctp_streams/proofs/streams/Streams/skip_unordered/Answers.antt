use Rattle.std.proofs.Common.{◌<◌, ◌^◌, map, ◌∙◌, sym, arith}
use Rattle.sctp_receive_queues.proofs.SaturatedSums.{saturated_sum}
use Rattle.sctp_receive_queues.specs.Reassembly.{bytes_waiting}
use Rattle.sctp_streams.specs.Stream.{StreamView}
use Rattle.sctp_streams.specs.Streams.{passed_each, waiting_in}
use Rattle.sctp_streams.proofs.ReadableStreams.{passed_count}
use Rattle.sctp_streams.proofs.WaitingBytes.{passed_sum}
use Rattle.sctp_streams.proofs.streams.Streams.skip_unordered.Goals as goal

pub invariant_of-self : goal.invariant_of-self
invariant_of-self c =
    let es = c.self.inside.by_id in
    let passed = passed_each c.args.tsn es in
    let small : waiting_in passed < 2 ^ 64 = omega (arith, c.self.invariant.0, passed_sum c.args.tsn es) in
    rw c.skip_unordered.ensures (
      c.waiting_bytes-self-inside.ensures
          ∙ rw c.skip_unordered.ensures
          (saturated_sum (λ (s : StreamView). bytes_waiting s.reassembly) (map (λ e. e.1) passed) small),
      c.self.invariant.1 ∙ sym (passed_count c.args.tsn es),
    )
