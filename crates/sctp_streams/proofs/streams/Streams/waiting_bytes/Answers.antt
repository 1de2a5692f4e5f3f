use Rattle.std.proofs.Common.{◌<◌, ◌^◌, map, ◌∙◌, sym, arith}
use Rattle.sctp_receive_queues.proofs.SaturatedSums.{saturated_sum}
use Rattle.sctp_receive_queues.specs.Reassembly.{bytes_waiting}
use Rattle.sctp_streams.specs.Stream.{StreamView}
use Rattle.sctp_streams.specs.Streams.{waiting_in}
use Rattle.sctp_streams.proofs.streams.Streams.waiting_bytes.Goals as goal

pub returns : goal.returns
returns c =
    let es = c.self.inside.by_id in
    let small : waiting_in es < 2 ^ 64 = omega (arith, c.self.invariant.0) in
    rw (← c.self.view_is) (c.self.invariant.0
    ∙ sym (saturated_sum (λ (s : StreamView). bytes_waiting s.reassembly) (map (λ e. e.1) es) small))
