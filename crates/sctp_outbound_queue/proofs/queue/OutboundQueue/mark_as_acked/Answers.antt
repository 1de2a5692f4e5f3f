use Rattle.std.proofs.Common.{◌≡◌, true, false, ⊎_elim, ap}
use Rattle.std.proofs.Math.Bool.{cond}
use Rattle.std.proofs.lemmas.Bool.{cases_Bool}
use Rattle.sctp_outbound_queue.proofs.QueuedBytes.{kept_acked}
use Rattle.sctp_outbound_queue.proofs.FirstOutstanding.{item_there}
use Rattle.sctp_outbound_queue.proofs.FlyingBytes.{flying_acked}
use Rattle.sctp_outbound_queue.proofs.Fronts.{alike_at, front_alike, order_alike, outline}
use Rattle.sctp_outbound_queue.proofs.queue.OutboundQueue.mark_as_acked.Goals as goal

pub invariant_of-self : goal.invariant_of-self
invariant_of-self c =
    let item = c.in-Some.ensures.item in
    let there = item_there c.self.inside.in_flight.items c.index_of-index.result c.in-Some.named.now item.3.0 item.1 in
    let alike = alike_at c.self.inside.in_flight.items c.index_of-index.result c.in-Some.named.now c.acknowledge.new.self there
    (ap outline c.acknowledge.ensures) in
    let mark : c.from.result ≡ cond c.in-Some.named.now.retransmit 1 0 =
    ⊎_elim (λ (t : c.in-Some.named.now.retransmit ≡ true). let e = rw t at c.from.ensures in rw t e)
    (λ (f : c.in-Some.named.now.retransmit ≡ false). let e = rw f at c.from.ensures in rw f e)
    (cases_Bool c.in-Some.named.now.retransmit) in (
      kept_acked _ c.self.inside.pending c.self.inside.in_flight.items c.index_of-index.result c.self.invariant.0
          there c.outstanding_bytes-bytes.ensures mark c.acknowledge.ensures,
      c.settle.ensures c.self.inside.in_flight.items c.self.invariant.1,
      front_alike c.self.inside.front c.self.inside.in_flight.items _ alike c.self.invariant.2,
      order_alike c.self.inside.in_flight.items _ c.self.inside.pending c.self.inside.next_message_id alike c.self.invariant.3,
      flying_acked c.self.inside.in_flight.items c.index_of-index.result c.self.invariant.4 there c.flying_bytes.ensures
          c.acknowledge.ensures,
    )
