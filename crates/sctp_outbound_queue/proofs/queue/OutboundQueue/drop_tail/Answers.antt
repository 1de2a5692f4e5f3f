use Rattle.std.proofs.Common.{◌≡◌, ap, refl, rules}
use Rattle.sctp_outbound_queue.specs.Waiting.{Waiting}
use Rattle.sctp_outbound_queue.proofs.FlyingBytes.{flying_marker}
use Rattle.sctp_outbound_queue.proofs.Fronts.{front_more}
use Rattle.sctp_outbound_queue.proofs.QueuedBytes.{kept_marker}
use Rattle.sctp_outbound_queue.proofs.InOrder.{order_marker}
use Rattle.sctp_outbound_queue.proofs.queue.OutboundQueue.drop_tail.Goals as goal

pub invariant_of-self-2 : goal.invariant_of-self-2
invariant_of-self-2 c =
    let same : c.first.inside.message ≡ c.in-Some.first.now.message =
    ap (λ (m : Waiting). m.message) c.first.view_is in (
      rw (c.send.ensures, same)
          (kept_marker c.self.inside.clocks c.in-Some.first.now c.self.inside.pending c.self.inside.in_flight.items
          c.self.invariant.0 (search rules) (search rules) (search rules) c.bytes-bytes.ensures),
      rw c.in_ok-push_back.ensures.items
          (c.grow.ensures c.self.inside.in_flight.items c.marker.result (rw c.marker.ensures (refl, refl, refl))
          (c.reserve.ensures.same c.self.inside.in_flight.items c.self.invariant.1)),
      rw c.in_ok-push_back.ensures.items
          (front_more c.self.inside.front c.self.inside.in_flight.items c.marker.result c.self.invariant.2),
      rw (c.in_ok-push_back.ensures.items, c.pop_front.ensures)
          (order_marker c.self.inside.in_flight.items c.self.inside.pending c.in-Some.first.now c.marker.result c.self.inside.next_message_id (search rules) (search rules)
          c.self.invariant.3),
      rw c.in_ok-push_back.ensures.items
          (flying_marker c.self.inside.in_flight.items c.marker.result (rw c.marker.ensures refl) c.self.invariant.4),
    )
