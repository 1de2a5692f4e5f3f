use Rattle.std.proofs.Common.{ap, arith, sym, ◌∙◌}
use Rattle.sctp_outbound_queue.specs.Outbound.{flying_of, outstanding_of}
use Rattle.sctp_outbound_queue.specs.Message.{marked_again}
use Rattle.sctp_outbound_queue.proofs.FlyingBytes.{flying_marked}
use Rattle.sctp_outbound_queue.proofs.QueuedBytes.{marked_sum}
use Rattle.sctp_outbound_queue.proofs.FirstOutstanding.{after_change, marked}
use Rattle.sctp_outbound_queue.proofs.Timely.{marked_keeps, timely_changed}
use Rattle.sctp_outbound_queue.proofs.Fronts.{alike_each, front_alike, order_alike, outline_marked}
use Rattle.sctp_outbound_queue.proofs.queue.OutboundQueue.mark_all_to_retransmit.Goals as goal

pub invariant_of-self : goal.invariant_of-self
invariant_of-self c = (
  (
    c.self.invariant.0.0,
    c.self.invariant.0.1
        ∙ sym (ap outstanding_of c.mark_all-self-inside.ensures.marked ∙ marked_sum c.self.inside.in_flight.items),
    c.self.invariant.0.2,
    c.mark_all-self-inside.ensures.count,
    rw c.mark_all-self-inside.ensures.marked
        (omega (arith, after_change marked_again marked c.self.inside.in_flight.items, c.self.invariant.0.4)),
    rw c.mark_all-self-inside.ensures.marked
        (timely_changed _ marked_again (marked_keeps _ _) _ c.self.inside.in_flight.items c.self.invariant.0.5),
  ),
  c.mark_all-self-inside.ensures.sets,
  rw c.mark_all-self-inside.ensures.marked
      (front_alike c.self.inside.front c.self.inside.in_flight.items _ (alike_each marked_again outline_marked c.self.inside.in_flight.items) c.self.invariant.2),
  rw c.mark_all-self-inside.ensures.marked
      (order_alike c.self.inside.in_flight.items _ c.self.inside.pending c.self.inside.next_message_id (alike_each marked_again outline_marked c.self.inside.in_flight.items) c.self.invariant.3),
  sym (ap flying_of c.mark_all-self-inside.ensures.marked ∙ flying_marked c.self.inside.in_flight.items),
)
