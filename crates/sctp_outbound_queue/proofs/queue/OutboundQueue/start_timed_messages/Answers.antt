use Rattle.std.proofs.Common.{arith, sym, ◌∙◌}
use Rattle.sctp_outbound_queue.proofs.QueuedBytes.{kept_started}
use Rattle.sctp_outbound_queue.proofs.FlyingBytes.{flying_started}
use Rattle.sctp_outbound_queue.proofs.StandingPieces.{standing_started}
use Rattle.sctp_outbound_queue.proofs.Timely.{all_started_already, sent_run_already}
use Rattle.sctp_outbound_queue.proofs.Fronts.{front_started}
use Rattle.sctp_outbound_queue.proofs.InOrder.{order_started}
use Rattle.sctp_outbound_queue.proofs.queue.OutboundQueue.start_timed_messages.Goals as goal

pub invariant_of-self : goal.invariant_of-self
invariant_of-self c = (
  rw c.start-2.ensures.started
      (kept_started c.total-covered.result c.start-next.result _ _ c.self.inside.clocks c.args.now
      c.self.inside.pending c.self.inside.in_flight.items c.self.invariant.0 c.start-next.ensures.started
      c.start_sent-next_sent.ensures.started (omega arith) c.total-covered.ensures
      (rw c.total-covered.ensures c.start-next.ensures.from)
      c.start-next.ensures.run c.start_sent-next_sent.ensures.timely c.start-2.ensures.total
      c.start-2.ensures.cover),
  rw c.start_sent-next_sent.ensures.started
      (standing_started c.self.inside.sets c.args.now c.self.inside.in_flight.items c.self.invariant.1),
  rw c.start.ensures
      (front_started c.self.inside.clocks.sent_run c.args.now c.self.inside.front c.self.inside.in_flight.items c.start_sent-next_sent.new.pieces.items
      (λ runs. sent_run_already c.args.now c.self.inside.clocks c.self.inside.in_flight.items runs c.self.invariant.0.5.1
      ∙ sym c.start_sent-next_sent.ensures.started)
      c.start_sent-next_sent.ensures.started c.self.invariant.2),
  order_started c.args.now c.self.inside.in_flight.items c.start_sent-next_sent.new.pieces.items c.self.inside.pending c.start-next.new.self c.self.inside.next_message_id
      c.start_sent-next_sent.ensures.started c.start-next.ensures.started c.self.invariant.3,
  flying_started c.args.now c.self.inside.in_flight.items c.self.invariant.4 c.start_sent-next_sent.ensures.started,
)

pub returns-then-self : goal.returns-then-self
returns-then-self c =
    rw (← c.self.view_is)
    (all_started_already c.args.now c.self.inside.clocks _ (omega arith) c.if-self.true
    c.self.invariant.0.5)
