use Rattle.std.proofs.Common.{◌∙◌, sym}
use Rattle.sctp_outbound_queue.proofs.Timely.{none_over, timely_sent_anew}
use Rattle.sctp_outbound_queue.proofs.queue.OutboundQueue.expired_inflight.Goals as goal

pub returns-then-not-is_over-clause-index : goal.returns-then-not-is_over-clause-index
returns-then-not-is_over-clause-index c =
    let q = c.self.inside in
    rw (← c.self.view_is)
    (none_over c.args.now q.clocks
    (record {
      pending = q.pending;
      in_flight = q.in_flight.items;
      first_tsn = q.first_tsn;
      next_message_id = q.next_message_id;
    })
    c.self.invariant.0.5
    (sym c.is_over.ensures ∙ c.if-not-is_over.true))

pub invariant_of-self : goal.invariant_of-self
invariant_of-self c = (
  c.self.invariant.0,
  c.self.invariant.1,
  c.first_expired-index.ensures.front,
  c.self.invariant.3,
  c.self.invariant.4,
)

pub invariant_of-self-2 : goal.invariant_of-self-2
invariant_of-self-2 c = (
  (
    c.self.invariant.0.0,
    c.self.invariant.0.1,
    c.self.invariant.0.2,
    c.self.invariant.0.3,
    c.self.invariant.0.4,
    rw c.next_sent-self-inside.ensures
        (timely_sent_anew c.self.inside.clocks c.self.inside.pending c.self.inside.in_flight.items
        c.self.invariant.0.5),
  ),
  c.self.invariant.1,
  c.first_expired-index.ensures.front,
  c.self.invariant.3,
  c.self.invariant.4,
)
