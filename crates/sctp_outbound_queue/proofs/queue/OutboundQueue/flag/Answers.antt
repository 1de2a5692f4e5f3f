use Rattle.std.proofs.Common.{◌∙◌, arith}
use Rattle.sctp_outbound_queue.proofs.FlyingBytes.{flying_within}
use Rattle.sctp_outbound_queue.proofs.QueuedBytes.{flagged_sum, kept_flagged}
use Rattle.sctp_outbound_queue.proofs.Fronts.{front_flagged, kept_less}
use Rattle.sctp_outbound_queue.proofs.InOrder.{order_flagged, pieces_in_order}
use Rattle.sctp_outbound_queue.proofs.queue.OutboundQueue.flag.Goals as goal

pub overflow_sub-self : goal.overflow_sub-self
overflow_sub-self c =
    let sum = flagged_sum c.args.message_id c.self.inside.in_flight.items in
    let outstanding = c.self.invariant.0.1 in
    let bytes = c.flag_all-lost.ensures.bytes in
    omega (arith, sum, outstanding, bytes)

pub invariant_of-self : goal.invariant_of-self
invariant_of-self c = (
  kept_flagged _ c.args.message_id c.flag_all-lost.result.marks c.self.inside.pending
      c.self.inside.in_flight.items c.self.invariant.0 c.flag_all-lost.ensures.bytes c.flag_all-lost.ensures.flagged
      c.flag_all-lost.ensures.marks,
  c.flag_all-lost.ensures.sets,
  rw c.abandon.ensures
      (front_flagged c.self.inside.front c.args.message_id c.self.inside.in_flight.items c.flag_all-lost.new.pieces.items c.flag_all-lost.ensures.flagged
      c.self.invariant.2),
  order_flagged c.args.message_id c.self.inside.in_flight.items c.flag_all-lost.new.pieces.items c.self.inside.pending c.self.inside.next_message_id c.flag_all-lost.ensures.flagged
      c.self.invariant.3,
  omega (arith, c.self.invariant.4, c.flag_all-lost.ensures.flying),
)

pub returns-clause-bytes : goal.returns-clause-bytes
returns-clause-bytes c =
    let sum = flagged_sum c.args.message_id c.self.inside.in_flight.items in
    let outstanding = c.self.invariant.0.1 in
    let bound = c.self.invariant.0.2 in
    rw (← c.self.view_is) (c.flag_all-lost.ensures.bytes ∙ omega (arith, sum, outstanding, bound))

pub flag_all-lost-requires-clause-order : goal.flag_all-lost-requires-clause-order
flag_all-lost-requires-clause-order c = pieces_in_order c.self.inside.in_flight.items c.self.inside.pending c.self.inside.next_message_id c.self.invariant.3

pub flag_all-lost-requires-clause-flying : goal.flag_all-lost-requires-clause-flying
flag_all-lost-requires-clause-flying c =
    let within = flying_within c.self.inside.in_flight.items in
    omega (arith, within, c.self.invariant.0.1, c.self.invariant.0.2)

pub abandon-requires : goal.abandon-requires
abandon-requires c =
    rw c.flag_all-lost.ensures.flagged
    (omega (arith, c.self.invariant.2.0, kept_less c.args.message_id c.self.inside.in_flight.items))
