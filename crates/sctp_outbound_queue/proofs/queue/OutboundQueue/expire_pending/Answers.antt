use Rattle.std.proofs.Common.{◌≡◌, ◌∙◌, ap, sym}
use Rattle.sctp_outbound_queue.specs.Waiting.{Waiting}
use Rattle.sctp_outbound_queue.proofs.QueuedBytes.{kept_same, kept_dropped, kept_raised, dropped_bytes, expiry_is}
use Rattle.sctp_outbound_queue.proofs.Timely.{look_begins, no_expiry}
use Rattle.sctp_outbound_queue.proofs.InOrder.{order_dropped}
use Rattle.sctp_outbound_queue.proofs.queue.OutboundQueue.expire_pending.Goals as goal

pub invariant_of-self-in-None : goal.invariant_of-self-in-None
invariant_of-self-in-None c = (
  kept_same _ _ c.args.now c.self.inside.pending c.self.inside.in_flight.items
      (kept_raised c.self.inside.clocks c.drop_expired.new.stretches c.self.inside.pending
      c.self.inside.in_flight.items c.self.invariant.0 c.in-None.ensures.cover c.in-None.ensures.total)
      c.in-None.ensures.dropped c.in-None.ensures.left c.in-None.ensures.index c.in-None.ensures.known,
  c.self.invariant.1,
  c.self.invariant.2,
  order_dropped c.args.now c.self.inside.in_flight.items c.self.inside.pending c.drop_expired.new.messages c.self.inside.next_message_id c.in-None.ensures.left c.self.invariant.3,
  c.self.invariant.4,
)

pub overflow_sub-self : goal.overflow_sub-self
overflow_sub-self c =
    (
    dropped_bytes _ c.args.now c.self.inside.pending c.self.inside.in_flight.items c.self.invariant.0
    c.in-Some.ensures.dropped c.bytes-bytes.ensures
    ).1

pub invariant_of-self : goal.invariant_of-self
invariant_of-self c = (
  rw c.settle.ensures c.self.invariant.0,
  c.self.invariant.1,
  c.self.invariant.2,
  rw c.settle.ensures c.self.invariant.3,
  c.self.invariant.4,
)

pub invariant_of-self-in-Some : goal.invariant_of-self-in-Some
invariant_of-self-in-Some c = (
  rw c.drop_at.ensures
      (kept_dropped _ _ c.args.now c.self.inside.pending c.self.inside.in_flight.items
      (kept_raised c.self.inside.clocks c.drop_expired.new.stretches c.self.inside.pending
      c.self.inside.in_flight.items c.self.invariant.0 c.in-Some.ensures.cover c.in-Some.ensures.total)
      c.in-Some.ensures.dropped c.in-Some.ensures.left c.bytes-bytes.ensures c.in-Some.ensures.index
      c.in-Some.ensures.known),
  c.self.invariant.1,
  c.self.invariant.2,
  order_dropped c.args.now c.self.inside.in_flight.items c.self.inside.pending c.drop_expired.new.messages c.self.inside.next_message_id c.in-Some.ensures.left c.self.invariant.3,
  c.self.invariant.4,
)

pub returns-in-Some : goal.returns-in-Some
returns-in-Some c =
    let same : c.dropped.inside.message ≡ c.in-Some.dropped.message =
    ap (λ (m : Waiting). m.message) c.dropped.view_is in
    rw (← c.self.view_is, same) (
    expiry_is _ c.args.now _ c.self.invariant.0 c.in-Some.ensures.dropped c.in-Some.ensures.left c.bytes-bytes.ensures
    )

pub returns-then-not-is_over : goal.returns-then-not-is_over
returns-then-not-is_over c =
    rw (c.settle.ensures, ← c.self.view_is)
    (no_expiry c.args.now c.self.inside.clocks _ c.self.invariant.0.5
    (sym c.is_over.ensures ∙ c.if-not-is_over.true))

pub drop_expired-requires : goal.drop_expired-requires
drop_expired-requires c =
    let begun = look_begins c.args.now c.self.inside.clocks c.self.inside.pending c.self.invariant.0.5.0 in
    rw c.passed_by-look.ensures
    (record { index = begun.index; known = begun.known; cover = c.self.invariant.0.5.0.5; rest = c.self.invariant.0.5.0.7 })
