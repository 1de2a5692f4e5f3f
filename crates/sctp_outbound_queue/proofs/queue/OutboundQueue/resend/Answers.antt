use Rattle.std.proofs.Common.{◌≡◌, true, false, ⊎_elim, refl, arith, ap, ◌∙◌}
use Rattle.std.proofs.Math.Bool.{cond}
use Rattle.std.proofs.lemmas.Bool.{cases_Bool}
use Rattle.sctp_outbound_queue.proofs.FirstOutstanding.{item_there, none_past}
use Rattle.sctp_outbound_queue.proofs.FlyingBytes.{flying_resent, flying_room}
use Rattle.sctp_outbound_queue.proofs.QueuedBytes.{kept_resent}
use Rattle.sctp_outbound_queue.proofs.Fronts.{alike_at, front_alike, order_alike, outline, outline_resent}
use Rattle.sctp_outbound_queue.proofs.queue.OutboundQueue.resend.Goals as goal

pub invariant_of-self : goal.invariant_of-self
invariant_of-self c =
    let item = c.in-Some.ensures.item in
    let there = item_there c.self.inside.in_flight.items c.args.index c.in-Some.piece.now item.3.0 item.1 in
    let alike = alike_at c.self.inside.in_flight.items c.args.index c.in-Some.piece.now c.resend.new.self there
    (ap outline c.resend.ensures ∙ outline_resent c.args.by c.in-Some.piece.now) in
    let before : c.from.result ≡ cond c.in-Some.piece.now.retransmit 1 0 =
    ⊎_elim (λ (t : c.in-Some.piece.now.retransmit ≡ true). let e = rw t at c.from.ensures in rw t e)
    (λ (f : c.in-Some.piece.now.retransmit ≡ false). let e = rw f at c.from.ensures in rw f e)
    (cases_Bool c.in-Some.piece.now.retransmit) in
    let after : c.from-in-Some.result ≡ cond c.resend.new.self.retransmit 1 0 =
    ⊎_elim (λ (t : c.resend.new.self.retransmit ≡ true). let e = rw t at c.from-in-Some.ensures in rw t e)
    (λ (f : c.resend.new.self.retransmit ≡ false). let e = rw f at c.from-in-Some.ensures in rw f e)
    (cases_Bool c.resend.new.self.retransmit) in (
      kept_resent c.args.by c.self.inside.clocks c.self.inside.pending c.self.inside.in_flight.items c.args.index
          c.self.invariant.0 there c.resend.ensures before after,
      c.settle.ensures c.self.inside.in_flight.items c.self.invariant.1,
      front_alike c.self.inside.front c.self.inside.in_flight.items _ alike c.self.invariant.2,
      order_alike c.self.inside.in_flight.items _ c.self.inside.pending c.self.inside.next_message_id alike c.self.invariant.3,
      flying_resent c.self.inside.in_flight.items c.args.index _ c.self.invariant.4 there c.flying_bytes.ensures
          c.flying_bytes-in-Some.ensures,
    )

pub returns-in-Some : goal.returns-in-Some
returns-in-Some c =
    let item = c.in-Some.ensures.item in
    let there = item_there c.self.inside.in_flight.items c.args.index c.in-Some.piece.now item.3.0 item.1 in
    rw (← c.self.view_is, there, c.resend.ensures) refl

pub returns-in_default : goal.returns-in_default
returns-in_default c =
    rw (
      ← c.self.view_is,
      none_past c.self.inside.in_flight.items c.args.index
          (λ l. c.in_default.ensures.variant.1 (omega (arith, l, c.self.inside.in_flight.ok.0))),
    ) refl

pub overflow_add-self-in-Some : goal.overflow_add-self-in-Some
overflow_add-self-in-Some c =
    let item = c.in-Some.ensures.item in
    let there = item_there c.self.inside.in_flight.items c.args.index c.in-Some.piece.now item.3.0 item.1 in
    let small =
    flying_room c.args.by c.self.inside.in_flight.items c.args.index c.self.invariant.4 c.self.invariant.0.1
    (omega (arith, c.self.invariant.0.2)) there c.resend.ensures c.flying_bytes.ensures c.flying_bytes-in-Some.ensures in
    omega (arith, small)
