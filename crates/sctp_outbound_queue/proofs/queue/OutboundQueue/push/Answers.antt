use Rattle.sctp_outbound_queue.specs.Waiting.{Waiting}
use Rattle.std.proofs.Common.{arith, ◌≡◌, ◌∙◌, ap, [], ◌∷◌, ◌++◌, refl}
use Rattle.sctp_outbound_queue.proofs.QueuedBytes.{kept_more}
use Rattle.sctp_outbound_queue.specs.Message.{accepted}
use Rattle.sctp_outbound_queue.proofs.InOrder.{order_pushed}
use Rattle.sctp_outbound_queue.proofs.queue.OutboundQueue.push.Goals as goal

pub invariant_of-self-2 : goal.invariant_of-self-2
invariant_of-self-2 c =
    let policy : c.message-2.inside.message.policy ≡ c.args.message.message.policy =
    ap (λ (m : Waiting). m.message.policy) (c.message-2.view_is ∙ c.accept.ensures) in (
      rw (c.accept-2.ensures, c.is_timed-is_timed.ensures, policy)
          (kept_more _ c.self.inside.next_message_id c.self.inside.pending c.self.inside.in_flight.items
          c.args.message (omega arith) (omega arith) c.self.invariant.0 c.bytes-bytes.ensures
          c.saturating_add-waiting.ensures c.saturating_add.ensures
          c.if-saturating_add.false
          (c.in_ok-push_back.ensures.ok ∙ ap (λ z. c.self.inside.pending ++ z ∷ []) c.accept.ensures)),
      c.self.invariant.1,
      c.self.invariant.2,
      order_pushed c.self.inside.in_flight.items c.self.inside.pending c.push_back.new.self
          (accepted c.self.inside.next_message_id c.args.message) c.self.inside.next_message_id refl
          (c.in_ok-push_back.ensures.ok ∙ ap (λ z. c.self.inside.pending ++ z ∷ []) c.accept.ensures) c.self.invariant.3,
      c.self.invariant.4,
    )
