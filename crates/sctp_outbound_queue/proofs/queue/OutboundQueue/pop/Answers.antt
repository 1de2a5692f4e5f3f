use Rattle.std.proofs.Common.{◌≡◌, true, false, ⊎_elim, ap, slice_get, Some}
use Rattle.std.proofs.Math.Bool.{cond}
use Rattle.std.proofs.lemmas.Bool.{cases_Bool}
use Rattle.sctp_outbound_queue.proofs.QueuedBytes.{kept_popped}
use Rattle.sctp_outbound_queue.proofs.FlyingBytes.{flying_popped}
use Rattle.sctp_outbound_queue.proofs.StandingPieces.{standing_behind}
use Rattle.sctp_outbound_queue.proofs.InOrder.{order_behind}
use Rattle.sctp_outbound_queue.proofs.queue.OutboundQueue.pop.Goals as goal

pub invariant_of-self-2 : goal.invariant_of-self-2
invariant_of-self-2 c =
    let mark : c.from.result ≡ cond c.in_ok-piece.piece.retransmit 1 0 =
    ⊎_elim (λ (t : c.in_ok-piece.piece.retransmit ≡ true). let e = rw t at c.from.ensures in rw t e)
    (λ (f : c.in_ok-piece.piece.retransmit ≡ false). let e = rw f at c.from.ensures in rw f e)
    (cases_Bool c.in_ok-piece.piece.retransmit) in
    let there : slice_get c.self.inside.in_flight.items 0 ≡ Some c.in_ok-piece.piece =
    ap (λ ps. slice_get ps 0) c.in_ok-piece.ensures.items in
    let left = c.in_ok-piece.ensures.rest in (
      kept_popped c.self.inside.clocks c.self.inside.pending c.self.inside.in_flight.items c.self.invariant.0
          there left c.outstanding_bytes.ensures mark c.saturating_sub-self-inside.ensures,
      rw left
          (standing_behind c.self.inside.sets c.pass.new.self c.self.inside.in_flight.items c.in_ok-piece.piece there
          c.pass.ensures c.self.invariant.1),
      c.pop.ensures c.in_ok-piece.piece _ (rw c.in_ok-piece.ensures.items at c.self.invariant.2),
      rw left (order_behind c.self.inside.in_flight.items c.self.inside.pending c.self.inside.next_message_id c.self.invariant.3),
      flying_popped c.self.inside.in_flight.items c.self.invariant.4 there left c.flying_bytes.ensures,
    )
