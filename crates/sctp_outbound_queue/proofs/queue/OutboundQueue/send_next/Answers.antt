use Rattle.std.proofs.Common.{◌≡◌, ◌∙◌, Some, ap, arith, slice_get, sym}
use Rattle.std.specs.Option.{option_map}
use Rattle.sctp_outbound_queue.specs.Message.{sent_once}
use Rattle.sctp_outbound_queue.proofs.FlyingBytes.{flying_sent, flying_within}
use Rattle.sctp_outbound_queue.proofs.QueuedBytes.{after_piece_bytes, kept_sent}
use Rattle.sctp_outbound_queue.proofs.StandingPieces.{first_waits, sent_plain}
use Rattle.sctp_outbound_queue.proofs.Fronts.{front_more}
use Rattle.sctp_outbound_queue.proofs.InOrder.{order_sent}
use Rattle.sctp_outbound_queue.proofs.queue.OutboundQueue.send_next.Goals as goal

pub invariant_of-self-2 : goal.invariant_of-self-2
invariant_of-self-2 c =
    let first = first_waits c.self.inside.pending (sym c.is_empty.ensures ∙ c.if-is_empty.false) in
    let p = sent_once c.args.now first.0 in
    let sent = c.send_piece-bytes.ensures.sent first.0 first.1 in
    let is : option_map (sent_once c.args.now) (slice_get c.self.inside.pending 0) ≡ Some p =
    ap (option_map (sent_once c.args.now)) first.1 in (
      rw (c.send_piece-bytes.ensures.clocks first.0 first.1)
          (kept_sent _ c.args.now c.self.inside.pending c.self.inside.in_flight.items c.self.invariant.0 (sym is)
          c.send_piece-bytes.ensures.left c.reserve-2.ensures.items sent (c.send_piece-bytes.ensures.bytes first.0 first.1)),
      rw (sent, c.reserve-2.ensures.items)
          (c.grow.ensures c.self.inside.in_flight.items p (sent_plain c.args.now c.self.inside.pending p is)
          (c.reserve.ensures.same c.self.inside.in_flight.items c.self.invariant.1)),
      rw (sent, c.reserve-2.ensures.items)
          (front_more c.self.inside.front c.self.inside.in_flight.items p c.self.invariant.2),
      rw (sent, c.reserve-2.ensures.items, c.send_piece-bytes.ensures.left)
          (order_sent c.args.now c.self.inside.in_flight.items c.self.inside.pending p c.self.inside.next_message_id is
          c.self.invariant.3),
      flying_sent c.args.now c.self.inside.pending c.self.inside.in_flight.items c.self.invariant.4 (sym is)
          c.reserve-2.ensures.items sent (c.send_piece-bytes.ensures.bytes first.0 first.1),
    )

pub overflow_sub-self : goal.overflow_sub-self
overflow_sub-self c =
    let first = first_waits c.self.inside.pending (sym c.is_empty.ensures ∙ c.if-is_empty.false) in
    let p = sent_once c.args.now first.0 in
    let is : option_map (sent_once c.args.now) (slice_get c.self.inside.pending 0) ≡ Some p =
    ap (option_map (sent_once c.args.now)) first.1 in
    let all = after_piece_bytes c.args.now c.self.inside.pending p is in
    let bytes = c.send_piece-bytes.ensures.bytes first.0 first.1 in
    let kept = c.self.invariant.0.0 in
    omega (arith, all, bytes, kept)

pub overflow_add-self-2 : goal.overflow_add-self-2
overflow_add-self-2 c =
    let first = first_waits c.self.inside.pending (sym c.is_empty.ensures ∙ c.if-is_empty.false) in
    let p = sent_once c.args.now first.0 in
    let is : option_map (sent_once c.args.now) (slice_get c.self.inside.pending 0) ≡ Some p =
    ap (option_map (sent_once c.args.now)) first.1 in
    let all = after_piece_bytes c.args.now c.self.inside.pending p is in
    let bytes = c.send_piece-bytes.ensures.bytes first.0 first.1 in
    let within = flying_within c.self.inside.in_flight.items in
    let kept = c.self.invariant.0 in
    omega (arith, all, bytes, within, kept.0, kept.1, kept.2, c.self.invariant.4)
