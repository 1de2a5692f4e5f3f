use Rattle.std.proofs.Common.{arith, ap, ℕ}
use Rattle.sctp_outbound_queue.specs.Outbound.{Outbound, AreKept, outstanding_of_message}
use Rattle.sctp_outbound_queue.proofs.QueuedBytes.{released_bound, abandoned_is}
use Rattle.sctp_outbound_queue.proofs.InOrder.{own_there}
use Rattle.sctp_outbound_queue.proofs.queue.OutboundQueue.abandon.Goals as goal

pub overflow_add-result : goal.overflow_add-result
overflow_add-result c =
    let kept : AreKept c.args.self.now.pending c.args.self.now.in_flight c.self.inside.pending_bytes
    c.self.inside.outstanding_bytes c.self.inside.marked c.self.inside.settled c.self.inside.clocks =
    rw (← c.self.view_is) c.self.invariant.0 in
    let bound = released_bound _ c.args.self.now c.in-Some.piece.now.message.message_id _ _ _ _ kept in
    let tail = ap (λ (z : Outbound × ℕ). z.1) c.in_ok-tail.ensures.ok in
    let sent =
    ap (λ (z : Outbound × ℕ). outstanding_of_message c.in-Some.piece.now.message.message_id z.0.in_flight)
    c.in_ok-tail.ensures.ok in
    omega (arith, bound, tail, sent, c.flag-sent.ensures.bytes)

pub flag-sent-requires : goal.flag-sent-requires
flag-sent-requires c =
    own_there c.args.self.now c.args.index c.in-Some.piece.now c.in-Some.ensures c.in_ok-tail.ensures.ok

pub returns-clause-ok : goal.returns-clause-ok
returns-clause-ok c =
    abandoned_is c.args.self.now c.args.index c.in-Some.ensures c.in_ok-tail.ensures.ok c.flag-sent.ensures.flagged
    c.flag-sent.ensures.bytes
