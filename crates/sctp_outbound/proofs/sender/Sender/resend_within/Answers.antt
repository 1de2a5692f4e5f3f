use Rattle.std.proofs.Common.{◌≡◌, ◌+◌, ◌≤◌, arith, drop, length}
use Rattle.sctp_outbound.proofs.Passes.{in_front, moves_on, not_sent, picked_next, resends_from}
use Rattle.sctp_outbound.proofs.SenderSteps.{on_err, resends_on, resends_some, resent_count, resent_out, resent_sender}
use Rattle.sctp_outbound.proofs.sender.Sender.resend_within.Goals as goal

pub pieces-init : goal.pieces-init
pieces-init c =
    let at : c.args.first ≡ 0 + in_front c.args.by (drop 0 c.args.self.now.queue.in_flight) =
    omega (arith, c.requires) in (
      resends_from c.args.by c.args.self.now c.args.first c.inflight_len-count.result c.args.room c.args.out.now
          c.inflight_len-count.ensures c.requires,
      λ less. picked_next c.args.by 0 c.args.first c.args.room c.args.self.now.queue.in_flight at (omega arith)
          (omega (arith, less, c.inflight_len-count.ensures)),
      omega arith,
    )

pub returns-in_err-room-clause-grows : goal.returns-in_err-room-clause-grows
returns-in_err-room-clause-grows c =
    on_err c.from_residual.result (resends_some c.pieces.invariant.0 c.in_err-room.ensures.grows)

pub returns-in_default : goal.returns-in_default
returns-in_default c =
    let full =
    not_sent c.args.by _ c.pieces.self c.resend_at.new.self c.pieces.index c.pieces.left c.in_ok-room.field-0
    (c.pieces.invariant.1 c.pieces-test.true) c.in_default.not-Sent c.in_ok-room.ensures.exact in
    let count = resent_count c.pieces.invariant.0 full in
    record {
      count = count;
      sender = resent_sender c.pieces.invariant.0 full;
      chunks = resent_out c.pieces.invariant.0 c.resend_at.new.out full c.in_ok-room.ensures.chunks;
      grows = tt;
      looks = omega (arith, count, c.pieces.invariant.2);
    }

pub pieces-preserved : goal.pieces-preserved
pieces-preserved c =
    let on =
    resends_on c.pieces.invariant.0 c.resend_at.new.out (rw c.in-Sent.is at c.in_ok-room.ensures.exact)
    c.in_ok-room.ensures.chunks in
    let within : c.pieces.index + 1 ≤ length c.resend_at.new.self.queue.in_flight =
    omega (arith, c.pieces-test.true, on.count) in (
      moves_on c.next_picked-index.result on within c.next_picked-index.ensures.index,
      λ less. picked_next c.args.by (c.pieces.index + 1) c.next_picked-index.result c.args.room
          c.resend_at.new.self.queue.in_flight c.next_picked-index.ensures.index within
          (omega (arith, less, on.count)),
      omega (arith, c.next_picked-index.ensures.looks, c.pieces.invariant.2),
    )
