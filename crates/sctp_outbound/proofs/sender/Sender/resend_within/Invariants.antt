use Rattle.std.proofs.Common.{◌≡◌, ◌+◌, ◌-◌, ◌<◌, ◌≤◌, slice_get, true}
use Rattle.sctp_outbound.proofs.Passes.{is_picked}
use Rattle.sctp_outbound.proofs.SenderSteps.{ResendsOn}
use Rattle.sctp_outbound.proofs.sender.Sender.resend_within.Given as goal

abbrev pub invariant-pieces : goal.invariant-pieces
invariant-pieces l =
    ResendsOn l.by l.fn.self l.self l.index l.count l.room l.left l.sent l.fn.out l.out
    × (l.index < l.count → is_picked l.by (slice_get l.self.queue.in_flight l.index) ≡ true)
    × (l.looks ≤ l.fn.looks + l.sent)

abbrev pub decreases-pieces : goal.decreases-pieces
decreases-pieces l = l.count - l.index
