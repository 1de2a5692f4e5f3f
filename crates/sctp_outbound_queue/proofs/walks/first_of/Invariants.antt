use Rattle.std.proofs.Common.{◌≡◌, ◌-◌, slice_get, true}
use Rattle.sctp_outbound_queue.specs.Front.{holds_at}
use Rattle.sctp_outbound_queue.specs.Message.{is_of}
use Rattle.sctp_outbound_queue.proofs.walks.first_of.Given as goal

abbrev pub invariant-loop-passed : goal.invariant-loop-passed
invariant-loop-passed l =
    holds_at (is_of l.message_id) (slice_get l.fn.pieces.items (l.index - l.passed)) ≡ true
