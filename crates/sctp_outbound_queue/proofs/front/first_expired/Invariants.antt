use Rattle.std.proofs.Common.{◌≤◌}
use Rattle.std.specs.List.{position_or_len}
use Rattle.sctp_outbound_queue.specs.Message.{is_expired_piece}
use Rattle.sctp_outbound_queue.proofs.front.first_expired.Given as goal

abbrev pub invariant-loop-index : goal.invariant-loop-index
invariant-loop-index l = l.index ≤ position_or_len (is_expired_piece l.now) l.fn.pieces.items
