use Rattle.std.proofs.Common.{◌≤◌}
use Rattle.sctp_outbound_queue.specs.Outbound.{abandoned_in_front_of}
use Rattle.sctp_outbound_queue.proofs.front.abandoned_from.Given as goal

abbrev pub invariant-loop-index : goal.invariant-loop-index
invariant-loop-index l = l.index ≤ abandoned_in_front_of l.fn.pieces.items
