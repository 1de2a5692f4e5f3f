use Rattle.std.proofs.Common.{◌≤◌}
use Rattle.sctp_outbound_queue.specs.Outbound.{first_outstanding_of}
use Rattle.sctp_outbound_queue.proofs.walks.first_outstanding.Given as goal

abbrev pub invariant-loop-index : goal.invariant-loop-index
invariant-loop-index l = l.index ≤ first_outstanding_of l.fn.pieces.items
