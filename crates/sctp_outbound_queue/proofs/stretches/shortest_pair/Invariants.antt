use Rattle.std.proofs.Common.{◌+◌, ◌<◌, length}
use Rattle.sctp_outbound_queue.proofs.stretches.shortest_pair.Given as goal

abbrev pub invariant-loop-place : goal.invariant-loop-place
invariant-loop-place l = l.shortest + 1 < length l.stretches
