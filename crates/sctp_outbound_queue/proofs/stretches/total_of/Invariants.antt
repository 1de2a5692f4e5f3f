use Rattle.std.proofs.Common.{◌≡◌, take}
use Rattle.sctp_outbound_queue.specs.Stretches.{total}
use Rattle.sctp_outbound_queue.proofs.stretches.total_of.Given as goal

abbrev pub invariant-loop-stretch : goal.invariant-loop-stretch
invariant-loop-stretch l = l.sum ≡ total (take l.stretch-index l.stretches)
