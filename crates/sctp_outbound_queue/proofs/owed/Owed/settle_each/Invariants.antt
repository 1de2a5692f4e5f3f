use Rattle.std.proofs.Common.{◌≡◌, ◌++◌, map, take, drop}
use Rattle.sctp_outbound_queue.specs.Owed.{lowered}
use Rattle.sctp_outbound_queue.proofs.owed.Owed.settle_each.Given as goal

abbrev pub invariant-loop-message : goal.invariant-loop-message
invariant-loop-message l =
    l.messages
    ≡ map (lowered l.self.counts.entries) (take l.message-index l.fn.messages) ++ drop l.message-index l.fn.messages
