use Rattle.std.proofs.Common.{◌≡◌, ◌++◌, map, take, drop}
use Rattle.sctp_outbound_queue.specs.Owed.{lowered_in}
use Rattle.sctp_outbound_queue.proofs.owed.lower_each.Given as goal

abbrev pub invariant-loop-message : goal.invariant-loop-message
invariant-loop-message l =
    l.messages
    ≡ map (lowered_in l.stream l.generation l.count) (take l.message-index l.fn.messages) ++ drop l.message-index l.fn.messages
