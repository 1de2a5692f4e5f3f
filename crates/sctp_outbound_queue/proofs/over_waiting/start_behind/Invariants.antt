use Rattle.std.proofs.Common.{◌≡◌, ◌++◌, map, take, drop}
use Rattle.sctp_outbound_queue.specs.Message.{waiting_started}
use Rattle.sctp_outbound_queue.proofs.over_waiting.start_behind.Given as goal

abbrev pub invariant-loop-index : goal.invariant-loop-index
invariant-loop-index l =
    l.messages.items
    ≡ map (waiting_started l.now) (take l.index l.fn.messages.items) ++ drop l.index l.fn.messages.items
