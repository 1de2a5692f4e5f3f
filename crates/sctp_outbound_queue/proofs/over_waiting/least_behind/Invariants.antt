use Rattle.std.proofs.Common.{take, drop}
use Rattle.sctp_outbound_queue.specs.Clocks.{AllFrom}
use Rattle.sctp_outbound_queue.proofs.over_waiting.least_behind.Given as goal

abbrev pub invariant-loop-behind : goal.invariant-loop-behind
invariant-loop-behind l = AllFrom l.least (take l.behind (drop l.from l.messages.items))
