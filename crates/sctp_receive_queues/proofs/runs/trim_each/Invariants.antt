use Rattle.std.proofs.Common.{◌≡◌, ◌++◌, map, take, drop}
use Rattle.sctp_receive_queues.specs.Reassembly.{above}
use Rattle.sctp_receive_queues.proofs.runs.trim_each.Given as goal

abbrev pub invariant-loop-run : goal.invariant-loop-run
invariant-loop-run l =
    l.runs ≡ map (above l.tsn) (take l.run-index l.fn.runs) ++ drop l.run-index l.fn.runs
