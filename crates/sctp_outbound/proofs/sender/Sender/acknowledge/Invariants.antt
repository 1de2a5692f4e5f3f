use Rattle.std.proofs.Common.{◌≡◌, ◌-◌, ◌||◌}
use Rattle.sctp_streams.specs.LowMarks.{Gathers}
use Rattle.sctp_outbound.specs.Progress.{any_new_up_to}
use Rattle.sctp_outbound.specs.Sender.{acknowledged}
use Rattle.sctp_outbound.proofs.sender.Sender.acknowledge.Given as goal

abbrev pub invariant-loop-done : goal.invariant-loop-done
invariant-loop-done l =
    (acknowledged (l.count - l.done) l.now (l.self, l.rto, l.streams) ≡
    acknowledged l.count l.now (l.fn.self, l.fn.rto, l.fn.streams))
    × ((l.any_new || any_new_up_to (l.count - l.done) l.self.queue.in_flight)
    ≡ any_new_up_to l.count l.fn.self.queue.in_flight)
    × Gathers l.fn.streams l.fn.fallen l.streams l.fallen
