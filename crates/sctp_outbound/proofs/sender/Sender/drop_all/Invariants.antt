use Rattle.std.specs.Prelude.{◌≡◌, ◌-◌}
use Rattle.sctp_outbound.specs.Abandonment.{dropped_first}
use Rattle.sctp_outbound.specs.Falling.{fell_dropped_first}
use Rattle.sctp_outbound.proofs.Falling.{FallsOn}
use Rattle.sctp_outbound.proofs.sender.Sender.drop_all.Given as goal

abbrev pub invariant-loop-done : goal.invariant-loop-done
invariant-loop-done l =
    (dropped_first (l.count - l.done) l.now (l.self, l.streams) ≡ dropped_first l.count l.now (l.fn.self, l.fn.streams))
    × FallsOn (fell_dropped_first l.count l.now (l.fn.self, l.fn.streams))
    (fell_dropped_first (l.count - l.done) l.now (l.self, l.streams)) l.fn.fallen l.fallen
