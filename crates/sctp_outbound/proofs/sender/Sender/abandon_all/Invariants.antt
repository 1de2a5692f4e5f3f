use Rattle.std.specs.Prelude.{◌-◌, ◌≡◌}
use Rattle.sctp_outbound.specs.Falling.{fell_first}
use Rattle.sctp_outbound.proofs.Falling.{FallsOn}
use Rattle.sctp_outbound.proofs.GivenUp.{GivesUpOn}
use Rattle.sctp_outbound.proofs.sender.Sender.abandon_all.Given as goal

abbrev pub invariant-loop-done : goal.invariant-loop-done
invariant-loop-done l =
    GivesUpOn l.why l.count l.done (l.fn.self, l.fn.streams) (l.self, l.streams)
    × FallsOn (fell_first l.count l.why (l.fn.self, l.fn.streams))
    (fell_first (l.count - l.done) l.why (l.self, l.streams)) l.fn.fallen l.fallen
    × (l.done ≡ 0 → l.looks ≡ l.fn.looks)
