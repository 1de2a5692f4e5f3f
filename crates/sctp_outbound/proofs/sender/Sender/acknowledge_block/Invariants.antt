use Rattle.std.proofs.Common.{◌≡◌, ◌-◌, ◌≤◌}
use Rattle.sctp_streams.specs.LowMarks.{Gathers}
use Rattle.sctp_outbound.specs.GapAcks.{timed, trips_from}
use Rattle.sctp_outbound.proofs.GapAcks.{AcknowledgesNamed, passed}
use Rattle.sctp_outbound.proofs.sender.Sender.acknowledge_block.Given as goal

abbrev pub invariant-pieces : goal.invariant-pieces
invariant-pieces l =
    AcknowledgesNamed (passed l.first l.count l.index) l.fn.self l.self l.fn.streams l.streams l.newest
    × (timed l.next_tsn (trips_from l.now l.index (l.count - l.index) l.self.queue.in_flight)
    (l.self.min_tsn2measure_rtt, l.rto)
    ≡ timed l.next_tsn (trips_from l.now l.first (l.count - l.first) l.fn.self.queue.in_flight)
    (l.fn.self.min_tsn2measure_rtt, l.fn.rto))
    × Gathers l.fn.streams l.fn.fallen l.streams l.fallen
    × (l.first ≤ l.index)

abbrev pub decreases-pieces : goal.decreases-pieces
decreases-pieces l = l.count - l.index
