use Rattle.std.proofs.Common.{◌≡◌, ◌+◌, drop, take}
use Rattle.sctp_received.specs.Received.{is_named}
use Rattle.sctp_streams.specs.LowMarks.{Gathers}
use Rattle.sctp_outbound.specs.GapAcks.{round_trips, timed}
use Rattle.sctp_outbound.proofs.GapAcks.{AcknowledgesNamed}
use Rattle.sctp_outbound.proofs.sender.Sender.acknowledge_blocks.Given as goal

abbrev pub invariant-loop-block : goal.invariant-loop-block
invariant-loop-block l =
    AcknowledgesNamed (λ j. is_named (j + 1) (take l.block-index l.blocks)) l.fn.self l.self l.fn.streams l.streams
    l.newest
    × (timed l.next_tsn (round_trips l.now (drop l.block-index l.blocks) l.self.queue.in_flight)
    (l.self.min_tsn2measure_rtt, l.rto)
    ≡ timed l.next_tsn (round_trips l.now l.blocks l.fn.self.queue.in_flight)
    (l.fn.self.min_tsn2measure_rtt, l.fn.rto))
    × Gathers l.fn.streams l.fn.fallen l.streams l.fallen
