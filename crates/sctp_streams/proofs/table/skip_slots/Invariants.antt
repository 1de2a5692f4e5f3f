use Rattle.std.proofs.Common.{◌≡◌, ◌++◌, map, take, drop}
use Rattle.std.specs.Option.{option_map}
use Rattle.sctp_streams.specs.Stream.{stream_passed}
use Rattle.sctp_streams.specs.Table.{stream_of}
use Rattle.sctp_streams.proofs.table.skip_slots.Given as goal

abbrev pub invariant-loop-slot : goal.invariant-loop-slot
invariant-loop-slot l = map stream_of l.slots
    ≡ map (option_map (stream_passed l.tsn)) (take l.slot-index (map stream_of l.fn.slots))
    ++ drop l.slot-index (map stream_of l.fn.slots)
