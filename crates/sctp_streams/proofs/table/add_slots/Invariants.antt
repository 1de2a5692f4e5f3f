use Rattle.std.proofs.Common.{◌≤◌, ◌-◌, length, map, max}
use Rattle.sctp_streams.specs.Table.{IsAsBefore, stream_of}
use Rattle.sctp_streams.proofs.table.add_slots.Given as goal

abbrev pub invariant-loop-slots : goal.invariant-loop-slots
invariant-loop-slots l = IsAsBefore (map stream_of l.fn.slots.items) (map stream_of l.slots.items)
    × (length l.slots.items ≤ max (length l.fn.slots.items) l.count)

abbrev pub decreases-loop-slots : goal.decreases-loop-slots
decreases-loop-slots l = l.count - length l.slots.items
