use Rattle.std.proofs.Common.{◌≡◌, ◌-◌, length}
use Rattle.sctp_streams.specs.Table.{IsTable, entries_in}
use Rattle.sctp_streams.proofs.table.add_pages.Given as goal

abbrev pub invariant-loop-alloc : goal.invariant-loop-alloc
invariant-loop-alloc l = (entries_in l.pages.items ≡ entries_in l.fn.pages.items) × IsTable l.pages.items

abbrev pub decreases-loop-alloc : goal.decreases-loop-alloc
decreases-loop-alloc l = l.count - length l.pages.items
