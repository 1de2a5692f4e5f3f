use Rattle.std.proofs.Common.{◌≡◌, [], length, take}
use Rattle.sctp_streams.specs.Table.{IsTable, entries_from, entries_in}
use Rattle.sctp_streams.proofs.table.first_of.Given as goal

abbrev pub invariant-loop-index : goal.invariant-loop-index
invariant-loop-index l = (entries_from 0 (take l.index l.pages.items) ≡ [])
    × ((entries_in l.pages.items ≡ entries_in l.fn.pages.items)
    × (IsTable l.pages.items × (length l.pages.items ≡ length l.fn.pages.items)))
