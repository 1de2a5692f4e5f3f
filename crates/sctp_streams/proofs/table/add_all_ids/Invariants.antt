use Rattle.std.proofs.Common.{◌≡◌, ◌++◌, take}
use Rattle.std.specs.Map.{keys_of}
use Rattle.sctp_streams.specs.Table.{entries_from}
use Rattle.sctp_streams.proofs.table.add_all_ids.Given as goal

abbrev pub invariant-loop-index : goal.invariant-loop-index
invariant-loop-index l = l.ids.items ≡ l.fn.ids.items ++ keys_of (entries_from 0 (take l.index l.pages.items))
