use Rattle.std.proofs.Common.{◌≡◌, ◌++◌, take}
use Rattle.std.specs.Map.{keys_of}
use Rattle.sctp_streams.specs.Table.{entries_of}
use Rattle.sctp_streams.proofs.table.Page.add_ids.Given as goal

abbrev pub invariant-loop-place : goal.invariant-loop-place
invariant-loop-place l = l.ids.items ≡ l.fn.ids.items ++ keys_of (entries_of l.first (take l.place l.self))
