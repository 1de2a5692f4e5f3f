use Rattle.std.proofs.Common.{◌≡◌, ◌++◌, take}
use Rattle.std.specs.List.{flat_map, AllByRecursion}
use Rattle.sctp_wire.proofs.entries.put_entries.Given as goal

abbrev pub invariant-loop-entry : goal.invariant-loop-entry
invariant-loop-entry g l =
    (l.out.items ≡ l.fn.out.items ++ flat_map g.T.PutEntry.entry_bytes (take l.entry-index l.entries))
    × AllByRecursion g.T.PutEntry.IsEntry (take l.entry-index l.entries)
