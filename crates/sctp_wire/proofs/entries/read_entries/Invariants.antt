use Rattle.std.proofs.Common.{◌≡◌, ◌≤◌, ◌*◌, ◌-◌, ◌++◌, length}
use Rattle.sctp_wire.specs.Frames.{entries_at}
use Rattle.sctp_wire.proofs.entries.read_entries.Given as goal

abbrev pub invariant-entries : goal.invariant-entries
invariant-entries g l =
    (l.entries.items ++ entries_at g.T.Entry.entry_at g.T.Entry.WIDTH (l.count - l.counter) l.rest
    ≡ entries_at g.T.Entry.entry_at g.T.Entry.WIDTH l.count l.fn.bytes)
    × ((l.count - l.counter) * g.T.Entry.WIDTH ≤ length l.rest)
