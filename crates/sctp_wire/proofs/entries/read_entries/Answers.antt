use Rattle.std.proofs.Common.{arith}
use Rattle.sctp_wire.proofs.FrameLoop.{entries_goes_on, entries_done, room_left}
use Rattle.sctp_wire.proofs.entries.read_entries.Goals as goal

pub entries-preserved : goal.entries-preserved
entries-preserved g c = (
  rw (c.in_ok-push.ensures.items, c.read.ensures, c.split_at.ensures.back, c.WIDTH.ensures)
      (entries_goes_on g.T.Entry.entry_at g.T.Entry.WIDTH c.args.count c.entries.counter c.entries.entries.items
      c.entries.rest.now _ (omega arith) c.entries.invariant.0),
  rw (c.split_at.ensures.back, c.WIDTH.ensures)
      (room_left g.T.Entry.WIDTH c.args.count c.entries.counter c.entries.rest.now (omega arith) c.entries.invariant.1),
)

pub returns : goal.returns
returns g c =
    rw c.from_vec.ensures (entries_done g.T.Entry.entry_at g.T.Entry.WIDTH c.args.count c.entries.counter
    c.entries.entries.items c.entries.rest.now _ (omega arith) c.entries.invariant.0)
