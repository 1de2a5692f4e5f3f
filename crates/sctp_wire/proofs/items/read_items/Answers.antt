use Rattle.std.proofs.Common.{ap, subst, sym, ◌∙◌}
use Rattle.sctp_wire.specs.Results.{Yields}
use Rattle.sctp_wire.proofs.FrameLoop.{none_in_front}
use Rattle.sctp_wire.proofs.items.read_items.Goals as goal

pub returns : goal.returns
returns g c =
    subst (Yields c.read_behind.result) (none_in_front _)
    (rw c.new.ensures at c.read_behind.ensures)
