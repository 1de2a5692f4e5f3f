use Rattle.std.proofs.Common.{◌-◌}
use Rattle.sctp_outbound.specs.Abandonment.{pass_room}
use Rattle.sctp_outbound.specs.Sender.{asks_again}
use Rattle.sctp_outbound.proofs.Passes.{Walks}
use Rattle.sctp_outbound.proofs.sender.Sender.spent_index.Given as goal

abbrev pub invariant-pieces : goal.invariant-pieces
invariant-pieces l =
    Walks (asks_again l.self) l.by l.self.queue.in_flight l.self.queue.first_tsn (pass_room l.by l.self) l.index l.left
    l.fn.looks l.looks

abbrev pub decreases-pieces : goal.decreases-pieces
decreases-pieces l = l.count - l.index
