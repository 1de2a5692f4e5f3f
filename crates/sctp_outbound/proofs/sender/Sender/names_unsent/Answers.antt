use Rattle.std.proofs.Common.{length}
use Rattle.sctp_outbound.proofs.BlockOffsets.{names_sets}
use Rattle.sctp_outbound.proofs.sender.Sender.names_unsent.Goals as goal

pub returns-clause-sets : goal.returns-clause-sets
returns-clause-sets c =
    rw (c.name_unsent.ensures, c.inflight_len-in_flight.ensures)
    (names_sets c.args.count (length c.args.self.now.queue.in_flight) c.args.blocks.now)
