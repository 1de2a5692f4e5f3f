use Rattle.std.proofs.Common.{sym}
use Rattle.sctp_candidates.proofs.Standing.{next_found_at}
use Rattle.sctp_outbound_queue.specs.Message.{picks}
use Rattle.sctp_outbound_queue.specs.declared.message.Retransmission.TheVariants as causes
use Rattle.sctp_outbound_queue.proofs.piece_sets.PieceSets.next.Goals as goal

pub returns-in-Timer-clause-next : goal.returns-in-Timer-clause-next
returns-in-Timer-clause-next c ps stand =
    rw c.in-Timer.is
    (sym (next_found_at (picks causes.Timer) c.args.self.now.marked ps c.args.from c.next.result stand.0
    c.next.ensures.next))

pub returns-in-Fast-clause-next : goal.returns-in-Fast-clause-next
returns-in-Fast-clause-next c ps stand =
    rw c.in-Fast.is
    (sym (next_found_at (picks causes.Fast) c.args.self.now.missing ps c.args.from c.next-in-Fast.result stand.1
    c.next-in-Fast.ensures.next))
