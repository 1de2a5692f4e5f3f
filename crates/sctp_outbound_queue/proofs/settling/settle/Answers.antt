use Rattle.std.proofs.Common.{arith, sym}
use Rattle.sctp_outbound_queue.proofs.EmptyPlaces.{all_there}
use Rattle.sctp_outbound_queue.proofs.TrueSsns.{none_kept}
use Rattle.sctp_outbound_queue.proofs.settling.settle.Goals as goal

pub returns-else-not-is_empty-clause-items : goal.returns-else-not-is_empty-clause-items
returns-else-not-is_empty-clause-items c =
    sym (all_there c.args.from c.args.dead.now c.args.owed.now.counts.entries c.args.items.now.items
    (none_kept c.args.owed.now.counts.entries c.is_empty.ensures c.if-not-is_empty.false)
    (omega (arith, c.if-dead-gt0.false)))
