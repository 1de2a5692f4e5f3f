use Rattle.std.proofs.Common.{refl}
use Rattle.sctp_outbound_queue.proofs.TrueSsns.{part_settled}
use Rattle.sctp_outbound_queue.proofs.settling.settle_range.Goals as goal

pub returns-clause-same : goal.returns-clause-same
returns-clause-same c =
    part_settled c.args.from c.args.to c.args.owed.now.counts.entries c.args.messages.now _ c.settle.new.messages
    c.requires.from c.requires.to refl c.settle.ensures
