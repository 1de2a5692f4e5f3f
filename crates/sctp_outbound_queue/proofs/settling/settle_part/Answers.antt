use Rattle.std.proofs.Common.{◌∙◌, sym}
use Rattle.sctp_outbound_queue.proofs.TrueSsns.{none_kept, owed_nothing}
use Rattle.sctp_outbound_queue.proofs.settling.settle_part.Goals as goal

pub returns-else-not-is_empty-clause-same : goal.returns-else-not-is_empty-clause-same
returns-else-not-is_empty-clause-same c =
    let none = none_kept c.args.owed.now.counts.entries c.is_empty.ensures c.if-not-is_empty.false in
    owed_nothing c.args.to c.args.owed.now.counts.entries c.args.items.now.items none
    ∙ sym (owed_nothing c.args.from c.args.owed.now.counts.entries c.args.items.now.items none)
