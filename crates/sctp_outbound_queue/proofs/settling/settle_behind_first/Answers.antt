use Rattle.std.proofs.Common.{◌∙◌}
use Rattle.sctp_outbound_queue.proofs.TrueSsns.{owed_nothing}
use Rattle.sctp_outbound_queue.proofs.settling.settle_behind_first.Goals as goal

pub returns-then-dead-gt0-clause-items : goal.returns-then-dead-gt0-clause-items
returns-then-dead-gt0-clause-items c =
    owed_nothing 1 c.settle.new.owed.counts.entries c.settle.new.items.items c.settle.ensures.none
    ∙ c.settle.ensures.items
