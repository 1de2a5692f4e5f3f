use Rattle.std.proofs.Common.{◌∙◌}
use Rattle.sctp_outbound_queue.proofs.EmptyPlaces.{all_there}
use Rattle.sctp_outbound_queue.proofs.settling.reach.Goals as goal

pub returns-then-settled-index-clause-same : goal.returns-then-settled-index-clause-same
returns-then-settled-index-clause-same c =
    all_there c.args.index c.settle.new.dead c.settle.new.owed.counts.entries c.settle.new.items.items
    c.settle.ensures.none c.settle.ensures.closed
    ∙ c.settle.ensures.items
