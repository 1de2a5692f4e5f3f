use Rattle.std.proofs.Common.{◌∙◌}
use Rattle.sctp_outbound_queue.proofs.EmptyPlaces.{all_there}
use Rattle.sctp_outbound_queue.proofs.messages.Messages.settle.Goals as goal

pub returns : goal.returns
returns c =
    all_there c.self.inside.settled c.settle.new.dead c.settle.new.owed.counts.entries c.settle.new.items.items
    c.settle.ensures.none c.settle.ensures.closed
    ∙ c.settle.ensures.items ∙ c.self.view_is
