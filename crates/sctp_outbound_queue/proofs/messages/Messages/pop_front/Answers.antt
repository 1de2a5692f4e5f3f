use Rattle.std.proofs.Common.{◌∙◌, ap, drop}
use Rattle.sctp_outbound_queue.proofs.EmptyPlaces.{all_there}
use Rattle.sctp_outbound_queue.proofs.messages.Messages.pop_front.Goals as goal

pub returns : goal.returns
returns c =
    all_there c.self.inside.settled c.settle.new.dead c.settle.new.owed.counts.entries c.pop_front.new.self.items
    c.settle.ensures.none c.settle.ensures.closed
    ∙ c.pop_front.ensures.rest ∙ ap (drop 1) (c.settle.ensures.items ∙ c.self.view_is)
