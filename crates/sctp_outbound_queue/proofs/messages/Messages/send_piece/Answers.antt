use Rattle.std.proofs.Common.{◌∙◌, ap, slice_get}
use Rattle.sctp_outbound_queue.specs.Outbound.{after_piece}
use Rattle.sctp_outbound_queue.proofs.EmptyPlaces.{all_there}
use Rattle.sctp_outbound_queue.proofs.messages.Messages.send_piece.Goals as goal

pub returns-clause-left : goal.returns-clause-left
returns-clause-left c =
    all_there c.self.inside.settled c.settle.new.dead c.settle.new.owed.counts.entries c.send_piece.new.messages.items
    c.settle.ensures.none c.settle.ensures.closed
    ∙ c.send_piece.ensures.left
    ∙ ap after_piece (c.settle.ensures.items ∙ c.self.view_is)

pub returns-clause-sent : goal.returns-clause-sent
returns-clause-sent c m is =
    c.send_piece.ensures.sent m (ap (λ ms. slice_get ms 0) (c.settle.ensures.items ∙ c.self.view_is) ∙ is)

pub returns-clause-clocks : goal.returns-clause-clocks
returns-clause-clocks c m is =
    c.send_piece.ensures.clocks m (ap (λ ms. slice_get ms 0) (c.settle.ensures.items ∙ c.self.view_is) ∙ is)

pub returns-clause-bytes : goal.returns-clause-bytes
returns-clause-bytes c m is =
    c.send_piece.ensures.bytes m (ap (λ ms. slice_get ms 0) (c.settle.ensures.items ∙ c.self.view_is) ∙ is)
