use Rattle.std.proofs.Common.{◌∙◌, ap, map}
use Rattle.sctp_outbound_queue.specs.Message.{waiting_started}
use Rattle.sctp_outbound_queue.proofs.EmptyPlaces.{all_there}
use Rattle.sctp_outbound_queue.proofs.messages.Messages.start.Goals as goal

pub returns-clause-started : goal.returns-clause-started
returns-clause-started c =
    all_there c.self.inside.settled c.settle.new.dead c.settle.new.owed.counts.entries c.start_waiting.new.messages.items
    c.settle.ensures.none c.settle.ensures.closed
    ∙ c.start_waiting.ensures.started ∙ ap (map (waiting_started c.args.now)) (c.settle.ensures.items ∙ c.self.view_is)

pub returns-clause-from : goal.returns-clause-from
returns-clause-from c =
    rw (all_there c.self.inside.settled c.settle.new.dead c.settle.new.owed.counts.entries
    c.start_waiting.new.messages.items c.settle.ensures.none c.settle.ensures.closed)
    c.start_waiting.ensures.from

pub returns-clause-run : goal.returns-clause-run
returns-clause-run c =
    rw (all_there c.self.inside.settled c.settle.new.dead c.settle.new.owed.counts.entries
    c.start_waiting.new.messages.items c.settle.ensures.none c.settle.ensures.closed)
    c.start_waiting.ensures.run
