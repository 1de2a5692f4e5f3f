use Rattle.std.proofs.Common.{◌∙◌, sym}
use Rattle.sctp_outbound_queue.specs.Owed.{standing}
use Rattle.sctp_outbound_queue.proofs.TrueSsns.{same_streams}
use Rattle.sctp_outbound_queue.proofs.messages.Messages.any_of_stream.Goals as goal

pub returns : goal.returns
returns c =
    c.any_waiting_of_stream.ensures
    ∙ rw (← c.self.view_is) (sym (same_streams c.args.id c.self.inside.settled c.self.inside.owed.counts.entries
    (standing c.self.inside.settled c.self.inside.dead c.self.inside.items.items)))
