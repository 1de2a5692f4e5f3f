use Rattle.std.proofs.Common.{◌∙◌, ◌-◌, ◌^◌, ap, min, sym}
use Rattle.sctp_outbound_queue.specs.Owed.{standing}
use Rattle.sctp_outbound_queue.proofs.TrueSsns.{as_many_pieces}
use Rattle.sctp_outbound_queue.proofs.messages.Messages.pieces.Goals as goal

pub returns : goal.returns
returns c =
    c.pieces_of.ensures
    ∙ rw (← c.self.view_is) (ap (λ n. min n (2 ^ 64 - 1))
    (sym (as_many_pieces c.self.inside.settled c.self.inside.owed.counts.entries
    (standing c.self.inside.settled c.self.inside.dead c.self.inside.items.items))))
