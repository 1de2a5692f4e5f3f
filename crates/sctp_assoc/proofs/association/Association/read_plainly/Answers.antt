use Rattle.sctp_assoc.proofs.StreamReads.{read_without_end}
use Rattle.sctp_assoc.proofs.association.Association.read_plainly.Goals as goal

pub returns-clause-ok : goal.returns-clause-ok
returns-clause-ok c =
    read_without_end c.args.self.now c.ease_if.new.self c.args.id c.read-message.new.self c.read-message.result
    c.requires (rw (← c.self.view_is) c.read-message.ensures)
    (rw (← c.credit-credit.ensures, ← c.self.view_is, ← c.is_some.ensures) c.in_ok-ease_if.ensures.ok)
