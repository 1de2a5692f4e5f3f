use Rattle.sctp_resets.proofs.FrontWaits.{waits_before_push}
use Rattle.sctp_assoc.proofs.association.Association.tell.Goals as goal

pub invariant_of-self : goal.invariant_of-self
invariant_of-self c =
    let r = c.self.inside.resets in
    waits_before_push r.generations.retiring r.debts c.self.inside.events c.self.inside.waiting_in_front c.args.event
    c.push.new.self c.push.result c.push.ensures.ok c.push.ensures.err c.self.invariant c.requires
