use Rattle.sctp_assoc.proofs.CallsLeadOn.{timeouts_lead_on}
use Rattle.sctp_assoc.proofs.association.Association.handle_timeout.Goals as goal

pub returns-in-Ok-clause-acts : goal.returns-in-Ok-clause-acts
returns-in-Ok-clause-acts c = timeouts_lead_on c.args.self.now c.on_timers.new.self c.args.now c.in-Ok.ensures.exact
