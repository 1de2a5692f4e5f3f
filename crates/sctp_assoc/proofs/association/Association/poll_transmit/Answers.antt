use Rattle.sctp_assoc.proofs.PollsLeadOn.{polls_on}
use Rattle.sctp_assoc.proofs.association.Association.poll_transmit.Goals as goal

pub returns-in-Ok-clause-acts : goal.returns-in-Ok-clause-acts
returns-in-Ok-clause-acts c =
    rw c.transmit.ensures.packets (polls_on c.args.self.now c.gather.new.self c.args.now c.in-Ok.packets.items
    c.in-Ok.ensures.exact c.in-Ok.ensures.control_again c.in-Ok.ensures.control_requests c.in-Ok.ensures.again
    c.in-Ok.ensures.requests c.in-Ok.ensures.ending_again)
