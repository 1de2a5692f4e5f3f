use Rattle.sctp_outbound_queue.specs.Outbound.{pieces_waiting}
use Rattle.sctp_outbound.proofs.SenderSteps.{SendsOn}
use Rattle.sctp_outbound.proofs.sender.Sender.send_within.Given as goal

abbrev pub invariant-loop-now : goal.invariant-loop-now
invariant-loop-now l = SendsOn l.fn.self l.self l.now l.any l.fn.out l.out

abbrev pub decreases-loop-now : goal.decreases-loop-now
decreases-loop-now l = pieces_waiting l.self.queue.pending
