use Rattle.std.proofs.Common.{◌∙◌}
use Rattle.sctp_driver.specs.Sending.{asked}
use Rattle.sctp_c.proofs.Refusals.{unfilled_sent}
use Rattle.sctp_c.proofs.datagrams.sctp_assoc_poll_transmit.Goals as goal

pub returns-clause-unfilled : goal.returns-clause-unfilled
returns-clause-unfilled c =
    λ other. unfilled_sent (asked c.deref_mut.result.now c.args.now) c.poll_transmit-answer.new.self c.args.buffer.now
    c.poll_transmit-answer.new.buffer c.poll_transmit-answer.result c.poll_transmit-answer.ensures.ok
    c.poll_transmit-answer.ensures.unfilled (λ same. other (c.tell_sent.ensures.code ∙ same))
