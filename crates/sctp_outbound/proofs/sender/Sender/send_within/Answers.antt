use Rattle.std.proofs.Common.{sym, ◌∙◌}
use Rattle.sctp_outbound.proofs.SenderSteps.{on_err, sends_more, sends_some}
use Rattle.sctp_outbound.proofs.sender.Sender.send_within.Goals as goal

pub returns-in_err-send_one-clause-grows : goal.returns-in_err-send_one-clause-grows
returns-in_err-send_one-clause-grows c =
    on_err c.from_residual.result
    (sends_some c.loop-now.invariant (sym c.next_fits.ensures ∙ c.loop-now-test.true))

pub loop-now-preserved : goal.loop-now-preserved
loop-now-preserved c =
    sends_more c.loop-now.invariant c.send_one.new.out (sym c.next_fits.ensures ∙ c.loop-now-test.true)
    c.in_ok-send_one.ensures.sender c.in_ok-send_one.ensures.pending c.in_ok-send_one.ensures.chunks
