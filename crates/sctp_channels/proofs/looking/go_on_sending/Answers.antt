use Rattle.std.proofs.Common.{◌∙◌}
use Rattle.sctp_assoc.specs.Calls.{stream_refusal}
use Rattle.sctp_channels.proofs.Turned.{goes_as, sends_as}
use Rattle.sctp_channels.proofs.looking.go_on_sending.Goals as goal

pub returns-clause-goes : goal.returns-clause-goes
returns-clause-goes c =
    c.goes_on.ensures.exact
    ∙ goes_as c.set_sending.result (stream_refusal c.args.driver.now.association c.args.id)
    c.set_sending.ensures.refused

pub returns-clause-sends : goal.returns-clause-sends
returns-clause-sends c =
    sends_as c.set_sending.result (stream_refusal c.args.driver.now.association c.args.id) c.args.driver.now
    c.set_sending.new.driver c.args.id c.args.channel.now c.set_sending.ensures.refused c.set_sending.ensures.ok
    c.set_sending.ensures.err
