use Rattle.sctp_channels.proofs.Turned.{awaits}
use Rattle.sctp_channels.proofs.looking.await_answer.Goals as goal

pub returns-clause-exact : goal.returns-clause-exact
returns-clause-exact c =
    awaits c.args.id c.args.table.now c.args.driver.now c.in_ok-answer.answer c.read.new.driver c.read.new.buffer
    c.meet_answer.result c.meet_answer.new.table c.meet_answer.new.driver c.in_ok-answer.ensures.ok
    c.meet_answer.ensures.exact
