use Rattle.pair_callers.proofs.ReadMessages.{reads_accepted, reads_on}
use Rattle.pair_callers.proofs.reading.read_message.Goals as goal

pub returns-clause-next : goal.returns-clause-next
returns-clause-next c =
    rw c.message_of.ensures (reads_on c.args.side c.args.id c.step.result c.args.pair.now c.step.new.self
    c.step.ensures.headline)

pub returns-clause-accepted : goal.returns-clause-accepted
returns-clause-accepted c =
    rw c.message_of.ensures (reads_accepted c.args.side c.args.id c.step.result c.args.pair.now c.step.new.self
    c.step.ensures.headline)
