use Rattle.sctp_channels.proofs.Turned.{reads_first}
use Rattle.sctp_channels.proofs.reading.read_first.Goals as goal

pub returns-clause-reads : goal.returns-clause-reads
returns-clause-reads c =
    reads_first c.args.id c.args.driver.now c.in_ok-answer.answer c.read.new.driver c.read.new.buffer c.first_by.result
    c.first_by.new.driver c.in_ok-answer.ensures.ok c.first_by.ensures.by
