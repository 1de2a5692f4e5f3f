use Rattle.sctp_driver.specs.Streams.{refusal_to_stop}
use Rattle.sctp_channels.specs.Steps.{ResetsOrNot}
use Rattle.sctp_channels.proofs.Turned.{resets_or_not}
use Rattle.sctp_channels.proofs.looking.refuse.Goals as goal

pub returns-clause-resets : goal.returns-clause-resets
unfolding ResetsOrNot
returns-clause-resets c =
    resets_or_not (refusal_to_stop c.args.driver.now.association c.args.id) c.close_stream.result c.args.id
    c.args.driver.now c.close_stream.new.self c.close_stream.ensures.refused c.close_stream.ensures.ok
    c.close_stream.ensures.unchanged c.close_stream.ensures.memory
