use Rattle.std.proofs.lemmas.Result.{on_err_weaker}
use Rattle.std.proofs.Common.{[]}
use Rattle.sctp_inbound.specs.declared.receiver.AckTrigger.TheVariants as triggers
use Rattle.sctp_assoc.proofs.MemoryTaken.{flow_takes}
use Rattle.sctp_assoc.proofs.association.Association.on_only_chunk.Goals as goal

pub returns-clause-grows : goal.returns-clause-grows
returns-clause-grows c =
    on_err_weaker c.end_packet.result
    (flow_takes c.args.header _ [] c.args.self.now triggers.None c.args.now c.on_chunk.new.self
    c.in_ok-flow.flow c.in_ok-flow.ensures.exact)
    c.end_packet.ensures.grows
