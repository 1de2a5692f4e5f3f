use Rattle.std.proofs.Common.{arith}
use Rattle.std.proofs.lemmas.List.Edits.{map_over_more}
use Rattle.sctp_outbound_queue.specs.Owed.{lowered_in}
use Rattle.sctp_outbound_queue.proofs.owed.lower_each.Goals as goal

pub loop-message-preserved : goal.loop-message-preserved
loop-message-preserved c =
    rw (c.lower_in.ensures, ← c.message-item.is)
    (map_over_more (lowered_in c.args.stream c.args.generation c.args.count) c.args.messages.now c.loop-message.messages
    c.loop-message.message-index c.message-item.result
    (omega arith) c.loop-message.invariant c.message-item.is)
