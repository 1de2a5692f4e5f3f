use Rattle.std.proofs.Common.{arith}
use Rattle.std.proofs.lemmas.List.Edits.{map_over_more}
use Rattle.sctp_outbound_queue.specs.Owed.{lowered}
use Rattle.sctp_outbound_queue.proofs.owed.Owed.settle_each.Goals as goal

pub loop-message-preserved : goal.loop-message-preserved
loop-message-preserved c =
    rw (c.settle_one.ensures, ← c.message-item.is)
    (map_over_more (lowered c.args.self.now.counts.entries) c.args.messages.now c.loop-message.messages
    c.loop-message.message-index c.message-item.result
    (omega arith) c.loop-message.invariant c.message-item.is)
