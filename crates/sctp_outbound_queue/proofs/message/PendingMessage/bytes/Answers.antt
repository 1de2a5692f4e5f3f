use Rattle.std.proofs.Common.{arith, ◌∙◌, length}
use Rattle.sctp_outbound_queue.proofs.QueuedBytes.{fold_saturates}
use Rattle.sctp_outbound_queue.proofs.message.PendingMessage.bytes.Goals as goal

pub returns : goal.returns
returns c =
    let bound = c.len.ensures.bound in
    rw (← c.self.view_is, ← c.len.ensures.value)
    (c.add_bytes.ensures
    ∙ fold_saturates length 18446744073709551615 c.len.result c.self.inside.rest.items (omega (arith, bound)))
