use Rattle.std.proofs.Common.{arith}
use Rattle.sctp_outbound_queue.proofs.StretchLists.{total_more, total_within}
use Rattle.sctp_outbound_queue.proofs.stretches.total_of.Goals as goal

pub overflow_add-sum : goal.overflow_add-sum
overflow_add-sum c =
    let within = total_within c.loop-stretch.stretch-index c.args.stretches.now c.stretch-item.result (omega arith)
    c.stretch-item.is in
    omega (arith, within, c.loop-stretch.invariant, c.requires)

pub loop-stretch-preserved : goal.loop-stretch-preserved
loop-stretch-preserved c =
    let more = total_more c.loop-stretch.stretch-index c.args.stretches.now c.stretch-item.result (omega arith)
    c.stretch-item.is in
    omega (arith, more, c.loop-stretch.invariant)
