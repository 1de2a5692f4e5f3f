use Rattle.std.proofs.Common.{arith}
use Rattle.sctp_outbound_queue.proofs.Covered.{pass_here, pass_on}
use Rattle.sctp_outbound_queue.proofs.over_waiting.pass_across.Goals as goal

pub returns-in-None-clause-passed : goal.returns-in-None-clause-passed
returns-in-None-clause-passed c =
    let here = pass_here c.args.now c.loop-passed.least c.args.from c.loop-passed.passed c.args.messages.now.items
    c.index.result.now (omega arith) c.index.ensures c.in-None.ensures c.loop-passed.invariant.none in
    omega (arith, here)

pub loop-passed-preserved : goal.loop-passed-preserved
loop-passed-preserved c =
    let more = pass_on c.args.now c.loop-passed.least c.in-Some.next c.args.from c.loop-passed.passed
    c.args.messages.now.items c.index.result.now (omega arith) c.index.ensures c.in-Some.ensures
    c.loop-passed.invariant.none c.loop-passed.invariant.known in
    record { none = more.0; known = more.1 }
