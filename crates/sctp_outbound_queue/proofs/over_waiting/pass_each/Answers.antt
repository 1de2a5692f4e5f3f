use Rattle.sctp_outbound_queue.proofs.Covered.{each_here, each_on}
use Rattle.sctp_outbound_queue.proofs.ExpiredUnsent.{all_passed}
use Rattle.sctp_outbound_queue.proofs.over_waiting.pass_each.Goals as goal

pub returns-in-None-clause-passed : goal.returns-in-None-clause-passed
returns-in-None-clause-passed c =
    each_here c.args.now c.loop-index.least c.loop-index.index c.args.messages.now c.index-messages-index.result
    c.loop-index-test.true c.index-messages-index.is c.in-None.ensures c.loop-index.invariant.none

pub loop-index-preserved : goal.loop-index-preserved
loop-index-preserved c =
    let more = each_on c.args.now c.loop-index.least c.in-Some.next c.loop-index.index c.args.messages.now
    c.index-messages-index.result c.loop-index-test.true c.index-messages-index.is c.in-Some.ensures
    c.loop-index.invariant.none c.loop-index.invariant.known in
    record { none = more.0; known = more.1 }

pub returns-clause-passed : goal.returns-clause-passed
returns-clause-passed c =
    all_passed c.args.now c.args.messages.now c.loop-index.index c.loop-index-test.false c.loop-index.invariant.none
