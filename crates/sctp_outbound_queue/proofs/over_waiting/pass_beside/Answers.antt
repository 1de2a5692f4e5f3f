use Rattle.sctp_outbound_queue.proofs.EmptyPlaces.{passed_before, passed_behind}
use Rattle.sctp_outbound_queue.proofs.over_waiting.pass_beside.Goals as goal

pub returns-then-from-count-clause-passed : goal.returns-then-from-count-clause-passed
returns-then-from-count-clause-passed c =
    (passed_before c.args.now c.args.settled c.args.dead c.args.from c.args.count c.pass_over.result.0
    c.pass_over.result.1 c.args.messages.now.items c.requires.hole c.if-from-count.true c.requires.within
    (c.pass_over.ensures.passed, c.pass_over.ensures.least)).0

pub returns-then-from-count-clause-least : goal.returns-then-from-count-clause-least
returns-then-from-count-clause-least c =
    (passed_before c.args.now c.args.settled c.args.dead c.args.from c.args.count c.pass_over.result.0
    c.pass_over.result.1 c.args.messages.now.items c.requires.hole c.if-from-count.true c.requires.within
    (c.pass_over.ensures.passed, c.pass_over.ensures.least)).1

pub returns-then-settled-from-clause-passed : goal.returns-then-settled-from-clause-passed
returns-then-settled-from-clause-passed c =
    (passed_behind c.args.now c.args.settled c.args.dead c.args.from c.args.count
    c.pass_over-then-settled-from.result.0 c.pass_over-then-settled-from.result.1 c.args.messages.now.items
    c.if-settled-from.true
    (c.pass_over-then-settled-from.ensures.passed, c.pass_over-then-settled-from.ensures.least)).0

pub returns-then-settled-from-clause-least : goal.returns-then-settled-from-clause-least
returns-then-settled-from-clause-least c =
    (passed_behind c.args.now c.args.settled c.args.dead c.args.from c.args.count
    c.pass_over-then-settled-from.result.0 c.pass_over-then-settled-from.result.1 c.args.messages.now.items
    c.if-settled-from.true
    (c.pass_over-then-settled-from.ensures.passed, c.pass_over-then-settled-from.ensures.least)).1
