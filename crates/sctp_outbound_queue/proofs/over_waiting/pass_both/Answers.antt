use Rattle.sctp_outbound_queue.proofs.EmptyPlaces.{passed_both, passed_short}
use Rattle.sctp_outbound_queue.proofs.over_waiting.pass_both.Goals as goal

pub returns-then-passed-before-clause-passed : goal.returns-then-passed-before-clause-passed
returns-then-passed-before-clause-passed c =
    (passed_short c.args.now c.args.settled c.args.dead c.args.from c.args.count c.pass_over-passed.result.0
    c.pass_over-passed.result.1 c.args.messages.now.items c.requires.before c.requires.behind c.requires.within
    c.if-passed-before.true (c.pass_over-passed.ensures.passed, c.pass_over-passed.ensures.least)).0

pub returns-then-passed-before-clause-least : goal.returns-then-passed-before-clause-least
returns-then-passed-before-clause-least c =
    (passed_short c.args.now c.args.settled c.args.dead c.args.from c.args.count c.pass_over-passed.result.0
    c.pass_over-passed.result.1 c.args.messages.now.items c.requires.before c.requires.behind c.requires.within
    c.if-passed-before.true (c.pass_over-passed.ensures.passed, c.pass_over-passed.ensures.least)).1

pub returns-clause-passed : goal.returns-clause-passed
returns-clause-passed c =
    (passed_both c.args.now c.args.settled c.args.dead c.args.from c.args.count c.pass_over-passed.result.0
    c.pass_over-more.result.0 c.pass_over-passed.result.1 c.pass_over-more.result.1 c.args.messages.now.items
    c.requires.before c.requires.behind c.requires.within c.if-passed-before.false
    (c.pass_over-passed.ensures.passed, c.pass_over-passed.ensures.least)
    (c.pass_over-more.ensures.passed, c.pass_over-more.ensures.least)).0

pub returns-clause-least : goal.returns-clause-least
returns-clause-least c =
    rw c.soonest.ensures
    (passed_both c.args.now c.args.settled c.args.dead c.args.from c.args.count c.pass_over-passed.result.0
    c.pass_over-more.result.0 c.pass_over-passed.result.1 c.pass_over-more.result.1 c.args.messages.now.items
    c.requires.before c.requires.behind c.requires.within c.if-passed-before.false
    (c.pass_over-passed.ensures.passed, c.pass_over-passed.ensures.least)
    (c.pass_over-more.ensures.passed, c.pass_over-more.ensures.least)).1
