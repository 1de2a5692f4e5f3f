use Rattle.std.proofs.Common.{arith}
use Rattle.sctp_outbound_queue.proofs.Covered.{known_further, position_behind}
use Rattle.sctp_outbound_queue.proofs.over_waiting.look_over.Goals as goal

pub returns-clause-index : goal.returns-clause-index
returns-clause-index c =
    let at = position_behind c.args.now c.args.look.index c.args.messages.now c.requires.index in
    omega (arith, at, c.pass-passed.ensures.passed, c.requires.begin)

pub returns-clause-known : goal.returns-clause-known
returns-clause-known c =
    rw c.soonest.ensures
    (known_further c.args.look.next c.pass-passed.result.1 c.args.look.index c.args.look.index
    c.pass-passed.result.0 c.args.messages.now (omega arith) c.requires.known
    c.pass-passed.ensures.least)
