use Rattle.std.proofs.Common.{arith, sym, ◌∙◌}
use Rattle.sctp_outbound_queue.proofs.ExpiredUnsent.{dropped_at, found_there, none_behind, without_none}
use Rattle.sctp_outbound_queue.proofs.over_waiting.drop_expired.Goals as goal

pub returns-then-look-len-clause-dropped : goal.returns-then-look-len-clause-dropped
returns-then-look-len-clause-dropped c =
    sym (none_behind c.args.now c.args.messages.now (omega (arith, c.look_on.ensures.index, c.len.ensures)))

pub returns-then-look-len-clause-left : goal.returns-then-look-len-clause-left
returns-then-look-len-clause-left c =
    c.settle.ensures
    ∙ sym (without_none c.args.now c.args.messages.now
    (none_behind c.args.now c.args.messages.now (omega (arith, c.look_on.ensures.index, c.len.ensures))))

pub returns-clause-dropped : goal.returns-clause-dropped
returns-clause-dropped c =
    sym (found_there c.args.now c.args.messages.now c.look_on.result.index c.in_ok-dropped.dropped
    (sym c.look_on.ensures.index) (omega (arith, c.len.ensures, c.if-look-len.false))
    c.in_ok-dropped.ensures.value)

pub returns-clause-left : goal.returns-clause-left
returns-clause-left c =
    c.in_ok-dropped.ensures.left
    ∙ dropped_at c.args.now c.args.messages.now c.look_on.result.index c.in_ok-dropped.dropped
    (sym c.look_on.ensures.index) (omega (arith, c.len.ensures, c.if-look-len.false))
    c.in_ok-dropped.ensures.value
