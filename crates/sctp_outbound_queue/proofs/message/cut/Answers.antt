use Rattle.std.proofs.Common.{arith, ◌∙◌}
use Rattle.sctp_outbound_queue.proofs.PiecesCut.{first_cut, none_behind, none_behind_short, others_cut, short_first, whole_first}
use Rattle.sctp_outbound_queue.proofs.message.cut.Goals as goal

pub returns-then-size-eq0-clause-first : goal.returns-then-size-eq0-clause-first
returns-then-size-eq0-clause-first c = whole_first c.args.size c.args.bytes (omega arith)

pub returns-then-size-eq0-clause-rest : goal.returns-then-size-eq0-clause-rest
returns-then-size-eq0-clause-rest c =
    c.new.ensures.items ∙ none_behind c.args.size c.args.bytes (omega arith)

pub returns-then-len-size-clause-first : goal.returns-then-len-size-clause-first
returns-then-len-size-clause-first c =
    let long = c.len.ensures.value in
    let short = c.if-len-size.true in
    let some = c.if-size-eq0.false in
    short_first c.args.size c.args.bytes (omega (arith, some)) (omega (arith, long, short))

pub returns-then-len-size-clause-rest : goal.returns-then-len-size-clause-rest
returns-then-len-size-clause-rest c =
    let long = c.len.ensures.value in
    let short = c.if-len-size.true in
    let some = c.if-size-eq0.false in
    c.new-then-len-size.ensures.items
    ∙ none_behind_short c.args.size c.args.bytes (omega (arith, some)) (omega (arith, long, short))

pub returns-clause-first : goal.returns-clause-first
returns-clause-first c =
    rw (c.in_ok-first.ensures.front, c.min.ensures, c.len-2.ensures.value)
    (first_cut c.args.size c.args.bytes (omega arith))

pub returns-clause-rest : goal.returns-clause-rest
returns-clause-rest c =
    others_cut c.args.size c.args.bytes c.in_ok-rest.rest.items (omega arith)
    (rw (← c.len-2.ensures.value, ← c.min.ensures, ← c.in_ok-first.ensures.rest) c.in_ok-rest.ensures.whole)
    c.in_ok-rest.ensures.follow
