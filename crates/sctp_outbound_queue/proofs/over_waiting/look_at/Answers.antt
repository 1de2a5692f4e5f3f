use Rattle.std.proofs.Common.{◌≡◌, ◌-◌, Some, arith, rules}
use Rattle.sctp_outbound_queue.specs.Stretches.{moment_of}
use Rattle.sctp_outbound_queue.proofs.Covered.{cover_at, cover_set, from_moment, known_further, waits_behind}
use Rattle.sctp_outbound_queue.proofs.StretchLists.{total_more, total_set}
use Rattle.sctp_outbound_queue.proofs.over_waiting.look_at.Goals as goal

pub overflow_add-end : goal.overflow_add-end
overflow_add-end c =
    let here = rw c.as_slice.ensures at c.index-as_slice-place.is in
    let more = total_more c.args.place c.args.stretches.now c.index-as_slice-place.result c.requires.place here in
    omega (arith, more, c.requires.begin, c.requires.small)

pub returns-then-lt-clause-index : goal.returns-then-lt-clause-index
returns-then-lt-clause-index c =
    let here = rw c.as_slice.ensures at c.index-as_slice-place.is in
    let at = cover_at c.args.place c.args.stretches.now c.index-as_slice-place.result c.args.messages.now
    c.requires.place here c.requires.cover in
    waits_behind c.args.now c.index-as_slice-place.result.next c.args.begin c.index-as_slice-place.result.len
    c.args.messages.now (omega (arith, c.requires.passed, c.requires.index))
    (rw (← c.requires.begin) at at.1) (search rules) (omega (arith, at.0, c.requires.begin))

pub returns-then-lt-clause-found : goal.returns-then-lt-clause-found
returns-then-lt-clause-found c lt =
    let here = rw c.as_slice.ensures at c.index-as_slice-place.is in
    let more = total_more c.args.place c.args.stretches.now c.index-as_slice-place.result c.requires.place here in
    absurd (omega (arith, lt, more, c.requires.begin))

pub returns-then-lt-clause-known : goal.returns-then-lt-clause-known
returns-then-lt-clause-known c =
    let here = rw c.as_slice.ensures at c.index-as_slice-place.is in
    let at = cover_at c.args.place c.args.stretches.now c.index-as_slice-place.result c.args.messages.now
    c.requires.place here c.requires.cover in
    rw c.soonest.ensures
    (known_further c.args.look.next (Some c.index-as_slice-place.result.next) c.args.begin c.args.look.index
    c.index-as_slice-place.result.len c.args.messages.now c.requires.passed c.requires.known
    (rw (← c.requires.begin) at at.1))

pub look_over-reached-requires-clause-end : goal.look_over-reached-requires-clause-end
look_over-reached-requires-clause-end c =
    let here = rw c.as_slice.ensures at c.index-as_slice-place.is in
    let at = cover_at c.args.place c.args.stretches.now c.index-as_slice-place.result c.args.messages.now
    c.requires.place here c.requires.cover in
    omega (arith, at.0, c.requires.begin)

pub returns-then-reached-end-clause-found : goal.returns-then-reached-end-clause-found
returns-then-reached-end-clause-found c lt =
    let here = rw c.as_slice.ensures at c.index-as_slice-place.is in
    let more = total_more c.args.place c.args.stretches.now c.index-as_slice-place.result c.requires.place here in
    absurd (omega (arith, lt, more, c.requires.begin, c.if-reached-end.true))

pub returns-then-reached-end-clause-cover : goal.returns-then-reached-end-clause-cover
returns-then-reached-end-clause-cover c =
    let here = rw c.as_slice.ensures at c.index-as_slice-place.is in
    let count : c.look_over-reached.result.0.index - c.args.look.index ≡ c.index-as_slice-place.result.len =
    omega (arith, c.if-reached-end.true, c.if-from-begin.true) in
    let least = rw (count, c.if-from-begin.true, c.requires.begin) at c.look_over-reached.ensures.least in
    rw (c.set.ensures, c.new.ensures)
    (cover_set c.args.place c.args.stretches.now c.index-as_slice-place.result
    (moment_of c.look_over-reached.result.1) c.args.messages.now here c.requires.cover
    (from_moment c.look_over-reached.result.1 _ least))

pub returns-then-reached-end-clause-same : goal.returns-then-reached-end-clause-same
returns-then-reached-end-clause-same c n =
    let here = rw c.as_slice.ensures at c.index-as_slice-place.is in
    rw (c.set.ensures, c.new.ensures)
    (total_set c.args.place n c.args.stretches.now c.index-as_slice-place.result
    (moment_of c.look_over-reached.result.1) here)

pub returns-else-from-begin-clause-found : goal.returns-else-from-begin-clause-found
returns-else-from-begin-clause-found c lt =
    let here = rw c.as_slice.ensures at c.index-as_slice-place.is in
    let more = total_more c.args.place c.args.stretches.now c.index-as_slice-place.result c.requires.place here in
    omega (arith, lt, more, c.requires.begin, c.look_over-reached.ensures.index)

pub look_over-reached-requires-clause-begin : goal.look_over-reached-requires-clause-begin
look_over-reached-requires-clause-begin c =
    let here = rw c.as_slice.ensures at c.index-as_slice-place.is in
    let more = total_more c.args.place c.args.stretches.now c.index-as_slice-place.result c.requires.place here in
    omega (arith, c.requires.inside, more, c.requires.begin)
