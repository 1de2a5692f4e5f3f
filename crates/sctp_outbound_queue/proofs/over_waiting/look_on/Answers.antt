use Rattle.std.proofs.Common.{◌∙◌, ◌≡◌, ◌+◌, ◌<◌, ◌^◌, take, arith, length, sym}
use Rattle.sctp_outbound_queue.specs.Stretches.{total}
use Rattle.sctp_outbound_queue.proofs.Covered.{cover_at, rest_known, rest_waits}
use Rattle.sctp_outbound_queue.proofs.StretchLists.{total_all, total_more}
use Rattle.sctp_outbound_queue.proofs.over_waiting.look_on.Goals as goal
use Rattle.sctp_outbound_queue.proofs.over_waiting.look_on.Goals.{then-look-end+else-look-end-2, else-look-end}

pub overflow_add-end : goal.overflow_add-end
overflow_add-end c =
    let known = c.loop-place.invariant in
    let here = rw c.as_slice.ensures at c.index-as_slice-place.is in
    let at = cover_at c.loop-place.place c.loop-place.stretches c.index-as_slice-place.result
    c.args.messages.now (omega (arith, known.len)) here known.cover in
    let same = known.same c.loop-place.place in
    omega (arith, at.0, known.end, same, c.len-all.ensures)

pub returns-then-look-end-2-clause-index : goal.returns-then-look-end-2-clause-index
returns-then-look-end-2-clause-index c =
    let known = c.loop-place.invariant in
    let here = rw c.as_slice.ensures at c.index-as_slice-place.is in
    let more = total_more c.loop-place.place c.loop-place.stretches c.index-as_slice-place.result
    (omega (arith, known.len)) here in
    let same = known.same c.loop-place.place in
    c.look_at-look.ensures.found (omega (arith, c.if-look-end-2.true, more, known.end, same))

pub returns-then-look-end-2-clause-total : goal.returns-then-look-end-2-clause-total
returns-then-look-end-2-clause-total c =
    let known = c.loop-place.invariant in
    sym (total_all (length c.args.stretches.now) c.look_at-look.new.stretches
    (omega (arith, c.look_at-look.ensures.len, known.len)))
    ∙ c.look_at-look.ensures.same (length c.args.stretches.now)
    ∙ known.same (length c.args.stretches.now)
    ∙ total_all (length c.args.stretches.now) c.args.stretches.now (omega arith)

pub look_at-look-requires-clause-inside : goal.look_at-look-requires-clause-inside
look_at-look-requires-clause-inside c =
    let known = c.loop-place.invariant in
    let here = rw c.as_slice.ensures at c.index-as_slice-place.is in
    let more = total_more c.loop-place.place c.loop-place.stretches c.index-as_slice-place.result
    (omega (arith, known.len)) here in
    let same = known.same c.loop-place.place in
    omega (arith, c.if-look-end.true, more, known.end, same)

pub loop-place-preserved : goal.loop-place-preserved
loop-place-preserved c =
    let known = c.loop-place.invariant in
    let here = rw c.as_slice.ensures at c.index-as_slice-place.is in
    let more = total_more c.loop-place.place c.loop-place.stretches c.index-as_slice-place.result
    (omega (arith, known.len)) here in
    let same = known.same c.loop-place.place in
    let next = known.same (c.loop-place.place + 1) in
    let end : c.loop-place.end + c.index-as_slice-place.result.len
    ≡ total (take (c.loop-place.place + 1) c.args.stretches.now) =
    omega (arith, more, known.end, same, next) in
    elim c.if-look-end.branch [
      | then-look-end+else-look-end-2 w ↦ rw (w.stretches-is, w.look-is) (record {
        end = end;
        passed = omega (arith, w.if-look-end-2.false);
        index = w.look_at-look.ensures.index;
        known = w.look_at-look.ensures.known;
        cover = w.look_at-look.ensures.cover;
        len = w.look_at-look.ensures.len ∙ known.len;
        same = λ n. w.look_at-look.ensures.same n ∙ known.same n;
      })
      | else-look-end w ↦ rw (w.stretches-is, w.look-is) (record {
        end = end;
        passed = omega (arith, w.if-look-end.false);
        index = known.index;
        known = known.known;
        cover = known.cover;
        len = known.len;
        same = known.same;
      })
    ]

pub returns-clause-index : goal.returns-clause-index
returns-clause-index c =
    let known = c.loop-place.invariant in
    let whole = total_all c.loop-place.place c.args.stretches.now
    (omega (arith, c.loop-place-test.false, c.len-place-end.ensures.len)) in
    let waits = rest_waits c.args.now (total c.args.stretches.now) c.args.messages.now
    (omega (arith, known.end, known.passed, known.index, whole)) c.requires.rest in
    omega (arith, waits, c.len-all.ensures)

pub returns-clause-known : goal.returns-clause-known
returns-clause-known c =
    let known = c.loop-place.invariant in
    let whole = total_all c.loop-place.place c.args.stretches.now
    (omega (arith, c.loop-place-test.false, c.len-place-end.ensures.len)) in
    rest_known c.loop-place.look.next (total c.args.stretches.now) c.loop-place.look.index c.len-all.result
    c.args.messages.now (omega (arith, known.end, known.passed, whole)) known.known c.requires.rest

pub look_at-look-requires-clause-small : goal.look_at-look-requires-clause-small
look_at-look-requires-clause-small c =
    let known = c.loop-place.invariant in
    let here = rw c.as_slice.ensures at c.index-as_slice-place.is in
    let at = cover_at c.loop-place.place c.loop-place.stretches c.index-as_slice-place.result
    c.args.messages.now (omega (arith, known.len)) here known.cover in
    let more = total_more c.loop-place.place c.loop-place.stretches c.index-as_slice-place.result
    (omega (arith, known.len)) here in
    let small : c.len-all.result < 2 ^ 64 = omega (arith, c.len-all.type_inv) in
    omega (arith, at.0, more, c.len-all.ensures, small)
