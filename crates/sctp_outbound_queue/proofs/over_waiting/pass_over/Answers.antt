use Rattle.std.proofs.Common.{arith, drop, length, refl, ◌+◌, ◌-◌}
use Rattle.std.proofs.lemmas.List.{length-drop}
use Rattle.sctp_outbound_queue.proofs.Covered.{in_first, in_second, pass_part}
use Rattle.sctp_outbound_queue.proofs.over_waiting.pass_over.Goals as goal

pub returns-then-end-wrap-clause-passed : goal.returns-then-end-wrap-clause-passed
returns-then-end-wrap-clause-passed c =
    let left = length-drop c.args.from c.args.messages.now.items in
    let part = in_first c.args.from c.args.count (c.args.from + c.args.count - c.args.from)
    c.as_slices.result.0.now c.as_slices.result.1.now c.args.messages.now.items c.as_slices.ensures.items
    c.if-end-wrap.true (omega arith) in
    (pass_part c.args.now c.args.count c.pass_each.result.0 c.pass_each.result.1
    (drop c.args.from c.args.messages.now.items) _ (omega (arith, left, c.requires)) part c.pass_each.ensures.passed
    c.pass_each.ensures.least).0

pub returns-then-wrap-from-clause-passed : goal.returns-then-wrap-from-clause-passed
returns-then-wrap-from-clause-passed c =
    let left = length-drop c.args.from c.args.messages.now.items in
    let wrap = length c.as_slices.result.0.now in
    let part = in_second c.args.from c.args.count (c.args.from + c.args.count - wrap - (c.args.from - wrap))
    (c.args.from - wrap) c.as_slices.result.0.now c.as_slices.result.1.now c.args.messages.now.items
    c.as_slices.ensures.items c.if-wrap-from.true (omega (arith, c.if-wrap-from.true)) refl in
    (pass_part c.args.now c.args.count c.pass_each-then-wrap-from.result.0 c.pass_each-then-wrap-from.result.1
    (drop c.args.from c.args.messages.now.items) _ (omega (arith, left, c.requires)) part
    c.pass_each-then-wrap-from.ensures.passed c.pass_each-then-wrap-from.ensures.least).0

pub returns-then-wrap-from-clause-least : goal.returns-then-wrap-from-clause-least
returns-then-wrap-from-clause-least c =
    let left = length-drop c.args.from c.args.messages.now.items in
    let wrap = length c.as_slices.result.0.now in
    let part = in_second c.args.from c.args.count (c.args.from + c.args.count - wrap - (c.args.from - wrap))
    (c.args.from - wrap) c.as_slices.result.0.now c.as_slices.result.1.now c.args.messages.now.items
    c.as_slices.ensures.items c.if-wrap-from.true (omega (arith, c.if-wrap-from.true)) refl in
    (pass_part c.args.now c.args.count c.pass_each-then-wrap-from.result.0 c.pass_each-then-wrap-from.result.1
    (drop c.args.from c.args.messages.now.items) _ (omega (arith, left, c.requires)) part
    c.pass_each-then-wrap-from.ensures.passed c.pass_each-then-wrap-from.ensures.least).1
