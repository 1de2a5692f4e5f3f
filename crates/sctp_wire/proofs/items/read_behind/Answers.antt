use Rattle.std.proofs.Common.{arith}
use Rattle.std.proofs.lemmas.Result.{err_from_is_err_and}
use Rattle.sctp_wire.proofs.FrameLoop.{frame_fails, item_fails, goes_on, is_done}
use Rattle.sctp_wire.proofs.items.read_behind.Goals as goal

pub returns-in_err-frame : goal.returns-in_err-frame
returns-in_err-frame g c =
    let p = err_from_is_err_and c.from_residual.result c.from_residual.ensures.1 in
    rw (p.1, p.2) (frame_fails g.T.Item.item_of c.args.least c.items.items c.items.rest _ _
    (omega (arith, c.len.ensures.value)) c.in_err-frame.ensures.exact c.items.invariant)

pub returns-in_err-item : goal.returns-in_err-item
returns-in_err-item g c =
    let p = err_from_is_err_and c.from_residual-in_err-item.result c.from_residual-in_err-item.ensures.1 in
    rw (p.1, p.2) (item_fails g.T.Item.item_of c.args.least c.items.items c.items.rest _ _ _ _
    (omega (arith, c.len.ensures.value)) c.in_ok-frame.ensures.exact c.in_err-item.ensures c.items.invariant)

pub items-preserved : goal.items-preserved
items-preserved g c =
    rw c.in_ok-push.ensures.ok (goes_on g.T.Item.item_of c.args.least c.items.items c.items.rest _ _ _ _
    (omega (arith, c.len.ensures.value)) c.in_ok-frame.ensures.exact c.in_ok-item.ensures c.items.invariant)

pub returns : goal.returns
returns g c =
    is_done g.T.Item.item_of c.args.least c.items.items c.items.rest _ (omega (arith, c.len.ensures.value))
    c.items.invariant
