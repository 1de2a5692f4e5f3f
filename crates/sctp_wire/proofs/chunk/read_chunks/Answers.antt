use Rattle.std.proofs.Common.{[], ◌∷◌, arith, subst, sym, ◌∙◌}
use Rattle.std.proofs.lemmas.Bool.{eqb-false, eqb-true}
use Rattle.std.proofs.lemmas.Result.{err_from_is_err_and}
use Rattle.sctp_wire.specs.Results.{IsFaultOrNoMemory}
use Rattle.sctp_wire.specs.Chunks.{chunk_of}
use Rattle.sctp_wire.proofs.FrameLoop.{frame_fails, goes_on, is_done, item_fails, items_end, none_in_front}
use Rattle.sctp_wire.proofs.chunk.read_chunks.Goals as goal

pub returns-then-is_empty : goal.returns-then-is_empty
returns-then-is_empty c =
    let none = eqb-true _ 0 (sym c.is_empty.ensures ∙ c.if-is_empty.true) in
    rw (c.from_list.ensures, c.new.ensures) (items_end chunk_of 1 c.args.bytes (omega (arith, none)))

pub returns-in_err-frame : goal.returns-in_err-frame
returns-in_err-frame c =
    let some = eqb-false _ 0 (sym c.is_empty.ensures ∙ c.if-is_empty.false) in
    let p = err_from_is_err_and c.from_residual.result c.from_residual.ensures.1 in
    rw (p.1, p.2) (frame_fails chunk_of 1 [] c.args.bytes _ _ (omega (arith, some)) c.in_err-frame.ensures.exact
    (none_in_front _))

pub returns-in_err-first : goal.returns-in_err-first
returns-in_err-first c =
    let some = eqb-false _ 0 (sym c.is_empty.ensures ∙ c.if-is_empty.false) in
    let p = err_from_is_err_and c.from_residual-in_err-first.result c.from_residual-in_err-first.ensures.1 in
    rw (p.1, p.2) (item_fails chunk_of 1 [] c.args.bytes _ _ _ _ (omega (arith, some)) c.in_ok-frame.ensures.exact
    c.in_err-first.ensures (none_in_front _))

pub returns-then-is_empty-2 : goal.returns-then-is_empty-2
returns-then-is_empty-2 c =
    let some = eqb-false _ 0 (sym c.is_empty.ensures ∙ c.if-is_empty.false) in
    let none = eqb-true _ 0 (sym c.is_empty-2.ensures ∙ c.if-is_empty-2.true) in
    rw c.of.ensures (is_done chunk_of 1 (c.in_ok-first.first ∷ []) _ _ (omega (arith, none))
    (goes_on chunk_of 1 [] c.args.bytes _ _ _ _ (omega (arith, some)) c.in_ok-frame.ensures.exact
    c.in_ok-first.ensures (none_in_front _)))

pub returns-in_err-read_behind : goal.returns-in_err-read_behind
returns-in_err-read_behind c =
    let some = eqb-false _ 0 (sym c.is_empty.ensures ∙ c.if-is_empty.false) in
    let p = err_from_is_err_and c.from_residual-in_err-read_behind.result
    c.from_residual-in_err-read_behind.ensures.1 in
    rw (p.1, p.2) (subst (IsFaultOrNoMemory _)
    (goes_on chunk_of 1 [] c.args.bytes _ _ _ _ (omega (arith, some)) c.in_ok-frame.ensures.exact
    c.in_ok-first.ensures (none_in_front _))
    (rw (c.in_ok-push.ensures.ok, c.new-chunks.ensures) at c.in_err-read_behind.ensures))

pub returns : goal.returns
returns c =
    let some = eqb-false _ 0 (sym c.is_empty.ensures ∙ c.if-is_empty.false) in
    rw c.from_list-2.ensures (sym
    (goes_on chunk_of 1 [] c.args.bytes _ _ _ _ (omega (arith, some)) c.in_ok-frame.ensures.exact
    c.in_ok-first.ensures (none_in_front _))
    ∙ (rw (c.in_ok-push.ensures.ok, c.new-chunks.ensures) at c.in_ok-read_behind.ensures))
