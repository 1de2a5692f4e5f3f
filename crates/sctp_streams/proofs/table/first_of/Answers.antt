use Rattle.std.proofs.Common.{◌≡◌, ◌<◌, ◌+◌, ◌*◌, [], None, ap, arith, length, sym, ◌∙◌, slice_get, ℕ}
use Rattle.std.specs.Map.{keys_of}
use Rattle.sctp_streams.specs.Table.{entries_of, page_at}
use Rattle.sctp_streams.proofs.TableIsMap.{Slots, cleared, page_is, set_length}
use Rattle.sctp_streams.proofs.TableWalks.{first_page, no_first, none_before_cleared}
use Rattle.sctp_streams.proofs.table.first_of.Goals as goal

pub returns-in-Some-clause-first : goal.returns-in-Some-clause-first
returns-in-Some-clause-first c =
    let ps = c.loop-index.pages.items in
    let k = c.loop-index.index in
    let within : k < length ps = omega (arith, c.loop-index-test.true, c.len-index-end.ensures, c.args.pages.now.ok, c.loop-index.invariant.1.1.1) in
    let page : page_at ps k ≡ c.index.result.now = page_is ps k c.index.result.now within c.index.ensures in
    let same : k * 256 ≡ 0 + 256 * k = omega arith in
    first_page 0 k c.in-Some.id ps within c.loop-index.invariant.0
    (sym c.in-Some.is ∙ c.first.ensures.first
    ∙ ap (λ (p : Slots). slice_get (keys_of (entries_of (k * 256) p)) 0) (sym page)
    ∙ ap (λ (z : ℕ). slice_get (keys_of (entries_of z (page_at ps k))) 0) same)
    ∙ ap (λ es. slice_get (keys_of es) 0) c.loop-index.invariant.1.0

pub loop-index-preserved : goal.loop-index-preserved
loop-index-preserved c =
    let ps = c.loop-index.pages.items in
    let k = c.loop-index.index in
    let within : k < length ps = omega (arith, c.loop-index-test.true, c.len-index-end.ensures, c.args.pages.now.ok, c.loop-index.invariant.1.1.1) in
    let page : page_at ps k ≡ c.index.result.now = page_is ps k c.index.result.now within c.index.ensures in
    let free : None ≡ slice_get (keys_of (entries_of (k * 256) (page_at ps k))) 0 =
    sym c.in_default.is ∙ c.first.ensures.first
    ∙ ap (λ (p : Slots). slice_get (keys_of (entries_of (k * 256) p)) 0) (sym page) in
    let left = cleared (k * 256) k ps c.loop-index.invariant.1.1.0 (no_first (entries_of (k * 256) (page_at ps k)) free) in
    rw c.clear.ensures (
      none_before_cleared k _ ps (omega arith) c.loop-index.invariant.0,
      (left.0 ∙ c.loop-index.invariant.1.0, (left.1, set_length ps k [] ∙ c.loop-index.invariant.1.1.1)),
    )
