use Rattle.std.proofs.Common.{◌≡◌, ◌<◌, ◌++◌, ◌∷◌, [], arith, length, ◌∙◌, ap}
use Rattle.sctp_streams.proofs.TableIsMap.{Slots, page_behind}
use Rattle.sctp_streams.proofs.table.add_pages.Goals as goal

pub loop-alloc-preserved : goal.loop-alloc-preserved
loop-alloc-preserved c =
    let ps = c.loop-alloc.pages.items in
    let few : length ps < 256 =
    omega (arith, c.loop-alloc-test.true, c.len.ensures, c.loop-alloc.pages.ok, c.requires.few) in
    let more = page_behind ps c.loop-alloc.invariant.1 few in
    let is : c.push.new.self.items ≡ ps ++ [] ∷ [] = c.in_ok-push.ensures.items ∙ ap (λ (p : Slots). ps ++ p ∷ []) c.new.ensures in
    rw is (more.0 ∙ c.loop-alloc.invariant.0, more.1)
