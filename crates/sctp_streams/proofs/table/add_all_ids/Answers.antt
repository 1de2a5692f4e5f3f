use Rattle.std.proofs.Common.{◌≡◌, ◌<◌, arith, length}
use Rattle.sctp_streams.specs.Table.{page_at}
use Rattle.sctp_streams.proofs.TableIsMap.{page_is}
use Rattle.sctp_streams.proofs.TableWalks.{all_ids_more}
use Rattle.sctp_streams.proofs.table.add_all_ids.Goals as goal

pub loop-index-preserved : goal.loop-index-preserved
loop-index-preserved c =
    let ps = c.args.pages.now.items in
    let k = c.loop-index.index in
    let within : k < length ps = omega (arith, c.loop-index-test.true, c.len-index-end.ensures, c.args.pages.now.ok) in
    let page : page_at ps k ≡ c.index.result.now = page_is ps k c.index.result.now within c.index.ensures in
    all_ids_more k ps c.index.result.now c.args.ids.now.items c.loop-index.ids.items c.add_ids.new.ids.items within page
    c.loop-index.invariant c.in_ok-add_ids.ensures
