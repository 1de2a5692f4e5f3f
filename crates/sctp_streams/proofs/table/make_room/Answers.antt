use Rattle.std.proofs.Common.{◌≡◌, ◌<◌, ◌/◌, arith, length, slice_index_or, ◌∙◌}
use Rattle.sctp_streams.proofs.TableIsMap.{grown_entries}
use Rattle.sctp_streams.proofs.table.make_room.Goals as goal

pub returns-clause-entries : goal.returns-clause-entries
returns-clause-entries c =
    let ps = c.add_pages.new.pages.items in
    let p = c.index_mut.result.now in
    let there : c.args.id / 256 < length ps = omega (arith, c.in_ok-add_pages.ensures.room, c.page_of.ensures) in
    let is : p ≡ slice_index_or ps (c.args.id / 256) p = rw (← c.page_of-2.ensures) c.index_mut.ensures.value in
    rw c.page_of-2.ensures (grown_entries c.args.id ps p c.make_room.new.self c.add_pages.ensures.table there is
    c.make_room.ensures.same) ∙ c.add_pages.ensures.entries
