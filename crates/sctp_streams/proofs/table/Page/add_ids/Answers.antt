use Rattle.std.proofs.Common.{◌<◌, arith, length}
use Rattle.std.proofs.lemmas.List.{length-map}
use Rattle.sctp_streams.proofs.TableWalks.{ids_more}
use Rattle.sctp_streams.proofs.table.Page.add_ids.Goals as goal

pub loop-place-preserved : goal.loop-place-preserved
loop-place-preserved c =
    let within : c.loop-place.place < length c.args.self.now =
    rw (← c.self.view_is, length-map) (omega (arith, c.loop-place-test.true, c.len-place-end.ensures, c.self.inside.slots.ok)) in
    ids_more c.args.first c.loop-place.place c.args.self.now c.args.ids.now.items c.loop-place.ids.items c.add_id.new.ids.items
    within c.loop-place.invariant c.in_ok-add_id.ensures
