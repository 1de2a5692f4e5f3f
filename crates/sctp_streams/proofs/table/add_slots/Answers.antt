use Rattle.std.proofs.Common.{◌≡◌, ◌++◌, ◌∷◌, [], None, arith, length-append, map}
use Rattle.std.proofs.lemmas.List.{map-append}
use Rattle.sctp_streams.specs.Table.{stream_of}
use Rattle.sctp_streams.specs.declared.table.Slot.TheVariants.{Free}
use Rattle.sctp_streams.proofs.TableIsMap.{free_behind}
use Rattle.sctp_streams.proofs.table.add_slots.Goals as goal

pub loop-slots-preserved : goal.loop-slots-preserved
loop-slots-preserved c =
    let slots = c.loop-slots.slots.items in
    let is : c.push.new.self.items ≡ slots ++ Free ∷ [] = c.in_ok-push.ensures.items in
    let long = length-append slots (Free ∷ []) in
    let streams : map stream_of (slots ++ Free ∷ []) ≡ map stream_of slots ++ None ∷ [] = map-append stream_of slots (Free ∷ []) in
    rw is (
      rw streams (free_behind (map stream_of c.args.slots.now.items) (map stream_of slots) c.loop-slots.invariant.0),
      omega (arith, long, c.loop-slots.invariant.1, c.loop-slots-test.true, c.len.ensures, c.loop-slots.slots.ok),
    )
