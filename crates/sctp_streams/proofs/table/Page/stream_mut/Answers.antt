use Rattle.std.proofs.Common.{IsSome, map, refl, ◌∙◌}
use Rattle.sctp_streams.specs.Table.{slot_at, stream_of}
use Rattle.sctp_streams.proofs.TableIsMap.{page_lent, slot_is, slot_there}
use Rattle.sctp_streams.proofs.table.Page.stream_mut.Goals as goal

pub returns : goal.returns
returns c =
    let slots = c.self.inside.slots.items in
    let some : IsSome (slot_at (map stream_of slots) c.args.place) = rw (← c.self.view_is) at c.requires in
    let is = c.index_mut.ensures.value in
    let slot = c.index_mut.result.now in (
      (refl, λ w. rw (← c.self.view_is) (page_lent slots c.args.place slot some is w)),
      record {
        writes_back = tt;
        value = rw (← c.self.view_is) (slot_is slots c.args.place slot (slot_there slots c.args.place some) is
            ∙ c.stream_mut.ensures.value);
      },
    )
