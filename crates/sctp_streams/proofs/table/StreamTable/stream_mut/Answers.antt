use Rattle.std.proofs.Common.{◌≡◌, ◌/◌, ◌%◌, IsSome, Some, [], arith, slice_index_or, refl, ◌∙◌}
use Rattle.std.specs.BTreeMap.{is_at}
use Rattle.std.specs.Map.{lookup}
use Rattle.std.specs.Ordering.{nat_cmp}
use Rattle.sctp_streams.specs.Table.{entries_in, slot_at}
use Rattle.sctp_streams.proofs.TableIsMap.{lent_entries, lent_room, lent_some, lent_table, lent_value}
use Rattle.sctp_streams.proofs.table.StreamTable.stream_mut.Goals as goal

pub index_mut-requires : goal.index_mut-requires
index_mut-requires c =
    let ps = c.self.inside.pages.items in
    let some : IsSome (lookup (is_at (nat_cmp c.args.id)) (entries_in ps)) = rw (← c.self.view_is) at c.requires in
    let room = lent_room c.args.id ps [] c.self.invariant.1 some in
    omega (arith, room.page, c.page_of.ensures, c.self.inside.pages.ok)

pub stream_mut-requires : goal.stream_mut-requires
stream_mut-requires c =
    let ps = c.self.inside.pages.items in
    let p = c.index_mut.result.now in
    let some : IsSome (lookup (is_at (nat_cmp c.args.id)) (entries_in ps)) = rw (← c.self.view_is) at c.requires in
    let is : p ≡ slice_index_or ps (c.args.id / 256) p = rw (← c.page_of.ensures) c.index_mut.ensures.value in
    rw c.place_of.ensures (lent_some c.args.id ps p c.self.invariant.1 some is)

pub invariant_of-self-lent : goal.invariant_of-self-lent
invariant_of-self-lent c w =
    let ps = c.self.inside.pages.items in
    let p = c.index_mut.result.now in
    let some : IsSome (lookup (is_at (nat_cmp c.args.id)) (entries_in ps)) = rw (← c.self.view_is) at c.requires in
    let is : p ≡ slice_index_or ps (c.args.id / 256) p = rw (← c.page_of.ensures) c.index_mut.ensures.value in
    rw (c.page_of.ensures, c.place_of.ensures)
    (lent_table c.args.id ps p c.self.invariant.1 some is c.self.inside.count w c.self.invariant.0)

pub returns : goal.returns
returns c =
    let ps = c.self.inside.pages.items in
    let p = c.index_mut.result.now in
    let some : IsSome (lookup (is_at (nat_cmp c.args.id)) (entries_in ps)) = rw (← c.self.view_is) at c.requires in
    let is : p ≡ slice_index_or ps (c.args.id / 256) p = rw (← c.page_of.ensures) c.index_mut.ensures.value in
    let value : slot_at p (c.args.id % 256) ≡ Some c.stream_mut.result.now =
    rw (← c.place_of.ensures) c.stream_mut.ensures.value in (
      (
        refl,
        λ w. rw (← c.self.view_is, c.page_of.ensures, c.place_of.ensures)
            (lent_entries c.args.id ps p c.self.invariant.1 some is w),
      ),
      record {
        writes_back = tt;
        value = rw (← c.self.view_is) (lent_value c.args.id ps p c.self.invariant.1 some is ∙ value);
      },
    )
