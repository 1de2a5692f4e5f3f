use Rattle.std.proofs.Common.{◌≡◌, ◌∙◌, List, arith, ap, length, map, take, drop, ◌++◌, refl}
use Rattle.std.proofs.lemmas.List.{length-map}
use Rattle.std.specs.Option.{option_map}
use Rattle.sctp_streams.specs.Stream.{stream_passed}
use Rattle.sctp_streams.specs.Streams.{passed_each}
use Rattle.sctp_streams.specs.Table.{entries_in}
use Rattle.sctp_streams.proofs.TableIsMap.{Entries, Slots}
use Rattle.sctp_streams.proofs.TableWalks.{passed_in_pages, table_passed, whole}
use Rattle.sctp_streams.proofs.table.StreamTable.skip_unordered.Goals as goal

all : (c : goal.After-self-1) → take c.self.inside.pages.len
    (c.skip_pages.new.pages ++ drop (length c.skip_pages.new.pages) c.self.inside.pages.items)
    ≡ map (map (option_map (stream_passed c.args.tsn))) c.self.inside.pages.items
all c =
    let ps = c.self.inside.pages.items in
    let is : c.skip_pages.new.pages ≡ map (map (option_map (stream_passed c.args.tsn))) ps =
    c.skip_pages.ensures ∙ ap (λ (z : List Slots). map (map (option_map (stream_passed c.args.tsn))) z) c.as_mut_slice.ensures.value in
    let same : length c.skip_pages.new.pages ≡ length ps = ap (λ (z : List Slots). length z) is ∙ rw length-map refl in
    whole c.skip_pages.new.pages ps c.self.inside.pages.len same (omega (arith, c.self.inside.pages.ok)) ∙ is

pub invariant_of-self : goal.invariant_of-self
invariant_of-self c =
    let ps = c.self.inside.pages.items in
    let passed = passed_in_pages c.args.tsn ps in
    let same : length (passed_each c.args.tsn (entries_in ps)) ≡ length (entries_in ps) = rw length-map refl in
    let count = ap (λ (z : Entries). length z) passed in
    rw (all c) (omega (arith, c.self.invariant.0, count, same), table_passed c.args.tsn ps c.self.invariant.1)

pub returns : goal.returns
returns c = rw (← c.self.view_is) (ap entries_in (all c) ∙ passed_in_pages c.args.tsn c.self.inside.pages.items)
