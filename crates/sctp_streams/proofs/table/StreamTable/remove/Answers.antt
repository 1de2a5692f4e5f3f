use Rattle.std.proofs.Common.{◌≡◌, ◌∙◌, arith, is_some, sym, true}
use Rattle.std.specs.BTreeMap.{is_at}
use Rattle.std.specs.Map.{lookup}
use Rattle.std.specs.Ordering.{nat_cmp}
use Rattle.sctp_streams.specs.Table.{entries_in}
use Rattle.sctp_streams.proofs.TableIsMap.{found_in, none_removed, table_with, taken_count, taken_entries, taken_room}
use Rattle.std.proofs.Common.{None}
use Rattle.sctp_streams.proofs.table.StreamTable.remove.Goals as goal

pub returns-then-not-contains-clause-entries : goal.returns-then-not-contains-clause-entries
returns-then-not-contains-clause-entries c =
    none_removed (is_at (nat_cmp c.args.id)) c.args.self.now (sym c.contains.ensures ∙ c.if-not-contains.true)

pub exchange-requires : goal.exchange-requires
exchange-requires c =
    let ps = c.self.inside.pages.items in
    let some : is_some (lookup (is_at (nat_cmp c.args.id)) (entries_in ps)) ≡ true =
    rw c.self.view_is (sym c.contains.ensures ∙ c.if-not-contains.false) in
    taken_room c.args.id ps c.self.invariant.1 some

pub invariant_of-self : goal.invariant_of-self
invariant_of-self c =
    let ps = c.self.inside.pages.items in
    let some : is_some (lookup (is_at (nat_cmp c.args.id)) (entries_in ps)) ≡ true =
    rw c.self.view_is (sym c.contains.ensures ∙ c.if-not-contains.false) in
    let count = taken_count c.args.id ps c.self.invariant.1 some c.self.inside.count c.self.invariant.0 in
    rw c.exchange.ensures.pages (omega (arith, count), table_with c.args.id ps None c.self.invariant.1)

pub returns-clause-value : goal.returns-clause-value
returns-clause-value c = rw (← c.self.view_is)
    (c.exchange.ensures.old ∙ sym (found_in c.args.id c.self.inside.pages.items c.self.invariant.1.small))

pub returns-clause-entries : goal.returns-clause-entries
returns-clause-entries c =
    let ps = c.self.inside.pages.items in
    let some : is_some (lookup (is_at (nat_cmp c.args.id)) (entries_in ps)) ≡ true =
    rw c.self.view_is (sym c.contains.ensures ∙ c.if-not-contains.false) in
    rw (← c.self.view_is, c.exchange.ensures.pages) (taken_entries c.args.id ps c.self.invariant.1 some)
