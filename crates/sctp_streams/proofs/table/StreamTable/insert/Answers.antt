use Rattle.std.proofs.Common.{◌≡◌, ◌∙◌, Some, arith, sym}
use Rattle.sctp_streams.proofs.TableIsMap.{most_in, put_entries, put_new, put_over, put_replaces, sorted_in, table_with}
use Rattle.sctp_streams.proofs.table.StreamTable.insert.Goals as goal

pub returns-in_err-make_room-clause-was_ordered : goal.returns-in_err-make_room-clause-was_ordered
returns-in_err-make_room-clause-was_ordered c =
    rw (← c.self.view_is) (sorted_in c.self.inside.pages.items c.self.invariant.1)

pub returns-in_err-stream-clause-was_ordered : goal.returns-in_err-stream-clause-was_ordered
returns-in_err-stream-clause-was_ordered c =
    rw (← c.self.view_is) (sorted_in c.self.inside.pages.items c.self.invariant.1)

pub invariant_of-self-in-Some : goal.invariant_of-self-in-Some
invariant_of-self-in-Some c =
    let ps = c.make_room.new.pages.items in
    let table = c.make_room.ensures.table in
    let room = c.in_ok-make_room.ensures.room in
    let was : Some c.in-Some.replaced ≡ _ = sym c.in-Some.is ∙ c.exchange.ensures.old in
    rw c.exchange.ensures.pages (
      put_over c.args.id c.self.inside.pages.items ps _ c.self.invariant.1 table c.make_room.ensures.entries room
          c.self.inside.count c.in-Some.replaced c.self.invariant.0 was,
      table_with c.args.id ps _ table,
    )

pub overflow_add-self : goal.overflow_add-self
overflow_add-self c =
    let most = most_in c.self.inside.pages.items c.self.invariant.1 in omega (arith, most, c.self.invariant.0)

pub invariant_of-self-in-None : goal.invariant_of-self-in-None
invariant_of-self-in-None c =
    let ps = c.make_room.new.pages.items in
    let table = c.make_room.ensures.table in
    let room = c.in_ok-make_room.ensures.room in
    rw c.exchange.ensures.pages (
      put_new c.args.id c.self.inside.pages.items ps _ c.self.invariant.1 table c.make_room.ensures.entries room
          c.self.inside.count c.self.invariant.0 (sym c.in-None.is ∙ c.exchange.ensures.old),
      table_with c.args.id ps _ table,
    )

pub returns-in-Some-clause-entries : goal.returns-in-Some-clause-entries
returns-in-Some-clause-entries c = rw (← c.self.view_is, c.exchange.ensures.pages, c.in_ok-stream.ensures.ok)
    (put_entries c.args.id c.self.inside.pages.items c.make_room.new.pages.items c.args.stream c.self.invariant.1
    c.make_room.ensures.table c.make_room.ensures.entries c.in_ok-make_room.ensures.room)

pub returns-in-Some-clause-old : goal.returns-in-Some-clause-old
returns-in-Some-clause-old c = rw (← c.self.view_is) (sym c.in-Some.is ∙ c.exchange.ensures.old
    ∙ put_replaces c.args.id c.self.inside.pages.items c.make_room.new.pages.items c.args.stream c.self.invariant.1
    c.make_room.ensures.table c.make_room.ensures.entries c.in_ok-make_room.ensures.room)

pub returns-in-Some-clause-was_ordered : goal.returns-in-Some-clause-was_ordered
returns-in-Some-clause-was_ordered c =
    rw (← c.self.view_is) (sorted_in c.self.inside.pages.items c.self.invariant.1)

pub returns-in-None-clause-entries : goal.returns-in-None-clause-entries
returns-in-None-clause-entries c = rw (← c.self.view_is, c.exchange.ensures.pages, c.in_ok-stream.ensures.ok)
    (put_entries c.args.id c.self.inside.pages.items c.make_room.new.pages.items c.args.stream c.self.invariant.1
    c.make_room.ensures.table c.make_room.ensures.entries c.in_ok-make_room.ensures.room)

pub returns-in-None-clause-old : goal.returns-in-None-clause-old
returns-in-None-clause-old c = rw (← c.self.view_is) (sym c.in-None.is ∙ c.exchange.ensures.old
    ∙ put_replaces c.args.id c.self.inside.pages.items c.make_room.new.pages.items c.args.stream c.self.invariant.1
    c.make_room.ensures.table c.make_room.ensures.entries c.in_ok-make_room.ensures.room)

pub returns-in-None-clause-was_ordered : goal.returns-in-None-clause-was_ordered
returns-in-None-clause-was_ordered c =
    rw (← c.self.view_is) (sorted_in c.self.inside.pages.items c.self.invariant.1)
