use Rattle.std.proofs.Common.{◌<◌, arith, length, sym, ◌∙◌}
use Rattle.std.proofs.lemmas.List.{length-map}
use Rattle.sctp_streams.proofs.TableWalks.{first_place, none_taken}
use Rattle.sctp_streams.proofs.table.Page.first.Goals as goal

pub returns-then-holds-clause-first : goal.returns-then-holds-clause-first
returns-then-holds-clause-first c =
    let within : c.loop-place.place < length c.args.self.now =
    rw (← c.self.view_is, length-map) (omega (arith, c.loop-place-test.true, c.len-place-end.ensures, c.self.inside.slots.ok)) in
    first_place c.args.base c.loop-place.place c.args.self.now within (sym c.holds.ensures ∙ c.if-holds.true)
    c.loop-place.invariant

pub loop-place-preserved : goal.loop-place-preserved
loop-place-preserved c =
    let within : c.loop-place.place < length c.args.self.now =
    rw (← c.self.view_is, length-map) (omega (arith, c.loop-place-test.true, c.len-place-end.ensures, c.self.inside.slots.ok)) in
    none_taken c.args.base c.loop-place.place _ c.args.self.now (omega arith) within
    (sym c.holds.ensures ∙ c.if-holds.false) c.loop-place.invariant
