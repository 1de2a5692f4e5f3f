use Rattle.std.proofs.Common.{ap, is_some, length, refl, sym, ◌∙◌}
use Rattle.std.proofs.lemmas.Bool.{ltb-false, ltb-true}
use Rattle.std.proofs.lemmas.Option.{slice_get_past, slice_get_read}
use Rattle.sctp_resets.proofs.FrontWaits.{first_behind_is_told, nothing_is_told}
use Rattle.sctp_resets.proofs.telling.next_told.Goals as goal

pub returns-in_default : goal.returns-in_default
returns-in_default c =
    let queue = c.args.events.now.items in
    let past = ltb-false c.args.waiting (length queue) (sym c.get.ensures.item.0 ∙ ap is_some c.in_default.is) in
    sym (nothing_is_told c.args.generations.now c.args.debts.now queue c.args.waiting c.requires
    (slice_get_past queue c.args.waiting past))

pub returns-then-not-is_held : goal.returns-then-not-is_held
returns-then-not-is_held c =
    let queue = c.args.events.now.items in
    let within = ltb-true c.args.waiting (length queue) (sym c.get.ensures.item.0 ∙ ap is_some c.in-Some.is) in
    sym (first_behind_is_told c.args.generations.now c.args.debts.now queue c.args.waiting c.requires
    c.in-Some.event.now
    (slice_get_read queue (length queue) c.args.waiting c.in-Some.event.now refl within c.in-Some.ensures.lookup)
    (sym c.is_held.ensures ∙ c.if-not-is_held.true))
