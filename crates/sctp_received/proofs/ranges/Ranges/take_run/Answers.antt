use Rattle.std.proofs.Common.{◌∙◌, ap, sym, refl}
use Rattle.sctp_serial.specs.Serial.{tsn}
use Rattle.sctp_ranges.proofs.Parts.{reaches_here}
use Rattle.sctp_received.proofs.Pushed.{place_told}
use Rattle.sctp_received.proofs.Taken.{ended_same, taken_is}
use Rattle.sctp_received.proofs.ranges.Ranges.take_run.Goals as goal

pub returns-in_default-clause-none : goal.returns-in_default-clause-none
returns-in_default-clause-none c = λ none.
    let p = c.locate-place.ensures in
    let told =
    place_told c.args.self.now c.args.tsn c.offset-offset.result c.locate-place.result.run c.offset-offset.ensures
    p.base c.ranges.tsn.fits p.apart p.run in
    (refl, sym told ∙ c.begun.ensures.none c.in_default.is)

pub remove-requires-clause-order : goal.remove-requires-clause-order
remove-requires-clause-order c =
    reaches_here c.offset-offset.result c.in-Some.run' c.args.self.now.ranges
    (sym c.locate-place.ensures.run ∙ c.in-Some.ensures.some.0)

pub remove-requires-clause-upper_index : goal.remove-requires-clause-upper_index
remove-requires-clause-upper_index c =
    c.locate-place.ensures.index ∙
    ended_same c.offset-offset.result c.in-Some.run' c.args.self.now.ranges
    (sym c.locate-place.ensures.run ∙ c.in-Some.ensures.some.0)

pub returns-clause-some : goal.returns-clause-some
returns-clause-some c =
    let p = c.locate-place.ensures in
    taken_is c.args.self.now c.remove.new.self c.args.tsn c.offset-offset.result c.tsn.result c.in-Some.run'
    c.remove.ensures.base p.base p.apart c.offset-offset.ensures
    (c.tsn.ensures ∙ ap (λ b. tsn b c.in-Some.run'.last) c.remove.ensures.base)
    (sym p.run ∙ c.in-Some.ensures.some.0) c.in-Some.ensures.some.1 c.remove.ensures.removed
