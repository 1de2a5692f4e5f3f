use Rattle.std.proofs.Common.{◌≡◌, true, false, ◌∙◌, sym, refl}
use Rattle.sctp_received.specs.Received.{is_held}
use Rattle.sctp_received.specs.TsnRanges.{tsns_of}
use Rattle.sctp_received.proofs.Pushed.{place_told}
use Rattle.sctp_received.proofs.Taken.{not_over, popped_of, stays}
use Rattle.sctp_received.proofs.ranges.Ranges.take.Goals as goal

pub returns-then-not-is_begun-clause-held : goal.returns-then-not-is_begun-clause-held
returns-then-not-is_begun-clause-held c =
    let p = c.locate-place.ensures in
    let told =
    place_told c.args.self.now c.args.tsn c.offset-offset.result c.locate-place.result.run c.offset-offset.ensures
    p.base c.ranges.tsn.fits p.apart p.run in
    let off : is_held c.args.tsn (tsns_of c.args.self.now) ≡ false =
    sym told ∙ sym c.is_begun.ensures ∙ c.if-not-is_begun.true in
    rw off refl

pub returns-then-not-is_begun-clause-removed : goal.returns-then-not-is_begun-clause-removed
returns-then-not-is_begun-clause-removed c =
    let p = c.locate-place.ensures in
    let told =
    place_told c.args.self.now c.args.tsn c.offset-offset.result c.locate-place.result.run c.offset-offset.ensures
    p.base c.ranges.tsn.fits p.apart p.run in
    stays c.args.tsn (tsns_of c.args.self.now) (sym told ∙ sym c.is_begun.ensures ∙ c.if-not-is_begun.true)

pub remove-requires-clause-half : goal.remove-requires-clause-half
remove-requires-clause-half c = λ over.
    let p = c.locate-place.ensures in
    absurd (not_over c.args.self.now c.args.tsn c.offset-offset.result c.locate-place.result.run
    c.offset-offset.ensures p.base c.ranges.tsn.fits p.apart p.run c.requires over)

pub returns-clause-held : goal.returns-clause-held
returns-clause-held c =
    let p = c.locate-place.ensures in
    let told =
    place_told c.args.self.now c.args.tsn c.offset-offset.result c.locate-place.result.run c.offset-offset.ensures
    p.base c.ranges.tsn.fits p.apart p.run in
    let on : is_held c.args.tsn (tsns_of c.args.self.now) ≡ true =
    sym told ∙ sym c.is_begun.ensures ∙ c.if-not-is_begun.false in
    rw on refl

pub returns-clause-removed : goal.returns-clause-removed
returns-clause-removed c =
    let p = c.locate-place.ensures in
    popped_of c.args.self.now c.remove.new.self c.args.tsn c.offset-offset.result c.remove.ensures.base
    c.offset-offset.ensures p.base c.ranges.tsn.fits p.apart c.remove.ensures.removed
