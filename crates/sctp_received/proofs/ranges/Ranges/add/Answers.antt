use Rattle.std.proofs.Common.{◌≡◌, true, not, slice_get, ◌∙◌, ap, sym, subst}
use Rattle.std.specs.Ordering.{nat_cmp}
use Rattle.std.specs.BTreeSet.{insert_key}
use Rattle.sctp_serial.specs.Serial.{tsn_past}
use Rattle.sctp_ranges.specs.Runs.{IsAdded, is_of}
use Rattle.sctp_received.specs.TsnRanges.{TsnRanges, tsns_of}
use Rattle.sctp_received.proofs.Pushed.{place_told, place_has, added_tsns}
use Rattle.sctp_received.proofs.ranges.Ranges.add.Goals as goal

pub returns-then-is_begun-clause-new : goal.returns-then-is_begun-clause-new
returns-then-is_begun-clause-new c =
    let told =
    place_told c.args.self.now c.args.tsn c.offset-offset.result c.locate-place.result.run c.offset-offset.ensures
    c.locate-place.ensures.base c.ranges.tsn.fits c.locate-place.ensures.apart c.locate-place.ensures.run in
    sym (ap not (sym told ∙ sym c.is_begun.ensures ∙ c.if-is_begun.true))

pub returns-then-is_begun-clause-cursor : goal.returns-then-is_begun-clause-cursor
returns-then-is_begun-clause-cursor c =
    let same = c.offset-offset.ensures ∙ ap (λ (r : TsnRanges). tsn_past r.base c.args.tsn) (sym c.self.view_is) in
    subst (λ o. is_of o (slice_get c.self.inside.row.list c.locate-place.result.index) ≡ true) same
    (place_has c.offset-offset.result c.locate-place.result.index c.locate-place.result.run c.self.inside.row.list
    c.args.self.now.ranges (ap (λ (r : TsnRanges). r.ranges) c.self.view_is) c.locate-place.ensures.index
    c.locate-place.ensures.run (sym c.is_begun.ensures ∙ c.if-is_begun.true))

pub returns-clause-new : goal.returns-clause-new
returns-clause-new c =
    let told =
    place_told c.args.self.now c.args.tsn c.offset-offset.result c.locate-place.result.run c.offset-offset.ensures
    c.locate-place.ensures.base c.ranges.tsn.fits c.locate-place.ensures.apart c.locate-place.ensures.run in
    sym (ap not (sym told ∙ sym c.is_begun.ensures ∙ c.if-is_begun.false))

pub returns-clause-added : goal.returns-clause-added
returns-clause-added c =
    let same = c.offset-offset.ensures ∙ ap (λ (r : TsnRanges). tsn_past r.base c.args.tsn) (sym c.self.view_is) in
    let added =
    subst (λ xs. IsAdded c.offset-offset.result xs c.add_at-index.new.row.list c.add_at-index.result)
    c.reserve.ensures.list c.add_at-index.ensures.added in
    added_tsns c.self.inside.base c.args.tsn c.offset-offset.result c.add_at-index.result c.self.inside.row.list
    c.add_at-index.new.row.list same c.self.invariant.0 c.ranges.tsn.fits c.self.invariant.1 added ∙
    ap (λ r. insert_key nat_cmp (tsns_of r) c.args.tsn) c.self.view_is
