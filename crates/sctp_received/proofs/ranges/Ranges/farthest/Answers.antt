use Rattle.std.proofs.Common.{◌≡◌, ◌-◌, List, Some, slice_get, length, ◌∙◌, ap, subst, sym, arith}
use Rattle.sctp_ranges.specs.declared.run.Run.{Run}
use Rattle.sctp_received.specs.TsnRanges.{TsnRanges}
use Rattle.sctp_ranges.proofs.Halving.{ended_within}
use Rattle.sctp_received.proofs.LastReceived.{inside, in_front, at_end}
use Rattle.sctp_received.proofs.ranges.Ranges.farthest.Goals as goal

pub returns-in-Some-clause-farthest : goal.returns-in-Some-clause-farthest
returns-in-Some-clause-farthest c =
    let p = c.locate-place.ensures in
    inside c.args.point c.locate-place.result.index c.in-Some.run' c.locate-place.result.run c.args.self.now.ranges
    c.ranges.point.fits p.apart p.index (p.run ∙ ap (slice_get c.args.self.now.ranges) (sym p.index))
    (sym c.before-2.ensures ∙ c.in-Some.is)

pub returns-then-place-eq0-clause-farthest : goal.returns-then-place-eq0-clause-farthest
returns-then-place-eq0-clause-farthest c =
    let p = c.locate-place.ensures in
    let ranges = ap (λ (r : TsnRanges). r.ranges) c.self.view_is in
    let last =
    subst (λ (rs : List Run). slice_get rs (c.len-len.result - 1) ≡ Some c.at.result) ranges c.at.ensures.run in
    at_end c.args.point c.locate-place.result.index c.len-len.result c.at.result c.locate-place.result.run
    c.args.self.now.ranges c.ranges.point.fits p.apart p.index
    (p.run ∙ ap (slice_get c.args.self.now.ranges) (sym p.index)) (sym c.before-2.ensures ∙ c.in_default.is)
    c.if-place-eq0.true (c.len-len.ensures ∙ ap length ranges) last

pub at-requires-2 : goal.at-requires-2
at-requires-2 c =
    let p = c.locate-place.ensures in
    let same = ap length (ap (λ (r : TsnRanges). r.ranges) c.self.view_is) in
    omega (
      arith,
      ended_within c.args.point c.args.self.now.ranges,
      p.index,
      same,
      c.len-len.ensures,
      c.if-len-eq0.false,
    )

pub returns-clause-farthest : goal.returns-clause-farthest
returns-clause-farthest c =
    let p = c.locate-place.ensures in
    let ranges = ap (λ (r : TsnRanges). r.ranges) c.self.view_is in
    let front =
    subst (λ (rs : List Run). slice_get rs (c.locate-place.result.index - 1) ≡ Some c.at-2.result) ranges
    c.at-2.ensures.run in
    in_front c.args.point c.locate-place.result.index c.at-2.result c.locate-place.result.run c.args.self.now.ranges
    c.ranges.point.fits p.apart p.index (p.run ∙ ap (slice_get c.args.self.now.ranges) (sym p.index))
    (sym c.before-2.ensures ∙ c.in_default.is) (omega (arith, c.if-place-eq0.false)) front
