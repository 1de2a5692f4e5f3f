use Rattle.std.proofs.Common.{Some, ◌∙◌, ap, subst, sym}
use Rattle.sctp_received.specs.Received.{IsFarthest}
use Rattle.sctp_received.specs.TsnRanges.{tsns_of}
use Rattle.sctp_received.proofs.LastReceived.{farthest, farthest_told}
use Rattle.sctp_received.proofs.ranges.Ranges.get_last_tsn_received.Goals as goal

pub returns-in-Some-clause-last : goal.returns-in-Some-clause-last
returns-in-Some-clause-last c =
    let f = c.farthest.ensures in
    let told =
    farthest_told c.args.self.now.base c.args.cumulative_tsn c.offset-point.result (Some c.in-Some.offset)
    c.args.self.now.ranges c.offset-point.ensures f.base c.ranges.cumulative_tsn.fits f.apart c.in-Some.ensures.farthest
    in
    ap Some c.tsn.ensures ∙ sym told

pub returns-in-Some-clause-farthest : goal.returns-in-Some-clause-farthest
returns-in-Some-clause-farthest c =
    let f = c.farthest.ensures in
    let told =
    farthest_told c.args.self.now.base c.args.cumulative_tsn c.offset-point.result (Some c.in-Some.offset)
    c.args.self.now.ranges c.offset-point.ensures f.base c.ranges.cumulative_tsn.fits f.apart c.in-Some.ensures.farthest
    in
    subst (IsFarthest c.args.cumulative_tsn (tsns_of c.args.self.now)) (told ∙ ap Some (sym c.tsn.ensures))
    (farthest c.args.cumulative_tsn (tsns_of c.args.self.now))
