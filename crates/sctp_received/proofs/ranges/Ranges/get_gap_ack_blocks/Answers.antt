use Rattle.std.proofs.Common.{◌∙◌, ap, sym, subst}
use Rattle.std.proofs.lemmas.Result.{IfOk-weaker}
use Rattle.sctp_serial.specs.Serial.{tsn_past}
use Rattle.sctp_received.specs.Received.{gap_ack_blocks, is_named, AreRuns}
use Rattle.sctp_received.specs.TsnRanges.{TsnRanges, tsns_of}
use Rattle.sctp_received.proofs.GapAckBlocks.{named_exactly, maximal_blocks}
use Rattle.sctp_received.proofs.Keys.{Ascend}
use Rattle.sctp_received.proofs.Turned.{tsns_ascend}
use Rattle.sctp_received.proofs.ToldBlocks.{told_blocks}
use Rattle.sctp_received.proofs.ranges.Ranges.get_gap_ack_blocks.Goals as goal

pub returns-clause-blocks : goal.returns-clause-blocks
returns-clause-blocks c =
    let at =
    c.offset-point.ensures ∙ ap (λ (r : TsnRanges). tsn_past r.base c.args.cumulative_tsn) (sym c.self.view_is) in
    let told =
    told_blocks c.self.inside.base c.args.cumulative_tsn c.offset-point.result c.self.inside.row.list c.self.invariant.0
    c.ranges.cumulative_tsn.fits at c.self.invariant.1 ∙
    ap (λ r. gap_ack_blocks c.args.cumulative_tsn (tsns_of r)) c.self.view_is in
    IfOk-weaker c.tell_blocks.result _ _ (λ blocks is. is ∙ told) c.tell_blocks.ensures.blocks

pub returns-clause-exact : goal.returns-clause-exact
returns-clause-exact c =
    let at =
    c.offset-point.ensures ∙ ap (λ (r : TsnRanges). tsn_past r.base c.args.cumulative_tsn) (sym c.self.view_is) in
    let told =
    told_blocks c.self.inside.base c.args.cumulative_tsn c.offset-point.result c.self.inside.row.list c.self.invariant.0
    c.ranges.cumulative_tsn.fits at c.self.invariant.1 ∙
    ap (λ r. gap_ack_blocks c.args.cumulative_tsn (tsns_of r)) c.self.view_is in
    IfOk-weaker c.tell_blocks.result _ _ (λ blocks is.
    λ o above below.
    ap (is_named o) (is ∙ told) ∙ named_exactly c.args.cumulative_tsn o (tsns_of c.args.self.now) above below)
    c.tell_blocks.ensures.blocks

pub returns-clause-maximal : goal.returns-clause-maximal
returns-clause-maximal c =
    let at =
    c.offset-point.ensures ∙ ap (λ (r : TsnRanges). tsn_past r.base c.args.cumulative_tsn) (sym c.self.view_is) in
    let told =
    told_blocks c.self.inside.base c.args.cumulative_tsn c.offset-point.result c.self.inside.row.list c.self.invariant.0
    c.ranges.cumulative_tsn.fits at c.self.invariant.1 in
    let maximal =
    maximal_blocks c.args.cumulative_tsn (tsns_of c.args.self.now) c.ranges.cumulative_tsn.fits
    (subst (λ r. Ascend 0 (tsns_of r)) c.self.view_is
    (tsns_ascend c.self.inside.base c.self.inside.row.list c.self.invariant.0 c.self.invariant.1)) in
    let all = told ∙ ap (λ r. gap_ack_blocks c.args.cumulative_tsn (tsns_of r)) c.self.view_is in
    IfOk-weaker c.tell_blocks.result _ _ (λ blocks is. subst (AreRuns 1) (sym (is ∙ all)) maximal)
    c.tell_blocks.ensures.blocks
