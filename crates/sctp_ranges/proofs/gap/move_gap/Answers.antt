use Rattle.std.proofs.Common.{◌∙◌, ap, arith}
use Rattle.sctp_ranges.specs.Stored.{closed}
use Rattle.sctp_ranges.proofs.Rows.{moved_down, moved_up}
use Rattle.sctp_ranges.proofs.gap.move_gap.Goals as goal

pub returns-then-to-front-clause-same : goal.returns-then-to-front-clause-same
returns-then-to-front-clause-same c =
    ap (closed c.args.to c.args.gap) c.copy_within.ensures.items
    ∙ moved_down c.args.front c.args.gap c.args.runs.now.items c.args.to c.if-to-front.true c.requires.from

pub returns-else-to-front-clause-same : goal.returns-else-to-front-clause-same
returns-else-to-front-clause-same c =
    ap (closed c.args.to c.args.gap) c.copy_within-else-to-front.ensures.items
    ∙ moved_up c.args.front c.args.gap c.args.runs.now.items c.args.to (omega (arith, c.if-to-front.false)) c.requires.to
