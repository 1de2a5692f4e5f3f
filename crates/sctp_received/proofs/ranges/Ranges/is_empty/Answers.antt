use Rattle.std.proofs.Common.{◌==◌, length, ◌∙◌, ap}
use Rattle.sctp_received.specs.TsnRanges.{tsns_of}
use Rattle.sctp_received.proofs.Pushed.{nothing_held}
use Rattle.sctp_received.proofs.ranges.Ranges.is_empty.Goals as goal

pub returns : goal.returns
returns c =
    c.is_empty.ensures ∙ nothing_held c.self.inside.base c.self.inside.row.list c.self.invariant.0 c.self.invariant.1 ∙
    ap (λ r. length (tsns_of r) == 0) c.self.view_is
