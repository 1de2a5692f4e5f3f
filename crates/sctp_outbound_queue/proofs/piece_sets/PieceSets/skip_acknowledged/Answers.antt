use Rattle.std.proofs.Common.{arith}
use Rattle.sctp_candidates.proofs.Standing.{past_passing}
use Rattle.sctp_outbound_queue.specs.Message.{was_acknowledged}
use Rattle.sctp_outbound_queue.proofs.piece_sets.PieceSets.skip_acknowledged.Goals as goal

pub returns : goal.returns
returns c ps stand =
    let past =
    past_passing was_acknowledged c.args.self.now.acked ps c.args.from c.args.to c.next_other.result stand.2
    c.next_other.ensures in
    omega (arith, c.max.ensures, c.min.ensures, past)
