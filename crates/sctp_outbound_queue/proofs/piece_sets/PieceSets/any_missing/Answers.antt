use Rattle.sctp_outbound_queue.proofs.StandingPieces.{any_standing}
use Rattle.sctp_outbound_queue.proofs.piece_sets.PieceSets.any_missing.Goals as goal

pub returns : goal.returns
returns c ps stand =
    any_standing c.args.self.now ps c.next.result stand c.next.ensures.next c.is_some.ensures
