use Rattle.std.proofs.Common.{refl}
use Rattle.sctp_outbound_queue.proofs.StandingPieces.{standing_kept}
use Rattle.sctp_outbound_queue.proofs.walks.flag.Goals as goal

pub returns-clause-sets : goal.returns-clause-sets
returns-clause-sets c ps there stand = c.settle.ensures ps stand

pub returns-then-not-is_of-clause-sets : goal.returns-then-not-is_of-clause-sets
returns-then-not-is_of-clause-sets c ps there stand =
    standing_kept c.args.sets.now ps c.args.index c.args.piece.now c.args.piece.now there refl refl refl stand
