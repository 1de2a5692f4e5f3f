use Rattle.std.proofs.Common.{ap, ◌∙◌}
use Rattle.sctp_outbound_queue.specs.Message.{picks, was_acknowledged}
use Rattle.sctp_outbound_queue.specs.declared.message.Retransmission.TheVariants as causes
use Rattle.sctp_outbound_queue.proofs.StandingPieces.{marked_as_acked, marked_as_missing}
use Rattle.sctp_outbound_queue.proofs.walks.mark.Goals as goal

pub returns-clause-sets : goal.returns-clause-sets
returns-clause-sets c ps there stand =
    c.settle_mark.ensures ps c.args.piece.now there
    (ap (picks causes.Fast) c.mark.ensures ∙ marked_as_missing c.args.piece.now)
    (ap was_acknowledged c.mark.ensures ∙ marked_as_acked c.args.piece.now) stand
