use Rattle.std.proofs.Common.{◌<◌, ◌∙◌, ap, length, refl, sym, arith}
use Rattle.sctp_candidates.specs.Candidates.{passes}
use Rattle.sctp_candidates.proofs.Standing.{stand_kept, stand_set}
use Rattle.sctp_outbound_queue.specs.Message.{picks, was_acknowledged}
use Rattle.sctp_outbound_queue.specs.declared.message.Retransmission.TheVariants as causes
use Rattle.sctp_outbound_queue.proofs.piece_sets.PieceSets.settle_mark.Goals as goal

pub returns : goal.returns
returns c ps p there fast acked stand =
    let within : c.args.index < length ps = omega (arith, c.requires.0, stand.0.0) in (
      stand_set (picks causes.Timer) c.args.self.now.marked c.set.new.self ps c.args.index c.args.piece.now
          c.args.piece.now.retransmit stand.0 within refl c.set.ensures.places c.set.ensures.set,
      stand_kept (picks causes.Fast) c.args.self.now.missing ps c.args.index c.args.piece.now stand.1 within
          (fast ∙ sym (ap (passes (picks causes.Fast)) there)),
      stand_kept was_acknowledged c.args.self.now.acked ps c.args.index c.args.piece.now stand.2 within
          (acked ∙ sym (ap (passes was_acknowledged) there)),
    )
