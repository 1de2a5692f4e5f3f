use Rattle.std.proofs.Common.{◌<◌, ◌∙◌, ap, length, sym, arith}
use Rattle.sctp_candidates.specs.Candidates.{passes}
use Rattle.sctp_candidates.proofs.Standing.{stand_kept, stand_set}
use Rattle.sctp_outbound_queue.specs.Message.{picks, was_acknowledged}
use Rattle.sctp_outbound_queue.specs.declared.message.Retransmission.TheVariants as causes
use Rattle.sctp_outbound_queue.proofs.piece_sets.PieceSets.settle_missing.Goals as goal

pub returns : goal.returns
returns c ps p there mark acked stand =
    let within : c.args.index < length ps = omega (arith, c.requires.0, stand.0.0) in (
      stand_kept (picks causes.Timer) c.args.self.now.marked ps c.args.index c.args.piece.now stand.0 within
          (mark ∙ sym (ap (passes (picks causes.Timer)) there)),
      stand_set (picks causes.Fast) c.args.self.now.missing c.set.new.self ps c.args.index c.args.piece.now
          c.goes_again.result stand.1 within (sym c.goes_again.ensures) c.set.ensures.places c.set.ensures.set,
      stand_kept was_acknowledged c.args.self.now.acked ps c.args.index c.args.piece.now stand.2 within
          (acked ∙ sym (ap (passes was_acknowledged) there)),
    )
