use Rattle.std.proofs.Common.{◌<◌, length, refl, sym, arith}
use Rattle.sctp_candidates.proofs.Standing.{stand_set}
use Rattle.sctp_outbound_queue.specs.Message.{picks, was_acknowledged}
use Rattle.sctp_outbound_queue.specs.declared.message.Retransmission.TheVariants as causes
use Rattle.sctp_outbound_queue.proofs.piece_sets.PieceSets.settle.Goals as goal

pub returns : goal.returns
returns c ps stand =
    let within : c.args.index < length ps = omega (arith, c.requires.0, stand.0.0) in (
      stand_set (picks causes.Timer) c.args.self.now.marked c.set.new.self ps c.args.index c.args.piece.now
          c.args.piece.now.retransmit stand.0 within refl c.set.ensures.places c.set.ensures.set,
      stand_set (picks causes.Fast) c.args.self.now.missing c.set-2.new.self ps c.args.index c.args.piece.now
          c.goes_again.result stand.1 within (sym c.goes_again.ensures) c.set-2.ensures.places c.set-2.ensures.set,
      stand_set was_acknowledged c.args.self.now.acked c.set-3.new.self ps c.args.index c.args.piece.now
          c.was_acknowledged.result stand.2 within (sym c.was_acknowledged.ensures) c.set-3.ensures.places
          c.set-3.ensures.set,
    )
