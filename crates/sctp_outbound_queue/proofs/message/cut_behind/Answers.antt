use Rattle.std.proofs.Common.{arith, length, sym}
use Rattle.std.proofs.lemmas.Bool.{eqb-false}
use Rattle.sctp_outbound_queue.proofs.PiecesCut.{one_more}
use Rattle.sctp_outbound_queue.proofs.message.cut_behind.Goals as goal

pub pieces-preserved : goal.pieces-preserved
pieces-preserved c =
    let apart = eqb-false (length c.pieces.left) 0 (sym c.pieces-test.ensures) in
    rw (
      c.in_ok-push_back.ensures.items,
      c.in_ok-piece.ensures.front,
      c.in_ok-piece.ensures.rest,
      c.min.ensures,
      c.len.ensures.value,
    )
    (one_more c.args.size c.args.bytes c.pieces.rest.items c.pieces.left c.requires (omega (arith, apart))
    c.pieces.invariant)
