-- A piece that an association sends again is DATA that the direction gives out again; marks for that say nothing to the
-- direction.
use Rattle.std.proofs.Common.{◌≡◌, refl, ℕ, ◌+◌, Bool, true}
use Rattle.std.proofs.Common.{List, [], ◌∷◌, map, Option, Some, None}
use Rattle.std.specs.Prelude.{slice_get}
use Rattle.std.specs.List.{AllByRecursion}
use Rattle.std.proofs.lemmas.Bool.{cond_both, false≢true}
use Rattle.sctp_serial.specs.Serial.{tsn}
use Rattle.sctp_outbound_queue.specs.declared.message.InFlight.{InFlight}
use Rattle.sctp_outbound_queue.specs.declared.message.Retransmission.{Retransmission}
use Rattle.sctp_outbound_queue.specs.Message.{is_outstanding, marked_again}
use Rattle.sctp_model.specs.Invariants.{Invariant}
use Rattle.sctp_model.specs.Machine.{Direction, Event, happens}
use Rattle.sctp_fit.specs.Outgoing.{FitsOutgoing}
use Rattle.sctp_fit.specs.Sendings.{AreSamePieces, IsGiven, IsSamePiece}
use Rattle.sctp_fit.proofs.MarksSayNothing as marks
use Rattle.sctp_fit.proofs.SentAgain as again
use Rattle.sctp_directions.specs.Acts.{Act, Parts, can_go_again, chunk_said, done, sending}
use Rattle.sctp_directions.specs.Laws.{ItsMarksAreNoEvents, ItsPiecesAreGiven}

module _ (p : Parts) (at_once : Bool) (by : Retransmission) (index : ℕ) (w : Direction) (inv : Invariant w)
    (f : FitsOutgoing (sending p) w) where
  -- what goes out again is the piece, which is there and outstanding
  pieces_given : (o : Option InFlight) → can_go_again o ≡ true → slice_get p.queue.in_flight index ≡ o
      → FitsOutgoing (sending (done (Act.SentAgain at_once by index) p)) (happens w (Event.Resend (w.sender.reach + index)))
      × AllByRecursion (IsGiven p.history.own (happens w (Event.Resend (w.sender.reach + index))))
      (chunk_said at_once o (tsn p.history.own (p.history.base + index)))
  pieces_given None can e = absurd (false≢true can)
  pieces_given (Some x) can e =
      let given = again.pieces_are_given p.history.own (sending p) at_once by index x w e can inv f in (given.0, (given.1, tt))

-- An association sends a piece again: the direction gives out the DATA of its offset again.
pub its_pieces_are_given : ItsPiecesAreGiven
its_pieces_are_given p at_once by index w can inv f =
    pieces_given p at_once by index w inv f (slice_get p.queue.in_flight index) can refl

-- a piece is the same one, marked or not and however often it was reported missing
pub same_piece : (x : InFlight) (retransmit : Bool) (misses : ℕ) (resent : Bool)
    → IsSamePiece x (record x { retransmit = retransmit; misses = misses; resent = resent })
same_piece x retransmit misses resent = again.same_but_counts x retransmit x.sent_count misses resent

-- a mark for sending again says nothing of a piece
same_marked : (x : InFlight) → IsSamePiece x (marked_again x)
same_marked x =
    cond_both (is_outstanding x) (record x { retransmit = true }) x (IsSamePiece x)
    (λ b. same_piece x true x.misses x.resent) (λ b. same_piece x x.retransmit x.misses x.resent)

-- nor of all pieces
all_same_marked : (xs : List InFlight) → AreSamePieces xs (map marked_again xs)
all_same_marked [] = tt
all_same_marked (x ∷ xs) = (same_marked x, all_same_marked xs)

-- All that is outstanding is marked to be sent again, of which the direction knows nothing.
pub its_marks_are_no_events : ItsMarksAreNoEvents
its_marks_are_no_events p w f =
    marks.marks_are_no_events (sending p) (map marked_again p.queue.in_flight) w (all_same_marked p.queue.in_flight) f
