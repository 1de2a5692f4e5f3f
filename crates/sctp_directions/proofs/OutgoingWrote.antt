-- A write that an association accepts is a write of the direction.
use Rattle.std.proofs.Common.{◌≡◌, refl, sym, subst, ℕ, ◌<◌, List, length, Option, Some}
use Rattle.sctp_wire_types.specs.declared.ids.PayloadProtocolIdentifier.{PayloadProtocolIdentifier}
use Rattle.sctp_streams.specs.Stream.{StreamView}
use Rattle.sctp_model.specs.Machine.{Direction, Event, happens}
use Rattle.sctp_fit.specs.Outgoing.{CountsBegun, FitsOutgoing}
use Rattle.sctp_fit.specs.Writes.{IsWritten, message_on}
use Rattle.sctp_outbound_queue.specs.Cut.{first_piece, other_pieces}
use Rattle.sctp_outbound_queue.proofs.PiecesCut.{is_cut}
use Rattle.sctp_fit.proofs.CutsGiven.{cuts_give_the_pieces}
use Rattle.sctp_fit.proofs.MessagesAccepted as accepted
use Rattle.sctp_directions.specs.Acts.{Act, Parts, done, message_of, sending, type_on, with_written}
use Rattle.sctp_directions.specs.Laws.{ItsWritesAreAccepted}
use Rattle.sctp_model.specs.Invariants.{Invariant}
use Rattle.sctp_streams.specs.Streams.{stream_at}

-- what is queued is what the stream accepts, in all its pieces
is_written : (t : StreamView) (id : ℕ) (kind : PayloadProtocolIdentifier) (size : ℕ) (bytes : List ℕ) → 0 < size
    → 0 < length bytes
    → IsWritten t id size kind bytes (message_of t kind size id bytes)
is_written t id kind size bytes sized some = record {
  stream = refl;
  generation = refl;
  unordered = refl;
  ssn = refl;
  payload_type = refl;
  policy = refl;
  pieces =
      cuts_give_the_pieces size bytes (first_piece size bytes) (other_pieces size bytes) sized some
      (is_cut size bytes sized);
}

module _ (p : Parts) (id : ℕ) (named : Option PayloadProtocolIdentifier) (bytes : List ℕ) (t : StreamView)
    (w : Direction) (there : stream_at p.streams id ≡ Some t) (some : 0 < length bytes) (inv : Invariant w)
    (count : CountsBegun w.sender) (f : FitsOutgoing (sending p) w) where
  -- A write on a live stream: the direction's sender accepts the message as the stream has it.
  its_write_is_accepted : FitsOutgoing (sending (done (Act.Wrote id named bytes) p))
      (happens w (Event.Write id (message_on t (type_on t named) bytes)))
  its_write_is_accepted =
      let sized : 0 < p.size = rw f.size inv.planned.size in
      let kind = type_on t named in
      subst (λ o. FitsOutgoing (sending (with_written o p id named bytes))
      (happens w (Event.Write id (message_on t kind bytes)))) (sym there)
      (accepted.writes_are_accepted (sending p) id kind bytes (message_of t kind p.size id bytes) t w there some
      (is_written t id kind p.size bytes sized some) inv count f)

pub its_writes_are_accepted : ItsWritesAreAccepted
its_writes_are_accepted = its_write_is_accepted
