-- The laws of messages that are abandoned (RFC 3758 section 3.5): a message of which something was sent is abandoned
-- whole on both sides, and what was neither acknowledged nor abandoned of it is released.
use Rattle.std.specs.Prelude.{◌≡◌, ℕ, ◌+◌, true, false, List, ◌∷◌, slice_get, Some}
use Rattle.std.specs.List.{list_any}
use Rattle.sctp_outbound_queue.specs.declared.message.InFlight.{InFlight}
use Rattle.sctp_outbound_queue.specs.Waiting.{Waiting}
use Rattle.sctp_outbound_queue.specs.Message.{is_of}
use Rattle.sctp_outbound_queue.specs.Outbound.{all_flagged, outstanding_of_message, tail_dropped}
use Rattle.sctp_streams.specs.Streams.{released_in}
use Rattle.sctp_model.specs.Messages.{is_reliable}
use Rattle.sctp_model.specs.Machine.{Direction, Event, happens}
use Rattle.sctp_model.specs.Invariants.{Invariant}
use Rattle.sctp_fit.specs.Outgoing.{CountsBegun, FitsOutgoing, Sending, policy_of}

-- the message of the piece x in flight was abandoned: each of its pieces in flight, and its tail that waits
abbrev pub abandoned : InFlight → Sending → Sending
abandoned x a = record a {
  queue = all_flagged x.message.message_id (tail_dropped a.queue x.message.message_id).0;
  streams = released_in a.streams x.message.stream_identifier x.message.generation (
      outstanding_of_message x.message.message_id a.queue.in_flight
      + (tail_dropped a.queue x.message.message_id).1
      );
}

-- A message of which a piece is in flight, and that isn't reliable, is abandoned in the direction too.
abbrev pub AbandonmentsAreAlike : Type 0
AbandonmentsAreAlike = (a : Sending) (index : ℕ) (x : InFlight) (w : Direction)
    → slice_get a.queue.in_flight index ≡ Some x → x.abandoned ≡ false
    → is_reliable (policy_of x.message.policy) ≡ false
    → Invariant w → CountsBegun w.sender → FitsOutgoing a w
    → (i : ℕ) × FitsOutgoing (abandoned x a) (happens w (Event.Abandon x.message.stream_identifier i))

-- the tail of the message x, of which no piece is in flight any more, was abandoned
abbrev pub tail_abandoned : Waiting → Sending → Sending
tail_abandoned x a = record a {
  queue = (tail_dropped a.queue x.message.message_id).0;
  streams = released_in a.streams x.message.stream_identifier x.message.generation
      (tail_dropped a.queue x.message.message_id).1;
}

-- So is one of which something was sent, of which no piece is in flight any more (all that was sent is acknowledged
-- cumulatively), and the rest of which waits.
abbrev pub TailsAreAbandonedAlike : Type 0
TailsAreAbandonedAlike = (a : Sending) (x : Waiting) (xs : List Waiting) (w : Direction) → a.queue.pending ≡ x ∷ xs
    → x.begun ≡ true → is_reliable (policy_of x.message.policy) ≡ false
    → list_any (is_of x.message.message_id) a.queue.in_flight ≡ false
    → Invariant w → CountsBegun w.sender → FitsOutgoing a w
    → (i : ℕ) × FitsOutgoing (tail_abandoned x a) (happens w (Event.Abandon x.message.stream_identifier i))
