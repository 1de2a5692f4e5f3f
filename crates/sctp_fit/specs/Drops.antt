-- The law of messages that are dropped before any of them was sent (RFC 3758 section 3.5): the direction drops the
-- same, and its number goes to the stream's next ordered message.
use Rattle.std.specs.Prelude.{◌≡◌, ℕ, zero, suc, false, List, [], ◌∷◌, map, slice_get, Some}
use Rattle.sctp_outbound_queue.specs.Waiting.{Waiting}
use Rattle.sctp_outbound_queue.specs.Message.{message_bytes, moved_down}
use Rattle.sctp_streams.specs.Streams.{given_back_in}
use Rattle.sctp_model.specs.Messages.{is_reliable}
use Rattle.sctp_model.specs.Machine.{Direction, Event, happens}
use Rattle.sctp_model.specs.Invariants.{Invariant}
use Rattle.sctp_fit.specs.Outgoing.{CountsBegun, FitsOutgoing, Sending, policy_of}

-- what waits without the message at an index: where that is ordered, the ordered ones behind it in its stream move down
-- by one sequence number
abbrev pub without_at : ℕ → List Waiting → List Waiting
without_at k [] = []
without_at zero (m ∷ ms) = map (moved_down m.message) ms
without_at (suc k) (m ∷ ms) = m ∷ without_at k ms

-- the message x, which waits at an index, was dropped
abbrev pub dropped : ℕ → Waiting → Sending → Sending
dropped k x a = record a {
  queue = (let q = a.queue in record q { pending = without_at k q.pending });
  streams = given_back_in a.streams x.message.stream_identifier x.message.generation x.message.unordered
      (message_bytes x);
}

-- A message that isn't reliable and of which nothing was sent is dropped in the direction too.
abbrev pub DropsAreAlike : Type 0
DropsAreAlike = (a : Sending) (k : ℕ) (x : Waiting) (w : Direction) → slice_get a.queue.pending k ≡ Some x
    → x.begun ≡ false → is_reliable (policy_of x.message.policy) ≡ false
    → Invariant w → CountsBegun w.sender → FitsOutgoing a w
    → (i : ℕ) × FitsOutgoing (dropped k x a) (happens w (Event.Drop x.message.stream_identifier i))
