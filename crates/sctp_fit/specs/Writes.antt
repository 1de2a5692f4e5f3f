-- The laws of writes and of streams that are opened: an association that accepts a message or makes a stream still fits
-- its direction, in which the message is accepted.
use Rattle.std.specs.Prelude.{◌≡◌, ℕ, ◌<◌, false, not, List, length, Some, None}
use Rattle.sctp_wire_types.specs.Ids.{number_of}
use Rattle.sctp_wire_types.specs.declared.ids.PayloadProtocolIdentifier.{PayloadProtocolIdentifier}
use Rattle.sctp_outbound_queue.specs.Waiting.{Waiting}
use Rattle.sctp_outbound_queue.specs.Outbound.{empty_outbound, with_message}
use Rattle.sctp_streams.specs.Stream.{StreamView, accepted_by, params_for}
use Rattle.sctp_streams.specs.Streams.{changed_stream, made, no_stream, stream_at}
use Rattle.sctp_model.specs.Messages.{Message}
use Rattle.sctp_model.specs.Machine.{Direction, Event, fresh, happens}
use Rattle.sctp_model.specs.Invariants.{Invariant}
use Rattle.sctp_fit.specs.Outgoing.{ArePieces, CountsBegun, FitsOutgoing, Sending, policy_of}

-- The message of some bytes under a payload type, as it is accepted on a stream.
abbrev pub message_on : StreamView → PayloadProtocolIdentifier → List ℕ → Message
message_on t kind bytes = record {
  payload_type = number_of kind;
  bytes = bytes;
  ordered = not (params_for t kind).unordered;
  policy = policy_of (params_for t kind).policy;
}

-- What is queued of a message that a live stream accepts: all its pieces, under the stream's generation, next stream
-- sequence number, and order and reliability of that moment. (Its identifier and its deadline are given by the queue.)
pub record IsWritten (t : StreamView) (id size : ℕ) (kind : PayloadProtocolIdentifier) (bytes : List ℕ)
    (x : Waiting) : Type 0 where
  pub stream : x.message.stream_identifier ≡ id
  pub generation : x.message.generation ≡ t.stats.generation
  pub unordered : x.message.unordered ≡ (params_for t kind).unordered
  pub ssn : x.message.stream_sequence_number ≡ t.next_ssn
  pub payload_type : x.message.payload_type ≡ kind
  pub policy : x.message.policy ≡ (params_for t kind).policy
  pub pieces : ArePieces size bytes 0 x.user_data x.rest

-- the message x, of so many bytes, was accepted on the stream `id` under a payload type
abbrev pub written : Sending → ℕ → PayloadProtocolIdentifier → ℕ → Waiting → Sending
written a id kind bytes x = record a {
  streams = changed_stream (λ t. accepted_by t kind bytes) a.streams id;
  queue = with_message a.queue x;
}

-- A write on a live stream, of any number of pieces, is accepted by the direction as that message.
abbrev pub WritesAreAccepted : Type 0
WritesAreAccepted = (a : Sending) (id : ℕ) (kind : PayloadProtocolIdentifier) (bytes : List ℕ) (x : Waiting)
    (t : StreamView) (w : Direction)
    → stream_at a.streams id ≡ Some t → 0 < length bytes → IsWritten t id a.size kind bytes x
    → Invariant w → CountsBegun w.sender → FitsOutgoing a w
    → FitsOutgoing (written a id kind (length bytes) x) (happens w (Event.Write id (message_on t kind bytes)))

-- A stream that is made, within its span, changes nothing at the sender.
abbrev pub OpenedStreamsSendNothing : Type 0
OpenedStreamsSendNothing = (a : Sending) (id first : ℕ) (kind : PayloadProtocolIdentifier) (w : Direction)
    → stream_at a.streams id ≡ None → w.over id ≡ false
    → Invariant w → CountsBegun w.sender → FitsOutgoing a w
    → FitsOutgoing (record a { streams = made a.streams id first kind }) w

-- An association that did nothing yet fits, as the sender, a direction in which nothing happened, and that one counts
-- begun messages as it should.
abbrev pub FreshOnesFit : Type 0
FreshOnesFit = (size tsn : ℕ)
    → FitsOutgoing (record { queue = empty_outbound tsn; streams = no_stream; base = 0; size = size }) (fresh size)
    × CountsBegun (fresh size).sender
