-- The laws of DATA that goes out, for the first time or again: each piece is DATA of the direction.
use Rattle.std.specs.Prelude.{◌≡◌, Bool, ℕ, ◌+◌, true, List, [], ◌∷◌, length, slice_get, is_some, Some, ⊤}
use Rattle.std.specs.List.{AllByRecursion}
use Rattle.sctp_wire_types.specs.declared.chunk.ChunkPayloadData.{ChunkPayloadData}
use Rattle.sctp_outbound_queue.specs.declared.message.Attributes.{Attributes}
use Rattle.sctp_outbound_queue.specs.declared.message.InFlight.{InFlight}
use Rattle.sctp_outbound_queue.specs.declared.message.Retransmission.{Retransmission}
use Rattle.sctp_outbound_queue.specs.Expiry.{all_started}
use Rattle.sctp_outbound_queue.specs.Waiting.{Waiting}
use Rattle.sctp_outbound_queue.specs.Message.{counted_again, is_outstanding}
use Rattle.sctp_outbound_queue.specs.Outbound.{changed_at, sent_next}
use Rattle.sctp_outbound.specs.Sender.{chunk_of, next_chunk_of}
use Rattle.sctp_model.specs.Packets.{Data}
use Rattle.sctp_serial.specs.Serial.{tsn}
use Rattle.sctp_model.specs.Machine.{Direction, Event, happens, run}
use Rattle.sctp_model.specs.Invariants.{Invariant}
use Rattle.sctp_fit.specs.Outgoing.{CountsBegun, FitsOutgoing, Sending}
use Rattle.sctp_fit.specs.Incoming.{IsSaid}

-- it is DATA that the direction ever gave out
abbrev pub IsGiven : ℕ → Direction → ChunkPayloadData → Type 0
IsGiven initial w c = (k : ℕ) × (d : Data) × (slice_get w.datas k ≡ Some d) × IsSaid w.over initial c d

-- events by which the next piece goes out
abbrev pub SendsNext : Event → Type 0
SendsNext (Event.PassOver s) = ⊤
SendsNext (Event.Begin s i any) = ⊤
SendsNext Event.GoOn = ⊤
SendsNext e = ⊥

-- the next piece that waits, as DATA with this TSN, which may ask for its SACK at once
abbrev pub next_chunks : Bool → List Waiting → ℕ → List ChunkPayloadData
next_chunks at_once [] t = []
next_chunks at_once (m ∷ ms) t = next_chunk_of at_once m t ∷ []

-- the next piece that waits goes out at a moment
abbrev pub sent : Sending → ℕ → Sending
sent a now = record a { queue = sent_next a.queue now }

-- The events of a direction by which an association with this initial TSN sends its next piece.
pub record IsSentBy (own : ℕ) (a : Sending) (at_once : Bool) (now : ℕ) (w : Direction) (events : List Event)
    : Type 0 where
  pub sends : AllByRecursion SendsNext events
  pub fits : FitsOutgoing (sent a now) (run events w)
  pub given : AllByRecursion (IsGiven own (run events w))
      (next_chunks at_once a.queue.pending (tsn own (a.base + length a.queue.in_flight)))

-- A piece that goes out for the first time begins a message or goes on with one, and is DATA of the direction.
abbrev pub SentPiecesAreEvents : Type 0
SentPiecesAreEvents = (own : ℕ) (a : Sending) (at_once : Bool) (now : ℕ) (w : Direction)
    → is_some (slice_get a.queue.pending 0) ≡ true
    → Invariant w → CountsBegun w.sender → FitsOutgoing a w
    → (events : List Event) × IsSentBy own a at_once now w events

-- An outstanding piece that goes out again, for whatever reason, is that of its offset, and is DATA of the direction.
abbrev pub PiecesAreGiven : Type 0
PiecesAreGiven = (own : ℕ) (a : Sending) (at_once : Bool) (by : Retransmission) (index : ℕ) (x : InFlight)
    (w : Direction)
    → slice_get a.queue.in_flight index ≡ Some x → is_outstanding x ≡ true
    → Invariant w → FitsOutgoing a w
    → FitsOutgoing (record a { queue = changed_at (counted_again by) a.queue index })
    (happens w (Event.Resend (w.sender.reach + index)))
    × IsGiven own (happens w (Event.Resend (w.sender.reach + index)))
    (chunk_of at_once x (tsn own (a.base + index)))

-- the attributes of the same message, but for its deadline
pub record IsSameMessage (a b : Attributes) : Type 0 where
  pub id : b.message_id ≡ a.message_id
  pub stream : b.stream_identifier ≡ a.stream_identifier
  pub generation : b.generation ≡ a.generation
  pub unordered : b.unordered ≡ a.unordered
  pub ssn : b.stream_sequence_number ≡ a.stream_sequence_number
  pub payload_type : b.payload_type ≡ a.payload_type
  pub policy : b.policy ≡ a.policy

-- the same piece, but for its deadline, its sendings, its mark and its misses
pub record IsSamePiece (x y : InFlight) : Type 0 where
  pub message : IsSameMessage x.message y.message
  pub first : y.beginning_fragment ≡ x.beginning_fragment
  pub last : y.ending_fragment ≡ x.ending_fragment
  pub bytes : y.user_data ≡ x.user_data
  pub acked : y.acked ≡ x.acked
  pub abandoned : y.abandoned ≡ x.abandoned

abbrev pub AreSamePieces : List InFlight → List InFlight → Type 0
AreSamePieces [] [] = ⊤
AreSamePieces [] (y ∷ ys) = ⊥
AreSamePieces (x ∷ xs) [] = ⊥
AreSamePieces (x ∷ xs) (y ∷ ys) = IsSamePiece x y × AreSamePieces xs ys

-- Of marks, counts of sendings and misses, and deadlines of what is in flight the direction knows nothing.
abbrev pub MarksAreNoEvents : Type 0
MarksAreNoEvents = (a : Sending) (pieces : List InFlight) (w : Direction) → AreSamePieces a.queue.in_flight pieces
    → FitsOutgoing a w
    → FitsOutgoing (record a { queue = (let q = a.queue in record q { in_flight = pieces }) }) w

-- Nor does it know of deadlines, also of what waits.
abbrev pub StartsAreNoEvents : Type 0
StartsAreNoEvents = (a : Sending) (now : ℕ) (w : Direction) → FitsOutgoing a w
    → FitsOutgoing (record a { queue = all_started now a.queue }) w
