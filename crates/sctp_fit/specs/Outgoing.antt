-- How what an association has to send, has in flight and counts as buffered stands to the sender of a direction.
-- Messages have several pieces, are ordered or not, reliable or not, and are acknowledged in any order (RFC 4960
-- sections 6.1, 6.2.1, 6.6 and 6.9; RFC 3758 section 3.5).
use Rattle.std.specs.Prelude.{◌≡◌, ℕ, suc, ◌+◌, ◌%◌, ◌<◌, ◌≤◌, Bool, true, false, not, ◌==◌, List, [], ◌∷◌}
use Rattle.std.specs.Prelude.{length, if◌then◌else◌, Option, Some, None}
use Rattle.sctp_wire_types.specs.Ids.{number_of}
use Rattle.sctp_wire_types.specs.declared.reliability.Policy.{Policy}
use Rattle.sctp_wire_types.specs.declared.reliability.Policy.TheVariants as policies
use Rattle.sctp_outbound_queue.specs.declared.message.Attributes.{Attributes}
use Rattle.sctp_outbound_queue.specs.declared.message.InFlight.{InFlight}
use Rattle.sctp_outbound_queue.specs.Waiting.{Waiting}
use Rattle.sctp_outbound_queue.specs.Outbound.{Outbound}
use Rattle.sctp_streams.specs.Stream.{StreamView}
use Rattle.sctp_streams.specs.Streams.{StreamMap, stream_at}
use Rattle.sctp_model.specs.Messages.{Place, Plan, accepted_bytes, is_last, is_last_piece, message_at, piece_of}
use Rattle.sctp_model.specs.Messages.{place_at}
use Rattle.sctp_model.specs.Messages as model
use Rattle.sctp_model.specs.Invariants.{gone_at}
use Rattle.sctp_model.specs.Machine.{Direction, Sender, is_unsent, put}

-- What the sender of a direction has: its queue, its streams, the offset of the first piece in flight, and the payload
-- size.
pub record Sending : Type 0 where
  pub queue : Outbound
  pub streams : StreamMap
  pub base : ℕ
  pub size : ℕ

-- how long a message is kept, as the model says it
abbrev pub policy_of : Policy → model.Policy
policy_of policies.Reliable = model.Policy.Reliable
policy_of (policies.Rexmit retries) = model.Policy.Rexmit retries
policy_of (policies.Timed milliseconds) = model.Policy.Timed milliseconds

-- Names that the association gives: by stream and number the identifier of a message, and by stream the generation of
-- what it has waiting or in flight.
pub record Names : Type 0 where
  pub ids : ℕ → ℕ → ℕ
  pub generations : ℕ → ℕ
  -- by stream whether it is within its span
  pub within : ℕ → Bool

-- Each accepted message has an identifier of its own, below the next one.
pub record AreNames (n : Names) (p : Plan) (next : ℕ) : Type 0 where
  pub below : (s i : ℕ) → i < length (p.accepted s) → n.ids s i < next
  pub one : (s i t j : ℕ) → i < length (p.accepted s) → j < length (p.accepted t) → n.ids s i ≡ n.ids t j
      → (s ≡ t) × (i ≡ j)

-- The attributes are those of message i of their stream; `number` is its stream sequence number before that wraps. Of
-- a stream past its span nothing is said of the generation and the stream sequence number.
pub record IsMessage (n : Names) (p : Plan) (i number : ℕ) (a : Attributes) : Type 0 where
  pub known : i < length (p.accepted a.stream_identifier)
  pub id : a.message_id ≡ n.ids a.stream_identifier i
  pub generation : n.within a.stream_identifier ≡ true → a.generation ≡ n.generations a.stream_identifier
  pub ordered : a.unordered ≡ not (message_at p a.stream_identifier i).ordered
  pub ssn : n.within a.stream_identifier ≡ true → a.stream_sequence_number ≡ number % 65536
  pub payload_type : number_of a.payload_type ≡ (message_at p a.stream_identifier i).payload_type
  pub policy : policy_of a.policy ≡ (message_at p a.stream_identifier i).policy

-- What is in flight.

-- A piece in flight carries what its place says. (A marker carries nothing, and nothing of this is asked of it.)
pub record IsPieceOf (p : Plan) (y : Place) (x : InFlight) : Type 0 where
  pub first : x.beginning_fragment ≡ (y.piece == 0)
  pub last : x.ending_fragment ≡ is_last p y
  pub bytes : x.user_data ≡ piece_of p.size (message_at p y.stream y.message).bytes y.piece

-- The piece x in flight, or marker, stands on the offset o; it is acknowledged or abandoned where the model's is.
pub record IsInFlight (n : Names) (p : Plan) (acknowledged : ℕ → Bool) (gone : ℕ → ℕ → Bool) (o : ℕ)
    (x : InFlight) : Type 0 where
  pub known : o < length p.places
  pub stream : x.message.stream_identifier ≡ (place_at p o).stream
  pub message : IsMessage n p (place_at p o).message (place_at p o).ssn x.message
  pub piece : (place_at p o).marker ≡ false → IsPieceOf p (place_at p o) x
  pub acked : x.acked ≡ acknowledged o
  pub abandoned : x.abandoned ≡ gone_at p gone o

-- the pieces in flight are those of the offsets from o to the last one
abbrev pub AreInFlight : Names → Plan → (ℕ → Bool) → (ℕ → ℕ → Bool) → ℕ → List InFlight → Type 0
AreInFlight n p acknowledged gone o [] = o ≡ length p.places
AreInFlight n p acknowledged gone o (x ∷ xs) =
    IsInFlight n p acknowledged gone o x × AreInFlight n p acknowledged gone (suc o) xs

-- What waits.

-- the next piece, and those behind it, are those of the bytes from piece k on
abbrev pub ArePieces : ℕ → List ℕ → ℕ → List ℕ → List (List ℕ) → Type 0
ArePieces size bytes k first [] = (first ≡ piece_of size bytes k) × (is_last_piece size bytes k ≡ true)
ArePieces size bytes k first (r ∷ rs) =
    (first ≡ piece_of size bytes k) × (is_last_piece size bytes k ≡ false) × ArePieces size bytes (suc k) r rs

-- What waits of message i of its stream, from piece k on; `number` is its stream sequence number before that wraps.
pub record IsWaiting (n : Names) (p : Plan) (i number k : ℕ) (x : Waiting) : Type 0 where
  pub message : IsMessage n p i number x.message
  pub pieces : ArePieces p.size (message_at p x.message.stream_identifier i).bytes k x.user_data x.rest

-- an ordered message that waits has its stream's next number, an unordered one any
abbrev pub number_at : (ℕ → ℕ) → Attributes → ℕ
number_at numbers a = if a.unordered then a.stream_sequence_number else numbers a.stream_identifier

-- the next numbers behind it
abbrev pub numbers_past : (ℕ → ℕ) → Attributes → ℕ → ℕ
numbers_past numbers a =
    if a.unordered then numbers else put numbers a.stream_identifier (suc (numbers a.stream_identifier))

-- The message x that waits is message i of its stream, of which nothing was sent, and the first such one from `from`
-- on.
pub record IsUnsent (n : Names) (p : Plan) (unsent : ℕ → ℕ → Bool) (from number i : ℕ) (x : Waiting) : Type 0 where
  pub waits : IsWaiting n p i number 0 x
  pub begun : x.begun ≡ false
  pub is : unsent x.message.stream_identifier i ≡ true
  pub past : from ≤ i
  pub next : (j : ℕ) → from ≤ j → j < i → unsent x.message.stream_identifier j ≡ false

-- The messages are all those that are unsent, by stream in the order of their numbers; ordered ones have the sequence
-- numbers from `numbers` on.
abbrev pub AreUnsent : Names → Plan → (ℕ → ℕ → Bool) → (ℕ → ℕ) → (ℕ → ℕ) → List Waiting → Type 0
AreUnsent n p unsent from numbers [] = (s i : ℕ) → from s ≤ i → unsent s i ≡ false
AreUnsent n p unsent from numbers (x ∷ xs) =
    (i : ℕ) × IsUnsent n p unsent (from x.message.stream_identifier) (number_at numbers x.message) i x
    × AreUnsent n p unsent (put from x.message.stream_identifier (suc i)) (numbers_past numbers x.message) xs

-- The message x that waits is the one of which the place y is the next piece.
pub record IsGoingOn (n : Names) (p : Plan) (y : Place) (x : Waiting) : Type 0 where
  pub begun : x.begun ≡ true
  pub stream : x.message.stream_identifier ≡ y.stream
  pub waits : IsWaiting n p y.message y.ssn y.piece x

-- what waits: first the message that was begun and goes on, if there is one, then all that is unsent
abbrev pub AreWaiting : Names → Plan → (ℕ → ℕ → Bool) → (ℕ → ℕ) → Option Place → List Waiting → Type 0
AreWaiting n p unsent numbers None xs = AreUnsent n p unsent (λ s. 0) numbers xs
AreWaiting n p unsent numbers (Some y) [] = ⊥
AreWaiting n p unsent numbers (Some y) (x ∷ xs) = IsGoingOn n p y x × AreUnsent n p unsent (λ s. 0) numbers xs

-- the next numbers behind all that waits unsent
abbrev pub numbers_after : (ℕ → ℕ) → List Waiting → ℕ → ℕ
numbers_after numbers [] = numbers
numbers_after numbers (x ∷ xs) = numbers_after (if x.begun then numbers else numbers_past numbers x.message) xs

-- Streams.

-- A live stream within its span gives its next ordered message the number `next`, behind those that wait, and is of the
-- generation of what waits or is in flight.
pub record IsNumbered (n : Names) (next s : ℕ) (t : StreamView) : Type 0 where
  pub generation : t.stats.generation ≡ n.generations s
  pub ssn : t.next_ssn ≡ next % 65536

-- a live stream counts as buffered what was accepted and not released; on one that is not live nothing was accepted (of
-- streams within their span)
abbrev pub IsOwnAt : Plan → ℕ → ℕ → Option StreamView → Type 0
IsOwnAt p freed s None = p.accepted s ≡ []
IsOwnAt p freed s (Some t) = t.buffered + freed ≡ accepted_bytes p s

-- The association has queued, in flight and buffered what the direction's sender has. What is said of a live stream and
-- of its buffered bytes is of streams within their span. That the queue's first TSN is that of `base` is not said here.
pub record FitsOutgoing (a : Sending) (w : Direction) : Type 0 where
  pub named : Names
  pub within : (s : ℕ) → named.within s ≡ not (w.over s)
  pub names : AreNames named w.sender.plan a.queue.next_message_id
  pub size : a.size ≡ w.sender.plan.size
  pub base : a.base ≡ w.sender.reach
  pub flight : AreInFlight named w.sender.plan w.sender.acknowledged w.sender.gone w.sender.reach a.queue.in_flight
  pub waiting : AreWaiting named w.sender.plan (is_unsent w.sender) w.sender.ssn w.sender.current a.queue.pending
  pub live : (s : ℕ) (t : StreamView) → w.over s ≡ false → stream_at a.streams s ≡ Some t
      → IsNumbered named (numbers_after w.sender.ssn a.queue.pending s) s t
  pub own_streams : (s : ℕ) → w.over s ≡ false
      → IsOwnAt w.sender.plan (w.sender.released s) s (stream_at a.streams s)

-- The sender's counters of begun messages: so it is at first, and every event keeps it where the invariant holds.
pub record CountsBegun (x : Sender) : Type 0 where
  pub accepted : (s i : ℕ) → x.begun s i ≡ true → i < length (x.plan.accepted s)
  pub below : (s i : ℕ) → x.begun s i ≡ true → (message_at x.plan s i).ordered ≡ true → i < x.next s
  pub behind : (s i : ℕ) → i < x.next s → (message_at x.plan s i).ordered ≡ true → is_unsent x s i ≡ false
