-- DATA that are pieces of what was accepted, and a message that was accepted (RFC 4960 sections 3.3.1, 6.6 and 6.9).
use Rattle.std.specs.Prelude.{◌≡◌, ◌<◌, ◌≤◌, ◌==◌, ℕ, true, false, List, length}
use Rattle.std.specs.List.{AllByRecursion}
use Rattle.sctp_serial.specs.Serial.{tsn}
use Rattle.sctp_wire_types.specs.declared.chunk.ChunkPayloadData.{ChunkPayloadData}
use Rattle.sctp_wire_types.specs.Ids.{number_of}
use Rattle.sctp_receive_queues.specs.Messages.{ReceivedMessage, bytes_left}
use Rattle.sctp_receive_queues.specs.Pieces.{has_tsn}
use Rattle.sctp_model.specs.Messages.{Plan, is_last, message_at, message_of, piece_of, place_at}

-- DATA is a piece of what was accepted: its TSN stands on an offset of the plan, and it carries what that place says,
-- but for its payload type, order and stream sequence number.
pub record IsOfPlan (initial : ℕ) (p : Plan) (c : ChunkPayloadData) : Type 0 where
  pub offset : ℕ
  pub known : offset < length p.places
  pub is : c.tsn ≡ tsn initial offset
  pub sent : (place_at p offset).marker ≡ false
  pub stream : c.stream_identifier ≡ (place_at p offset).stream
  pub first : c.beginning_fragment ≡ ((place_at p offset).piece == 0)
  pub last : c.ending_fragment ≡ is_last p (place_at p offset)
  pub bytes : c.user_data ≡ piece_of p.size (message_of p (place_at p offset)).bytes (place_at p offset).piece

-- DATA is a piece of a message that was accepted, under the payload type that was accepted with it.
pub record IsAcceptedPiece (initial : ℕ) (p : Plan) (c : ChunkPayloadData) : Type 0 where
  pub of_plan : IsOfPlan initial p c
  pub accepted : (place_at p of_plan.offset).message < length (p.accepted (place_at p of_plan.offset).stream)
  pub payload_type : number_of c.payload_type ≡ (message_of p (place_at p of_plan.offset)).payload_type

-- A plan grew: what was accepted and what was assigned stands in it as it stood.
pub record IsGrown (p q : Plan) : Type 0 where
  pub size : q.size ≡ p.size
  pub assigned : length p.places ≤ length q.places
  pub places : (o : ℕ) → o < length p.places → place_at q o ≡ place_at p o
  pub accepted : (s : ℕ) → length (p.accepted s) ≤ length (q.accepted s)
  pub messages : (s i : ℕ) → i < length (p.accepted s) → message_at q s i ≡ message_at p s i

-- DATA has the payload type of its message, wherever in the plan its TSN stands.
abbrev pub HasItsType : ℕ → Plan → ChunkPayloadData → Type 0
HasItsType initial p c = (o : ℕ) → o < length p.places → c.tsn ≡ tsn initial o
    → number_of c.payload_type ≡ (message_of p (place_at p o)).payload_type

-- A piece stands on a place of the message with this number on stream id.
pub record StandsIn (initial id : ℕ) (p : Plan) (number : ℕ) (c : ChunkPayloadData) : Type 0 where
  pub offset : ℕ
  pub known : offset < length p.places
  pub is : c.tsn ≡ tsn initial offset
  pub sent : (place_at p offset).marker ≡ false
  pub stream : (place_at p offset).stream ≡ id
  pub message : (place_at p offset).message ≡ number

-- A message of stream id was accepted: what is left of it are the bytes of the one with this number. Its pieces stand
-- on places of that one, and each place of that one is the place of one of them: so another message, whose pieces have
-- other TSNs, has another number.
pub record IsAccepted (initial id : ℕ) (p : Plan) (m : ReceivedMessage) (pieces : List ChunkPayloadData) : Type 0 where
  pub number : ℕ
  pub known : number < length (p.accepted id)
  pub bytes : bytes_left m ≡ (message_at p id number).bytes
  pub mine : AllByRecursion (λ (c : ChunkPayloadData). StandsIn initial id p number c) pieces
  pub all : (o : ℕ) → o < length p.places → (place_at p o).stream ≡ id → (place_at p o).message ≡ number
      → has_tsn (tsn initial o) pieces ≡ true
