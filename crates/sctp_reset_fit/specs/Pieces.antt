-- Pieces of one message, of each of which something is so; a message that is made of all of them; and a stream that
-- holds nothing else (RFC 4960 sections 6.5, 6.6 and 6.9).
use Rattle.std.specs.Prelude.{◌≡◌, ℕ, true, false, List, [], ◌∷◌, Option, Some, None, ⊤}
use Rattle.std.specs.List.{AllByRecursion}
use Rattle.sctp_wire_types.specs.declared.chunk.ChunkPayloadData.{ChunkPayloadData}
use Rattle.sctp_wire_types.specs.declared.ids.PayloadProtocolIdentifier.{PayloadProtocolIdentifier}
use Rattle.sctp_receive_queues.specs.Messages.{ReceivedMessage, message_of}
use Rattle.sctp_receive_queues.specs.Pieces.{is_complete}
use Rattle.sctp_receive_queues.specs.Reassembly.{Group, Reassembly}

-- How a message stands among those of its stream (RFC 4960 section 6.6).
pub data Order : Type 0 where
  -- in order, by this stream sequence number
  InOrder : ℕ → Order
  -- in no order
  OutOfOrder : Order

-- A piece says this of its message. The receiver does not look at the stream sequence number of one in no order.
abbrev pub HasOrder : Order → ChunkPayloadData → Type 0
HasOrder (Order.InOrder number) piece = (piece.unordered ≡ false) × (piece.stream_sequence_number ≡ number)
HasOrder Order.OutOfOrder piece = piece.unordered ≡ true

-- P is so of a piece, and it is one of a message on this stream, of this order and this payload type. (Numbers that
-- name no payload type of RFC 8831 are one unknown type: the receiver does not tell them apart.)
pub record IsPieceOf (P : ChunkPayloadData → Type 0) (id : ℕ) (order : Order) (kind : PayloadProtocolIdentifier)
    (piece : ChunkPayloadData) : Type 0 where
  pub is_so : P piece
  pub stream : piece.stream_identifier ≡ id
  pub stands : HasOrder order piece
  pub typed : piece.payload_type ≡ kind

-- none of these begins a message, and none ends one

abbrev pub NoneBegins : List ChunkPayloadData → Type 0
NoneBegins pieces = AllByRecursion (λ (p : ChunkPayloadData). p.beginning_fragment ≡ false) pieces

abbrev pub NoneEnds : List ChunkPayloadData → Type 0
NoneEnds pieces = AllByRecursion (λ (p : ChunkPayloadData). p.ending_fragment ≡ false) pieces

-- none but the first begins a message
abbrev pub OnlyTheFirstBegins : List ChunkPayloadData → Type 0
OnlyTheFirstBegins [] = ⊤
OnlyTheFirstBegins (p ∷ ps) = NoneBegins ps

-- none but the last ends one
abbrev pub OnlyTheLastEnds : List ChunkPayloadData → Type 0
OnlyTheLastEnds [] = ⊤
OnlyTheLastEnds (p ∷ []) = ⊤
OnlyTheLastEnds (p ∷ q ∷ ps) = (p.ending_fragment ≡ false) × OnlyTheLastEnds (q ∷ ps)

-- These are pieces of one message, all or some of them: of each P is so, they have stream, order and payload type in
-- common, none but the first begins a message, and none but the last ends one.
pub record ArePiecesOf (P : ChunkPayloadData → Type 0) (id : ℕ) (order : Order) (pieces : List ChunkPayloadData)
    : Type 0 where
  pub kind : PayloadProtocolIdentifier
  pub each : AllByRecursion (λ (piece : ChunkPayloadData). IsPieceOf P id order kind piece) pieces
  pub begun_first : OnlyTheFirstBegins pieces
  pub ended_last : OnlyTheLastEnds pieces

-- A message on this stream is made of all pieces of one message, of each of which P is so: the first begins it and the
-- last ends it, no other one begins or ends one, and each has the TSN after that of the one in front of it.
pub record IsMadeOf (P : ChunkPayloadData → Type 0) (id : ℕ) (m : ReceivedMessage) : Type 0 where
  pub order : Order
  pub pieces : List ChunkPayloadData
  pub are : ArePiecesOf P id order pieces
  pub complete : is_complete pieces ≡ true
  pub same : m ≡ message_of pieces

-- so is this one, if there is one
abbrev pub IsMadeOfWhereThere : (ChunkPayloadData → Type 0) → ℕ → Option ReceivedMessage → Type 0
IsMadeOfWhereThere P id None = ⊤
IsMadeOfWhereThere P id (Some m) = IsMadeOf P id m

-- P is so of each piece that this stream holds, and of those of which its complete messages are made. What it holds of
-- one message, and a run of pieces in no order, are pieces of one message.
pub record HoldsOnly (P : ChunkPayloadData → Type 0) (id : ℕ) (q : Reassembly) : Type 0 where
  pub ordered : AllByRecursion (λ (g : Group). ArePiecesOf P id (Order.InOrder g.ssn) g.pieces) q.ordered
  pub unordered :
      AllByRecursion (λ (run : List ChunkPayloadData). ArePiecesOf P id Order.OutOfOrder run) q.unordered
  pub complete : AllByRecursion (λ (m : ReceivedMessage). IsMadeOf P id m) q.complete
