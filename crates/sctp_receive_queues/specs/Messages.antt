-- Messages as they are read.
use Rattle.std.specs.Prelude.{ℕ, ◌≡◌, Bool, false, ◌==◌, if◌then◌else◌, List, [], ◌∷◌, take, drop, length, Option, Some}
use Rattle.std.specs.Prelude.{None}
use Rattle.std.specs.List.{concat, flat_map}
use Rattle.sctp_wire_types.specs.declared.chunk.ChunkPayloadData.{ChunkPayloadData}
use Rattle.sctp_wire_types.specs.declared.ids.PayloadProtocolIdentifier.{PayloadProtocolIdentifier}
use Rattle.sctp_wire_types.specs.declared.ids.PayloadProtocolIdentifier.TheVariants as kinds
use Rattle.sctp_receive_queues.specs.Pieces.{first_of}

-- a message as it is read: its payload type (RFC 4960 section 10.1), and of each of its pieces, in
-- order, the bytes that are left; a piece without any is left out
pub record ReceivedMessage : Type 0 where
  pub payload_type : PayloadProtocolIdentifier
  pub pieces : List (List ℕ)

-- the bytes of a message that are left
abbrev pub bytes_left : ReceivedMessage → List ℕ
bytes_left m = concat m.pieces

-- the pieces' bytes, in order
abbrev pub joined : List ChunkPayloadData → List ℕ
joined pieces = flat_map (λ (p : ChunkPayloadData). p.user_data) pieces

-- a piece's bytes in front of the others', left out where there are none
abbrev pub in_front : List ℕ → List (List ℕ) → List (List ℕ)
in_front bytes others = if length bytes == 0 then others else bytes ∷ others

-- the bytes of each piece that has any
abbrev pub filled : List ChunkPayloadData → List (List ℕ)
filled [] = []
filled (p ∷ ps) = in_front p.user_data (filled ps)

-- the first piece's bytes
abbrev pub front_bytes : List ChunkPayloadData → List ℕ
front_bytes [] = []
front_bytes (p ∷ ps) = p.user_data

abbrev pub is_blank : Option ChunkPayloadData → Bool
is_blank None = false
is_blank (Some p) = length p.user_data == 0

abbrev pub kind_of : Option ChunkPayloadData → PayloadProtocolIdentifier
kind_of None = kinds.Unknown
kind_of (Some p) = p.payload_type

-- the message that these pieces make up
abbrev pub message_of : List ChunkPayloadData → ReceivedMessage
message_of pieces = record { payload_type = kind_of (first_of pieces); pieces = filled pieces }

-- What a reader takes out of the pieces that are left.

-- the first max bytes of the first piece, or all of its bytes where it has fewer; none for a max of 0, or where no
-- piece is left
abbrev pub first_cut : ℕ → List (List ℕ) → Option (List ℕ)
first_cut max [] = None
first_cut max (bytes ∷ others) = if max == 0 then None else Some (take max bytes)

-- what that cut leaves of the pieces
abbrev pub behind_cut : ℕ → List (List ℕ) → List (List ℕ)
behind_cut max [] = []
behind_cut max (bytes ∷ others) = if max == 0 then bytes ∷ others else in_front (drop max bytes) others

-- a cut of at most max bytes that is taken out of a message, and what it leaves
abbrev pub IsCut : ℕ → ReceivedMessage → ReceivedMessage → Option (List ℕ) → Type 0
IsCut max m n cut = (cut ≡ first_cut max m.pieces) × (n ≡ record m { pieces = behind_cut max m.pieces })
