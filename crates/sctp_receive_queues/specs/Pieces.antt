-- The pieces of one message that are held, in the order of their TSNs (RFC 4960 section 6.9).
use Rattle.std.specs.Prelude.{ℕ, ◌+◌, ◌-◌, ◌%◌, ◌^◌, ◌==◌, ◌&&◌, ◌||◌, not, nat_lt, if◌then◌else◌, Bool, true, false}
use Rattle.std.specs.Prelude.{List, [], ◌∷◌, length, position, slice_get, unwrap_or, Option, Some, None}
use Rattle.std.specs.List.{list_any, sum_by}
use Rattle.sctp_wire_types.specs.Ids.{number_of}
use Rattle.sctp_serial.specs.Serial.{tsn_after, tsn_lt, tsn_past}
use Rattle.sctp_wire_types.specs.declared.chunk.ChunkPayloadData.{ChunkPayloadData}
use Rattle.sctp_wire_types.specs.declared.error.Error.{Error}
use Rattle.sctp_wire_types.specs.declared.error.Error.TheVariants as errors

-- the bytes of these pieces
abbrev pub bytes_of : List ChunkPayloadData → ℕ
bytes_of pieces = sum_by (λ (p : ChunkPayloadData). length p.user_data) pieces

abbrev pub last_of : List ChunkPayloadData → Option ChunkPayloadData
last_of pieces = slice_get pieces (length pieces - 1)

abbrev pub first_of : List ChunkPayloadData → Option ChunkPayloadData
first_of pieces = slice_get pieces 0

abbrev pub is_first : Option ChunkPayloadData → Bool
is_first None = false
is_first (Some p) = p.beginning_fragment

abbrev pub is_last : Option ChunkPayloadData → Bool
is_last None = false
is_last (Some p) = p.ending_fragment

-- the message's first piece is held, if these are consistent
abbrev pub begins : List ChunkPayloadData → Bool
begins pieces = is_first (first_of pieces)

-- the message's last piece is held, if these are consistent
abbrev pub ends : List ChunkPayloadData → Bool
ends pieces = is_last (last_of pieces)

abbrev pub is_after : Option ℕ → ℕ → Bool
is_after None tsn = true
is_after (Some last) tsn = tsn == tsn_after last

-- each piece has the TSN after the one in front of it
abbrev pub follows : Option ℕ → List ChunkPayloadData → Bool
follows last [] = true
follows last (p ∷ ps) = is_after last p.tsn && follows (Some p.tsn) ps

-- all pieces of a message: they begin with a first piece, end with a last one, and the TSNs between follow one another
abbrev pub is_complete : List ChunkPayloadData → Bool
is_complete pieces = begins pieces && ends pieces && follows None pieces

abbrev pub has_tsn : ℕ → List ChunkPayloadData → Bool
has_tsn tsn pieces = list_any (λ (p : ChunkPayloadData). p.tsn == tsn) pieces

abbrev pub differs_from : ChunkPayloadData → Option ChunkPayloadData → Bool
differs_from p None = false
differs_from p (Some q) = not (number_of q.payload_type == number_of p.payload_type)

-- the message has another payload type than this piece
abbrev pub has_other_type : List ChunkPayloadData → ChunkPayloadData → Bool
has_other_type pieces p = differs_from p (first_of pieces)

-- in front of the first piece that is past this TSN, else at the end
abbrev pub index_of : ℕ → List ChunkPayloadData → ℕ
index_of tsn pieces =
    unwrap_or (position (λ (p : ChunkPayloadData). tsn_lt tsn p.tsn) pieces) (length pieces)

-- with this piece at its place a first piece is not at the lowest TSN, or a last one is not at the highest
abbrev pub breaks_ends : ℕ → List ChunkPayloadData → ChunkPayloadData → Bool
breaks_ends index pieces p =
    (if index == 0 then begins pieces else p.beginning_fragment) ||
    (if index == length pieces then ends pieces else p.ending_fragment)

-- a piece contradicts those held of its message
abbrev pub contradicts : List ChunkPayloadData → ChunkPayloadData → Bool
contradicts pieces p =
    has_tsn p.tsn pieces || has_other_type pieces p || breaks_ends (index_of p.tsn pieces) pieces p

-- why a piece is refused beside those held of its message
abbrev pub refusal_of : List ChunkPayloadData → ChunkPayloadData → ℕ → Option Error
refusal_of pieces p limit =
    if contradicts pieces p then Some errors.ErrContradictoryPieces else
    if nat_lt limit (bytes_of pieces + length p.user_data) then Some errors.ErrInboundMessageTooLarge else
    None

-- Pieces whose TSNs follow one another.

abbrev pub is_right_after : ℕ → Option ChunkPayloadData → Bool
is_right_after tsn None = false
is_right_after tsn (Some p) = p.tsn == tsn_after tsn

abbrev pub is_right_before : ℕ → Option ChunkPayloadData → Bool
is_right_before tsn None = false
is_right_before tsn (Some p) = tsn == tsn_after p.tsn

abbrev pub first_is_after : List ChunkPayloadData → ℕ → Bool
first_is_after pieces tsn = is_right_after tsn (first_of pieces)

abbrev pub last_is_before : List ChunkPayloadData → ℕ → Bool
last_is_before pieces tsn = is_right_before tsn (last_of pieces)

abbrev pub covers_from : Option ChunkPayloadData → ℕ → ℕ → Bool
covers_from None count tsn = false
covers_from (Some p) count tsn = nat_lt (tsn_past p.tsn tsn) count

-- one of the pieces has this TSN
abbrev pub covers : List ChunkPayloadData → ℕ → Bool
covers pieces tsn = covers_from (first_of pieces) (length pieces) tsn

abbrev pub is_later : ℕ → Option ChunkPayloadData → Bool
is_later tsn None = false
is_later tsn (Some p) = tsn_lt tsn p.tsn

abbrev pub is_past : List ChunkPayloadData → ℕ → Bool
is_past pieces tsn = is_later tsn (first_of pieces)
