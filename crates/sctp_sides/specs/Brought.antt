-- Nothing waits to be read of one side, and nothing is read, but what was made of DATA that came: whatever the peer
-- sends.
use Rattle.std.specs.Prelude.{◌≡◌, ℕ, List, slice_get, Option, Some, None, ⊤}
use Rattle.std.specs.List.{AllByRecursion}
use Rattle.sctp_wire_types.specs.declared.chunk.Chunk.{Chunk}
use Rattle.sctp_wire_types.specs.declared.chunk.Chunk.TheVariants as chunks
use Rattle.sctp_wire_types.specs.declared.chunk.ChunkPayloadData.{ChunkPayloadData}
use Rattle.sctp_wire.specs.declared.packet.Packet.{Packet}
use Rattle.sctp_streams.specs.declared.event.Event.{Event}
use Rattle.sctp_assoc.specs.Calls.{read_from_stream}
use Rattle.sctp_assoc.specs.Shown.{Shown}
use Rattle.sctp_reset_fit.specs.Pieces.{IsMadeOfWhereThere}
use Rattle.sctp_sides.specs.Held.{IsHeldOnly}
use Rattle.sctp_sides.specs.OneSide.{Call, carried_out}

-- an association holds only DATA of which this is so
abbrev pub SideHoldsOnly : (ChunkPayloadData → Type 0) → Shown → Type 0
SideHoldsOnly P a = IsHeldOnly P a.resets a.streams

-- this is so of a chunk, if it is DATA
abbrev pub IsOnly : (ChunkPayloadData → Type 0) → Chunk → Type 0
IsOnly P (chunks.Data piece) = P piece
IsOnly P chunk = ⊤

-- and of each DATA chunk of a packet, if there is one
abbrev pub BringsOnly : (ChunkPayloadData → Type 0) → Option Packet → Type 0
BringsOnly P None = ⊤
BringsOnly P (Some packet) = AllByRecursion (λ (c : Chunk). IsOnly P c) packet.chunks

-- and of each that a call brings
abbrev pub CallBringsOnly : (ChunkPayloadData → Type 0) → Call → Type 0
CallBringsOnly P (Call.HandleEvent packet now) = BringsOnly P packet
CallBringsOnly P call = ⊤

-- This DATA is among these.
abbrev pub IsAmong : List ChunkPayloadData → ChunkPayloadData → Type 0
IsAmong came piece = (index : ℕ) × (slice_get came index ≡ Some piece)

-- What a call leaves to be read is made of DATA among these, where all that the association held before and all that
-- the call brings is.
abbrev pub CallsHoldWhatCame : Type 0
CallsHoldWhatCame = (came : List ChunkPayloadData) (call : Call) (a b : Shown) (told : List Event)
    → carried_out call a ≡ (b, told) → CallBringsOnly (IsAmong came) call → SideHoldsOnly (IsAmong came) a
    → SideHoldsOnly (IsAmong came) b

-- A message that is read on a stream is made of pieces among these: of all pieces of one message on that stream.
abbrev pub ReadsGiveWhatIsHeld : Type 0
ReadsGiveWhatIsHeld = (came : List ChunkPayloadData) (a : Shown) (id : ℕ) → SideHoldsOnly (IsAmong came) a
    → IsMadeOfWhereThere (IsAmong came) id (read_from_stream a id).1
