-- What one association reads, against any peer.
use Rattle.std.specs.Prelude.{◌≡◌, ℕ, List, [], ◌∷◌, slice_get, take, Option, Some, None}
use Rattle.std.specs.List.{flat_map}
use Rattle.sctp_wire_types.specs.declared.chunk.Chunk.{Chunk}
use Rattle.sctp_wire_types.specs.declared.chunk.Chunk.TheVariants as chunks
use Rattle.sctp_wire_types.specs.declared.chunk.ChunkPayloadData.{ChunkPayloadData}
use Rattle.sctp_wire.specs.declared.packet.Packet.{Packet}
use Rattle.sctp_receive_queues.specs.Messages.{ReceivedMessage}
use Rattle.sctp_assoc.specs.declared.call.Call.{Call}
use Rattle.sctp_assoc.specs.declared.call.Call.TheVariants as calls
use Rattle.sctp_assoc.specs.declared.call.Reply.{Reply}
use Rattle.sctp_assoc.specs.declared.call.Reply.TheVariants as replies
use Rattle.sctp_assoc.specs.Replies.{packet_in}
use Rattle.sctp_assoc.specs.Shown.{Shown}
use Rattle.sctp_sides.specs.Brought.{IsAmong}
use Rattle.sctp_reset_fit.specs.Pieces.{IsMadeOf}

-- the DATA of a chunk, if it is one of DATA
abbrev pub data_in_chunk : Chunk → List ChunkPayloadData
data_in_chunk (chunks.Data piece) = piece ∷ []
data_in_chunk chunk = []

-- the DATA of a packet, if there is one
abbrev pub data_in : Option Packet → List ChunkPayloadData
data_in None = []
data_in (Some packet) = flat_map data_in_chunk packet.chunks

-- the DATA that a call delivers
abbrev pub data_delivered : Call → List ChunkPayloadData
data_delivered (calls.HandleDatagram datagram remote now) = data_in (packet_in datagram)
data_delivered call = []

-- a call is a read, of a stream of which this is so
abbrev pub IsReadOn : (ℕ → Type 0) → Call → Type 0
IsReadOn Is (calls.Read id) = Is id
IsReadOn Is (calls.ReadSctp id) = Is id
IsReadOn Is call = ⊥

-- Each message that was answered is the answer of a read, and was made of DATA on that stream that calls before the read
-- delivered: of all pieces of one message.
abbrev pub ReadsGiveWhatCame : List Call → List Reply → Type 0
ReadsGiveWhatCame made answers =
    (index : ℕ) (message : ReceivedMessage) → slice_get answers index ≡ Some (replies.Read (Some message))
    → (call : Call) × (slice_get made index ≡ Some call)
    × IsReadOn (λ id. IsMadeOf (IsAmong (flat_map data_delivered (take index made))) id message) call

-- no stream is live, and nothing is kept for one
pub record HoldsNothing (a : Shown) : Type 0 where
  pub streams : a.streams.by_id ≡ []
  pub kept : a.resets.generations.deferred ≡ []
