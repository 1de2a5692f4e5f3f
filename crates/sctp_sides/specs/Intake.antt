-- Which DATA a side takes in, by what came before and by the room that it has (RFC 4960 section 6.2).
use Rattle.std.specs.Prelude.{◌≡◌, ◌≢◌, ◌⊎◌, ◌<◌, ℕ, Bool, true, false, is_some, List, ◌∷◌, ◌++◌, slice_get}
use Rattle.std.specs.Prelude.{Option, Some, None, ⊤}
use Rattle.std.specs.List.{AllByRecursion}
use Rattle.sctp_wire_types.specs.declared.chunk.Chunk.{Chunk}
use Rattle.sctp_wire_types.specs.declared.chunk.Chunk.TheVariants as chunks
use Rattle.sctp_wire_types.specs.declared.chunk.ChunkPayloadData.{ChunkPayloadData}
use Rattle.sctp_wire_types.specs.declared.error.Error.{Error}
use Rattle.sctp_wire_types.specs.declared.packet.CommonHeader.{CommonHeader}
use Rattle.sctp_receive_queues.specs.Reassembly.{Reassembly, empty_reassembly, refusal}
use Rattle.sctp_streams.specs.Stream.{StreamView}
use Rattle.sctp_streams.specs.Streams.{generation_left, stream_at}
use Rattle.sctp_inbound.specs.declared.receiver.AckTrigger.{AckTrigger}
use Rattle.sctp_model.specs.Packets.{mem}
use Rattle.sctp_resets.specs.Resets as resets
use Rattle.sctp_assoc.specs.declared.inbound.Flow.TheVariants as flows
use Rattle.sctp_directions.specs.Acts.{Act, History, IsNewTsn, offset_in}
use Rattle.sctp_assoc.specs.Leads.{Binds}
use Rattle.sctp_assoc.specs.Chunks.{goes_unread, on_chunk}
use Rattle.sctp_assoc.specs.Happened.{acts_of_chunk}
use Rattle.sctp_sides.specs.SideLaws.{OpensAndTakes, TakesOnly}
use Rattle.sctp_assoc.specs.Shown.{Shown, all_waiting}

-- the most bytes that a message may have, once it is put together
abbrev pub receive_limit : Shown → ℕ
receive_limit a = a.receiver.max_receive_message_size

-- a stream is live, or a generation is left for it
abbrev pub HasStreamFor : Shown → ℕ → Type 0
HasStreamFor a id = (is_some (stream_at a.streams id) ≡ true) ⊎ (generation_left a.streams ≡ true)

-- An offset past that of this TSN came: DATA with the TSN fills a gap.
pub record FillsAGap (h : History) (t : ℕ) : Type 0 where
  pub offset : ℕ
  pub came : mem offset h.taken ≡ true
  pub past : offset_in h t < offset

-- fewer bytes of all generations of streams wait to be read than the receive buffer has, or DATA with this TSN fills a
-- gap
abbrev pub HasRoomFor : Shown → History → ℕ → Type 0
HasRoomFor a h t = (all_waiting a < a.receiver.buffer_size) ⊎ FillsAGap h t

-- DATA is of a generation of its stream that is not read yet (RFC 6525 section 5.2.2)
abbrev pub is_for_later : Shown → ChunkPayloadData → Bool
is_for_later a piece = resets.is_hidden a.resets piece.stream_identifier piece.tsn

-- DATA may be taken in: it is new, of the generation of its stream that is read, its stream is live or can be made, and
-- there is room for it.
pub record MayTakeIn (a : Shown) (h : History) (piece : ChunkPayloadData) : Type 0 where
  pub new : IsNewTsn h piece.tsn
  pub read_now : is_for_later a piece ≡ false
  pub stream : HasStreamFor a piece.stream_identifier
  pub room : HasRoomFor a h piece.tsn

-- DATA may be kept apart: it is new, of a generation of its stream that is not read yet, and there is room for it.
pub record MayKeepApart (a : Shown) (h : History) (piece : ChunkPayloadData) : Type 0 where
  pub new : IsNewTsn h piece.tsn
  pub read_later : is_for_later a piece ≡ true
  pub room : HasRoomFor a h piece.tsn

-- what a stream holds; nothing where it is yet to be made
abbrev pub held_by : Option StreamView → Reassembly
held_by None = empty_reassembly
held_by (Some stream) = stream.reassembly

-- why DATA does not fit to what its stream holds, if so (RFC 4960 section 6.9)
abbrev pub misfit_of : Shown → ChunkPayloadData → Option Error
misfit_of a piece = refusal (held_by (stream_at a.streams piece.stream_identifier)) piece (receive_limit a)

-- what DATA would be refused by, unless it goes unread
abbrev pub unless_unread : Bool → Option Error → Option Error
unless_unread true misfit = None
unless_unread false misfit = misfit

-- why the stream of DATA refuses it, if so: it does not fit to what that holds. What nobody reads is not refused
abbrev pub refusal_of : Shown → ChunkPayloadData → Option Error
refusal_of a piece = unless_unread (goes_unread a piece) (misfit_of a piece)

-- why DATA of a generation that is not read yet does not fit to what waits of that generation, if so
abbrev pub later_refusal_of : Shown → ChunkPayloadData → Option Error
later_refusal_of a piece = resets.refusal_of a.resets piece (receive_limit a)

-- spans of streams end
abbrev pub IsEndOfSpans : Act → Type 0
IsEndOfSpans (Act.SpansEnded ids m) = ⊤
IsEndOfSpans act = ⊥

-- It was taken in, by its live stream or by one that it made. Behind it spans of streams may end, where resets waited
-- for it.
pub record IsTakenIn (a : Shown) (piece : ChunkPayloadData) (acts : List Act) : Type 0 where
  pub first : List Act
  pub taking : OpensAndTakes a piece first ⊎ TakesOnly a piece first
  pub others : List Act
  pub ends : AllByRecursion IsEndOfSpans others
  pub are : acts ≡ first ++ others

-- It was taken in, and did not go to its stream; behind it spans of streams may end likewise.
pub record IsKeptApart (piece : ChunkPayloadData) (acts : List Act) : Type 0 where
  pub others : List Act
  pub ends : AllByRecursion IsEndOfSpans others
  pub are : acts ≡ Act.Deferred piece ∷ others

-- DATA that its stream does not refuse is taken in; DATA that it refuses is a fault.
pub record IsTakenUnlessRefused (a : Shown) (header : CommonHeader) (piece : ChunkPayloadData) : Type 0 where
  pub taken : refusal_of a piece ≡ None → IsTakenIn a piece (acts_of_chunk a header (chunks.Data piece))
  pub refused : (trigger : AckTrigger) (now : ℕ) (error : Error) → refusal_of a piece ≡ Some error
      → (on_chunk a header (chunks.Data piece) trigger now).1 ≡ flows.Fault error

-- DATA that what waits of its generation does not refuse is kept apart; DATA that it refuses is a fault.
pub record IsKeptUnlessRefused (a : Shown) (header : CommonHeader) (piece : ChunkPayloadData) : Type 0 where
  pub kept : later_refusal_of a piece ≡ None → IsKeptApart piece (acts_of_chunk a header (chunks.Data piece))
  pub refused : (trigger : AckTrigger) (now : ℕ) (error : Error) → later_refusal_of a piece ≡ Some error
      → (on_chunk a header (chunks.Data piece) trigger now).1 ≡ flows.Fault error

-- DATA that nobody reads is taken in without going to its stream, and is no fault.
pub record IsLeftUnread (a : Shown) (header : CommonHeader) (piece : ChunkPayloadData) : Type 0 where
  pub left : IsKeptApart piece (acts_of_chunk a header (chunks.Data piece))
  pub no_fault : (trigger : AckTrigger) (now : ℕ) (error : Error)
      → (on_chunk a header (chunks.Data piece) trigger now).1 ≢ flows.Fault error

-- Of a chunk that is reached: what may be taken in, and whose stream is read, is taken in unless its stream refuses it,
-- whatever state the association is in and whatever came before.
abbrev pub DataIsTakenIn : Type 0
DataIsTakenIn = (a : Shown) (h : History) (header : CommonHeader) (piece : ChunkPayloadData) → Binds a h
    → MayTakeIn a h piece → goes_unread a piece ≡ false → IsTakenUnlessRefused a header piece

-- What may be taken in, and whose stream nobody reads any more, is left unread, whether or not it would fit to what its
-- stream holds.
abbrev pub UnreadDataIsLeft : Type 0
UnreadDataIsLeft = (a : Shown) (h : History) (header : CommonHeader) (piece : ChunkPayloadData) → Binds a h
    → MayTakeIn a h piece → goes_unread a piece ≡ true → IsLeftUnread a header piece

-- And what may be kept apart for a generation that is not read yet is kept apart, unless what waits of that generation
-- refuses it.
abbrev pub LaterDataIsKeptApart : Type 0
LaterDataIsKeptApart = (a : Shown) (h : History) (header : CommonHeader) (piece : ChunkPayloadData) → Binds a h
    → MayKeepApart a h piece → IsKeptUnlessRefused a header piece

-- A chunk of which this DATA was taken in by its stream is that DATA; it could be taken in, its stream is read, and did
-- not refuse it.
pub record WasToBeTakenIn (a : Shown) (h : History) (chunk : Chunk) (piece : ChunkPayloadData) : Type 0 where
  pub data_itself : chunk ≡ chunks.Data piece
  pub may : MayTakeIn a h piece
  pub read : goes_unread a piece ≡ false
  pub unrefused : refusal_of a piece ≡ None

-- A chunk of which this DATA was kept apart is that DATA; it could be, and what waits of its generation did not refuse
-- it.
pub record WasToBeKeptApart (a : Shown) (h : History) (chunk : Chunk) (piece : ChunkPayloadData) : Type 0 where
  pub data_itself : chunk ≡ chunks.Data piece
  pub may : MayKeepApart a h piece
  pub unrefused : later_refusal_of a piece ≡ None

-- A chunk of which this DATA was left unread is that DATA; it could be taken in, and nobody reads its stream.
pub record WasToBeLeft (a : Shown) (h : History) (chunk : Chunk) (piece : ChunkPayloadData) : Type 0 where
  pub data_itself : chunk ≡ chunks.Data piece
  pub may : MayTakeIn a h piece
  pub unread : goes_unread a piece ≡ true

-- Nothing else is taken in by a stream, of DATA or of any other chunk.
abbrev pub NothingElseIsTakenIn : Type 0
NothingElseIsTakenIn = (a : Shown) (h : History) (header : CommonHeader) (chunk : Chunk) (index : ℕ)
    → (piece : ChunkPayloadData) → Binds a h
    → slice_get (acts_of_chunk a header chunk) index ≡ Some (Act.Took piece) → WasToBeTakenIn a h chunk piece

-- Nothing else is kept apart or left unread.
abbrev pub NothingElseIsKeptApart : Type 0
NothingElseIsKeptApart = (a : Shown) (h : History) (header : CommonHeader) (chunk : Chunk) (index : ℕ)
    → (piece : ChunkPayloadData) → Binds a h
    → slice_get (acts_of_chunk a header chunk) index ≡ Some (Act.Deferred piece)
    → WasToBeKeptApart a h chunk piece ⊎ WasToBeLeft a h chunk piece
