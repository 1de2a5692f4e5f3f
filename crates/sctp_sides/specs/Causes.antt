-- What closes an association: the chunks that are faults, by what stands in them and in the state (RFC 4960
-- sections 3.3, 5 and 6.2.1), and the SHUTDOWN COMPLETE that ends a shutdown (section 9.2).
use Rattle.std.specs.Prelude.{◌≡◌, ◌≢◌, ◌⊎◌, ◌↔◌, ◌≤◌, ◌<◌, ℕ, zero, suc, ◌+◌, ◌%◌, ◌^◌, true, false, List, [], ◌∷◌}
use Rattle.std.specs.Prelude.{length, ◌-◌, min, Bool, ◌&&◌}
use Rattle.std.specs.Prelude.{slice_get, Option, Some, None, Err, ⊤}
use Rattle.sctp_wire_types.specs.Checks.{checked_chunk}
use Rattle.sctp_serial.specs.Serial.{tsn_gt, tsn}
use Rattle.sctp_wire_types.specs.declared.chunk.Chunk.{Chunk}
use Rattle.sctp_wire_types.specs.declared.chunk.Chunk.TheVariants as chunks
use Rattle.sctp_wire_types.specs.declared.chunk.ChunkInit.{ChunkInit}
use Rattle.sctp_wire_types.specs.declared.chunk.ChunkPayloadData.{ChunkPayloadData}
use Rattle.sctp_wire_types.specs.declared.chunk.ChunkReconfig.{ChunkReconfig}
use Rattle.sctp_wire_types.specs.declared.chunk.ChunkSelectiveAck.{ChunkSelectiveAck}
use Rattle.sctp_wire_types.specs.declared.error.Error.{Error}
use Rattle.sctp_wire_types.specs.Config.{is_rfc}
use Rattle.sctp_wire_types.specs.declared.packet.CommonHeader.{CommonHeader}
use Rattle.sctp_wire_types.specs.declared.param.Param.{Param}
use Rattle.sctp_wire_types.specs.declared.param.Param.TheVariants as params
use Rattle.sctp_wire.specs.declared.packet.Packet.{Packet}
use Rattle.sctp_parts.specs.declared.state.AssociationState.{AssociationState}
use Rattle.sctp_parts.specs.declared.state.AssociationState.TheVariants as states
use Rattle.sctp_received.specs.Received.{is_named}
use Rattle.sctp_inbound.specs.Greeting.{first_cookie}
use Rattle.sctp_inbound.specs.declared.receiver.AckTrigger.{AckTrigger}
use Rattle.sctp_inbound.specs.declared.receiver.AckTrigger.TheVariants as triggers
use Rattle.sctp_assoc.specs.declared.inbound.Flow.{Flow}
use Rattle.sctp_assoc.specs.declared.inbound.Flow.TheVariants as flows
use Rattle.sctp_streams.specs.Stream.{StreamView, is_read_half_open}
use Rattle.std.specs.List.{AllByRecursion}
use Rattle.sctp_streams.specs.Streams.{StreamMap, bytes_waiting, live_streams}
use Rattle.sctp_receive_queues.specs.Pieces.{bytes_of}
use Rattle.sctp_receive_queues.specs.Reassembly.{ready}
use Rattle.sctp_model.specs.Packets.{mem}
use Rattle.sctp_assoc.specs.Calls.{sends_data}
use Rattle.sctp_assoc.specs.Happened.{acts_of_chunk}
use Rattle.sctp_assoc.specs.Leads.{Binds, parts}
use Rattle.sctp_directions.specs.Acts.{History, IsNewTsn, Parts, done_all, reach_in}
use Rattle.sctp_fit.specs.Incoming.{tsn_before}
use Rattle.sctp_assoc.specs.Chunks.{is_skippable, on_chunk}
use Rattle.sctp_sides.specs.Intake.{HasStreamFor, MayKeepApart, MayTakeIn, is_for_later, later_refusal_of, refusal_of}
use Rattle.sctp_sides.specs.Laws.{closes}
use Rattle.sctp_sides.specs.SideLaws.{CouldPassOver}
use Rattle.sctp_assoc.specs.Shown.{Shown}

-- The causes

-- the check of the chunk itself refuses it
abbrev pub IsMalformed : Chunk → Type 0
IsMalformed chunk = (error : Error) × (checked_chunk chunk ≡ Err error)

-- DATA may be taken in, its stream is read, and it does not fit to what that holds.
pub record FitsNoMessage (a : Shown) (h : History) (piece : ChunkPayloadData) : Type 0 where
  pub may : MayTakeIn a h piece
  pub error : Error
  pub refused : refusal_of a piece ≡ Some error

-- DATA of a generation of its stream that is not read yet may be kept, and does not fit to what waits of that
-- generation (RFC 6525 section 5.2.2).
pub record FitsNoLaterMessage (a : Shown) (h : History) (piece : ChunkPayloadData) : Type 0 where
  pub may : MayKeepApart a h piece
  pub error : Error
  pub refused : later_refusal_of a piece ≡ Some error

-- its read half is closed, or no message is ready on it
abbrev pub IsUnreadable : StreamView → Type 0
IsUnreadable t = is_read_half_open t.halves ≡ true → ready t.reassembly ≡ []

-- the bytes of DATA that are kept apart: of generations of streams that are not read yet
abbrev pub kept_apart : Shown → ℕ
kept_apart a = bytes_of a.resets.generations.deferred

-- what is kept apart behind a chunk, before a fault closes the association; what asked to be acknowledged before, and
-- when the chunk comes, has no part in it
abbrev pub kept_behind : Shown → CommonHeader → Chunk → ℕ
kept_behind a header chunk = kept_apart (on_chunk a header chunk triggers.None 0).0

-- the bytes that wait on live streams, and so many that are kept apart, at most the greatest number of 64 bits
abbrev pub waiting_with : ℕ → StreamMap → ℕ
waiting_with kept m = min (bytes_waiting m + kept) (2 ^ 64 - 1)

-- Of a receive buffer of this size, where so many bytes are kept apart: as many bytes wait in all, none of them is past
-- a gap, and no stream whose read half is open has a message that is ready. Nothing more can come in order, and nothing
-- can be read.
pub record IsFullForGood (size kept : ℕ) (p : Parts) : Type 0 where
  pub full : size ≤ waiting_with kept p.streams
  pub some : 0 < waiting_with kept p.streams
  pub no_gap : (offset : ℕ) → mem offset p.history.taken ≡ true → offset < reach_in p.history
  pub unreadable : AllByRecursion IsUnreadable (live_streams p.streams)

-- DATA, whether or not it is taken in or kept, leaves the receive buffer so. (DATA that is refused, by its stream or by
-- what waits of its generation, is a fault by that, and DATA for whose stream no generation is left is dropped.)
pub record LeavesNothingToRead (a : Shown) (h : History) (header : CommonHeader) (piece : ChunkPayloadData)
    : Type 0 where
  pub stream : IsNewTsn h piece.tsn → is_for_later a piece ≡ false → HasStreamFor a piece.stream_identifier
  pub fits : MayTakeIn a h piece → refusal_of a piece ≡ None
  pub later_fits : MayKeepApart a h piece → later_refusal_of a piece ≡ None
  pub full : IsFullForGood a.receiver.buffer_size (kept_behind a header (chunks.Data piece))
      (done_all (acts_of_chunk a header (chunks.Data piece)) (parts a h))

-- A FORWARD TSN, which is in use, passes over what lies ahead and leaves the receive buffer so.
pub record PassesToNothingToRead (a : Shown) (h : History) (header : CommonHeader) (chunk : Chunk) (tsn : ℕ)
    : Type 0 where
  pub could : CouldPassOver a h tsn
  pub full : IsFullForGood a.receiver.buffer_size (kept_behind a header chunk)
      (done_all (acts_of_chunk a header chunk) (parts a h))

-- A cumulative TSN ack that is neither the acknowledged one nor the TSN of a piece in flight. The number that the SACK
-- names counts modulo 2^32, as TSNs do.
abbrev pub IsBeyondTheSent : Shown → History → ℕ → Type 0
IsBeyondTheSent a h cumulative_tsn_ack = (n : ℕ) → n ≤ length a.sender.queue.in_flight
    → cumulative_tsn_ack % 2 ^ 32 ≢ tsn_before (tsn h.own (h.base + n))

-- A cumulative TSN ack behind so many of the pieces in flight, and an offset past it that the gap ack blocks name and
-- at which no piece in flight stands: offsets count from the cumulative TSN ack, so the piece behind it is at 1 (RFC
-- 4960 section 3.3.4).
pub record NamesNoPiece (a : Shown) (h : History) (sack : ChunkSelectiveAck) : Type 0 where
  pub count : ℕ
  pub within : count ≤ length a.sender.queue.in_flight
  pub near : count < 2 ^ 32
  pub at : sack.cumulative_tsn_ack % 2 ^ 32 ≡ tsn_before (tsn h.own (h.base + count))
  pub offset : ℕ
  pub named : is_named offset sack.gap_ack_blocks ≡ true
  pub unsent : (index : ℕ) → index < length a.sender.queue.in_flight → count + offset ≢ index + 1

-- A SACK, where it counts, in Established and in a shutdown until SHUTDOWN or SHUTDOWN ACK is due, acknowledges what is
-- not in flight: its cumulative TSN ack is not behind the acknowledged one, and it lies beyond what was sent, or the
-- gap ack blocks name a TSN that no piece in flight has.
pub record AcknowledgesTheUnsent (a : Shown) (h : History) (sack : ChunkSelectiveAck) : Type 0 where
  pub counts : sends_data a.state ≡ true
  pub not_behind : tsn_gt (tsn_before (tsn h.own h.base)) sack.cumulative_tsn_ack ≡ false
  pub unsent : IsBeyondTheSent a h sack.cumulative_tsn_ack ⊎ NamesNoPiece a h sack

-- The state is none in which a handshake is open or can begin.
pub record IsPastTheHandshake (state : AssociationState) : Type 0 where
  pub not_closed : state ≢ states.Closed
  pub not_waiting : state ≢ states.CookieWait
  pub not_echoed : state ≢ states.CookieEchoed

-- The INIT ACK to this side's INIT, from the port to which that went, has no State Cookie.
pub record BringsNoCookie (a : Shown) (header : CommonHeader) (init : ChunkInit) : Type 0 where
  pub waits : a.state ≡ states.CookieWait
  pub source : header.source_port ≡ a.handshake.destination_port
  pub destination : header.destination_port ≡ a.handshake.source_port
  pub no_cookie : first_cookie init.params ≡ None

-- a parameter is a request to reset outgoing streams or a response (RFC 6525 section 3.1)
abbrev pub is_of_reset : Param → Bool
is_of_reset (params.OutgoingResetRequest request) = true
is_of_reset (params.ReconfigResponse response) = true
is_of_reset param = false

abbrev pub is_second_of_reset : Option Param → Bool
is_second_of_reset None = true
is_second_of_reset (Some param) = is_of_reset param

-- One of the parameters of RE-CONFIG, which has one or two, is neither. (They are taken in order: what stands in front
-- of it is done.)
abbrev pub HasOtherParameter : ChunkReconfig → Type 0
HasOtherParameter reconfig = (is_of_reset reconfig.first ≡ false) ⊎ (is_second_of_reset reconfig.second ≡ false)

-- what a chunk of each kind is a fault by; an ABORT always is one. ERROR, HEARTBEAT ACK and kinds that are not
-- processed are, unless the rules of the RFCs pass over them. A SHUTDOWN COMPLETE that answers this side's SHUTDOWN ACK
-- is no fault, but closes, too (RFC 4960 section 9.2).
abbrev pub IsCauseOfItsKind : Shown → History → CommonHeader → Chunk → Type 0
IsCauseOfItsKind a h header (chunks.Data piece) =
    FitsNoMessage a h piece ⊎ (FitsNoLaterMessage a h piece ⊎ LeavesNothingToRead a h header piece)
IsCauseOfItsKind a h header (chunks.SelectiveAck sack) = AcknowledgesTheUnsent a h sack
IsCauseOfItsKind a h header (chunks.Init init) = IsPastTheHandshake a.state
IsCauseOfItsKind a h header (chunks.InitAck init) = BringsNoCookie a header init
IsCauseOfItsKind a h header (chunks.CookieEcho cookie) = ⊥
IsCauseOfItsKind a h header chunks.CookieAck = ⊥
IsCauseOfItsKind a h header (chunks.Heartbeat heartbeat) = ⊥
IsCauseOfItsKind a h header (chunks.ForwardTsn forward) =
    PassesToNothingToRead a h header (chunks.ForwardTsn forward) forward.new_cumulative_tsn
IsCauseOfItsKind a h header (chunks.IForwardTsn forward) =
    PassesToNothingToRead a h header (chunks.IForwardTsn forward) forward.new_cumulative_tsn
IsCauseOfItsKind a h header (chunks.Reconfig reconfig) = HasOtherParameter reconfig
IsCauseOfItsKind a h header (chunks.Shutdown cumulative_tsn_ack) = ⊥
IsCauseOfItsKind a h header chunks.ShutdownAck = ⊥
IsCauseOfItsKind a h header chunks.ShutdownComplete = a.state ≡ states.ShutdownAckSent
IsCauseOfItsKind a h header (chunks.Abort abort) = ⊤
IsCauseOfItsKind a h header (chunks.Error error) = is_rfc a.profile ≡ false
IsCauseOfItsKind a h header (chunks.HeartbeatAck heartbeat) = is_rfc a.profile ≡ false
IsCauseOfItsKind a h header (chunks.Other kind flags value) = (is_skippable kind && is_rfc a.profile) ≡ false

-- a cause for an association to close
abbrev pub IsCause : Shown → History → CommonHeader → Chunk → Type 0
IsCause a h header chunk = IsMalformed chunk ⊎ IsCauseOfItsKind a h header chunk

-- Chunks

-- a chunk is a fault, or ends a shutdown, or finds or leaves the receive buffer exhausted
abbrev pub EndsThePacket : Shown × Flow → Type 0
EndsThePacket outcome =
    ((error : Error) × (outcome.1 ≡ flows.Fault error)) ⊎ ((outcome.1 ≡ flows.Closed) ⊎ (outcome.1 ≡ flows.Exhausted))

-- What ends a packet so are the causes, neither more nor fewer.
abbrev pub FaultsAreCauses : Type 0
FaultsAreCauses = (a : Shown) (h : History) (header : CommonHeader) (chunk : Chunk) (trigger : AckTrigger) (now : ℕ)
    → Binds a h → EndsThePacket (on_chunk a header chunk trigger now) ↔ IsCause a h header chunk

-- Packets

-- the chunk at this index of a packet is reached, with the association so: none of those before it ends the packet
abbrev pub Reaches : CommonHeader → List Chunk → Shown → AckTrigger → ℕ → ℕ → Shown → Type 0
Reaches header [] a trigger now index reached = ⊥
Reaches header (c ∷ cs) a trigger now zero reached = reached ≡ a
Reaches header (c ∷ cs) a trigger now (suc index) reached =
    (b : Shown) × (next : AckTrigger) × (on_chunk a header c trigger now ≡ (b, flows.Next next))
    × Reaches header cs b next now index reached

-- A chunk of a packet is reached while the association is open.
pub record IsReachedOpen (a : Shown) (packet : Packet) (now index : ℕ) (chunk : Chunk) (reached : Shown) : Type 0 where
  pub there : slice_get packet.chunks index ≡ Some chunk
  pub reaches : Reaches packet.common_header packet.chunks a triggers.None now index reached
  pub still_open : reached.state ≢ states.Closed

-- One chunk of a packet is reached while the association is open, and is a cause whatever the history is on which
-- that stands; it does stand on one.
pub record HasCause (a : Shown) (packet : Packet) (now : ℕ) : Type 0 where
  pub index : ℕ
  pub chunk : Chunk
  pub reached : Shown
  pub is_reached : IsReachedOpen a packet now index chunk reached
  pub stands : History
  pub binds : Binds reached stands
  pub is_cause : (h : History) → Binds reached h → IsCause reached h packet.common_header chunk

-- A packet that closes an association has a cause.
abbrev pub ClosingPacketsHaveCauses : Type 0
ClosingPacketsHaveCauses = (a : Shown) (h : History) (packet : Packet) (now : ℕ) → Binds a h
    → closes a (Some packet) now ≡ true → HasCause a packet now

-- A cause that a packet has closes, unless the association was lost before.
abbrev pub CausesClose : Type 0
CausesClose = (a : Shown) (packet : Packet) (now index : ℕ) (chunk : Chunk) (reached : Shown) (h : History)
    → a.lost ≡ false → IsReachedOpen a packet now index chunk reached → Binds reached h
    → IsCause reached h packet.common_header chunk → closes a (Some packet) now ≡ true
