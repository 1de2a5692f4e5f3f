-- What calls leave of an association beside its directions, and of which acts they are made: for whoever builds on it.
use Rattle.std.specs.Prelude.{◌≡◌, ◌⊎◌, ◌<◌, ◌≤◌, ℕ, ◌+◌, ◌%◌, ◌^◌, Bool, true, false, List, [], ◌∷◌, ◌++◌, length}
use Rattle.std.specs.Prelude.{slice_get, if◌then◌else◌, is_some, Option, Some, None, ⊤, ◌==◌, ◌&&◌}
use Rattle.std.specs.List.{AllByRecursion}
use Rattle.sctp_serial.specs.Serial.{tsn_gt, tsn}
use Rattle.sctp_wire_types.specs.declared.chunk.Chunk.{Chunk}
use Rattle.sctp_wire_types.specs.declared.chunk.Chunk.TheVariants as chunks
use Rattle.sctp_wire_types.specs.declared.chunk.ChunkForwardTsn.{ChunkForwardTsn}
use Rattle.sctp_wire_types.specs.declared.chunk.ChunkIForwardTsn.{ChunkIForwardTsn}
use Rattle.sctp_wire_types.specs.declared.chunk.ChunkInit.{ChunkInit}
use Rattle.sctp_wire_types.specs.declared.chunk.ChunkPayloadData.{ChunkPayloadData}
use Rattle.sctp_wire_types.specs.declared.chunk.ChunkReconfig.{ChunkReconfig}
use Rattle.sctp_wire_types.specs.declared.chunk.ChunkSelectiveAck.{ChunkSelectiveAck}
use Rattle.sctp_wire_types.specs.declared.chunk.SkippedStream.{SkippedStream}
use Rattle.sctp_wire_types.specs.declared.ids.PayloadProtocolIdentifier.{PayloadProtocolIdentifier}
use Rattle.sctp_wire_types.specs.declared.packet.CommonHeader.{CommonHeader}
use Rattle.sctp_wire.specs.declared.packet.Packet.{Packet}
use Rattle.sctp_wire.specs.Packets.{packet_at}
use Rattle.sctp_receive_queues.specs.Reassembly.{empty_reassembly}
use Rattle.sctp_received.specs.Received.{is_named}
use Rattle.sctp_streams.specs.declared.event.AssociationError.{AssociationError}
use Rattle.sctp_streams.specs.declared.event.Event.{Event}
use Rattle.sctp_streams.specs.Stream.{StreamView}
use Rattle.sctp_streams.specs.declared.setting.Setting.{Setting}
use Rattle.sctp_streams.specs.Streams.{made, read_in, stream_at}
use Rattle.sctp_inbound.specs.declared.receiver.AckTrigger.{AckTrigger}
use Rattle.sctp_outbound_queue.specs.declared.message.Reports.{Reports}
use Rattle.sctp_outbound.specs.Forward.{forward_of}
use Rattle.sctp_directions.specs.Acts.{Act, HasReadOpen, History, IsAhead, all_data_given, reach_in}
use Rattle.sctp_assoc.specs.Leads.{Binds, LeadsOn, parts}
use Rattle.sctp_fit.specs.Incoming.{tsn_before}
use Rattle.sctp_parts.specs.State.{is_closing}
use Rattle.sctp_assoc.specs.Calls.{event_polled, exchanges_data, is_beginning, is_established, open_refusal, opened}
use Rattle.sctp_assoc.specs.Calls.{sends_data}
use Rattle.sctp_assoc.specs.Closing.{closed_by, exhausted, is_closed_state}
use Rattle.sctp_assoc.specs.Calls.{accepted_stream, adjusted, drained_behind, read_exhausts, read_from_stream}
use Rattle.sctp_assoc.specs.Calls.{stop_refusal, stopped, stopped_open, stream_refusal}
use Rattle.sctp_assoc.specs.Calls.{with_max_send_message_size}
use Rattle.sctp_assoc.specs.Calls.{credit_in, tells_window, told_if}
use Rattle.sctp_assoc.specs.Calls.{write_refusal, written}
use Rattle.sctp_assoc.specs.Chunks.{after_packet, ended, on_chunk}
use Rattle.sctp_outbound.specs.Sacks.{reports_of}
use Rattle.sctp_assoc.specs.Happened.{IsOfControl, IsOfShutdown, Polls, PollsOn, acts_of_chunk, acts_of_exchange}
use Rattle.sctp_assoc.specs.Happened.{acts_of_poll, acts_of_timeouts, forwards_of_poll, marks_if}
use Rattle.sctp_assoc.specs.Inbound.{taken_packet}
use Rattle.sctp_sides.specs.Meeting.{Greets, GreetsOn, HasCome, IsAsFarOn, IsEstablished, IsNoEarlier, IsTruthful}
use Rattle.sctp_sides.specs.Meeting.{Stage, stage_of}
use Rattle.sctp_assoc.specs.Gather.{AreControlReadAgain, WaitPlainly, control_polled, is_due, open_polled, polled}
use Rattle.sctp_assoc.specs.Gather.{without_control}
use Rattle.sctp_directions.specs.Reports.{SaysWhatWasTaken}
use Rattle.sctp_assoc.specs.Probes.{is_probing, opens_window}
use Rattle.sctp_assoc.specs.ResetActs.{acts_of_draining}
use Rattle.sctp_assoc.specs.Shown.{Shown, uses_forward_tsn}
use Rattle.sctp_assoc.specs.Shutdown.{completes_shutdown, endpoint_event_polled, shutdown_begun, shutdown_refusal}
use Rattle.sctp_assoc.specs.Skipping.{skips_of}
use Rattle.sctp_assoc.specs.Timeouts.{after_timeouts}
use Rattle.sctp_assoc.specs.declared.control.Control.TheVariants as controls
use Rattle.sctp_assoc.specs.declared.control.ControlPacket.{ControlPacket}
use Rattle.sctp_resets.specs.Within.{ResetsOver}
use Rattle.sctp_sides.specs.NoReset.{HasNoReset, IsNoReconfig, control_packets}
use Rattle.sctp_sides.specs.PastSpan.{AsksPast, EndsPast, ResetsPast, ResetsPastOnly}

-- Status

-- Whether it failed, its state, whether it was lost, its payload size, its side and its handshake are as they were, and
-- what waits to go out is truthful where it was.
pub record IsSameStatus (a b : Shown) : Type 0 where
  pub failed : b.failed ≡ a.failed
  pub state : b.state ≡ a.state
  pub lost : b.lost ≡ a.lost
  pub size : b.sender.max_payload_size ≡ a.sender.max_payload_size
  pub side : b.side ≡ a.side
  pub handshake : b.handshake ≡ a.handshake
  pub truthful : (own : ℕ) → IsTruthful own a → IsTruthful own b

-- The same, but for a shutdown that goes on: a state past the handshake may be another one that is.
pub record KeepsTheStage (a b : Shown) : Type 0 where
  pub failed : b.failed ≡ a.failed
  pub state : IsAsFarOn a.state b.state
  pub lost : b.lost ≡ a.lost
  pub size : b.sender.max_payload_size ≡ a.sender.max_payload_size
  pub side : b.side ≡ a.side
  pub handshake : b.handshake ≡ a.handshake
  pub truthful : (own : ℕ) → IsTruthful own a → IsTruthful own b

-- Where the status is the same, so is the stage.
abbrev pub TheSameStatusIsTheSameStage : Type 0
TheSameStatusIsTheSameStage = (a b : Shown) → IsSameStatus a b → KeepsTheStage a b

-- A side with the same handshake is in the same stage; where its state is as far on, the handshake has come as far.
abbrev pub TheSameHandshakeIsTheSameStage : Type 0
TheSameHandshakeIsTheSameStage = (a b : Shown) → b.side ≡ a.side → b.handshake ≡ a.handshake
    → (stage_of b ≡ stage_of a) × (IsAsFarOn a.state b.state → HasCome a → HasCome b)

-- From Established on, until the association is closed, the handshake is complete, and the peer's initial TSN is known.
abbrev pub EstablishedSidesTalk : Type 0
EstablishedSidesTalk = (a : Shown) → is_beginning a.state ≡ false → HasCome a → IsEstablished a

-- What a side said of itself stays so in its later stages.
abbrev pub GreetingsStayTrue : Type 0
GreetingsStayTrue = (own : ℕ) (s t : Stage) (chunk : Chunk) → IsNoEarlier s t → Greets own s chunk → Greets own t chunk

-- The application's calls, timers and polls that are carried out leave the status. Events that are told and timers
-- leave the streams, too.
abbrev pub OpenedStreamsKeepTheStatus : Type 0
OpenedStreamsKeepTheStatus = (a : Shown) (id : ℕ) (kind : PayloadProtocolIdentifier) → IsSameStatus a (opened a id kind)

abbrev pub WritesKeepTheStatus : Type 0
WritesKeepTheStatus = (a : Shown) (id : ℕ) (named : Option PayloadProtocolIdentifier) (bytes : List ℕ)
    → IsSameStatus a (written a id named bytes)

abbrev pub SettingsKeepTheStatus : Type 0
SettingsKeepTheStatus = (a : Shown) (id : ℕ) (setting : Setting) → IsSameStatus a (adjusted a id setting)

abbrev pub LimitsKeepTheStatus : Type 0
LimitsKeepTheStatus = (a : Shown) (size : ℕ)
    → IsSameStatus a (with_max_send_message_size a size) × ((with_max_send_message_size a size).streams ≡ a.streams)

-- a stream that is accepted changes nothing else, no stream neither
abbrev pub AcceptedStreamsKeepTheStatus : Type 0
AcceptedStreamsKeepTheStatus =
    (a : Shown) → IsSameStatus a (accepted_stream a).0 × ((accepted_stream a).0.streams ≡ a.streams)

-- the association as a read leaves it, before it is seen whether the receive buffer is exhausted or the window opened:
-- generations of the stream that ended and are read to their end are over
abbrev pub with_read : Shown → ℕ → Shown
with_read a id = drained_behind a id (read_in a.streams id).0

-- it gives a message, and the window that opens by that is told
abbrev pub read_tells : Shown → ℕ → Bool
read_tells a id = is_some (read_in a.streams id).1 && tells_window (credit_in a) (with_read a id)

-- A read leaves the status, unless it leaves the receive buffer exhausted, and then that is what closes. Else no more
-- is done than that the window is told where it opens.
pub record ReadsOn (a : Shown) (id : ℕ) : Type 0 where
  pub same : IsSameStatus a (with_read a id)
  pub plainly : read_exhausts a id ≡ false → (read_from_stream a id).0 ≡ told_if (read_tells a id) (with_read a id)
  pub exhausts : read_exhausts a id ≡ true → (read_from_stream a id).0 ≡ exhausted (with_read a id)
  pub given : (read_from_stream a id).1 ≡ (read_in a.streams id).1

abbrev pub ReadsKeepTheStatus : Type 0
ReadsKeepTheStatus = (a : Shown) (id : ℕ) → ReadsOn a id

-- Up to there it leads on by the read and by the ends of generations that are read to their end.
abbrev pub ReadsLeadOn : Type 0
ReadsLeadOn =
    (a : Shown) (id : ℕ) → LeadsOn (Act.WasRead id ∷ acts_of_draining a id (read_in a.streams id).0) a (with_read a id)

-- Where resets concern streams past their span alone, these ends are of such streams, and no more are concerned.
abbrev pub ReadsEndPast : Type 0
ReadsEndPast = (over : ℕ → Bool) (a : Shown) (id : ℕ) → ResetsPastOnly over a
    → AllByRecursion (EndsPast over) (acts_of_draining a id (read_in a.streams id).0)
    × ResetsPastOnly over (with_read a id)

-- A stop of a stream ends its span and leaves the status, unless it leaves the receive buffer exhausted, and then that
-- is what closes; else a window that it opened is told. Where the read half is closed already nothing changes.
pub record StopsOn (a : Shown) (id : ℕ) : Type 0 where
  pub same : IsSameStatus a (stopped_open a id)
  pub leads : LeadsOn (Act.SpansEnded (id ∷ []) (stopped_open a id).streams ∷ []) a (stopped_open a id)
  pub others : (s : ℕ) → (s == id) ≡ false → stream_at (stopped_open a id).streams s ≡ stream_at a.streams s
  pub either : (stopped a id ≡ a)
      ⊎ ((stopped a id ≡ told_if (tells_window (credit_in a) (stopped_open a id)) (stopped_open a id))
      ⊎ (stopped a id ≡ exhausted (stopped_open a id)))

abbrev pub StopsKeepTheStatus : Type 0
StopsKeepTheStatus = (a : Shown) (id : ℕ) → StopsOn a id

-- Before it is seen whether the receive buffer is exhausted, resets concern that stream and no other that is not past
-- its span.
abbrev pub OpenStopsResetThatStream : Type 0
OpenStopsResetThatStream = (over : ℕ → Bool) (a : Shown) (id : ℕ) → over id ≡ true → ResetsPastOnly over a
    → ResetsPastOnly over (stopped_open a id)

-- Where no reset is under way a stream is stopped in Established alone, or its read half was closed.
abbrev pub StopsAreInEstablished : Type 0
StopsAreInEstablished = (a : Shown) (id : ℕ) → HasNoReset a → stop_refusal a id ≡ None
    → (stopped a id ≡ a) ⊎ (is_established a.state ≡ true)

-- Where no reset is under way, it leaves whatever else but streams, too.
abbrev pub ReadsChangeStreamsAlone : Type 0
ReadsChangeStreamsAlone =
    (a : Shown) (id : ℕ) → HasNoReset a → with_read a id ≡ record a { streams = (read_in a.streams id).0 }

abbrev pub ToldEventsKeepTheStatus : Type 0
ToldEventsKeepTheStatus =
    (a b : Shown) (event : Option Event) → event_polled a ≡ (b, event) → IsSameStatus a b × (b.streams ≡ a.streams)

abbrev pub TimersKeepTheStatus : Type 0
TimersKeepTheStatus =
    (a : Shown) (now : ℕ) → IsSameStatus a (after_timeouts a now) × ((after_timeouts a now).streams ≡ a.streams)

-- What the endpoint is told leaves the status and the streams.
abbrev pub EndpointEventsKeepTheStatus : Type 0
EndpointEventsKeepTheStatus =
    (a : Shown) → IsSameStatus a (endpoint_event_polled a).0 × ((endpoint_event_polled a).0.streams ≡ a.streams)

-- A shutdown that begins leaves the stage and the streams.
abbrev pub ShutdownsKeepTheStage : Type 0
ShutdownsKeepTheStage = (a : Shown) → shutdown_refusal a ≡ None
    → KeepsTheStage a (shutdown_begun a) × ((shutdown_begun a).streams ≡ a.streams)

-- What was not refused

-- A stream is live, of an association that works.
pub record IsLive (a : Shown) (id : ℕ) : Type 0 where
  pub working : a.failed ≡ false
  pub stream : StreamView
  pub there : stream_at a.streams id ≡ Some stream

-- A stream that is found is live.
abbrev pub FoundStreamsAreLive : Type 0
FoundStreamsAreLive = (a : Shown) (id : ℕ) → stream_refusal a id ≡ None → IsLive a id

-- no stream of this identifier is live
abbrev pub IsNotLive : Shown → ℕ → Type 0
IsNotLive a id = stream_at a.streams id ≡ None

-- A stream that is opened was not.
abbrev pub OpenedStreamsWereNotLive : Type 0
OpenedStreamsWereNotLive = (a : Shown) (id : ℕ) → open_refusal a id ≡ None → (a.failed ≡ false) × IsNotLive a id

-- What an accepted write of this size had: a live stream, an association in Established, and a byte at least.
pub record WasWritable (a : Shown) (id size : ℕ) : Type 0 where
  pub live : IsLive a id
  pub established : is_established a.state ≡ true
  pub some : 0 < size

-- A write that nothing refuses has these. (That it is accepted needs more: `write_refusal`, and memory.)
abbrev pub AcceptedWritesFit : Type 0
AcceptedWritesFit = (a : Shown) (id size : ℕ) → write_refusal a id size ≡ None → WasWritable a id size

-- Streams that hold nothing

-- no live stream holds anything that came
abbrev pub HoldsNothing : Shown → Type 0
HoldsNothing a = (id : ℕ) (t : StreamView) → stream_at a.streams id ≡ Some t → t.reassembly ≡ empty_reassembly

-- A stream that is opened holds nothing, and the others are as they were.
abbrev pub OpenedStreamsHoldNothing : Type 0
OpenedStreamsHoldNothing =
    (a : Shown) (id : ℕ) (kind : PayloadProtocolIdentifier) → IsNotLive a id → HoldsNothing a
    → HoldsNothing (opened a id kind)

-- So where something is set on a stream.
abbrev pub SettingsHoldNothing : Type 0
SettingsHoldNothing = (a : Shown) (id : ℕ) (setting : Setting) → HoldsNothing a → HoldsNothing (adjusted a id setting)

-- A read where no stream holds anything gives nothing, and leaves it so where no reset is under way.
abbrev pub WhatHoldsNothingGivesNothing : Type 0
WhatHoldsNothingGivesNothing = (a : Shown) (id : ℕ) → HasNoReset a → IsLive a id → HoldsNothing a
    → ((read_from_stream a id).1 ≡ None) × HoldsNothing (read_from_stream a id).0

-- The chunks of a packet

-- What any chunk leaves: whether it failed, whether it was lost, and its payload size.
pub record KeepsWorking (a b : Shown) : Type 0 where
  pub failed : b.failed ≡ a.failed
  pub lost : b.lost ≡ a.lost
  pub size : b.sender.max_payload_size ≡ a.sender.max_payload_size

-- What a chunk leaves: DATA, FORWARD TSNs and RE-CONFIGs leave the status, and SACKs the stage, since a shutdown may
-- wait for one.
abbrev pub Leaves : Chunk → Shown → Shown → Type 0
Leaves (chunks.Data piece) a b = IsSameStatus a b
Leaves (chunks.SelectiveAck sack) a b = KeepsTheStage a b
Leaves (chunks.ForwardTsn forward) a b = IsSameStatus a b
Leaves (chunks.IForwardTsn forward) a b = IsSameStatus a b
Leaves (chunks.Reconfig reconfig) a b = IsSameStatus a b
Leaves chunk a b = KeepsWorking a b

-- A chunk of a packet with this header made b of the association a: by its acts, and where it is one of a handshake,
-- that goes on.
pub record TakesChunk (header : CommonHeader) (chunk : Chunk) (a b : Shown) : Type 0 where
  pub leads : LeadsOn (acts_of_chunk a header chunk) a b
  pub leaves : Leaves chunk a b
  pub greets : GreetsOn header chunk a b

-- Each chunk leads on by its acts.
abbrev pub ChunksLeadOn : Type 0
ChunksLeadOn =
    (header : CommonHeader) (chunk : Chunk) (a : Shown) (trigger : AckTrigger) (now : ℕ)
    → TakesChunk header chunk a (on_chunk a header chunk trigger now).0

-- A packet without a fault came to its end: the directions see nothing of it.
pub record EndsPacket (a b : Shown) : Type 0 where
  pub leads : LeadsOn [] a b
  pub same : IsSameStatus a b

-- The acknowledgement that a packet asks for at its end is no act (RFC 4960 section 6.2).
abbrev pub PacketsEnd : Type 0
PacketsEnd = (a : Shown) (trigger : AckTrigger) (now : ℕ) → EndsPacket a (ended a trigger now)

-- It is closed and lost, no stream is live, and nothing waits to go out.
pub record IsEnded (b : Shown) : Type 0 where
  pub closed : is_closed_state b.state ≡ true
  pub unestablished : is_established b.state ≡ false
  pub lost : b.lost ≡ true
  pub none_live : (id : ℕ) → IsNotLive b id
  pub holds_nothing : HoldsNothing b
  pub silent : b.control ≡ []

-- A fault closed an open association; a closed one stayed as it was.
pub record Closes (a b : Shown) : Type 0 where
  pub failed : b.failed ≡ a.failed
  pub side : b.side ≡ a.side
  pub handshake : b.handshake ≡ a.handshake
  pub truthful : (own : ℕ) → IsTruthful own a → IsTruthful own b
  pub ends : is_closed_state a.state ≡ false → IsEnded b
  pub stays : is_closed_state a.state ≡ true → b ≡ a

-- It is closed and lost, and no stream is live; what waits to go out is truthful where it was before the close.
pub record IsOver (b : Shown) : Type 0 where
  pub closed : is_closed_state b.state ≡ true
  pub unestablished : is_established b.state ≡ false
  pub lost : b.lost ≡ true
  pub none_live : (id : ℕ) → IsNotLive b id
  pub holds_nothing : HoldsNothing b

-- An exhausted receive buffer closed an open association; a closed one has an ABORT more to send, and stayed as it was
-- but for that.
pub record Exhausts (a b : Shown) : Type 0 where
  pub failed : b.failed ≡ a.failed
  pub side : b.side ≡ a.side
  pub handshake : b.handshake ≡ a.handshake
  pub truthful : (own : ℕ) → IsTruthful own a → IsTruthful own b
  pub ends : is_closed_state a.state ≡ false → IsOver b
  pub stays : is_closed_state a.state ≡ true → LeadsOn [] a b × IsSameStatus a b × (b.streams ≡ a.streams)

-- What an exhausted receive buffer leaves of an association.
abbrev pub ExhaustionCloses : Type 0
ExhaustionCloses = (a : Shown) → Exhausts a (exhausted a)

-- What a close leaves of an association.
abbrev pub FaultsClose : Type 0
FaultsClose = (a : Shown) (reason : AssociationError) → Closes a (closed_by a reason)

-- A poll leaves the stage up to the chunk of a shutdown that goes out last, and by that chunk, unless that is SHUTDOWN
-- COMPLETE: that closes, as a fault does.
pub record PollsOnward (a : Shown) (now : ℕ) : Type 0 where
  pub front : KeepsTheStage a (open_polled a now).0
  pub same : completes_shutdown (open_polled a now).0 ≡ false → KeepsTheStage a (polled a now).0
  pub closes : completes_shutdown (open_polled a now).0 ≡ true → Closes (open_polled a now).0 (polled a now).0
  pub was_open : completes_shutdown (open_polled a now).0 ≡ true → is_closed_state (open_polled a now).0.state ≡ false
  pub no_reset : completes_shutdown (open_polled a now).0 ≡ true → HasNoReset (polled a now).0

abbrev pub PollsKeepTheStage : Type 0
PollsKeepTheStage = (a : Shown) (now : ℕ) → PollsOnward a now

-- Established is a state of its own (RFC 4960 section 4).
abbrev pub EstablishedIsNotClosed : Type 0
EstablishedIsNotClosed = (a : Shown) → is_established a.state ≡ true → is_closed_state a.state ≡ false

-- In Closed no DATA is exchanged, and no shutdown goes on.
abbrev pub ClosedSidesExchangeNothing : Type 0
ClosedSidesExchangeNothing = (a : Shown) → is_closed_state a.state ≡ true
    → (exchanges_data a.state ≡ false) × (is_closing a.state ≡ false)

-- An association that was lost takes nothing, and where nothing came nothing changes.
abbrev pub LostAssociationsTakeNothing : Type 0
LostAssociationsTakeNothing =
    (a : Shown) (packet : Option Packet) (now : ℕ) → a.lost ≡ true → after_packet a packet now ≡ a

abbrev pub NoPacketChangesNothing : Type 0
NoPacketChangesNothing = (a : Shown) (now : ℕ) → after_packet a None now ≡ a

-- The acts of chunks

-- DATA made its stream, and no more.
pub record OpensOnly (a : Shown) (piece : ChunkPayloadData) (acts : List Act) : Type 0 where
  pub first : ℕ
  pub kind : PayloadProtocolIdentifier
  pub none : IsNotLive a piece.stream_identifier
  pub are : acts ≡ Act.Opened piece.stream_identifier first kind ∷ []

-- It made its stream and was taken in.
pub record OpensAndTakes (a : Shown) (piece : ChunkPayloadData) (acts : List Act) : Type 0 where
  pub first : ℕ
  pub kind : PayloadProtocolIdentifier
  pub stream : StreamView
  pub none : IsNotLive a piece.stream_identifier
  pub live : stream_at (made a.streams piece.stream_identifier first kind) piece.stream_identifier ≡ Some stream
  pub are : acts ≡ Act.Opened piece.stream_identifier first kind ∷ Act.Took piece ∷ []

-- It was taken in by a live stream.
pub record TakesOnly (a : Shown) (piece : ChunkPayloadData) (acts : List Act) : Type 0 where
  pub stream : StreamView
  pub live : stream_at a.streams piece.stream_identifier ≡ Some stream
  pub are : acts ≡ Act.Took piece ∷ []

-- It was taken in, and did not go to its stream, which is past its span: it was kept apart, or nobody reads the stream.
pub record DefersOnly (over : ℕ → Bool) (piece : ChunkPayloadData) (acts : List Act) : Type 0 where
  pub past : over piece.stream_identifier ≡ true
  pub are : acts ≡ Act.Deferred piece ∷ []

-- it did one of these, or nothing
abbrev pub IsTaking : (ℕ → Bool) → Shown → ChunkPayloadData → List Act → Type 0
IsTaking over a piece acts =
    (acts ≡ [])
    ⊎ (OpensOnly a piece acts ⊎ (OpensAndTakes a piece acts ⊎ (TakesOnly a piece acts ⊎ DefersOnly over piece acts)))

-- Such acts, and behind them ends of spans that were over before.
pub record WithEndsBehind (over : ℕ → Bool) (Are : List Act → Type 0) (acts : List Act) : Type 0 where
  pub front : List Act
  pub front_are : Are front
  pub behind : List Act
  pub behind_are : AllByRecursion (EndsPast over) behind
  pub are : acts ≡ front ++ behind

-- DATA may make its stream first, and may be taken in by it, or without going to it where it is past its span; behind
-- that, streams past their span may change, and nothing else (RFC 4960 section 6.2, RFC 6525 section 5.2.2). That
-- resets concern such streams alone, and that all others can be read, is said of the association.
abbrev pub DataOpensOrTakes : Type 0
DataOpensOrTakes =
    (over : ℕ → Bool) (a : Shown) (header : CommonHeader) (piece : ChunkPayloadData) → ResetsOver over a.resets
    → ((s : ℕ) → over s ≡ false → HasReadOpen a.streams s)
    → WithEndsBehind over (IsTaking over a piece) (acts_of_chunk a header (chunks.Data piece))

-- A RE-CONFIG that names streams past their span changes such streams alone.
abbrev pub ReconfigsEndPast : Type 0
ReconfigsEndPast =
    (over : ℕ → Bool) (a : Shown) (header : CommonHeader) (reconfig : ChunkReconfig) → ResetsOver over a.resets
    → ResetsPast over (chunks.Reconfig reconfig)
    → AllByRecursion (EndsPast over) (acts_of_chunk a header (chunks.Reconfig reconfig))

-- The first pieces in flight are acknowledged, so many that the cumulative TSN ack is the TSN before that of the next
-- one, and of those behind them the ones that the gap ack blocks name; some may be reported missing. Behind that all
-- that is outstanding may be marked to be sent again.
pub record IsAcknowledging (a : Shown) (h : History) (sack : ChunkSelectiveAck) (acts : List Act) : Type 0 where
  pub count : ℕ
  pub missing : Reports
  pub marked : Bool
  pub are : acts ≡ Act.Acknowledged count sack.gap_ack_blocks missing ∷ marks_if marked
  pub within : count ≤ length a.sender.queue.in_flight
  pub at : sack.cumulative_tsn_ack % 2 ^ 32 ≡ tsn_before (tsn h.own (h.base + count))

-- A SACK acknowledges what its cumulative TSN ack and its gap ack blocks say, or nothing (RFC 4960 section 6.2.1).
abbrev pub SacksAcknowledge : Type 0
SacksAcknowledge = (a : Shown) (h : History) (header : CommonHeader) (sack : ChunkSelectiveAck) → Binds a h
    → (acts_of_chunk a header (chunks.SelectiveAck sack) ≡ [])
    ⊎ IsAcknowledging a h sack (acts_of_chunk a header (chunks.SelectiveAck sack))

-- A SACK names the TSN of the last of the first so many pieces in flight, or with none of them the acknowledged point.
-- They are fewer than half of all TSNs. Each offset that its gap ack blocks name is that of a piece in flight: offsets
-- count from the cumulative TSN ack, so the piece behind it is at 1.
pub record NamesTheSent (a : Shown) (h : History) (sack : ChunkSelectiveAck) (count : ℕ) : Type 0 where
  pub within : count ≤ length a.sender.queue.in_flight
  pub near : count < 2 ^ 31
  pub at : sack.cumulative_tsn_ack ≡ tsn_before (tsn h.own (h.base + count))
  pub named : (offset : ℕ) → is_named offset sack.gap_ack_blocks ≡ true
      → (0 < count + offset) × (count + offset ≤ length a.sender.queue.in_flight)

-- As long as DATA may be unacknowledged, in Established and in a shutdown until SHUTDOWN or SHUTDOWN ACK is due, such a
-- SACK acknowledges exactly these pieces, and those that its gap ack blocks name (RFC 4960 section 6.2.1). One that
-- opens the peer's window marks all that is outstanding then.
abbrev pub TakenSacksAcknowledge : Type 0
TakenSacksAcknowledge = (a : Shown) (h : History) (header : CommonHeader) (sack : ChunkSelectiveAck) (count : ℕ)
    → sends_data a.state ≡ true → Binds a h → NamesTheSent a h sack count
    → acts_of_chunk a header (chunks.SelectiveAck sack)
    ≡ Act.Acknowledged count sack.gap_ack_blocks
    (reports_of a.sender sack.cumulative_tsn_ack sack.gap_ack_blocks)
    ∷ marks_if (opens_window (is_probing a.profile a.sender) sack.advertised_receiver_window_credit)

-- In any other state a SACK acknowledges nothing, and neither does one whose cumulative TSN ack lies behind the
-- acknowledged one.
abbrev pub OtherSacksDoNothing : Type 0
OtherSacksDoNothing = (a : Shown) (h : History) (header : CommonHeader) (sack : ChunkSelectiveAck) → Binds a h
    → (sends_data a.state ≡ false) ⊎ (tsn_gt (tsn_before (tsn h.own h.base)) sack.cumulative_tsn_ack ≡ true)
    → acts_of_chunk a header (chunks.SelectiveAck sack) ≡ []

-- The peer's initial TSN became known, or nothing did.
abbrev pub IsPeerKnown : ChunkInit → List Act → Type 0
IsPeerKnown init acts = (acts ≡ []) ⊎ (acts ≡ Act.PeerKnown init.initial_tsn ∷ [])

-- INIT and INIT ACK tell the peer's initial TSN, or do nothing to the directions (RFC 4960 section 5.1).
abbrev pub GreetingsMakeThePeerKnown : Type 0
GreetingsMakeThePeerKnown = (a : Shown) (header : CommonHeader) (init : ChunkInit)
    → IsPeerKnown init (acts_of_chunk a header (chunks.Init init))
    × IsPeerKnown init (acts_of_chunk a header (chunks.InitAck init))

-- a stream is opened
abbrev pub IsOpened : Act → Type 0
IsOpened (Act.Opened id first kind) = ⊤
IsOpened act = ⊥

-- all up to a TSN was passed over, with these skips of ordered messages, and before that streams were opened
pub record PassesOver (tsn : ℕ) (skipped : List SkippedStream) (acts : List Act) : Type 0 where
  pub opened : List Act
  pub opened_are : AllByRecursion IsOpened opened
  pub are : acts ≡ opened ++ Act.PassedOver tsn skipped ∷ []

-- so it was, or nothing was
abbrev pub IsPassingOver : ℕ → List SkippedStream → List Act → Type 0
IsPassingOver tsn skipped acts = (acts ≡ []) ⊎ PassesOver tsn skipped acts

-- A FORWARD TSN passes over what it says, or does nothing to the directions (RFC 3758 section 3.6); so does an
-- I-FORWARD-TSN, of which the entries of ordered messages count (RFC 8260 section 2.3.1). Before that streams may be
-- opened, and behind it, streams past their span may change.
abbrev pub ForwardsPassOver : Type 0
ForwardsPassOver =
    (over : ℕ → Bool) (a : Shown) (header : CommonHeader) (forward : ChunkForwardTsn) → ResetsOver over a.resets
    → WithEndsBehind over (IsPassingOver forward.new_cumulative_tsn forward.streams)
    (acts_of_chunk a header (chunks.ForwardTsn forward))

abbrev pub IForwardsPassOver : Type 0
IForwardsPassOver =
    (over : ℕ → Bool) (a : Shown) (header : CommonHeader) (forward : ChunkIForwardTsn) → ResetsOver over a.resets
    → WithEndsBehind over (IsPassingOver forward.new_cumulative_tsn (skips_of forward.entries))
    (acts_of_chunk a header (chunks.IForwardTsn forward))

-- Where FORWARD TSN isn't in use it does nothing to the directions.
abbrev pub UnusedForwardsDoNothing : Type 0
UnusedForwardsDoNothing = (a : Shown) (header : CommonHeader) (forward : ChunkForwardTsn) → uses_forward_tsn a ≡ false
    → acts_of_chunk a header (chunks.ForwardTsn forward) ≡ []

-- What it passes over lies ahead of all that came in order, and FORWARD TSN is in use.
pub record CouldPassOver (a : Shown) (h : History) (tsn : ℕ) : Type 0 where
  pub used : uses_forward_tsn a ≡ true
  pub ahead : IsAhead h tsn

abbrev pub OnlyForwardsAheadPassOver : Type 0
OnlyForwardsAheadPassOver = (a : Shown) (h : History) (header : CommonHeader) (forward : ChunkForwardTsn)
    (opened behind : List Act) → Binds a h → AllByRecursion IsOpened opened
    → acts_of_chunk a header (chunks.ForwardTsn forward)
    ≡ opened ++ Act.PassedOver forward.new_cumulative_tsn forward.streams ∷ behind
    → CouldPassOver a h forward.new_cumulative_tsn

-- none of DATA, SACK, FORWARD TSN and RE-CONFIG, nor one that tells an initial TSN
abbrev pub IsOther : Chunk → Type 0
IsOther (chunks.Data piece) = ⊥
IsOther (chunks.SelectiveAck sack) = ⊥
IsOther (chunks.Init init) = ⊥
IsOther (chunks.InitAck init) = ⊥
IsOther (chunks.ForwardTsn forward) = ⊥
IsOther (chunks.IForwardTsn forward) = ⊥
IsOther (chunks.Reconfig reconfig) = ⊥
IsOther chunk = ⊤

-- Any other chunk does nothing to the directions, unless it is a fault or ends a shutdown, and closes.
abbrev pub OtherChunksDoNothing : Type 0
OtherChunksDoNothing =
    (a : Shown) (header : CommonHeader) (chunk : Chunk) → IsOther chunk → acts_of_chunk a header chunk ≡ []

-- The acts of a poll and of timeouts

-- acts that give messages up, or give out DATA again: the times of messages run, messages are abandoned or dropped, and
-- pieces in flight go out again
abbrev pub GivesUpOrAgain : Act → Type 0
GivesUpOrAgain (Act.Started now) = ⊤
GivesUpOrAgain (Act.Abandoned index) = ⊤
GivesUpOrAgain Act.TailAbandoned = ⊤
GivesUpOrAgain (Act.Dropped k) = ⊤
GivesUpOrAgain (Act.SentAgain at_once by index) = ⊤
GivesUpOrAgain act = ⊥

-- acts that give out new DATA
abbrev pub GivesNew : Act → Type 0
GivesNew (Act.Sent at_once now) = ⊤
GivesNew act = ⊥

-- an acknowledgement is due
abbrev pub reports : Shown → Bool
reports a = is_due a.receiver.ack_state

-- Acts that give messages up and give out DATA again, then acts that give out new DATA, a report where one is due, and
-- at last a FORWARD TSN where it is given.
pub record IsPolling (a : Shown) (forwards : Bool) (acts : List Act) : Type 0 where
  pub old : List Act
  pub old_are : AllByRecursion GivesUpOrAgain old
  pub new : List Act
  pub new_are : AllByRecursion GivesNew new
  pub are : acts ≡ old ++ new ++ (if reports a then Act.Reported ∷ [] else [])
      ++ (if forwards then Act.Forwarded ∷ [] else [])

-- A poll in Established, or in a shutdown until SHUTDOWN ACK is due, gives up what is to be given up, gives DATA,
-- reports where that is due, and says what is given up where that is (RFC 4960 sections 6.1, 6.2 and 9.2, RFC 3758
-- section 3.5).
abbrev pub PollsGiveAndReport : Type 0
PollsGiveAndReport = (a : Shown) (now : ℕ) → exchanges_data a.state ≡ true
    → IsPolling a (forwards_of_poll a now) (acts_of_exchange a now)

-- In any other state the front of a poll does nothing to the directions.
abbrev pub OtherPollsDoNothingInFront : Type 0
OtherPollsDoNothingInFront = (a : Shown) (now : ℕ) → exchanges_data a.state ≡ false → acts_of_exchange a now ≡ []

-- Behind those acts a poll closes where it gives SHUTDOWN COMPLETE, and else does nothing more.
abbrev pub PollsEndLast : Type 0
PollsEndLast = (a : Shown) (now : ℕ) → acts_of_poll a now ≡ acts_of_exchange a now
    ++ (if completes_shutdown (open_polled a now).0 then Act.Ended ∷ [] else [])

-- Up to the chunk of a shutdown that goes out last a poll leads on by those acts, and its packets say what they give.
abbrev pub PollsLeadOnInFront : Type 0
PollsLeadOnInFront = (a b : Shown) (now : ℕ) (packets : List (List ℕ)) → polled a now ≡ (b, packets)
    → PollsOn (acts_of_poll a now) (forwards_of_poll a now) a b packets
    → PollsOn (acts_of_exchange a now) (forwards_of_poll a now) a (open_polled a now).0 packets

-- Where DATA is not exchanged and no shutdown goes on, a poll gives what waits to go out, and nothing else, if no reset
-- is under way.
abbrev pub PollsOutsideAnExchangeGiveWhatWaits : Type 0
PollsOutsideAnExchangeGiveWhatWaits =
    (a : Shown) (now : ℕ) → HasNoReset a → exchanges_data a.state ≡ false → is_closing a.state ≡ false
    → polled a now ≡ (without_control a, control_packets a.control)

-- of what a datagram spells, if it spells a packet, each chunk is so
abbrev pub OfEachChunk : (Chunk → Type 0) → Option Packet → Type 0
OfEachChunk Is None = ⊤
OfEachChunk Is (Some packet) = AllByRecursion Is packet.chunks

-- a chunk that waited to go out in a packet of its own
abbrev pub IsWaitingToGo : Shown → Chunk → Type 0
IsWaitingToGo a chunk =
    (k : ℕ) × (c : ControlPacket) × (slice_get a.control k ≡ Some (controls.Packet c)) × (c.chunk ≡ chunk)

-- a chunk that these acts of a poll, which left b, give out: their DATA; where a report is due, a SACK that says what
-- came; and where FORWARD TSN is given, that of what is in flight then
abbrev pub IsExchanged : List Act → Bool → Shown → Shown → History → Chunk → Type 0
IsExchanged acts forwards a b h (chunks.Data piece) =
    (k : ℕ) × (slice_get (all_data_given acts (parts a h)) k ≡ Some piece)
IsExchanged acts forwards a b h (chunks.SelectiveAck sack) =
    (reports a ≡ true) × SaysWhatWasTaken h.peer (reach_in h) h.taken sack
IsExchanged acts forwards a b h (chunks.ForwardTsn forward) = (forwards ≡ true) × (forward ≡ forward_of b.sender)
IsExchanged acts forwards a b h chunk = ⊥

-- one that waited to go out, one of these chunks while DATA is exchanged, a request of this side to reset streams past
-- their span, or a chunk of a shutdown
abbrev pub IsGivenBy : (ℕ → Bool) → List Act → Bool → Shown → Shown → History → Chunk → Type 0
IsGivenBy over acts forwards a b h chunk =
    IsWaitingToGo a chunk
    ⊎ (((exchanges_data a.state ≡ true) × IsExchanged acts forwards a b h chunk)
    ⊎ (AsksPast over chunk ⊎ IsOfShutdown chunk))

-- The packets of a poll are of such chunks alone, in whatever state, where its resets concern streams past their span
-- alone.
abbrev pub PollsSayTheirActs : Type 0
PollsSayTheirActs = (over : ℕ → Bool) (acts : List Act) (forwards : Bool) (a b : Shown) (h : History)
    (packets : List (List ℕ))
    → ResetsOver over a.resets → WaitPlainly a → AreControlReadAgain a.control
    → AllByRecursion (IsOfControl a) (control_polled a).1 → Binds a h
    → Polls acts forwards a h b packets
    → AllByRecursion
    (λ (bytes : List ℕ). OfEachChunk (IsGivenBy over acts forwards a b h) (taken_packet (packet_at bytes))) packets

-- None of these chunks is RE-CONFIG where no reset is under way, as none concerns a stream then.
abbrev pub NoResetGoesOut : Type 0
NoResetGoesOut = (acts : List Act) (forwards : Bool) (a b : Shown) (h : History) (chunk : Chunk) → HasNoReset a
    → IsGivenBy (λ (s : ℕ). false) acts forwards a b h chunk → IsNoReconfig chunk

-- What waits goes out in packets of those chunks alone.
abbrev pub WhatWaitsGoesOutAsItIs : Type 0
WhatWaitsGoesOutAsItIs = (a : Shown) → WaitPlainly a → AreControlReadAgain a.control
    → AllByRecursion (λ (bytes : List ℕ). OfEachChunk (IsWaitingToGo a) (taken_packet (packet_at bytes)))
    (control_packets a.control)

-- Timeouts at most mark all that is outstanding (RFC 4960 section 6.3.3).
abbrev pub TimeoutsMarkAtMost : Type 0
TimeoutsMarkAtMost = (a : Shown) (now : ℕ) → (acts_of_timeouts a now ≡ []) ⊎ (acts_of_timeouts a now ≡ Act.Marked ∷ [])
