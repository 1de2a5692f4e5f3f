-- Laws of one side: what follows from the equations of its calls, for whoever builds on it.
use Rattle.std.specs.Prelude.{◌≡◌, ◌⊎◌, ◌<◌, ◌≤◌, ℕ, ◌+◌, ◌-◌, ◌^◌, ◌&&◌, ◌||◌, ◌==◌, is_some, not, Bool, true, false}
use Rattle.std.specs.Prelude.{List}
use Rattle.std.specs.Prelude.{[], ◌∷◌, ◌++◌, length, slice_get, if◌then◌else◌, Option, Some, None}
use Rattle.std.specs.List.{AllByRecursion, list_any, sum_by}
use Rattle.sctp_wire_types.specs.declared.chunk.Chunk.{Chunk}
use Rattle.sctp_wire_types.specs.declared.chunk.Chunk.TheVariants as chunks
use Rattle.sctp_wire_types.specs.declared.chunk.ChunkPayloadData.{ChunkPayloadData}
use Rattle.sctp_wire_types.specs.declared.chunk.ChunkSelectiveAck.{ChunkSelectiveAck}
use Rattle.sctp_wire_types.specs.declared.ids.PayloadProtocolIdentifier.{PayloadProtocolIdentifier}
use Rattle.sctp_wire_types.specs.declared.packet.CommonHeader.{CommonHeader}
use Rattle.sctp_wire.specs.declared.packet.Packet.{Packet}
use Rattle.sctp_wire.specs.DataPackets.{all_of, data_packet}
use Rattle.sctp_wire.specs.Packets.{spelling}
use Rattle.sctp_parts.specs.declared.state.AssociationState.TheVariants as states
use Rattle.sctp_streams.specs.declared.event.AssociationError.{AssociationError}
use Rattle.sctp_streams.specs.declared.event.Event.{Event}
use Rattle.sctp_streams.specs.declared.setting.Setting.{Setting}
use Rattle.sctp_streams.specs.declared.event.Event.TheVariants as events
use Rattle.sctp_streams.specs.Stream.{is_read_half_open}
use Rattle.sctp_streams.specs.Streams.{stream_at}
use Rattle.sctp_outbound_queue.specs.Waiting.{Waiting}
use Rattle.sctp_outbound_queue.specs.Message.{is_expired, is_of, started}
use Rattle.sctp_outbound_queue.specs.Outbound.{Outbound, next_tsn_of, outstanding_of}
use Rattle.sctp_inbound.specs.declared.receiver.AckTrigger.{AckTrigger}
use Rattle.sctp_inbound.specs.declared.receiver.AckTrigger.TheVariants as triggers
use Rattle.sctp_inbound.specs.Handshake.{header_of}
use Rattle.sctp_inbound.specs.Receiver.{sack_of}
use Rattle.sctp_outbound.specs.Sender.{asks_at_once, next_chunk_of}
use Rattle.sctp_model.specs.Packets.{mem}
use Rattle.sctp_serial.specs.Serial.{tsn}
use Rattle.sctp_assoc.specs.declared.inbound.Flow.{Flow}
use Rattle.sctp_assoc.specs.declared.inbound.Flow.TheVariants as flows
use Rattle.sctp_assoc.specs.Leads.{Binds, parts}
use Rattle.sctp_directions.specs.Acts.{Act, History, all_data_given, reach_in}
use Rattle.sctp_fit.specs.Incoming.{tsn_before}
use Rattle.sctp_assoc.specs.Calls.{accepted_stream, adjusted, exchanges_data, is_established, opened}
use Rattle.sctp_assoc.specs.Calls.{read_exhausts, read_from_stream}
use Rattle.sctp_assoc.specs.Calls.{holds_of, stopped, stopped_open, with_max_send_message_size, written}
use Rattle.sctp_assoc.specs.Closing.{closed_by, is_closed_state, is_exhausted}
use Rattle.sctp_assoc.specs.Chunks.{after_packet, on_chunk}
use Rattle.sctp_assoc.specs.Happened.{acts_of_poll, forwards_of_poll}
use Rattle.sctp_assoc.specs.Gather.{control_polled, data_polled, is_due, packet_bytes, single_chunk_packet, polled}
use Rattle.sctp_assoc.specs.Gather.{forward_packet, open_polled, sack_chunk, sack_packet, shutdown_polled}
use Rattle.sctp_directions.specs.Reports.{SaysWhatWasTaken}
use Rattle.sctp_assoc.specs.Shown.{Shown, all_waiting, uses_forward_tsn}
use Rattle.sctp_assoc.specs.Shutdown.{completes_shutdown, endpoint_event_polled, shutdown_begun}
use Rattle.sctp_assoc.specs.Timeouts.{after_timeouts}

-- Sending

-- This message is the first of those that wait to be sent, and nothing is in flight.
pub record IsNextWithNothingInFlight (a : Shown) (m : Waiting) : Type 0 where
  pub others : List Waiting
  pub waits : a.sender.queue.pending ≡ m ∷ others
  pub flown : a.sender.queue.in_flight ≡ []

-- A poll at this moment does not give the message up: FORWARD TSN is not in use, or the message has no lifetime, or
-- that, which runs from the first poll on, is not over (RFC 3758 section 3.5).
abbrev pub IsNotLate : Shown → ℕ → Waiting → Type 0
IsNotLate a now m = uses_forward_tsn a ≡ true → is_expired now (started now m.message) ≡ false

-- The DATA of a poll then begins with that message's next piece, whatever the windows are (RFC 4960 section 6.1, rules
-- A and B), if the message is not given up and one DATA chunk has room for the piece.
abbrev pub WhatWaitsIsPolled : Type 0
WhatWaitsIsPolled = (a : Shown) (now : ℕ) (m : Waiting) → IsNextWithNothingInFlight a m → IsNotLate a now m
    → length m.user_data ≤ 65519
    → slice_get (all_of (data_polled a now).1) 0 ≡ Some (next_chunk_of (asks_at_once a.sender) m (next_tsn_of a.sender.queue))

-- In Established, and in a shutdown until SHUTDOWN ACK is due, its acts give that DATA, under the TSN of the first
-- offset that is not acknowledged.
abbrev pub WhatWaitsIsGiven : Type 0
WhatWaitsIsGiven = (a : Shown) (h : History) (now : ℕ) (m : Waiting) → exchanges_data a.state ≡ true → Binds a h
    → IsNextWithNothingInFlight a m → IsNotLate a now m
    → slice_get (all_data_given (acts_of_poll a now) (parts a h)) 0 ≡ Some (next_chunk_of (asks_at_once a.sender) m (tsn h.own h.base))

-- A piece that one DATA chunk has room for is the first chunk of the first packet that goes out behind those that wait
-- already, requests to reset streams among them; other DATA may be bundled with it (RFC 4960 section 6.10), of which
-- the acts of the poll say what it is.
abbrev pub PollsBeginWithWhatWaits : Type 0
PollsBeginWithWhatWaits = (a : Shown) (now : ℕ) (m : Waiting) → exchanges_data a.state ≡ true
    → IsNextWithNothingInFlight a m → IsNotLate a now m
    → length m.user_data ≤ 65519
    → (bundled : List ChunkPayloadData)
    × (slice_get (polled a now).1 (length (control_polled a).1) ≡ Some
    (spelling (data_packet (header_of a.handshake) (next_chunk_of (asks_at_once a.sender) m (next_tsn_of a.sender.queue) ∷ bundled))))

-- A packet of this DATA has one chunk, or at most so many bytes.
abbrev pub IsShortOrAlone : CommonHeader → ℕ → List ChunkPayloadData → Type 0
IsShortOrAlone header mtu cs = (length cs ≡ 1) ⊎ (length (spelling (data_packet header cs)) ≤ mtu)

-- Each packet of DATA that a poll gives has one chunk, or is at most `mtu` bytes long (RFC 4960 section
-- 6.10).
abbrev pub BundlesFitThePacket : Type 0
BundlesFitThePacket = (a : Shown) (now : ℕ)
    → AllByRecursion (IsShortOrAlone (header_of a.handshake) a.sender.mtu) (data_polled a now).1

-- A poll of which an act is a first sending leaves no more bytes outstanding than the congestion window has, or exactly
-- one piece in flight, as a probe is (RFC 4960 section 6.1, rules A and B). The window is a number of 32 bits, as
-- `Association::cwnd` is. Of the peer's window and of DATA that goes again this says nothing.
abbrev pub NewDataStaysInTheCongestionWindow : Type 0
NewDataStaysInTheCongestionWindow = (a : Shown) (at_once : Bool) (now index at : ℕ) → a.sender.congestion.cwnd < 2 ^ 32
    → slice_get (acts_of_poll a now) index ≡ Some (Act.Sent at_once at)
    → (outstanding_of (polled a now).0.sender.queue.in_flight ≤ (polled a now).0.sender.congestion.cwnd)
    ⊎ (length (polled a now).0.sender.queue.in_flight ≡ 1)

-- Keeping

-- a piece of this message waits to be sent or is in flight
abbrev pub is_held : Outbound → ℕ → Bool
is_held q number =
    list_any (λ (m : Waiting). m.message.message_id == number) q.pending || list_any (is_of number) q.in_flight

-- A message that a live stream accepted is held, under the number that was next.
abbrev pub WritesAreHeld : Type 0
WritesAreHeld = (a : Shown) (id : ℕ) (named : Option PayloadProtocolIdentifier) (bytes : List ℕ)
    → is_some (stream_at a.streams id) ≡ true
    → is_held (written a id named bytes).sender.queue a.sender.queue.next_message_id ≡ true

-- A poll at this moment drops the message of this number: FORWARD TSN is in use, nothing of the message was sent, and
-- its lifetime is over.
pub record IsDroppedAt (a : Shown) (now number : ℕ) : Type 0 where
  pub used : uses_forward_tsn a ≡ true
  pub index : ℕ
  pub message : Waiting
  pub there : slice_get a.sender.queue.pending index ≡ Some message
  pub named : message.message.message_id ≡ number
  pub unsent : message.begun ≡ false
  pub late : is_expired now (started now message.message) ≡ true

-- A poll loses no message but these: what waited or was in flight does so after it. Of a message that is abandoned a
-- piece is in flight until it is acknowledged or passed over.
abbrev pub PollsKeepWhatIsHeld : Type 0
PollsKeepWhatIsHeld =
    (a : Shown) (now number : ℕ) → is_held a.sender.queue number ≡ true
    → (is_held (polled a now).0.sender.queue number ≡ true) ⊎ IsDroppedAt a now number

-- Closing

abbrev pub loss_of : Event → ℕ
loss_of (events.AssociationLost reason) = 1
loss_of events.Connected = 0
loss_of (events.HandshakeFailed reason) = 0
loss_of (events.Stream event) = 0
loss_of (events.DataChannelStatsFinal stats) = 0
loss_of events.DatagramReceived = 0

-- how many of the events tell of a loss
abbrev pub losses : List Event → ℕ
losses queued = sum_by loss_of queued

-- The state and the mark of a loss are as they were, and no loss more is told.
pub record DoesNotClose (a b : Shown) : Type 0 where
  pub state : b.state ≡ a.state
  pub lost : b.lost ≡ a.lost
  pub told : losses b.events ≡ losses a.events

-- The state, the mark of a loss and the events are as they were.
pub record TellsNothing (a b : Shown) : Type 0 where
  pub state : b.state ≡ a.state
  pub lost : b.lost ≡ a.lost
  pub events : b.events ≡ a.events

-- It is not closed after it either; the mark of a loss and the events are as they were.
pub record BeginsToClose (a b : Shown) : Type 0 where
  pub still_open : is_closed_state b.state ≡ false
  pub lost : b.lost ≡ a.lost
  pub events : b.events ≡ a.events

-- No write, setting, limit, opened or accepted stream, begin of a shutdown or timer closes an association. A write and
-- a request to reset streams that is given up may be told as events, but as no loss.
abbrev pub WritesDoNotClose : Type 0
WritesDoNotClose = (a : Shown) (id : ℕ) (named : Option PayloadProtocolIdentifier) (bytes : List ℕ)
    → DoesNotClose a (written a id named bytes)

abbrev pub SettingsDoNotClose : Type 0
SettingsDoNotClose = (a : Shown) (id : ℕ) (setting : Setting) → TellsNothing a (adjusted a id setting)

abbrev pub LimitsDoNotClose : Type 0
LimitsDoNotClose = (a : Shown) (size : ℕ) → TellsNothing a (with_max_send_message_size a size)

abbrev pub AcceptedStreamsDoNotClose : Type 0
AcceptedStreamsDoNotClose = (a : Shown) → TellsNothing a (accepted_stream a).0

abbrev pub OpenedStreamsDoNotClose : Type 0
OpenedStreamsDoNotClose = (a : Shown) (id : ℕ) (kind : PayloadProtocolIdentifier) → TellsNothing a (opened a id kind)

abbrev pub ShutdownsDoNotClose : Type 0
ShutdownsDoNotClose = (a : Shown) → is_established a.state ≡ true → BeginsToClose a (shutdown_begun a)

abbrev pub EndpointEventsDoNotClose : Type 0
EndpointEventsDoNotClose = (a : Shown) → TellsNothing a (endpoint_event_polled a).0

abbrev pub TimersDoNotClose : Type 0
TimersDoNotClose = (a : Shown) (now : ℕ) → DoesNotClose a (after_timeouts a now)

abbrev pub faults_or : Shown × Flow → (Shown → AckTrigger → Bool) → Bool
faults_or (a, flows.Next trigger) more = more a trigger
faults_or (a, flows.Fault fault) more = not (is_closed_state a.state)
faults_or (a, flows.Closed) more = not (is_closed_state a.state)
faults_or (a, flows.Exhausted) more = not (is_closed_state a.state)

-- one of these chunks, taken in order, is a fault, or ends a shutdown, or finds or leaves the receive buffer exhausted,
-- and the association is open then
abbrev pub is_faulted : CommonHeader → List Chunk → Shown → AckTrigger → ℕ → Bool
is_faulted header [] a trigger now = false
is_faulted header (c ∷ cs) a trigger now =
    faults_or (on_chunk a header c trigger now) (λ b next. is_faulted header cs b next now)

abbrev pub is_faulted_packet : Shown → Option Packet → ℕ → Bool
is_faulted_packet a None now = false
is_faulted_packet a (Some packet) now = is_faulted packet.common_header packet.chunks a triggers.None now

-- what came closes an open association: one of its chunks is a fault, or ends a shutdown, or leaves the receive buffer
-- exhausted
abbrev pub closes : Shown → Option Packet → ℕ → Bool
closes a packet now = not a.lost && is_faulted_packet a packet now

-- An association closed, or it did not: if so it is lost, and one event more tells of it; if not, it isn't closed
-- unless it was.
pub record IsClosedIf (closing : Bool) (a b : Shown) : Type 0 where
  pub closed : closing ≡ true → b.state ≡ states.Closed
  pub still_open : closing ≡ false → is_closed_state b.state ≡ true → is_closed_state a.state ≡ true
  pub lost : b.lost ≡ (closing || a.lost)
  pub told : losses b.events ≡ losses a.events + (if closing then 1 else 0)

-- A packet closes an association exactly where a chunk of the packet is a fault, is the SHUTDOWN COMPLETE that it waits
-- for, or leaves the receive buffer exhausted, while it is open, and the loss is told once.
abbrev pub FaultsAloneClose : Type 0
FaultsAloneClose =
    (a : Shown) (packet : Option Packet) (now : ℕ) → IsClosedIf (closes a packet now) a (after_packet a packet now)

-- a read closes an open association: it gives a message and leaves the receive buffer exhausted
abbrev pub read_closes : Shown → ℕ → Bool
read_closes a id = read_exhausts a id && not (is_closed_state a.state)

-- A read closes exactly there, and the loss is told once.
abbrev pub ExhaustingReadsAloneClose : Type 0
ExhaustingReadsAloneClose = (a : Shown) (id : ℕ) → IsClosedIf (read_closes a id) a (read_from_stream a id).0

-- the application's stop of a stream closes an open association: it leaves the receive buffer exhausted
abbrev pub stop_closes : Shown → ℕ → Bool
stop_closes a id =
    (holds_of (λ s. is_read_half_open s.halves) a id && is_exhausted (stopped_open a id))
    && not (is_closed_state a.state)

-- A stop closes exactly there, and the loss is told once.
abbrev pub ExhaustingStopsAloneClose : Type 0
ExhaustingStopsAloneClose = (a : Shown) (id : ℕ) → IsClosedIf (stop_closes a id) a (stopped a id)

-- A close closes an open association once, by whatever reason.
abbrev pub ClosesClose : Type 0
ClosesClose =
    (a : Shown) (reason : AssociationError) → IsClosedIf (not (is_closed_state a.state)) a (closed_by a reason)

-- a poll closes an association: it gives out SHUTDOWN COMPLETE (RFC 4960 section 9.2)
abbrev pub poll_closes : Shown → ℕ → Bool
poll_closes a now = completes_shutdown (open_polled a now).0

-- A poll closes exactly there, and the loss is told once.
abbrev pub EndedShutdownsAloneClose : Type 0
EndedShutdownsAloneClose = (a : Shown) (now : ℕ) → IsClosedIf (poll_closes a now) a (polled a now).0

-- Reporting

-- This offset is the first that was neither taken in nor passed over.
pub record IsFirstMissing (o : ℕ) (h : History) : Type 0 where
  pub before : (n : ℕ) → n < o → (mem n h.taken ≡ true) ⊎ (n < h.passed)
  pub missing : mem o h.taken ≡ false
  pub passed : h.passed ≤ o

-- A SACK names the TSN before that of the first offset that was neither taken in nor passed over (RFC 4960 section
-- 3.3.4): it neither claims what was not taken in nor keeps back what was.
abbrev pub SacksNameTheLastTsn : Type 0
SacksNameTheLastTsn = (a : Shown) (h : History) → Binds a h
    → IsFirstMissing (reach_in h) h
    × ((sack_of a.receiver (all_waiting a)).cumulative_tsn_ack ≡ tsn_before (tsn h.peer (reach_in h)))

-- It says what was taken in: the last TSN in order, and past it exactly the offsets that were.
abbrev pub SacksSayWhatWasTaken : Type 0
SacksSayWhatWasTaken =
    (a : Shown) (h : History) → Binds a h
    → SaysWhatWasTaken h.peer (reach_in h) h.taken (sack_of a.receiver (all_waiting a))

-- The packet of an acknowledgement is that of a SACK which offers the room that is left in the receive buffer (RFC 4960
-- section 6.2), behind the bytes of all generations of streams that came and were not read.
abbrev pub SacksOfferTheBuffer : Type 0
SacksOfferTheBuffer = (a : Shown)
    → (sack : ChunkSelectiveAck) × (sack_packet a ≡ packet_bytes (header_of a.handshake) (chunks.SelectiveAck sack))
    × (sack.advertised_receiver_window_credit ≡ a.receiver.buffer_size - all_waiting a)

-- It is one datagram where its gap ack blocks are at most 16,379, which is what the length of a chunk has room for;
-- with more of them it isn't sent.
abbrev pub SacksAreSpelled : Type 0
SacksAreSpelled = (a : Shown) → length (sack_of a.receiver (all_waiting a)).gap_ack_blocks ≤ 16379
    → sack_packet a ≡ spelling (single_chunk_packet (header_of a.handshake) (sack_chunk a)) ∷ []

-- A SACK that is due goes out with the next poll in Established, and in a shutdown until SHUTDOWN ACK is due, as its
-- last packet, or with FORWARD TSN and the chunk of a shutdown alone behind it; requests to reset streams go out in
-- front of it.
abbrev pub DueSacksGoOut : Type 0
DueSacksGoOut = (a : Shown) (now : ℕ) → exchanges_data a.state ≡ true → is_due a.receiver.ack_state ≡ true
    → (packets : List (List ℕ))
    × ((polled a now).1
    ≡ packets ++ sack_packet a ++ (if forwards_of_poll a now then forward_packet (polled a now).0 else [])
    ++ (shutdown_polled (open_polled a now).0 now).1)

-- FORWARD TSN goes out, as the last packet or with the chunk of a shutdown alone behind it, with a poll that finds it
-- due, in Established and in a shutdown until SHUTDOWN ACK is due, where pieces in front of all others in flight are
-- abandoned once DATA was selected (RFC 3758 section 3.5).
abbrev pub DueForwardsGoOut : Type 0
DueForwardsGoOut = (a : Shown) (now : ℕ) → forwards_of_poll a now ≡ true
    → (packets : List (List ℕ))
    × ((polled a now).1
    ≡ packets ++ forward_packet (polled a now).0 ++ (shutdown_polled (open_polled a now).0 now).1)
