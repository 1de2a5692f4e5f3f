-- What one call of an association replies, and what it leaves.
use Rattle.std.specs.Prelude.{◌≡◌, ◌<◌, ◌⊎◌, ℕ, true, false, not, List, [], ◌++◌, ◌*◌, length, take}
use Rattle.std.specs.Prelude.{Option, Some, None, Ok}
use Rattle.std.specs.Duration.{as_nanos}
use Rattle.sctp_wire_types.specs.declared.error.Error.{Error}
use Rattle.sctp_wire_types.specs.declared.error.Error.TheVariants as errors
use Rattle.sctp_wire_types.specs.declared.ids.PayloadProtocolIdentifier.{PayloadProtocolIdentifier}
use Rattle.sctp_wire_types.specs.Errors.{refusal_number}
use Rattle.sctp_wire.specs.declared.packet.Packet.{Packet}
use Rattle.sctp_wire.specs.Packets.{packet_at}
use Rattle.sctp_streams.specs.declared.event.AssociationError.TheVariants as reasons
use Rattle.sctp_streams.specs.declared.setting.Setting.{Setting}
use Rattle.sctp_streams.specs.declared.setting.Setting.TheVariants as settings
use Rattle.sctp_streams.specs.Stream.{StreamView, is_read_half_open, params_of}
use Rattle.sctp_streams.specs.Streams.{live_ids, stream_at}
use Rattle.sctp_assoc.specs.declared.call.Call.{Call}
use Rattle.sctp_assoc.specs.declared.call.Call.TheVariants as calls
use Rattle.sctp_assoc.specs.declared.call.Reply.{Reply}
use Rattle.sctp_assoc.specs.declared.call.Reply.TheVariants as replies
use Rattle.sctp_assoc.specs.Calls.{accepted_stream, adjusted, buffered_of, deadline_of, event_polled}
use Rattle.sctp_assoc.specs.Calls.{first_filled, first_refusal, has_begun_closing, is_writable, read_takes_memory}
use Rattle.sctp_assoc.specs.Calls.{open_refusal, opened, read_from_stream, refusal_to_read, refusal_to_write}
use Rattle.sctp_assoc.specs.Calls.{stream_refusal}
use Rattle.sctp_assoc.specs.Calls.{stop_refusal, stop_takes_memory, stopped, with_max_send_message_size, written}
use Rattle.sctp_assoc.specs.Chunks.{after_packet}
use Rattle.sctp_assoc.specs.Closing.{closed_by, is_closed_state}
use Rattle.sctp_assoc.specs.Gather.{has_something_to_give, polled}
use Rattle.sctp_assoc.specs.Happened.{PollsOn, acts_of_poll, forwards_of_poll}
use Rattle.sctp_assoc.specs.Inbound.{taken_packet}
use Rattle.sctp_assoc.specs.Shown.{HasFailed, Shown, answers_of}
use Rattle.sctp_assoc.specs.Shutdown.{endpoint_event_polled, shutdown_begun, shutdown_refusal}
use Rattle.sctp_assoc.specs.Timeouts.{after_timeouts, timeouts_take_memory}

-- a is what the association was, b what it is then.

-- the number under which this refusal is reported
abbrev pub IsNumberOf : Option Error → ℕ → Type 0
IsNumberOf None n = ⊥
IsNumberOf (Some e) n = n ≡ refusal_number e

-- the same, or that of want of memory where nothing else refuses the call
abbrev pub IsNumberOrMemory : Option Error → ℕ → Type 0
IsNumberOrMemory None n = n ≡ refusal_number errors.ErrNoMemory
IsNumberOrMemory (Some e) n = n ≡ refusal_number e

-- memory was refused in the middle of a call, and the association, which had not failed before, failed
abbrev pub Fails : Shown → ℕ → Shown → Type 0
Fails a n b = (a.failed ≡ false) × (n ≡ refusal_number errors.ErrNoMemory) × HasFailed (answers_of a) b

-- memory was refused before the call did anything
abbrev pub LacksMemory : Shown → ℕ → Shown → Type 0
LacksMemory a n b = (a.failed ≡ false) × (n ≡ refusal_number errors.ErrNoMemory) × (b ≡ a)

abbrev pub Opens : Shown → ℕ → PayloadProtocolIdentifier → Reply → Shown → Type 0
Opens a id kind replies.Done b = (open_refusal a id ≡ None) × (b ≡ opened a id kind)
Opens a id kind (replies.Refused n) b = IsNumberOrMemory (open_refusal a id) n × (b ≡ a)
Opens a id kind _ b = ⊥

abbrev pub Finds : Shown → ℕ → Reply → Shown → Type 0
Finds a id replies.Done b = (stream_refusal a id ≡ None) × (b ≡ a)
Finds a id (replies.Refused n) b = IsNumberOf (stream_refusal a id) n × (b ≡ a)
Finds a id _ b = ⊥

-- the bytes are written under the payload type that is named, or else the stream's
abbrev pub Writes : Shown → ℕ → Option PayloadProtocolIdentifier → List ℕ → Reply → Shown → Type 0
Writes a id named bytes (replies.Wrote n) b =
    (refusal_to_write a id (length bytes) ≡ None) × (n ≡ length bytes) × (b ≡ written a id named bytes)
Writes a id named bytes (replies.Refused n) b = IsNumberOrMemory (refusal_to_write a id (length bytes)) n × (b ≡ a)
Writes a id named bytes _ b = ⊥

-- The first of these buffers that has bytes is written, under the stream's payload type. Before that, memory for a copy
-- of the buffers may be refused.
abbrev pub WritesFirst : Shown → ℕ → List (List ℕ) → Reply → Shown → Type 0
WritesFirst a id buffers (replies.Wrote n) b = Writes a id None (first_filled buffers) (replies.Wrote n) b
WritesFirst a id buffers (replies.Refused n) b =
    (IsNumberOrMemory (refusal_to_write a id (length (first_filled buffers))) n
    ⊎ (n ≡ refusal_number errors.ErrNoMemory)) × (b ≡ a)
WritesFirst a id buffers _ b = ⊥

-- the next message of a stream is read; memory is wanted only where that closes, or ends a generation of the stream
abbrev pub Reads : Shown → ℕ → Reply → Shown → Type 0
Reads a id (replies.Read message) b = (refusal_to_read a id ≡ None) × (read_from_stream a id ≡ (b, message))
Reads a id (replies.Refused n) b =
    (IsNumberOf (refusal_to_read a id) n × (b ≡ a)) ⊎ ((read_takes_memory a id ≡ true) × Fails a n b)
Reads a id _ b = ⊥

-- why a stop is refused, want of memory aside
abbrev pub refusal_to_stop : Shown → ℕ → Option Error
refusal_to_stop a id = first_refusal (stream_refusal a id) (stop_refusal a id)

-- a stream is stopped; memory is wanted only where its read half is open
abbrev pub Stops : Shown → ℕ → Reply → Shown → Type 0
Stops a id replies.Done b = (refusal_to_stop a id ≡ None) × (b ≡ stopped a id)
Stops a id (replies.Refused n) b =
    (IsNumberOf (refusal_to_stop a id) n × (b ≡ a))
    ⊎ ((refusal_to_stop a id ≡ None) × (stop_takes_memory a id ≡ true) × Fails a n b)
Stops a id _ b = ⊥

-- both halves of a stream are closed; it is refused as a stop is
abbrev pub ClosesStream : Shown → ℕ → Reply → Shown → Type 0
ClosesStream a id replies.Done b =
    (refusal_to_stop a id ≡ None) × (b ≡ stopped (adjusted a id settings.WriteHalfClosed) id)
ClosesStream a id (replies.Refused n) b =
    (IsNumberOf (refusal_to_stop a id) n × (b ≡ a))
    ⊎ ((refusal_to_stop a id ≡ None) × (stop_takes_memory a id ≡ true) × Fails a n b)
ClosesStream a id _ b = ⊥

-- something is set on a live stream
abbrev pub Sets : Shown → ℕ → Setting → Reply → Shown → Type 0
Sets a id setting replies.Done b = (stream_refusal a id ≡ None) × (b ≡ adjusted a id setting)
Sets a id setting (replies.Refused n) b = IsNumberOf (stream_refusal a id) n × (b ≡ a)
Sets a id setting _ b = ⊥

-- A question about a live stream is answered by what that is.
pub record Shows (a : Shown) (id : ℕ) (answer : StreamView → Reply) (reply : Reply) (b : Shown) : Type 0 where
  pub stream : StreamView
  pub there : stream_at a.streams id ≡ Some stream
  pub found : stream_refusal a id ≡ None
  pub answered : reply ≡ answer stream
  pub same : b ≡ a

-- or the stream is not found
abbrev pub ShowsOrRefuses : Shown → ℕ → (StreamView → Reply) → Reply → Shown → Type 0
ShowsOrRefuses a id answer reply b =
    Shows a id answer reply b
    ⊎ ((n : ℕ) × (reply ≡ replies.Refused n) × IsNumberOf (stream_refusal a id) n × (b ≡ a))

-- the oldest stream that the peer opened is accepted
abbrev pub AcceptsStream : Shown → Reply → Shown → Type 0
AcceptsStream a (replies.Accepted id) b = accepted_stream a ≡ (b, id)
AcceptsStream a _ b = ⊥

-- writes take messages of up to so many bytes
abbrev pub Limits : Shown → ℕ → Reply → Shown → Type 0
Limits a size replies.Done b = b ≡ with_max_send_message_size a size
Limits a size _ b = ⊥

abbrev pub Buffers : Shown → ℕ → Reply → Shown → Type 0
Buffers a id (replies.BufferedAmount n) b = (buffered_of a id ≡ Ok n) × (b ≡ a)
Buffers a id (replies.Refused n) b = IsNumberOf (stream_refusal a id) n × (b ≡ a)
Buffers a id _ b = ⊥

-- the call is refused because the association failed before, and changes nothing
abbrev pub HadFailed : Shown → ℕ → Shown → Type 0
HadFailed a n b = (a.failed ≡ true) × (n ≡ refusal_number errors.ErrAssociationFailed) × (b ≡ a)

-- the identifiers of the live streams
abbrev pub Lists : Shown → Reply → Shown → Type 0
Lists a (replies.StreamIds ids) b = (a.failed ≡ false) × (ids.items ≡ live_ids a.streams) × (b ≡ a)
Lists a (replies.Refused n) b = HadFailed a n b ⊎ LacksMemory a n b
Lists a _ b = ⊥

-- the association is closed; memory is wanted only where it is open, for its events
abbrev pub ClosesOne : Shown → Reply → Shown → Type 0
ClosesOne a replies.Done b = (a.failed ≡ false) × (b ≡ closed_by a reasons.AssociationClosed)
ClosesOne a (replies.Refused n) b = HadFailed a n b ⊎ ((is_closed_state a.state ≡ false) × Fails a n b)
ClosesOne a _ b = ⊥

-- a shutdown begins, or is refused with nothing changed
abbrev pub ShutsDown : Shown → Reply → Shown → Type 0
ShutsDown a replies.Done b = (shutdown_refusal a ≡ None) × (b ≡ shutdown_begun a)
ShutsDown a (replies.Refused n) b = IsNumberOf (shutdown_refusal a) n × (b ≡ a)
ShutsDown a _ b = ⊥

-- what the endpoint of a side is to be told is taken out
abbrev pub PollsEndpointEvent : Shown → Reply → Shown → Type 0
PollsEndpointEvent a (replies.EndpointEvent event) b = endpoint_event_polled a ≡ (b, event)
PollsEndpointEvent a _ b = ⊥

-- the oldest event that does not wait is taken out, or where there is none it is told that the handshake failed
abbrev pub PollsEvent : Shown → Reply → Shown → Type 0
PollsEvent a (replies.Event event) b =
    (a.failed ≡ false) × (event_polled a ≡ (b, event))
PollsEvent a (replies.Refused n) b = HadFailed a n b
PollsEvent a _ b = ⊥

-- the timers are met; memory is wanted only where INIT or COOKIE ECHO is to go out again (RFC 4960 section 5.1), or a
-- request to reset streams is given up
abbrev pub Expires : Shown → ℕ → Reply → Shown → Type 0
Expires a now replies.Done b = (a.failed ≡ false) × (b ≡ after_timeouts a now)
Expires a now (replies.Refused n) b = HadFailed a n b ⊎ ((timeouts_take_memory a now ≡ true) × Fails a n b)
Expires a now _ b = ⊥

-- of the packets of a poll the first one for which room was refused is lost, and all behind it
abbrev pub LosesSome : Shown → List (List ℕ) → ℕ → ℕ → Shown → List (List ℕ) → Type 0
LosesSome a packets now n b more =
    (a.failed ≡ false) × (n ≡ refusal_number errors.ErrNoMemory) × ((polled a now).0 ≡ b)
    × PollsOn (acts_of_poll a now) (forwards_of_poll a now) a b (polled a now).1
    × ((kept : ℕ) × (kept < length (polled a now).1) × (more ≡ packets ++ take kept (polled a now).1))

-- packets get the next numbers of their side, or where room is refused a front of them that is not all
abbrev pub Keeps : List (List ℕ) → List (List ℕ) → Reply → List (List ℕ) → Type 0
Keeps packets given replies.NothingSent more = (given ≡ []) × (more ≡ packets)
Keeps packets given (replies.Sent first count) more =
    (0 < count) × (first ≡ length packets) × (count ≡ length given) × (more ≡ packets ++ given)
Keeps packets given (replies.Refused n) more =
    (n ≡ refusal_number errors.ErrNoMemory)
    × ((kept : ℕ) × (kept < length given) × (more ≡ packets ++ take kept given))
Keeps packets given _ more = ⊥

-- a poll for packets: they are what its acts give out, and get the next numbers of their side; that there are none is
-- an answer of its own; memory is wanted only where there is something to give
abbrev pub GivesOut : Shown → List (List ℕ) → ℕ → Reply → Shown → List (List ℕ) → Type 0
GivesOut a packets now replies.NothingSent b more =
    (a.failed ≡ false) × (polled a now ≡ (b, [])) × PollsOn (acts_of_poll a now) (forwards_of_poll a now) a b []
    × (more ≡ packets)
GivesOut a packets now (replies.Sent first count) b more =
    (a.failed ≡ false) × (0 < count) × (first ≡ length packets) × (count ≡ length (polled a now).1)
    × ((polled a now).0 ≡ b)
    × PollsOn (acts_of_poll a now) (forwards_of_poll a now) a b (polled a now).1 × (more ≡ packets ++ (polled a now).1)
GivesOut a packets now (replies.Refused n) b more =
    (HadFailed a n b × (more ≡ packets))
    ⊎ (((has_something_to_give a now ≡ true) × Fails a n b × (more ≡ packets)) ⊎ LosesSome a packets now n b more)
GivesOut a packets now _ b more = ⊥

-- the packet that a datagram spells; none where it does not decode or is refused as a packet
abbrev pub packet_in : List ℕ → Option Packet
packet_in bytes = taken_packet (packet_at bytes)

-- a packet comes, or a datagram that spells none; one that finds no memory to be read is dropped, and an association
-- that was lost does not fail by any
abbrev pub TakesPacket : Shown → Option Packet → ℕ → Reply → Shown → Type 0
TakesPacket a packet now replies.Done b = (a.failed ≡ false) × (b ≡ after_packet a packet now)
TakesPacket a packet now (replies.Refused n) b =
    HadFailed a n b ⊎ (((a.lost ≡ false) × Fails a n b) ⊎ LacksMemory a n b)
TakesPacket a packet now _ b = ⊥

-- a datagram comes
abbrev pub TakesIn : Shown → List ℕ → ℕ → Reply → Shown → Type 0
TakesIn a bytes now reply b = TakesPacket a (packet_in bytes) now reply b

-- a question is answered and changes nothing
abbrev pub OnlyAnswers : Shown → Reply → Reply → Shown → Type 0
OnlyAnswers a answer reply b = (reply ≡ answer) × (b ≡ a)

-- the retransmission timeout, in whole ms
abbrev pub Measures : Shown → Reply → Shown → Type 0
Measures a (replies.Rtt duration) b = (as_nanos duration ≡ a.estimate.rto * 1000000) × (b ≡ a)
Measures a _ b = ⊥

-- what a call replies and leaves, but for a poll for packets
abbrev pub RepliesAlone : Call → Shown → Reply → Shown → Type 0
RepliesAlone (calls.OpenStream id kind) a r b = Opens a id kind r b
RepliesAlone (calls.Stream id) a r b = Finds a id r b
RepliesAlone calls.AcceptStream a r b = AcceptsStream a r b
RepliesAlone calls.StreamIds a r b = Lists a r b
RepliesAlone (calls.SetMaxSendMessageSize size) a r b = Limits a size r b
RepliesAlone (calls.Write id bytes) a r b = Writes a id None bytes r b
RepliesAlone (calls.WriteWithPpi id bytes kind) a r b = Writes a id (Some kind) bytes r b
RepliesAlone (calls.WriteSctp id bytes kind) a r b = Writes a id (Some kind) bytes r b
RepliesAlone (calls.WriteChunk id bytes) a r b = Writes a id None bytes r b
RepliesAlone (calls.WriteChunks id chunks) a r b = WritesFirst a id chunks.items r b
RepliesAlone (calls.Read id) a r b = Reads a id r b
RepliesAlone (calls.ReadSctp id) a r b = Reads a id r b
RepliesAlone (calls.Finish id) a r b = Sets a id settings.WriteHalfClosed r b
RepliesAlone (calls.Stop id) a r b = Stops a id r b
RepliesAlone (calls.CloseStream id) a r b = ClosesStream a id r b
RepliesAlone (calls.SetReliabilityParams id unordered kind value) a r b =
    Sets a id (settings.Reliability (params_of unordered kind value)) r b
RepliesAlone (calls.SetDefaultPayloadType id kind) a r b = Sets a id (settings.DefaultPayloadType kind) r b
RepliesAlone (calls.SetBufferedAmountLowThreshold id bytes) a r b = Sets a id (settings.LowMark bytes) r b
RepliesAlone (calls.SetBufferedAmountHighThreshold id bytes) a r b = Sets a id (settings.HighMark bytes) r b
RepliesAlone (calls.StreamStats id) a r b = ShowsOrRefuses a id (λ s. replies.StreamStats s.stats) r b
RepliesAlone (calls.IsReadable id) a r b = ShowsOrRefuses a id (λ s. replies.State (is_read_half_open s.halves)) r b
RepliesAlone (calls.IsWritable id) a r b = ShowsOrRefuses a id (λ s. replies.State (is_writable a id)) r b
RepliesAlone (calls.StreamIdentifier id) a r b = ShowsOrRefuses a id (λ s. replies.StreamIdentifier id) r b
RepliesAlone (calls.GetDefaultPayloadType id) a r b =
    ShowsOrRefuses a id (λ s. replies.PayloadType s.default_payload_type) r b
RepliesAlone (calls.BufferedAmountLowThreshold id) a r b = ShowsOrRefuses a id (λ s. replies.Threshold s.low_mark) r b
RepliesAlone (calls.BufferedAmountHighThreshold id) a r b =
    ShowsOrRefuses a id (λ s. replies.Threshold s.high_mark) r b
RepliesAlone (calls.BufferedAmount id) a r b = Buffers a id r b
RepliesAlone calls.Shutdown a r b = ShutsDown a r b
RepliesAlone calls.Close a r b = ClosesOne a r b
RepliesAlone calls.Poll a r b = PollsEvent a r b
RepliesAlone calls.PollEndpointEvent a r b = PollsEndpointEvent a r b
RepliesAlone calls.PollTimeout a r b = OnlyAnswers a (replies.Timeout (deadline_of a)) r b
RepliesAlone (calls.PollTransmit now) a r b = ⊥
RepliesAlone (calls.HandleTimeout now) a r b = Expires a now r b
RepliesAlone (calls.HandleDatagram datagram remote now) a r b = TakesIn a datagram now r b
RepliesAlone calls.IsHandshaking a r b = OnlyAnswers a (replies.State (not a.handshake.completed)) r b
RepliesAlone calls.IsClosed a r b = OnlyAnswers a (replies.State (is_closed_state a.state)) r b
RepliesAlone calls.IsClosing a r b = OnlyAnswers a (replies.State (has_begun_closing a)) r b
RepliesAlone calls.IsDrained a r b = OnlyAnswers a (replies.State a.lost) r b
RepliesAlone calls.IsFailed a r b = OnlyAnswers a (replies.State a.failed) r b
RepliesAlone calls.Rtt a r b = Measures a r b
RepliesAlone calls.Stats a r b = OnlyAnswers a (replies.Stats a.counts) r b
RepliesAlone calls.Side a r b = OnlyAnswers a (replies.Side a.side) r b
RepliesAlone calls.RemoteAddr a r b = OnlyAnswers a (replies.RemoteAddr a.remote_addr) r b
RepliesAlone calls.LocalIp a r b = OnlyAnswers a (replies.LocalIp a.local_ip) r b

-- What a call replies and leaves: of the association, and of the packets that it gave out so far, to which a poll alone
-- adds.
abbrev pub Replies : Call → Shown → List (List ℕ) → Reply → Shown → List (List ℕ) → Type 0
Replies (calls.PollTransmit now) a packets r b more = GivesOut a packets now r b more
Replies call a packets r b more = RepliesAlone call a r b × (more ≡ packets)
