-- What a poll for packets gives, and in which order (RFC 4960 sections 6.1, 6.2 and 6.10).
use Rattle.std.specs.Prelude.{◌≡◌, ℕ, Bool, true, false, List, [], ◌∷◌, ◌++◌, ◌&&◌, ◌||◌, if◌then◌else◌, length, map}
use Rattle.std.specs.Prelude.{◌==◌, ◌-◌, ⊤, fold, not, is_some, nat_lt, take, Option, Some, None, Result, Ok, Err}
use Rattle.std.specs.List.{AllByRecursion}
use Rattle.sctp_wire_types.specs.declared.chunk.Chunk.{Chunk}
use Rattle.sctp_wire_types.specs.declared.chunk.Chunk.TheVariants as chunks
use Rattle.sctp_wire_types.specs.declared.chunk.ChunkPayloadData.{ChunkPayloadData}
use Rattle.sctp_wire_types.specs.declared.error.Fault.{Fault}
use Rattle.sctp_wire_types.specs.declared.packet.CommonHeader.{CommonHeader}
use Rattle.sctp_wire_types.specs.declared.param.Param.TheVariants as params
use Rattle.sctp_wire_types.specs.declared.param.ParamOutgoingResetRequest.{ParamOutgoingResetRequest}
use Rattle.sctp_wire.specs.declared.packet.Packet.{Packet}
use Rattle.sctp_wire.specs.declared.transmit.Payload.{Payload}
use Rattle.sctp_wire.specs.declared.transmit.Payload.TheVariants as payloads
use Rattle.sctp_wire.specs.declared.transmit.Transmit.{Transmit}
use Rattle.sctp_wire.specs.DataPackets.{DataWritten, IsReadBack, closed, datagrams_of, nothing_written, with_all}
use Rattle.sctp_wire.specs.Packets.{packet_at, packet_is_plain, written}
use Rattle.sctp_parts.specs.declared.state.AckState.{AckState}
use Rattle.sctp_parts.specs.declared.state.AckState.TheVariants as acks
use Rattle.sctp_parts.specs.declared.timer.Timer.TheVariants as names
use Rattle.sctp_parts.specs.State.{is_closing}
use Rattle.sctp_parts.specs.Stats.{more_by}
use Rattle.sctp_parts.specs.Timers.{Timers, restarted_if_stale}
use Rattle.sctp_streams.specs.declared.event.AssociationError.TheVariants as reasons
use Rattle.sctp_streams.specs.LowMarks.{low_event}
use Rattle.sctp_streams.specs.Streams.{StreamMap}
use Rattle.sctp_inbound.specs.Handshake.{header_of}
use Rattle.sctp_inbound.specs.Receiver.{acknowledged, sack_of}
use Rattle.sctp_outbound.specs.declared.sender.Sender.{Sender}
use Rattle.sctp_outbound.specs.Abandonment.{dropped_by, expired_by, expires, given_up_before, gives_up_before}
use Rattle.sctp_outbound.specs.Falling.{fell_before, fell_dropped, fell_expired}
use Rattle.sctp_outbound.specs.Forward.{forward_given, forward_of, gives_forward}
use Rattle.sctp_outbound.specs.Sender.{after_marked, after_missing, marked_by, missing_by, sent_new}
use Rattle.sctp_reset_requests.specs.Own.{repeated, sent_first}
use Rattle.sctp_resets.specs.Resets.{ResetsView, request_again, request_asked, request_sent}
use Rattle.sctp_outbound_queue.specs.declared.message.Retransmission.{Retransmission}
use Rattle.sctp_outbound_queue.specs.declared.message.Retransmission.TheVariants as causes
use Rattle.sctp_assoc.specs.declared.control.ControlPacket.{ControlPacket}
use Rattle.sctp_assoc.specs.declared.control.Control.{Control}
use Rattle.sctp_assoc.specs.declared.control.Control.TheVariants as controls
use Rattle.sctp_assoc.specs.Calls.{exchanges_data, is_established}
use Rattle.sctp_assoc.specs.Closing.{closed_by}
use Rattle.sctp_assoc.specs.Control.{asking}
use Rattle.sctp_assoc.specs.Resets.{asking_if, reconfig_of, with_reconfig_run}
use Rattle.sctp_assoc.specs.Shown.{Shown, all_waiting, uses_forward_tsn}
use Rattle.sctp_assoc.specs.Shutdown.{gives_shutdown, shutdown_ack_sent, shutdown_continued, shutdown_sent}

-- a packet of one chunk
abbrev pub single_chunk_packet : CommonHeader → Chunk → Packet
single_chunk_packet header chunk = record { common_header = header; chunks = chunk ∷ [] }

abbrev pub spelled : Result (List ℕ) Fault → List (List ℕ)
spelled (Ok bytes) = bytes ∷ []
spelled (Err fault) = []

-- the bytes of a packet of one chunk; none where the chunk is longer than its length field can say
unfoldable pub packet_bytes : CommonHeader → Chunk → List (List ℕ)
packet_bytes header chunk = spelled (written (single_chunk_packet header chunk))

-- the retransmission timer runs where this is so (RFC 4960 section 6.3.2)
abbrev pub t3_run_if : Bool → ℕ → ℕ → Timers → Timers
t3_run_if any now rto t = if any then restarted_if_stale names.T3RTX now rto t else t

abbrev pub with_t3 : Bool → ℕ → Shown → Shown
with_t3 any now a = record a { timers = t3_run_if any now a.estimate.rto a.timers }

abbrev pub both_of : Shown → Sender × StreamMap
both_of a = (a.sender, a.streams)

abbrev pub with_both : Sender × StreamMap → Shown → Shown
with_both x a = record a { sender = x.0; streams = x.1 }

-- messages of which something was sent and whose time is over are abandoned; where there is one, the retransmission
-- timer runs
abbrev pub late_abandoned : Shown → ℕ → Shown
late_abandoned a now =
    with_t3 (expires (uses_forward_tsn a) now (both_of a)) now
    (with_both (expired_by (uses_forward_tsn a) now (both_of a)) a)

-- so are those of which a piece would go out again for a reason, and was sent as often as its policy allows
abbrev pub spent_abandoned : Retransmission → Shown → Shown
spent_abandoned by a = with_both (given_up_before (uses_forward_tsn a) by (both_of a)) a

-- messages of which nothing was sent and whose time is over are dropped
abbrev pub late_dropped : Shown → ℕ → Shown
late_dropped a now = with_both (dropped_by (uses_forward_tsn a) now (both_of a)) a

-- behind these packets this DATA, in packets of its own
abbrev pub bundled : DataWritten → List ChunkPayloadData → DataWritten
bundled w pieces = closed (with_all w pieces)

-- what the retransmission timer marked, behind what is given up of it
abbrev pub marks_sent : Shown → List ChunkPayloadData
marks_sent a = marked_by (spent_abandoned causes.Timer a).sender

abbrev pub after_marks : Shown → Shown
after_marks a = (let b = spent_abandoned causes.Timer a in record b { sender = after_marked b.sender })

-- what is missing, behind what is given up of it
abbrev pub fast_sent : Shown → List ChunkPayloadData
fast_sent a = missing_by (spent_abandoned causes.Fast a).sender

-- the chunks that fast retransmission gives are counted
abbrev pub after_fast : Shown → Shown
after_fast a =
    (let b = spent_abandoned causes.Fast a in record b {
      sender = after_missing b.sender;
      counts = (let c = b.counts in record c { fast_retrans = more_by (length (missing_by b.sender)) c.fast_retrans });
    })

abbrev pub with_sent_data : Shown → ℕ → Sender × List ChunkPayloadData → Shown
with_sent_data a now sent = with_t3 (nat_lt 0 (length sent.1)) now (record a { sender = sent.0 })

-- new DATA, behind what is dropped of it
abbrev pub new_sent : Shown → ℕ → List ChunkPayloadData
new_sent a now = (sent_new (late_dropped a now).sender now).1

abbrev pub after_new : Shown → ℕ → Shown
after_new a now = with_sent_data (late_dropped a now) now (sent_new (late_dropped a now).sender now)

-- the steps of a poll of DATA, one after another
abbrev pub marks_polled : Shown → ℕ → Shown
marks_polled a now = after_marks (late_abandoned a now)

abbrev pub fast_polled : Shown → ℕ → Shown
fast_polled a now = after_fast (marks_polled a now)

abbrev pub new_polled : Shown → ℕ → Shown
new_polled a now = after_new (fast_polled a now) now

-- the streams that fall to their low mark in each of these steps, in the order in which they fall
abbrev pub late_fell : Shown → ℕ → List ℕ
late_fell a now = fell_expired (uses_forward_tsn a) now (both_of a)

abbrev pub marks_fell : Shown → List ℕ
marks_fell a = fell_before (uses_forward_tsn a) causes.Timer (both_of a)

abbrev pub fast_fell : Shown → List ℕ
fast_fell a = fell_before (uses_forward_tsn a) causes.Fast (both_of a)

abbrev pub new_fell : Shown → ℕ → List ℕ
new_fell a now = fell_dropped (uses_forward_tsn a) now (both_of a)

-- and in a poll of DATA
abbrev pub fell_in_poll : Shown → ℕ → List ℕ
fell_in_poll a now =
    late_fell a now
    ++ marks_fell (late_abandoned a now)
    ++ fast_fell (marks_polled a now)
    ++ new_fell (fast_polled a now) now

-- it is told of each of these streams that its buffered amount fell to its low mark
abbrev pub with_low_told : List ℕ → Shown → Shown
with_low_told ids a = record a { events = a.events ++ map low_event ids }

-- the packets of a poll that carry DATA: what goes again, and then new DATA, bundled apart
abbrev pub data_bundled : Shown → ℕ → DataWritten
data_bundled a now =
    bundled
    (bundled
    (bundled (nothing_written (header_of a.handshake) (late_abandoned a now).sender.mtu)
    (marks_sent (late_abandoned a now)))
    (fast_sent (marks_polled a now)))
    (new_sent (fast_polled a now) now)

-- what a poll of DATA leaves, and what its packets carry: what the retransmission timer marked, what is missing, and
-- then new DATA; before each of them go the messages that are given up
unfoldable pub data_polled : Shown → ℕ → Shown × List (List ChunkPayloadData)
data_polled a now = (with_low_told (fell_in_poll a now) (new_polled a now), (data_bundled a now).done)

-- behind DATA, a shutdown that waited for the last of it goes on where that was given up
abbrev pub data_after : Shown → ℕ → Shown × List (List ChunkPayloadData)
data_after a now = (shutdown_continued (data_polled a now).0, (data_polled a now).1)

-- marked DATA goes out again, or is given up
abbrev pub marks_give : Shown → Bool
marks_give a = gives_up_before (uses_forward_tsn a) causes.Timer a.sender || nat_lt 0 (length (marks_sent a))

-- missing DATA does
abbrev pub fast_gives : Shown → Bool
fast_gives a = gives_up_before (uses_forward_tsn a) causes.Fast a.sender || nat_lt 0 (length (fast_sent a))

-- DATA goes out for the first time
abbrev pub new_gives : Shown → ℕ → Bool
new_gives a now = nat_lt 0 (length (new_sent a now))

-- a poll of DATA gives some, or gives some up, or tells of a stream whose buffered amount fell to its low mark
abbrev pub data_gives : Shown → ℕ → Bool
data_gives a now =
    expires (uses_forward_tsn a) now (both_of a)
    || marks_give (late_abandoned a now)
    || fast_gives (marks_polled a now)
    || new_gives (fast_polled a now) now
    || nat_lt 0 (length (fell_in_poll a now))

abbrev pub is_due : AckState → Bool
is_due acks.Idle = false
is_due acks.Immediate = true
is_due acks.Delay = false

-- the acknowledgement of what came, with its gap ack blocks
abbrev pub sack_chunk : Shown → Chunk
sack_chunk a = chunks.SelectiveAck (sack_of a.receiver (all_waiting a))

abbrev pub sack_packet : Shown → List (List ℕ)
sack_packet a = packet_bytes (header_of a.handshake) (sack_chunk a)

-- the acknowledgement, where it is due
unfoldable pub ack_polled : Shown → Shown × List (List ℕ)
ack_polled a =
    if is_due a.receiver.ack_state then (record a { receiver = acknowledged a.receiver }, sack_packet a) else (a, [])

abbrev pub after_both : List (List ℕ) → Shown × List (List ℕ) → Shown × List (List ℕ)
after_both packets (a, more) = (a, packets ++ more)

-- A request to reset streams, in a packet of its own (RFC 6525 section 4.1).
abbrev pub request_packet : Shown → ParamOutgoingResetRequest → List (List ℕ)
request_packet a param = packet_bytes (header_of a.handshake) (reconfig_of (params.OutgoingResetRequest param))

abbrev pub with_request_again : Shown → ResetsView × Option ParamOutgoingResetRequest → Shown × List (List ℕ)
with_request_again a (r, None) = (record a { resets = r }, [])
with_request_again a (r, Some param) = (record a { resets = r }, request_packet a param)

-- the active request goes out again, where its timer expired
abbrev pub repeat_polled : Shown → Shown × List (List ℕ)
repeat_polled a = with_request_again a (request_again a.resets)

abbrev pub with_request_asked : Shown → ResetsView × Bool → Shown
with_request_asked a (r, made) = asking_if made (record a { resets = r })

-- a request is made for the streams that are to be reset and are quiet, where none is open
abbrev pub request_made : Shown → Shown
request_made a = with_request_asked a (request_asked a.resets a.sender.queue)

-- the last one that waits is taken out
abbrev pub without_last : List Control → List Control
without_last cs = take (length cs - 1) cs

abbrev pub with_request_sent : Shown → ResetsView × Option ParamOutgoingResetRequest → Shown × List (List ℕ)
with_request_sent a (r, None) = (record a { resets = r }, [])
with_request_sent a (r, Some param) =
    (record a { resets = r; control = without_last a.control }, request_packet a param)

-- the oldest request that was never sent goes out, where it may
abbrev pub first_request_polled : Shown → Shown × List (List ℕ)
first_request_polled a =
    if length a.control == 0 then (a, []) else with_request_sent a (request_sent a.resets a.sender.queue)

abbrev pub first_request_behind : Shown × List (List ℕ) → Shown × List (List ℕ)
first_request_behind (a, packets) = after_both packets (first_request_polled (request_made a))

-- the requests of a poll behind its DATA, in Established alone
unfoldable pub requests_polled : Shown → Shown × List (List ℕ)
requests_polled a = if is_established a.state then first_request_behind (repeat_polled a) else (a, [])

-- a request, if there is one
abbrev pub listed : Option ParamOutgoingResetRequest → List ParamOutgoingResetRequest
listed None = []
listed (Some request) = request ∷ []

-- the oldest that was never sent, where one has its place among what waits and may go out
abbrev pub first_listed : Bool → Shown → List ParamOutgoingResetRequest
first_listed none a = if none then [] else listed (sent_first a.resets.own a.sender.queue).1

-- what these say in Established: the active request again, and the oldest that was never sent
abbrev pub requests_of : Shown → List ParamOutgoingResetRequest
requests_of a =
    (let b = request_made (repeat_polled a).0 in
    listed (repeated a.resets.own).1 ++ first_listed (length b.control == 0) b)

abbrev pub requests_after : Shown × List (List ChunkPayloadData) → Shown × List (List ℕ)
requests_after (a, bundles) = after_both (datagrams_of (header_of a.handshake) bundles) (requests_polled a)

abbrev pub ack_after : Shown × List (List ℕ) → Shown × List (List ℕ)
ack_after (a, packets) = after_both packets (ack_polled a)

-- FORWARD TSN, in a packet of its own
abbrev pub forward_chunk : Shown → Chunk
forward_chunk a = chunks.ForwardTsn (forward_of a.sender)

abbrev pub forward_packet : Shown → List (List ℕ)
forward_packet a = packet_bytes (header_of a.handshake) (forward_chunk a)

abbrev pub forwards_given : Shown → List (List ℕ)
forwards_given a = if gives_forward a.sender then forward_packet a else []

-- FORWARD TSN, where it is due
unfoldable pub forward_polled : Shown → Shown × List (List ℕ)
forward_polled a = (record a { sender = forward_given a.sender }, forwards_given a)

abbrev pub forward_after : Shown × List (List ℕ) → Shown × List (List ℕ)
forward_after (a, packets) = after_both packets (forward_polled a)

abbrev pub without_control : Shown → Shown
without_control a = record a { control = [] }

-- a request that may not go out keeps its place
abbrev pub with_request_placed : Shown × List (List ℕ) → ResetsView × Option ParamOutgoingResetRequest
    → Shown × List (List ℕ)
with_request_placed (a, packets) (r, None) = (asking (record a { resets = r }), packets)
with_request_placed (a, packets) (r, Some param) = (record a { resets = r }, packets ++ request_packet a param)

abbrev pub with_control_given : Shown × List (List ℕ) → Control → Shown × List (List ℕ)
with_control_given (a, packets) (controls.Packet c) = (a, packets ++ packet_bytes c.header c.chunk)
with_control_given (a, packets) controls.OwnRequest =
    with_request_placed (a, packets) (request_sent a.resets a.sender.queue)

-- what waits goes out before any DATA, oldest first: packets as they were queued, and requests that may go out
abbrev pub control_polled : Shown → Shown × List (List ℕ)
control_polled a = fold with_control_given (without_control a, []) a.control

-- while DATA is exchanged DATA, then in Established requests to reset streams, the acknowledgement, and FORWARD TSN
unfoldable pub exchange_polled : Shown → ℕ → Shown × List (List ℕ)
exchange_polled a now =
    if exchanges_data a.state then forward_after (ack_after (requests_after (data_after a now))) else (a, [])

abbrev pub exchange_after : Shown × List (List ℕ) → ℕ → Shown × List (List ℕ)
exchange_after (a, packets) now = after_both packets (exchange_polled a now)

abbrev pub reconfig_run_after : Shown × List (List ℕ) → ℕ → Shown × List (List ℕ)
reconfig_run_after (a, packets) now = (with_reconfig_run a now, packets)

-- a chunk of a graceful end, in a packet of its own
abbrev pub shutdown_packet : Shown → Chunk → List (List ℕ)
shutdown_packet a chunk = packet_bytes (header_of a.handshake) chunk

-- the first of them that is due, if one is, and in a shutdown alone: SHUTDOWN with the last TSN that came in order,
-- SHUTDOWN ACK, or SHUTDOWN COMPLETE
abbrev pub shutdown_chunks : Shown → List Chunk
shutdown_chunks a =
    if not (is_closing a.state) then [] else
    if a.shutdown_due.shutdown then chunks.Shutdown a.receiver.peer_last_tsn ∷ [] else
    if a.shutdown_due.shutdown_ack then chunks.ShutdownAck ∷ [] else
    if a.shutdown_due.shutdown_complete then chunks.ShutdownComplete ∷ [] else []

-- SHUTDOWN COMPLETE goes out, and closes this side
abbrev pub with_complete_given : Shown → Shown × List (List ℕ)
with_complete_given a = (
  closed_by (record a { shutdown_due = (let due = a.shutdown_due in record due { shutdown_complete = false }) })
      reasons.AssociationClosed,
  shutdown_packet a chunks.ShutdownComplete,
)

-- that chunk goes out; from SHUTDOWN and from SHUTDOWN ACK the timer of the answer runs
unfoldable pub shutdown_polled : Shown → ℕ → Shown × List (List ℕ)
shutdown_polled a now =
    if not (is_closing a.state) then (a, []) else
    if a.shutdown_due.shutdown then
    (shutdown_sent a now, shutdown_packet a (chunks.Shutdown a.receiver.peer_last_tsn)) else
    if a.shutdown_due.shutdown_ack then (shutdown_ack_sent a now, shutdown_packet a chunks.ShutdownAck) else
    if a.shutdown_due.shutdown_complete then with_complete_given a else (a, [])

abbrev pub shutdown_after : Shown × List (List ℕ) → ℕ → Shown × List (List ℕ)
shutdown_after (a, packets) now = after_both packets (shutdown_polled a now)

-- what a poll leaves in front of the chunks of a graceful end, and the packets that it gives: those that wait, and
-- while DATA is exchanged DATA, then in Established requests to reset streams, the acknowledgement, and FORWARD TSN
abbrev pub open_polled : Shown → ℕ → Shown × List (List ℕ)
open_polled a now = reconfig_run_after (exchange_after (control_polled a) now) now

-- what it leaves, and the packets that it gives: those, and then in a shutdown the first of its chunks that is due
abbrev pub polled : Shown → ℕ → Shown × List (List ℕ)
polled a now = shutdown_after (open_polled a now) now

-- streams are to be reset, or a request for some has its place among what waits
abbrev pub requests_wait : Shown → Bool
requests_wait a = nat_lt 0 (length a.resets.own.waiting) || nat_lt 0 (length a.control)

-- so it is, or a request was sent and is not answered
abbrev pub requests_give : Shown → Bool
requests_give a = is_some a.resets.own.active || requests_wait a

-- the exchange of a poll has something to give: DATA goes out or is given up, in Established streams are to be reset,
-- or an acknowledgement or FORWARD TSN is due
abbrev pub exchange_gives : Shown → ℕ → Bool
exchange_gives a now =
    data_gives a now || (is_established a.state && requests_give (data_polled a now).0)
    || is_due a.receiver.ack_state
    || gives_forward (data_polled a now).0.sender

-- a poll has something to give: something waits, or while DATA is exchanged its exchange does, or behind that a chunk
-- of a graceful end is due
abbrev pub has_something_to_give : Shown → ℕ → Bool
has_something_to_give a now =
    nat_lt 0 (length a.control) || (exchanges_data a.state && exchange_gives (without_control a) now)
    || gives_shutdown (exchange_polled (without_control a) now).0

abbrev pub bytes_within : Payload → List (List ℕ)
bytes_within (payloads.RawEncode packets) = packets.items
bytes_within (payloads.PartialDecode datagram) = []

-- the packets that are handed out
abbrev pub packets_of : Option Transmit → List (List ℕ)
packets_of None = []
packets_of (Some t) = bytes_within t.payload

-- packets are handed out with the moment of the poll and the two addresses that it was given, and without a congestion
-- mark
pub record IsAddressed (a : Shown) (now : ℕ) (t : Transmit) : Type 0 where
  pub moment : t.now ≡ now
  pub remote : t.remote ≡ a.remote_addr
  pub local : t.local_ip ≡ a.local_ip
  pub unmarked : t.ecn ≡ None

-- a packet of one chunk, where it is spelled, is read as that packet again
abbrev pub IsReadAgain : CommonHeader → Chunk → Type 0
IsReadAgain header chunk =
    (bytes : List ℕ) → packet_bytes header chunk ≡ bytes ∷ [] → packet_at bytes ≡ Ok (single_chunk_packet header chunk)

-- a request to reset streams, where it is spelled, is read again
abbrev pub IsRequestReadAgain : CommonHeader → ParamOutgoingResetRequest → Type 0
IsRequestReadAgain header request = IsReadAgain header (reconfig_of (params.OutgoingResetRequest request))

abbrev pub AreRequestsReadAgain : CommonHeader → List ParamOutgoingResetRequest → Type 0
AreRequestsReadAgain header requests = AllByRecursion (IsRequestReadAgain header) requests

abbrev pub AreReadAgain : CommonHeader → List (List ChunkPayloadData) → Type 0
AreReadAgain header bundles = AllByRecursion (IsReadBack header) bundles

abbrev pub AckIsReadAgain : Shown → Type 0
AckIsReadAgain a = is_due a.receiver.ack_state ≡ true → IsReadAgain (header_of a.handshake) (sack_chunk a)

-- a packet that waits is read again as it was made, where nothing in it is kept under `Other` whose type has a variant
-- of its own
abbrev pub ControlIsReadAgain : ControlPacket → Type 0
ControlIsReadAgain c = packet_is_plain (single_chunk_packet c.header c.chunk) ≡ true → IsReadAgain c.header c.chunk

abbrev pub IsPlainControl : Control → Type 0
IsPlainControl (controls.Packet c) = packet_is_plain (single_chunk_packet c.header c.chunk) ≡ true
IsPlainControl controls.OwnRequest = ⊤

-- nothing that waits to go out is kept under `Other` so
abbrev pub WaitPlainly : Shown → Type 0
WaitPlainly a = AllByRecursion IsPlainControl a.control

abbrev pub ControlReadAgain : Control → Type 0
ControlReadAgain (controls.Packet c) = ControlIsReadAgain c
ControlReadAgain controls.OwnRequest = ⊤

abbrev pub AreControlReadAgain : List Control → Type 0
AreControlReadAgain cs = AllByRecursion ControlReadAgain cs

-- so is the request that goes out from a place among what waits, if one does
abbrev pub GivenRequestReadAgain : Shown → Control → Type 0
GivenRequestReadAgain a (controls.Packet c) = ⊤
GivenRequestReadAgain a controls.OwnRequest =
    AreRequestsReadAgain (header_of a.handshake) (listed (sent_first a.resets.own a.sender.queue).1)

-- and each that goes out while all of this is given, one behind another
abbrev pub GivenRequestsReadAgain : List Control → Shown × List (List ℕ) → Type 0
GivenRequestsReadAgain [] x = ⊤
GivenRequestsReadAgain (c ∷ cs) x = GivenRequestReadAgain x.0 c × GivenRequestsReadAgain cs (with_control_given x c)

-- each that goes out in front of DATA
abbrev pub ControlRequestsReadAgain : Shown → Type 0
ControlRequestsReadAgain a = GivenRequestsReadAgain a.control (without_control a, [])

abbrev pub ForwardIsReadAgain : Shown → Type 0
ForwardIsReadAgain a = gives_forward a.sender ≡ true → IsReadAgain (header_of a.handshake) (forward_chunk a)

-- each packet of DATA, that of the acknowledgement behind it, and that of FORWARD TSN behind that, is read again as it
-- was made
abbrev pub ExchangeIsReadAgain : Shown → ℕ → Type 0
ExchangeIsReadAgain a now =
    AreReadAgain (header_of a.handshake) (data_polled a now).1 × AckIsReadAgain (data_polled a now).0
    × ForwardIsReadAgain (ack_polled (data_polled a now).0).0

abbrev pub PollIsReadAgain : Shown → ℕ → Type 0
PollIsReadAgain a now = exchanges_data a.state ≡ true → ExchangeIsReadAgain a now

-- the requests to reset streams that go out behind DATA are read again
abbrev pub PollRequestsReadAgain : Shown → ℕ → Type 0
PollRequestsReadAgain a now =
    is_established a.state ≡ true
    → AreRequestsReadAgain (header_of a.handshake) (requests_of (data_polled a now).0)

-- the chunk of a graceful end that goes out, if one does, is read again
abbrev pub ShutdownIsReadAgain : Shown → Type 0
ShutdownIsReadAgain a = AllByRecursion (IsReadAgain (header_of a.handshake)) (shutdown_chunks a)
