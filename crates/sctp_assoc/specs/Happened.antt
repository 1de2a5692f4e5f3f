-- What each call does to the two directions.
use Rattle.std.specs.Prelude.{◌≡◌, ℕ, zero, suc, Bool, true, false, List, [], ◌∷◌, ◌++◌, ◌&&◌, ◌+◌, ◌-◌, ◌==◌}
use Rattle.std.specs.Prelude.{if◌then◌else◌, not, is_some, length, nat_lt, find, Option, Some, None, Result, Ok}
use Rattle.std.specs.Prelude.{Err, ◌⊎◌, ⊤, slice_get}
use Rattle.sctp_wire_types.specs.declared.error.Error.{Error}
use Rattle.sctp_wire_types.specs.declared.chunk.Chunk.{Chunk}
use Rattle.sctp_wire_types.specs.declared.chunk.Chunk.TheVariants as chunks
use Rattle.sctp_wire_types.specs.declared.chunk.ChunkPayloadData.{ChunkPayloadData}
use Rattle.sctp_wire_types.specs.declared.ids.PayloadProtocolIdentifier.TheVariants as kinds
use Rattle.sctp_wire_types.specs.declared.chunk.ChunkInit.{ChunkInit}
use Rattle.sctp_wire_types.specs.declared.chunk.GapAckBlock.{GapAckBlock}
use Rattle.sctp_wire_types.specs.declared.chunk.SkippedStream.{SkippedStream}
use Rattle.sctp_wire_types.specs.declared.packet.CommonHeader.{CommonHeader}
use Rattle.sctp_wire_types.specs.Checks.{checked_chunk}
use Rattle.sctp_wire.specs.declared.packet.Packet.{Packet}
use Rattle.sctp_wire.specs.Packets.{packet_at}
use Rattle.sctp_parts.specs.declared.timer.Timer.TheVariants as names
use Rattle.sctp_parts.specs.Timers.{expiry_of}
use Rattle.sctp_outbound_queue.specs.declared.message.InFlight.{InFlight}
use Rattle.sctp_outbound_queue.specs.declared.message.Reports.{Reports}
use Rattle.sctp_outbound_queue.specs.declared.message.Retransmission.{Retransmission}
use Rattle.sctp_outbound_queue.specs.declared.message.Retransmission.TheVariants as causes
use Rattle.sctp_outbound_queue.specs.Message.{is_expired_unsent, picks, room_taken}
use Rattle.sctp_outbound_queue.specs.Waiting.{Waiting}
use Rattle.sctp_outbound_queue.specs.Outbound.{pieces_waiting}
use Rattle.sctp_streams.specs.Stream.{is_read_half_open}
use Rattle.sctp_streams.specs.Streams.{StreamMap, stream_at, generation_left, read_in, refusal_in}
use Rattle.sctp_inbound.specs.declared.receiver.AckTrigger.{AckTrigger}
use Rattle.sctp_inbound.specs.declared.receiver.AckTrigger.TheVariants as triggers
use Rattle.sctp_inbound.specs.Handshake.{comes_back, header_of}
use Rattle.sctp_inbound.specs.Receiver.{admits, is_new_to}
use Rattle.sctp_outbound.specs.declared.sender.SackOutcome.{SackOutcome}
use Rattle.sctp_outbound.specs.declared.sender.SackOutcome.TheVariants as outcomes
use Rattle.sctp_outbound.specs.declared.sender.Sender.{Sender}
use Rattle.sctp_outbound.specs.Sacks.{reports_of}
use Rattle.sctp_outbound.specs.declared.abandonment.Reason.{Reason}
use Rattle.sctp_outbound.specs.declared.abandonment.Reason.TheVariants as reasons
use Rattle.sctp_outbound.specs.Abandonment.{abandoned_if, first_dropped, has_late_tail, late_given_up, next_given_up}
use Rattle.sctp_outbound.specs.Abandonment.{with_started}
use Rattle.sctp_outbound.specs.Forward.{gives_forward}
use Rattle.sctp_outbound.specs.Sender.{both_windows, can_send_next, fast_room, resends_alone, sack_outcome, sent_one}
use Rattle.sctp_outbound.specs.Sender.{asks_again, asks_at_once, tsns_up_to}
use Rattle.sctp_assoc.specs.declared.inbound.Flow.{Flow}
use Rattle.sctp_assoc.specs.declared.inbound.Flow.TheVariants as flows
use Rattle.sctp_directions.specs.Acts.{Act, History, all_data_given}
use Rattle.sctp_assoc.specs.Leads.{Binds, Leads, parts}
use Rattle.sctp_reset_requests.specs.Own.{OwnView}
use Rattle.sctp_resets.specs.Resets.{is_hidden, refusal_of}
use Rattle.sctp_resets.specs.Within.{OwnOver, ParamOver}
use Rattle.sctp_streams.specs.declared.setting.Setting.TheVariants as settings
use Rattle.sctp_assoc.specs.Calls.{adjusted, exchanges_data, holds_of, is_beginning, is_cookie_wait}
use Rattle.sctp_assoc.specs.Calls.{read_exhausts, sends_data, stopped_open}
use Rattle.sctp_assoc.specs.Handshake.{keeps_peer}
use Rattle.sctp_assoc.specs.Closing.{is_closed_state, is_exhausted}
use Rattle.sctp_assoc.specs.Chunks.{counted_data, deferred_where_admitted, goes_unread, on_chunk, stream_found}
use Rattle.sctp_assoc.specs.Chunks.{taken_in, taken_where_admitted}
use Rattle.sctp_assoc.specs.Finding.{found_at, found_for, makes_for}
use Rattle.sctp_assoc.specs.Probes.{is_probing, opens_window}
use Rattle.sctp_assoc.specs.ResetActs.{acts_of_draining, acts_of_keeping, acts_of_kept_skips, acts_of_reconfig}
use Rattle.sctp_assoc.specs.ResetActs.{acts_of_settling}
use Rattle.std.specs.List.{AllByRecursion, filter, flat_map, position_or_len}
use Rattle.sctp_wire.specs.DataPackets.{all_of, data_fits, datagrams_of}
use Rattle.sctp_assoc.specs.Gather.{AckIsReadAgain, AreControlReadAgain, AreReadAgain, AreRequestsReadAgain}
use Rattle.sctp_assoc.specs.Gather.{IsReadAgain, both_of}
pub use Rattle.sctp_assoc.specs.Gather.{IsRequestReadAgain}
use Rattle.sctp_assoc.specs.Gather.{control_polled, data_polled, fast_polled, forward_chunk, is_due, late_abandoned}
use Rattle.sctp_assoc.specs.Gather.{late_dropped, marks_polled, open_polled, packet_bytes, sack_packet}
use Rattle.sctp_assoc.specs.Gather.{shutdown_packet, single_chunk_packet, spent_abandoned}
use Rattle.sctp_assoc.specs.declared.control.Control.TheVariants as controls
use Rattle.sctp_assoc.specs.declared.control.ControlPacket.{ControlPacket}
use Rattle.sctp_wire_types.specs.declared.param.Param.TheVariants as params
use Rattle.sctp_wire_types.specs.declared.param.ParamOutgoingResetRequest.{ParamOutgoingResetRequest}
use Rattle.sctp_assoc.specs.Resets.{reconfig_of}
use Rattle.sctp_assoc.specs.Timeouts.{after_shutdown_timer}
use Rattle.sctp_assoc.specs.Shown.{Shown, all_waiting, uses_forward_tsn}
use Rattle.sctp_assoc.specs.Shutdown.{completes_shutdown}
use Rattle.sctp_assoc.specs.Skipping.{skips_of, standing_of, with_passed, with_skips}
use Rattle.sctp_assoc.specs.declared.skipping.Standing.{Standing}
use Rattle.sctp_assoc.specs.declared.skipping.Standing.TheVariants as standings

-- What each call does to the directions.

-- what comes makes its stream where that is missing and a generation is left
abbrev pub acts_of_stream : Shown → ℕ → List Act
acts_of_stream a id =
    if is_some (stream_at a.streams id) then [] else
    if generation_left a.streams then Act.Opened id a.sender.queue.next_message_id kinds.Unknown ∷ [] else []

abbrev pub acts_unless_refused : Option Error → Act → List Act
acts_unless_refused (Some fault) act = []
acts_unless_refused None act = act ∷ []

abbrev pub acts_if_left : Bool → Shown → ChunkPayloadData → List Act
acts_if_left true a piece = Act.Deferred piece ∷ []
acts_if_left false a piece =
    acts_unless_refused (refusal_in a.streams piece.stream_identifier piece a.receiver.max_receive_message_size)
    (Act.Took piece)

-- new DATA, with its stream there and credit left or filling a gap, is taken in unless its stream refuses it; where
-- nobody reads the stream, without going to it
abbrev pub acts_of_taking : Shown → ChunkPayloadData → List Act
acts_of_taking a piece = acts_if_left (goes_unread a piece) a piece

abbrev pub acts_of_skips_behind : Shown × Option Error → ℕ → List Act
acts_of_skips_behind (a, None) id = acts_of_kept_skips id a
acts_of_skips_behind (a, Some fault) id = []

abbrev pub acts_of_taking_where_admitted : Shown → ChunkPayloadData → List Act
acts_of_taking_where_admitted a piece =
    if admits a.receiver piece.tsn (all_waiting a) then
    acts_of_taking a piece ++ acts_of_skips_behind (taken_in a piece) piece.stream_identifier
    else []

-- DATA of a generation that is not read yet is kept, likewise
abbrev pub acts_of_deferring : Shown → ChunkPayloadData → List Act
acts_of_deferring a piece =
    if admits a.receiver piece.tsn (all_waiting a) then
    acts_unless_refused (refusal_of a.resets piece a.receiver.max_receive_message_size) (Act.Deferred piece)
    else []

abbrev pub acts_unless_faulty : Shown × Option Error → List Act
acts_unless_faulty (a, None) = acts_of_settling a
acts_unless_faulty (a, Some fault) = []

abbrev pub acts_of_found : Shown × Bool → ChunkPayloadData → List Act
acts_of_found (a, false) piece = []
acts_of_found (a, true) piece =
    acts_of_taking_where_admitted a piece ++ acts_unless_faulty (taken_where_admitted a piece)

abbrev pub acts_of_hidden : Shown → ChunkPayloadData → List Act
acts_of_hidden a piece = acts_of_deferring a piece ++ acts_unless_faulty (deferred_where_admitted a piece)

abbrev pub acts_of_counted_data : Shown → ChunkPayloadData → List Act
acts_of_counted_data a piece =
    if not (is_new_to a.receiver piece.tsn) then acts_of_settling a else
    if is_hidden a.resets piece.stream_identifier piece.tsn then acts_of_hidden a piece else
    acts_of_stream a piece.stream_identifier ++ acts_of_found (stream_found a piece.stream_identifier) piece

-- what DATA does that comes; behind it a request of the peer that waited for it is performed
abbrev pub acts_of_data : Shown → ChunkPayloadData → List Act
acts_of_data a piece = acts_of_counted_data (counted_data a) piece

abbrev pub marks_if : Bool → List Act
marks_if true = Act.Marked ∷ []
marks_if false = []

abbrev pub acts_of_outcome : SackOutcome → ℕ → List GapAckBlock → Reports → Bool → List Act
acts_of_outcome outcomes.Older n blocks missing opens = []
acts_of_outcome outcomes.NotInFlight n blocks missing opens = []
acts_of_outcome outcomes.NamesTheUnsent n blocks missing opens = []
acts_of_outcome outcomes.Taken n blocks missing opens = Act.Acknowledged n blocks missing ∷ marks_if opens

-- a SACK with this window; one that opens the peer's window marks what is left in flight
abbrev pub acts_of_sack : Shown → ℕ → List GapAckBlock → ℕ → List Act
acts_of_sack a cumulative_tsn_ack blocks window =
    if sends_data a.state then
    acts_of_outcome (sack_outcome a.sender cumulative_tsn_ack blocks) (tsns_up_to a.sender cumulative_tsn_ack) blocks
    (reports_of a.sender cumulative_tsn_ack blocks) (opens_window (is_probing a.profile a.sender) window)
    else []

abbrev pub known_unless : Bool → ℕ → List Act
known_unless true initial_tsn = []
known_unless false initial_tsn = Act.PeerKnown initial_tsn ∷ []

-- an INIT that is answered tells the peer's initial TSN, unless it is kept
abbrev pub acts_of_init : Shown → ChunkInit → List Act
acts_of_init a init = if is_beginning a.state then known_unless (keeps_peer a init) init.initial_tsn else []

-- and so does an INIT ACK in CookieWait between the ports of this side's INIT
abbrev pub acts_of_init_ack : Shown → CommonHeader → ChunkInit → List Act
acts_of_init_ack a header init =
    if is_cookie_wait a.state then
    (if comes_back a.handshake header then Act.PeerKnown init.initial_tsn ∷ [] else []) else []

abbrev pub acts_of_finding_if : Bool → Shown → ℕ → List Act
acts_of_finding_if true a id = acts_of_stream a id
acts_of_finding_if false a id = []

-- the streams on which a FORWARD TSN skips are made where they are missing
abbrev pub acts_of_finding : ℕ → List SkippedStream → Shown → List Act
acts_of_finding tsn [] a = []
acts_of_finding tsn (e ∷ es) a =
    acts_of_finding_if (makes_for tsn e.stream_identifier a) a e.stream_identifier
    ++ acts_of_finding tsn es (found_at tsn e.stream_identifier a)

abbrev pub acts_of_passing : Shown → ℕ → List SkippedStream → List Act
acts_of_passing a tsn skips =
    Act.PassedOver tsn skips ∷ (acts_of_keeping tsn skips a
    ++ acts_of_settling (with_passed (with_skips tsn skips a) tsn))

-- a FORWARD TSN that is ahead passes over what it says
abbrev pub acts_of_forward_at : Standing → Shown → ℕ → List SkippedStream → List Act
acts_of_forward_at standings.Unused a tsn skips = []
acts_of_forward_at standings.Behind a tsn skips = []
acts_of_forward_at standings.Ahead a tsn skips =
    acts_of_finding tsn skips a ++ acts_of_passing (found_for tsn skips a) tsn skips

abbrev pub acts_of_forward : Shown → ℕ → List SkippedStream → List Act
acts_of_forward a tsn skips = acts_of_forward_at (standing_of a tsn) a tsn skips

abbrev pub acts_of_kind : Shown → CommonHeader → Chunk → List Act
acts_of_kind a header (chunks.Data piece) = acts_of_data a piece
acts_of_kind a header (chunks.SelectiveAck sack) =
    acts_of_sack a sack.cumulative_tsn_ack sack.gap_ack_blocks sack.advertised_receiver_window_credit
acts_of_kind a header (chunks.Init init) = acts_of_init a init
acts_of_kind a header (chunks.InitAck init) = acts_of_init_ack a header init
acts_of_kind a header (chunks.ForwardTsn forward) = acts_of_forward a forward.new_cumulative_tsn forward.streams
acts_of_kind a header (chunks.IForwardTsn forward) =
    acts_of_forward a forward.new_cumulative_tsn (skips_of forward.entries)
acts_of_kind a header (chunks.Reconfig reconfig) = acts_of_reconfig a reconfig
acts_of_kind a header chunk = []

abbrev pub acts_of_checked : Result (Unit {0}) Error → Shown → CommonHeader → Chunk → List Act
acts_of_checked (Err fault) a header chunk = []
acts_of_checked (Ok _) a header chunk = acts_of_kind a header chunk

abbrev pub acts_of_chunk : Shown → CommonHeader → Chunk → List Act
acts_of_chunk a header chunk = acts_of_checked (checked_chunk chunk) a header chunk

abbrev pub acts_of_close : Shown → List Act
acts_of_close a = if is_closed_state a.state then [] else Act.Ended ∷ []

abbrev pub acts_after : Shown × Flow → (Shown → AckTrigger → List Act) → List Act
acts_after (a, flows.Next trigger) more = more a trigger
acts_after (a, flows.Fault fault) more = acts_of_close a
acts_after (a, flows.Closed) more = acts_of_close a
acts_after (a, flows.Exhausted) more = acts_of_close a

-- a read; the ends of generations that it leaves read to their end; and the close where it leaves the receive buffer
-- exhausted
abbrev pub acts_of_read : Shown → ℕ → List Act
acts_of_read a id =
    Act.WasRead id ∷ (acts_of_draining a id (read_in a.streams id).0
    ++ (if read_exhausts a id then acts_of_close a else []))

-- the application stops a stream: its span ends, and so does the association where nothing that waits can be read
abbrev pub acts_of_stop : Shown → ℕ → List Act
acts_of_stop a id =
    if holds_of (λ s. is_read_half_open s.halves) a id then
    Act.SpansEnded (id ∷ []) (stopped_open a id).streams
    ∷ (if is_exhausted (stopped_open a id) then acts_of_close (stopped_open a id) else [])
    else []

-- it closes both halves of a stream
abbrev pub acts_of_close_stream : Shown → ℕ → List Act
acts_of_close_stream a id =
    Act.Adjusted id settings.WriteHalfClosed ∷ acts_of_stop (adjusted a id settings.WriteHalfClosed) id

-- the chunks of a packet, in order, up to one that ends it
abbrev pub acts_of_chunks : CommonHeader → List Chunk → Shown → AckTrigger → ℕ → List Act
acts_of_chunks header [] a trigger now = []
acts_of_chunks header (c ∷ cs) a trigger now =
    acts_of_chunk a header c ++ acts_after (on_chunk a header c trigger now)
    (λ b next. acts_of_chunks header cs b next now)

abbrev pub acts_of_packet_of : Shown → Option Packet → ℕ → List Act
acts_of_packet_of a None now = []
acts_of_packet_of a (Some packet) now = acts_of_chunks packet.common_header packet.chunks a triggers.None now

-- a packet that comes, if there is one
abbrev pub acts_of_packet : Shown → Option Packet → ℕ → List Act
acts_of_packet a packet now = if a.lost then [] else acts_of_packet_of a packet now

-- the pieces that a reason picks and that fit together into so many bytes go out again
abbrev pub acts_of_resending : Bool → Retransmission → ℕ → ℕ → List InFlight → List Act
acts_of_resending at_once by index room [] = []
acts_of_resending at_once by index room (p ∷ ps) =
    if not (picks by p) then acts_of_resending at_once by (index + 1) room ps else
    if nat_lt room (room_taken by p) then [] else
    Act.SentAgain at_once by index ∷ acts_of_resending at_once by (index + 1) (room - room_taken by p) ps

abbrev pub first_again : Bool → List InFlight → List Act
first_again at_once [] = []
first_again at_once (p ∷ ps) = Act.SentAgain at_once causes.Timer 0 ∷ []

abbrev pub acts_of_marks : Sender → List Act
acts_of_marks s =
    if resends_alone s then first_again (asks_again s) s.queue.in_flight else
    acts_of_resending (asks_again s) causes.Timer 0 (both_windows s) s.queue.in_flight

-- where it is due, what is missing goes out again in one packet
abbrev pub acts_of_missing : Sender → List Act
acts_of_missing s =
    if s.is_fast_due then acts_of_resending (asks_again s) causes.Fast 0 (fast_room s) s.queue.in_flight else []

-- the next pieces that wait go out while the windows have room
abbrev pub acts_of_sending : ℕ → Sender → ℕ → List Act
acts_of_sending zero s now = []
acts_of_sending (suc n) s now =
    if can_send_next s then
    Act.Sent (asks_at_once s) now ∷ acts_of_sending n (sent_one s.queue.pending s now).0 now
    else []

abbrev pub first_sent : Bool → List Waiting → ℕ → List Act
first_sent at_once [] now = []
first_sent at_once (m ∷ ms) now = Act.Sent at_once now ∷ []

abbrev pub acts_of_new : Sender → ℕ → List Act
acts_of_new s now =
    if length s.queue.in_flight == 0 && not (can_send_next s) then first_sent (asks_at_once s) s.queue.pending now else
    acts_of_sending (pieces_waiting s.queue.pending) s now

-- the message of the piece at this index in flight, if there is one, is abandoned
abbrev pub acts_of_abandoning : Option ℕ → List Act
acts_of_abandoning None = []
acts_of_abandoning (Some index) = Act.Abandoned index ∷ []

-- the first n messages that are given up for a reason are abandoned, one after another
abbrev pub acts_of_giving_up : ℕ → Reason → Sender × StreamMap → List Act
acts_of_giving_up zero why all = []
acts_of_giving_up (suc n) why all =
    acts_of_abandoning (next_given_up why all.0)
    ++ acts_of_giving_up n why (abandoned_if (next_given_up why all.0) all)

abbrev pub acts_of_giving_all_up : Reason → Sender × StreamMap → List Act
acts_of_giving_all_up why all = acts_of_giving_up (length all.0.queue.in_flight) why all

-- what would go out again for a reason too often is given up, where FORWARD TSN is in use
abbrev pub acts_of_spent : Retransmission → Shown → List Act
acts_of_spent by a = if uses_forward_tsn a then acts_of_giving_all_up (reasons.Spent by) (both_of a) else []

abbrev pub acts_of_tail : ℕ → Sender → List Act
acts_of_tail now s = if has_late_tail now s then Act.TailAbandoned ∷ [] else []

-- the time of each message runs, and those of which something was sent and whose time is over are abandoned
abbrev pub acts_of_expiry : ℕ → Sender × StreamMap → List Act
acts_of_expiry now all =
    Act.Started now ∷ (acts_of_giving_all_up (reasons.Expired now) (with_started now all.0, all.1)
    ++ acts_of_tail now (late_given_up now all).0)

abbrev pub acts_of_late : Shown → ℕ → List Act
acts_of_late a now = if uses_forward_tsn a then acts_of_expiry now (both_of a) else []

-- this message, if there is one, which waits at an index, is dropped
abbrev pub acts_of_dropping : Option Waiting → ℕ → List Act
acts_of_dropping None index = []
acts_of_dropping (Some m) index = Act.Dropped index ∷ []

-- the first n messages of which nothing was sent and whose time is over are dropped, one after another
abbrev pub acts_of_drops : ℕ → ℕ → Sender × StreamMap → List Act
acts_of_drops zero now all = []
acts_of_drops (suc n) now all =
    acts_of_dropping (find (is_expired_unsent now) all.0.queue.pending)
    (position_or_len (is_expired_unsent now) all.0.queue.pending)
    ++ acts_of_drops n now (first_dropped now all)

abbrev pub acts_of_unsent : Shown → ℕ → List Act
acts_of_unsent a now =
    if uses_forward_tsn a then acts_of_drops (length a.sender.queue.pending) now (both_of a) else []

-- what the retransmission timer marked goes out again, behind what is given up of it
abbrev pub acts_of_marks_poll : Shown → List Act
acts_of_marks_poll a = acts_of_spent causes.Timer a ++ acts_of_marks (spent_abandoned causes.Timer a).sender

-- so does what is missing
abbrev pub acts_of_fast_poll : Shown → List Act
acts_of_fast_poll a = acts_of_spent causes.Fast a ++ acts_of_missing (spent_abandoned causes.Fast a).sender

-- new DATA goes out, behind what is dropped of it
abbrev pub acts_of_new_poll : Shown → ℕ → List Act
acts_of_new_poll a now = acts_of_unsent a now ++ acts_of_new (late_dropped a now).sender now

-- the DATA of a poll, and what is given up before it
abbrev pub acts_of_data_poll : Shown → ℕ → List Act
acts_of_data_poll a now =
    acts_of_late a now ++ acts_of_marks_poll (late_abandoned a now) ++ acts_of_fast_poll (marks_polled a now)
    ++ acts_of_new_poll (fast_polled a now) now

abbrev pub acts_of_ack : Shown → List Act
acts_of_ack a = if is_due a.receiver.ack_state then Act.Reported ∷ [] else []

-- FORWARD TSN goes out
abbrev pub acts_of_forwarding : Bool → List Act
acts_of_forwarding forwards = if forwards then Act.Forwarded ∷ [] else []

-- a poll gives FORWARD TSN: it is due once DATA was selected (RFC 3758 section 3.5)
abbrev pub forwards_of_poll : Shown → ℕ → Bool
forwards_of_poll a now = exchanges_data a.state && gives_forward (data_polled a now).0.sender

-- what a poll gives in front of the chunks of a graceful end
abbrev pub acts_of_exchange : Shown → ℕ → List Act
acts_of_exchange a now =
    if exchanges_data a.state then
    acts_of_data_poll a now ++ acts_of_ack a ++ acts_of_forwarding (forwards_of_poll a now)
    else []

-- SHUTDOWN COMPLETE goes out, and the association is closed
abbrev pub acts_of_ending : Shown → List Act
acts_of_ending a = if completes_shutdown a then Act.Ended ∷ [] else []

-- a poll for packets
abbrev pub acts_of_poll : Shown → ℕ → List Act
acts_of_poll a now = acts_of_exchange a now ++ acts_of_ending (open_polled a now).0

-- the acknowledgement that a poll gives, where one is due
abbrev pub acks_given : Shown → List (List ℕ)
acks_given a = if is_due a.receiver.ack_state then sack_packet a else []

-- requests to reset streams, each in a packet of its own
abbrev pub requests_given : CommonHeader → List ParamOutgoingResetRequest → List (List ℕ)
requests_given header [] = []
requests_given header (request ∷ requests) =
    packet_bytes header (reconfig_of (params.OutgoingResetRequest request)) ++ requests_given header requests

-- while DATA is exchanged these packets of DATA, then these requests to reset streams, then the acknowledgement, and
-- then, where it is given, the FORWARD TSN of what is in flight after the poll
abbrev pub exchange_given : Shown → List (List ChunkPayloadData) → List ParamOutgoingResetRequest → Bool → Shown
    → List (List ℕ)
exchange_given a bundles requests forwards b =
    if exchanges_data a.state then
    datagrams_of (header_of a.handshake) bundles ++ requests_given (header_of a.handshake) requests ++ acks_given a
    ++ (if forwards then packet_bytes (header_of a.handshake) (forward_chunk b) else [])
    else []

-- packets that wait, then those, and then one for each of these chunks of a graceful end
abbrev pub packets_given : Shown → List (List ChunkPayloadData) → List ParamOutgoingResetRequest → Bool → Shown
    → List Chunk → List (List ℕ)
packets_given a bundles requests forwards b ending =
    (control_polled a).1 ++ exchange_given a bundles requests forwards b ++ flat_map (shutdown_packet a) ending

-- it says nothing of DATA but where the sender of the chunk stands: SHUTDOWN, SHUTDOWN ACK or SHUTDOWN COMPLETE
abbrev pub IsOfShutdown : Chunk → Type 0
IsOfShutdown (chunks.Shutdown tsn) = ⊤
IsOfShutdown chunks.ShutdownAck = ⊤
IsOfShutdown chunks.ShutdownComplete = ⊤
IsOfShutdown chunk = ⊥

-- a datagram of a request to reset streams that are among those that this side asked for, which is read again as that
abbrev pub IsRequestOf : CommonHeader → OwnView → List ℕ → Type 0
IsRequestOf header own bytes =
    (request : ParamOutgoingResetRequest)
    × (packet_at bytes ≡ Ok (single_chunk_packet header (reconfig_of (params.OutgoingResetRequest request))))
    × ((over : ℕ → Bool) → OwnOver over own → ParamOver over request)

-- a datagram that went out before any DATA: one of a packet that waited, or such a request
abbrev pub IsOfControl : Shown → List ℕ → Type 0
IsOfControl a bytes =
    ((k : ℕ) × (c : ControlPacket) × (slice_get a.control k ≡ Some (controls.Packet c))
    × (packet_bytes c.header c.chunk ≡ bytes ∷ []))
    ⊎ IsRequestOf (header_of a.handshake) a.resets.own bytes

-- of this side no stream is to be reset, and no request is open
abbrev pub AsksForNothing : OwnView → Type 0
AsksForNothing o = (o.waiting ≡ []) × (o.queued ≡ []) × (o.active ≡ None)

-- A poll for packets leads on by its acts, and gives what they say: its packets of DATA carry, in order, the DATA of
-- the acts for which one chunk has room, under the TSNs of its offsets, and each packet is read as what it was made of.
-- It gives FORWARD TSN or not.
pub record Polls (xs : List Act) (forwards : Bool) (a : Shown) (h : History) (b : Shown)
    (packets : List (List ℕ)) : Type 0 where
  pub leads : Leads xs a h b h
  -- what the packets of DATA carry
  pub bundles : List (List ChunkPayloadData)
  pub joined : all_of bundles ≡ filter data_fits (all_data_given xs (parts a h))
  -- the requests to reset streams that go out behind them: none where this side asks for nothing
  pub requests : List ParamOutgoingResetRequest
  pub quiet : AsksForNothing a.resets.own → requests ≡ []
  -- and all of them are of streams past their span where all that this side asks for is
  pub asked : (over : ℕ → Bool) → OwnOver over a.resets.own → AllByRecursion (ParamOver over) requests
  pub requests_again : AreRequestsReadAgain (header_of a.handshake) requests
  -- the chunk of a graceful end that goes out last, if one does
  pub ending : List Chunk
  pub ending_is : AllByRecursion IsOfShutdown ending
  pub said : packets ≡ packets_given a bundles requests forwards b ending
  pub data_again : exchanges_data a.state ≡ true → AreReadAgain (header_of a.handshake) bundles
  pub ack_again : exchanges_data a.state ≡ true → AckIsReadAgain a
  pub forward_again : forwards ≡ true → IsReadAgain (header_of a.handshake) (forward_chunk b)
  pub ending_again : AllByRecursion (IsReadAgain (header_of a.handshake)) ending

-- A poll for packets does and gives so from each history on which the association stands; what waited is read again as
-- what it was.
pub record PollsOn (xs : List Act) (forwards : Bool) (a b : Shown) (packets : List (List ℕ)) : Type 0 where
  pub control_again : AreControlReadAgain a.control
  pub control_said : AllByRecursion (IsOfControl a) (control_polled a).1
  pub from : (h : History) → Binds a h → Polls xs forwards a h b packets

-- the retransmission timer, where it expired by a moment and is within its limit
abbrev pub acts_of_t3 : Shown → ℕ → List Act
acts_of_t3 a now =
    if (expiry_of names.T3RTX now a.timers).expired then
    (if (expiry_of names.T3RTX now a.timers).failed then [] else Act.Marked ∷ [])
    else []

abbrev pub acts_of_timeouts : Shown → ℕ → List Act
acts_of_timeouts a now = acts_of_t3 (after_shutdown_timer a now) now
