-- What the chunks of a packet do to an association (RFC 4960 sections 3.3 and 6.2).
use Rattle.std.specs.Prelude.{ℕ, Bool, true, false, List, [], ◌∷◌, ◌++◌, ◌&&◌, ◌||◌, if◌then◌else◌, not}
use Rattle.std.specs.Prelude.{length, nat_le, Option, Some, None, Result, Ok, Err}
use Rattle.sctp_wire_types.specs.Config.{is_rfc}
use Rattle.sctp_wire_types.specs.declared.config.Profile.{Profile}
use Rattle.sctp_wire_types.specs.declared.error.Error.{Error}
use Rattle.sctp_wire_types.specs.declared.error.Error.TheVariants as errors
use Rattle.sctp_wire_types.specs.declared.chunk.Chunk.{Chunk}
use Rattle.sctp_wire_types.specs.declared.chunk.Chunk.TheVariants as chunks
use Rattle.sctp_wire_types.specs.declared.chunk.ChunkPayloadData.{ChunkPayloadData}
use Rattle.sctp_wire_types.specs.declared.event.StreamEvent.TheVariants.{Readable}
use Rattle.sctp_wire_types.specs.declared.packet.CommonHeader.{CommonHeader}
use Rattle.sctp_wire_types.specs.Checks.{checked_chunk}
use Rattle.sctp_wire.specs.declared.packet.Packet.{Packet}
use Rattle.sctp_parts.specs.Estimate.{Estimate}
use Rattle.sctp_parts.specs.Stats.{one_more}
use Rattle.sctp_streams.specs.declared.event.AssociationError.TheVariants as reasons
use Rattle.sctp_streams.specs.declared.event.Event.TheVariants.{DatagramReceived}
use Rattle.sctp_streams.specs.declared.event.Event.TheVariants as events
use Rattle.sctp_streams.specs.Stream.{is_read_half_open}
use Rattle.sctp_streams.specs.Streams.{StreamMap, stream_at, refusal_in}
use Rattle.sctp_streams.specs.Streams.{pushed_in, is_readable_in}
use Rattle.sctp_streams.specs.LowMarks.{low_told}
use Rattle.sctp_inbound.specs.declared.receiver.AckTrigger.{AckTrigger}
use Rattle.sctp_inbound.specs.declared.receiver.AckTrigger.TheVariants as triggers
use Rattle.sctp_inbound.specs.Held.{has_gap}
use Rattle.sctp_inbound.specs.Receiver.{admits, asked, ended_packet, ended_packet_timers, is_new_to, taken_to}
use Rattle.sctp_wire_types.specs.declared.chunk.GapAckBlock.{GapAckBlock}
use Rattle.sctp_outbound.specs.Forward.{forward_asked}
use Rattle.sctp_outbound.specs.Sacks.{progress_of, sack_taken}
use Rattle.sctp_outbound.specs.declared.sender.Sender.{Sender}
use Rattle.sctp_outbound.specs.declared.progress.Progress.{Progress}
use Rattle.sctp_outbound.specs.declared.sender.SackOutcome.{SackOutcome}
use Rattle.sctp_outbound.specs.declared.sender.SackOutcome.TheVariants as outcomes
use Rattle.sctp_outbound.specs.Sender.{sack_outcome, t3_after_sack}
use Rattle.sctp_resets.specs.Resets.{is_hidden, refusal_of, with_deferred}
use Rattle.sctp_assoc.specs.declared.intake.Found.{Found}
use Rattle.sctp_assoc.specs.declared.intake.Found.TheVariants as founds
use Rattle.sctp_assoc.specs.declared.inbound.Flow.{Flow}
use Rattle.sctp_assoc.specs.declared.inbound.Flow.TheVariants as flows
use Rattle.sctp_assoc.specs.Calls.{holds_at, sends_data}
use Rattle.sctp_assoc.specs.Closing.{closed_by, exhausted, is_exhausted}
unfoldable pub use Rattle.sctp_assoc.specs.Finding.{stream_found}
pub use Rattle.sctp_assoc.specs.Finding.{with_new_stream}
use Rattle.sctp_assoc.specs.Handshake.{on_cookie_ack, on_cookie_echo, on_heartbeat, on_init, on_init_ack}
use Rattle.sctp_assoc.specs.Probes.{is_probing, probes_answered}
use Rattle.sctp_assoc.specs.Resets.{on_reconfig, settled, skips_applied_of}
use Rattle.sctp_assoc.specs.Shown.{Shown, all_waiting, uses_forward_tsn}
use Rattle.sctp_assoc.specs.Shutdown.{on_shutdown, on_shutdown_ack, on_shutdown_complete, shutdown_continued}
use Rattle.sctp_assoc.specs.Skipping.{on_forward, skips_of}

-- DATA

abbrev pub counted_data : Shown → Shown
counted_data a = record a { counts = (let c = a.counts in record c { datas = one_more c.datas }) }

-- the stream to which DATA comes is live
abbrev pub is_there : Found → Bool
is_there founds.Absent = false
is_there founds.Read = true
is_there founds.Left = true

-- and nobody reads it any more
abbrev pub is_left : Found → Bool
is_left founds.Absent = false
is_left founds.Read = false
is_left founds.Left = true

-- By the rules of the RFCs nobody reads a live stream any more whose read half is closed: its DATA is received and
-- acknowledged (RFC 4960 section 6.2), and no application is left to which it could be delivered. The port delivers to
-- such a stream all the same.
unfoldable pub nobody_reads : Profile → StreamMap → ℕ → Bool
nobody_reads profile m id = is_rfc profile && holds_at (λ s. not (is_read_half_open s.halves)) (stream_at m id)

-- DATA comes to such a stream
abbrev pub goes_unread : Shown → ChunkPayloadData → Bool
goes_unread a piece = nobody_reads a.profile a.streams piece.stream_identifier

-- what is queued where DATA came: DatagramReceived, and Readable where it was kept and its stream can be read
abbrev pub told : Shown → ℕ → Bool → Shown
told a id kept =
    if kept && is_readable_in a.streams id then record a {
      events = (a.events ++ DatagramReceived ∷ []) ++ events.Stream (Readable id) ∷ [];
    }
    else record a { events = a.events ++ DatagramReceived ∷ [] }

abbrev pub with_message : Shown → ChunkPayloadData → StreamMap × Bool → Shown
with_message a piece (streams, kept) =
    told (record a { streams = streams; receiver = taken_to a.receiver piece.tsn }) piece.stream_identifier kept

abbrev pub taken_unless : Option Error → Shown → ChunkPayloadData → Shown × Option Error
taken_unless (Some fault) a piece = (a, Some fault)
taken_unless None a piece = (with_message a piece (pushed_in a.streams piece.stream_identifier piece), None)

-- a piece goes to its stream, and its TSN is held and the last TSN in order moves over all that follow it; or the
-- stream refuses it, as one of a message that is longer than the limit
abbrev pub handed_over : Shown → ChunkPayloadData → Shown × Option Error
handed_over a piece =
    taken_unless (refusal_in a.streams piece.stream_identifier piece a.receiver.max_receive_message_size) a piece

-- the TSN of a piece that nobody reads is held likewise, and its bytes are dropped
abbrev pub left_unread : Shown → ChunkPayloadData → Shown
left_unread a piece = record a {
  receiver = taken_to a.receiver piece.tsn;
  events = a.events ++ DatagramReceived ∷ [];
}

abbrev pub left_or_handed_over : Bool → Shown → ChunkPayloadData → Shown × Option Error
left_or_handed_over true a piece = (left_unread a piece, None)
left_or_handed_over false a piece = handed_over a piece

-- a piece is taken in: what nobody reads is left, and other DATA goes to its stream, which may refuse it
unfoldable pub taken_in : Shown → ChunkPayloadData → Shown × Option Error
taken_in a piece = left_or_handed_over (goes_unread a piece) a piece

abbrev pub refusal_unless_left : Bool → Shown → ChunkPayloadData → Option Error
refusal_unless_left true a piece = None
refusal_unless_left false a piece =
    refusal_in a.streams piece.stream_identifier piece a.receiver.max_receive_message_size

-- why a piece is not taken in: its stream refuses it. What nobody reads is not refused
abbrev pub intake_refusal : Shown → ChunkPayloadData → Option Error
intake_refusal a piece = refusal_unless_left (goes_unread a piece) a piece

abbrev pub deferred_unless : Option Error → Shown → ChunkPayloadData → Shown × Option Error
deferred_unless (Some fault) a piece = (a, Some fault)
deferred_unless None a piece =
    (record a { receiver = taken_to a.receiver piece.tsn; resets = with_deferred a.resets piece }, None)

-- DATA of a generation that is not read yet is kept, unless what waits of that generation refuses it (RFC 6525 section
-- 5.2.2)
abbrev pub deferred : Shown → ChunkPayloadData → Shown × Option Error
deferred a piece =
    deferred_unless (refusal_of a.resets piece a.receiver.max_receive_message_size) a piece

abbrev pub then_skips : Shown × Option Error → ℕ → Shown × Option Error
then_skips (a, None) id = (skips_applied_of id a, None)
then_skips (a, Some fault) id = (a, Some fault)

-- new DATA of the generation that is read, and the skips that were kept for that; without credit it is left unless it
-- fills a gap
abbrev pub taken_where_admitted : Shown → ChunkPayloadData → Shown × Option Error
taken_where_admitted a piece =
    if admits a.receiver piece.tsn (all_waiting a) then then_skips (taken_in a piece) piece.stream_identifier
    else (a, None)

-- new DATA of a generation that is not read yet, likewise
unfoldable pub deferred_where_admitted : Shown → ChunkPayloadData → Shown × Option Error
deferred_where_admitted a piece =
    if admits a.receiver piece.tsn (all_waiting a) then deferred a piece else (a, None)

-- DATA asks to be acknowledged, unless the receive buffer is exhausted
abbrev pub asks : Shown → Bool → AckTrigger → Shown × Flow
asks a immediate trigger =
    if is_exhausted a then (a, flows.Exhausted) else (a, flows.Next (asked a.receiver trigger immediate))

-- behind DATA that is no fault, a request of the peer that waited for it is performed
abbrev pub asks_or_faults : Shown × Option Error → Bool → AckTrigger → Shown × Flow
asks_or_faults (a, None) immediate trigger = asks (settled a) immediate trigger
asks_or_faults (a, Some fault) immediate trigger = (a, flows.Fault fault)

-- new DATA comes to a stream that was found
abbrev pub on_new_data : Shown × Bool → ChunkPayloadData → AckTrigger → Shown × Flow
on_new_data (a, false) piece trigger = (a, flows.Next trigger)
on_new_data (a, true) piece trigger = asks_or_faults (taken_where_admitted a piece) piece.immediate_sack trigger

abbrev pub on_counted_data : Shown → ChunkPayloadData → AckTrigger → Shown × Flow
on_counted_data a piece trigger =
    if not (is_new_to a.receiver piece.tsn) then asks (settled a) piece.immediate_sack trigger else
    if is_hidden a.resets piece.stream_identifier piece.tsn then
    asks_or_faults (deferred_where_admitted a piece) piece.immediate_sack trigger
    else on_new_data (stream_found a piece.stream_identifier) piece trigger

-- DATA is counted; new DATA is taken in where credit is left or it fills a gap, and its stream does not refuse it; DATA
-- asks to be acknowledged unless it is a fault, no generation is left for its stream, or it finds or leaves the receive
-- buffer exhausted
unfoldable pub on_data : Shown → ChunkPayloadData → AckTrigger → Shown × Flow
on_data a piece trigger = on_counted_data (counted_data a) piece trigger

-- By the rules of the RFCs DATA that came before is acknowledged at once, and so is what comes while a gap is there,
-- also what fills the last one (RFC 4960 section 6.2, and section 4.2 of RFC 2581, to which that points).
unfoldable pub is_urgent : Shown → ℕ → Bool
is_urgent a tsn = is_rfc a.profile && (has_gap a.receiver.held || not (is_new_to a.receiver tsn))

abbrev pub urged_if : Bool → AckTrigger → AckTrigger
urged_if urgent trigger = if urgent then triggers.Immediate else trigger

abbrev pub urged : Shown → ChunkPayloadData → AckTrigger → AckTrigger
urged a piece trigger = urged_if (is_urgent a piece.tsn) trigger

-- SACK

abbrev pub counted_sack : Shown → Shown
counted_sack a = record a { counts = (let c = a.counts in record c { sacks = one_more c.sacks }) }

abbrev pub with_acknowledged : Shown → Progress → ℕ → Sender × Estimate × StreamMap → Shown
with_acknowledged a progress now (sender, estimate, streams) = record a {
  sender = forward_asked (uses_forward_tsn a) sender;
  estimate = estimate;
  streams = streams;
  events = a.events ++ low_told a.streams streams;
  timers = t3_after_sack progress (length sender.queue.in_flight) now estimate.rto a.timers;
}

-- a SACK is taken: the pieces up to its cumulative TSN ack and those that its gap ack blocks name are acknowledged, and
-- its window is the peer's; each stream whose buffered amount fell to its low mark is told of once, and FORWARD TSN is
-- due where what is abandoned stands in front of all others in flight
abbrev pub after_sack : Shown → ℕ → List GapAckBlock → ℕ → ℕ → Shown
after_sack a cumulative_tsn_ack blocks window now =
    with_acknowledged a (progress_of a.sender cumulative_tsn_ack blocks) now
    (sack_taken cumulative_tsn_ack blocks window now a.sender a.estimate a.streams)

abbrev pub on_counted_sack : SackOutcome → Shown → ℕ → List GapAckBlock → ℕ → AckTrigger → ℕ → Shown × Flow
on_counted_sack outcomes.Older a cumulative_tsn_ack blocks window trigger now = (a, flows.Next trigger)
on_counted_sack outcomes.NotInFlight a cumulative_tsn_ack blocks window trigger now =
    (a, flows.Fault errors.ErrInflightQueueTsnPop)
on_counted_sack outcomes.NamesTheUnsent a cumulative_tsn_ack blocks window trigger now =
    (a, flows.Fault errors.ErrTsnRequestNotExist)
on_counted_sack outcomes.Taken a cumulative_tsn_ack blocks window trigger now = (
  probes_answered (is_probing a.profile a.sender) window
      (shutdown_continued (after_sack a cumulative_tsn_ack blocks window now)),
  flows.Next trigger,
)

-- a SACK counts while DATA of this side may be unacknowledged; one whose cumulative TSN ack is not in flight, or whose
-- gap ack blocks name a TSN that is not, is a fault. Where it leaves nothing to send and nothing in flight, a shutdown
-- that waited for that goes on. Behind it probes of a closed window are answered
unfoldable pub on_sack : Shown → ℕ → List GapAckBlock → ℕ → AckTrigger → ℕ → Shown × Flow
on_sack a cumulative_tsn_ack blocks window trigger now =
    if sends_data a.state then
    on_counted_sack (sack_outcome a.sender cumulative_tsn_ack blocks) (counted_sack a) cumulative_tsn_ack blocks window
    trigger now
    else (a, flows.Next trigger)

-- Any chunk

-- the highest bit of a chunk type says that who does not know the chunk passes over it (RFC 4960 section 3.2)
abbrev pub is_skippable : ℕ → Bool
is_skippable kind = nat_le 128 kind

-- by the rules of the RFCs what only tells something is passed over, and what its type lets be; by those of the port
-- they are faults
abbrev pub passed_over : Bool → Error → AckTrigger → Flow
passed_over true fault trigger = flows.Next trigger
passed_over false fault trigger = flows.Fault fault

abbrev pub dispatched : Shown → CommonHeader → Chunk → AckTrigger → ℕ → Shown × Flow
dispatched a header (chunks.Data piece) trigger now = on_data a piece (urged a piece trigger)
dispatched a header (chunks.SelectiveAck sack) trigger now =
    on_sack a sack.cumulative_tsn_ack sack.gap_ack_blocks sack.advertised_receiver_window_credit trigger now
dispatched a header (chunks.Init init) trigger now = on_init a header init trigger
dispatched a header (chunks.InitAck init) trigger now = on_init_ack a header init trigger now
dispatched a header (chunks.CookieEcho cookie) trigger now = on_cookie_echo a cookie trigger
dispatched a header chunks.CookieAck trigger now = on_cookie_ack a trigger
dispatched a header (chunks.Heartbeat heartbeat) trigger now = on_heartbeat a heartbeat trigger
dispatched a header (chunks.ForwardTsn forward) trigger now =
    on_forward a forward.new_cumulative_tsn forward.streams trigger now
dispatched a header (chunks.IForwardTsn forward) trigger now =
    on_forward a forward.new_cumulative_tsn (skips_of forward.entries) trigger now
dispatched a header (chunks.Reconfig reconfig) trigger now = on_reconfig a reconfig trigger
dispatched a header (chunks.Shutdown cumulative_tsn_ack) trigger now = on_shutdown a trigger
dispatched a header chunks.ShutdownAck trigger now = on_shutdown_ack a trigger
dispatched a header chunks.ShutdownComplete trigger now = (a, on_shutdown_complete a.state trigger)
dispatched a header (chunks.Abort abort) trigger now = (a, flows.Fault errors.ErrAbortChunk)
dispatched a header (chunks.Error error) trigger now =
    (a, passed_over (is_rfc a.profile) errors.ErrAbortChunk trigger)
dispatched a header (chunks.HeartbeatAck heartbeat) trigger now =
    (a, passed_over (is_rfc a.profile) errors.ErrChunkTypeUnhandled trigger)
dispatched a header (chunks.Other kind flags value) trigger now =
    (a, passed_over (is_skippable kind && is_rfc a.profile) errors.ErrChunkTypeUnhandled trigger)

abbrev pub checked_first : Result (Unit {0}) Error → Shown → CommonHeader → Chunk → AckTrigger → ℕ → Shown × Flow
checked_first (Err fault) a header chunk trigger now = (a, flows.Fault fault)
checked_first (Ok _) a header chunk trigger now = dispatched a header chunk trigger now

-- a chunk of a packet with this header; one that its own check refuses is a fault, and so are ABORT and those that are
-- neither processed nor passed over
unfoldable pub on_chunk : Shown → CommonHeader → Chunk → AckTrigger → ℕ → Shown × Flow
on_chunk a header chunk trigger now = checked_first (checked_chunk chunk) a header chunk trigger now

-- A packet

abbrev pub goes_on : Shown × Flow → (Shown → AckTrigger → Shown) → Shown
goes_on (a, flows.Next trigger) more = more a trigger
goes_on (a, flows.Fault fault) more = closed_by a reasons.AssociationClosed
goes_on (a, flows.Closed) more = closed_by a reasons.AssociationClosed
goes_on (a, flows.Exhausted) more = exhausted a

-- the acknowledgement that a packet's chunks asked for is arranged at its end
abbrev pub ended : Shown → AckTrigger → ℕ → Shown
ended a trigger now = record a {
  receiver = ended_packet a.receiver trigger;
  timers = ended_packet_timers a.timers trigger now;
}

-- the chunks in order; a fault ends the packet and closes an open association, and so do an exhausted receive buffer
-- and the end of a shutdown
abbrev pub after_chunks : CommonHeader → List Chunk → Shown → AckTrigger → ℕ → Shown
after_chunks header [] a trigger now = ended a trigger now
after_chunks header (c ∷ cs) a trigger now =
    goes_on (on_chunk a header c trigger now) (λ b next. after_chunks header cs b next now)

abbrev pub after_packet_of : Shown → Option Packet → ℕ → Shown
after_packet_of a None now = a
after_packet_of a (Some packet) now = after_chunks packet.common_header packet.chunks a triggers.None now

-- what came is processed unless the association was lost
abbrev pub after_packet : Shown → Option Packet → ℕ → Shown
after_packet a packet now = if a.lost then a else after_packet_of a packet now
