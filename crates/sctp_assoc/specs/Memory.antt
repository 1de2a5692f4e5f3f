-- Where what comes takes memory: a call may fail for want of memory only there.
use Rattle.std.specs.Prelude.{ℕ, Bool, true, false, List, [], ◌∷◌, ◌&&◌, ◌||◌, not, is_ok, is_some, Option, Some}
use Rattle.std.specs.Prelude.{None, length, nat_lt}
use Rattle.sctp_wire_types.specs.declared.chunk.Chunk.{Chunk}
use Rattle.sctp_wire_types.specs.declared.chunk.Chunk.TheVariants as chunks
use Rattle.sctp_wire_types.specs.declared.chunk.ChunkHeartbeat.{ChunkHeartbeat}
use Rattle.sctp_wire_types.specs.declared.chunk.ChunkInit.{ChunkInit}
use Rattle.sctp_wire_types.specs.declared.chunk.ChunkPayloadData.{ChunkPayloadData}
use Rattle.sctp_wire_types.specs.declared.packet.CommonHeader.{CommonHeader}
use Rattle.sctp_wire_types.specs.declared.chunk.GapAckBlock.{GapAckBlock}
use Rattle.sctp_wire_types.specs.Checks.{checked_chunk}
use Rattle.sctp_wire.specs.declared.packet.Packet.{Packet}
use Rattle.sctp_streams.specs.Streams.{stream_at}
use Rattle.sctp_streams.specs.LowMarks.{low_told}
use Rattle.sctp_inbound.specs.declared.receiver.AckTrigger.{AckTrigger}
use Rattle.sctp_inbound.specs.declared.receiver.AckTrigger.TheVariants as triggers
use Rattle.sctp_inbound.specs.Greeting.{first_cookie, information_of}
use Rattle.sctp_inbound.specs.Handshake.{comes_back, has_issued}
use Rattle.sctp_inbound.specs.Receiver.{admits, is_new_to}
use Rattle.sctp_outbound.specs.declared.sender.SackOutcome.{SackOutcome}
use Rattle.sctp_outbound.specs.declared.sender.SackOutcome.TheVariants as outcomes
use Rattle.sctp_outbound.specs.Sender.{sack_outcome}
use Rattle.sctp_generations.specs.Generations.{has_retiring, has_skips}
use Rattle.sctp_assoc.specs.declared.inbound.Flow.{Flow}
use Rattle.sctp_assoc.specs.declared.inbound.Flow.TheVariants as flows
use Rattle.sctp_assoc.specs.Calls.{is_beginning, is_cookie_echoed, is_cookie_wait, sends_data}
use Rattle.sctp_assoc.specs.Closing.{is_closed_state}
use Rattle.sctp_assoc.specs.Handshake.{acknowledges_again}
use Rattle.sctp_assoc.specs.Chunks.{after_sack, intake_refusal, on_chunk}
pub use Rattle.sctp_assoc.specs.Finding.{makes_stream}
use Rattle.sctp_assoc.specs.Shown.{Shown, all_waiting}
use Rattle.sctp_assoc.specs.Skipping.{forward_takes_memory, skips_of}

-- a generation of some stream ended and is still read, or a request of the peer is in progress, or a skip is kept
abbrev pub resets_take_memory : Shown → Bool
resets_take_memory a =
    has_retiring a.resets.generations || is_some a.resets.peer.in_progress || has_skips a.resets.generations

-- a piece is taken in where credit is left or it fills a gap, and its stream does not refuse it; what nobody reads is
-- not refused
abbrev pub is_taken_in : Shown → ChunkPayloadData → Bool
is_taken_in a piece = admits a.receiver piece.tsn (all_waiting a) && not (is_some (intake_refusal a piece))

-- that takes memory, and so do the skips that were kept for the generation of its stream
abbrev pub taking_takes_memory : Shown → ChunkPayloadData → Bool
taking_takes_memory a piece = is_taken_in a piece || has_skips a.resets.generations

-- a piece on a live stream is taken in where credit is left or it fills a gap, and its stream does not refuse it
abbrev pub keeps_message : Shown → ChunkPayloadData → Bool
keeps_message a piece =
    is_some (stream_at a.streams piece.stream_identifier) && is_taken_in a piece

-- DATA itself takes memory only where it is new, and its stream is made or it is taken in (RFC 4960 section 6.2). Where
-- a live stream refuses it, memory is taken for the close alone (`takes_memory_after`)
abbrev pub new_data_takes_memory : Shown → ChunkPayloadData → Bool
new_data_takes_memory a piece =
    is_new_to a.receiver piece.tsn
    && (makes_stream a piece.stream_identifier || keeps_message a piece)

-- so does DATA of a generation that is not read yet, for what is kept of it, and DATA behind which a request of the
-- peer is performed or a kept skip applied
abbrev pub data_takes_memory : Shown → ChunkPayloadData → Bool
data_takes_memory a piece =
    new_data_takes_memory a piece || resets_take_memory a

abbrev pub is_taken : SackOutcome → Bool
is_taken outcomes.Older = false
is_taken outcomes.NotInFlight = false
is_taken outcomes.NamesTheUnsent = false
is_taken outcomes.Taken = true

-- a SACK takes memory only where it tells of a stream whose buffered amount fell to its low mark
abbrev pub sack_takes_memory : Shown → ℕ → List GapAckBlock → ℕ → ℕ → Bool
sack_takes_memory a cumulative_tsn_ack blocks window now =
    sends_data a.state
    && (is_taken (sack_outcome a.sender cumulative_tsn_ack blocks)
    && nat_lt 0 (length (low_told a.streams (after_sack a cumulative_tsn_ack blocks window now).streams)))

-- an INIT is answered only before the association is established (RFC 4960 section 5.1)
abbrev pub init_takes_memory : Shown → Bool
init_takes_memory a = is_beginning a.state

-- the cookie of an INIT ACK is echoed in CookieWait alone, where the INIT ACK comes between the ports of this side's
-- INIT
abbrev pub init_ack_takes_memory : Shown → CommonHeader → ChunkInit → Bool
init_ack_takes_memory a header init =
    is_cookie_wait a.state && (comes_back a.handshake header && is_some (first_cookie init.params))

-- a COOKIE ECHO is acknowledged only with the cookie that this side gave out, and by the port's rules not in a shutdown
abbrev pub cookie_echo_takes_memory : Shown → List ℕ → Bool
cookie_echo_takes_memory a cookie = has_issued a.handshake cookie && (is_beginning a.state || acknowledges_again a)

-- a COOKIE ACK is told as an event in CookieEchoed alone
abbrev pub cookie_ack_takes_memory : Shown → Bool
cookie_ack_takes_memory a = is_cookie_echoed a.state

-- a HEARTBEAT is answered only with information (RFC 4960 section 8.3)
abbrev pub heartbeat_takes_memory : ChunkHeartbeat → Bool
heartbeat_takes_memory heartbeat = is_some (information_of heartbeat.params)

-- whether a chunk that passes its check takes memory itself. ABORT, ERROR and chunks that are not processed take none;
-- where they are faults, the close of an open association takes memory for its events (`takes_memory_after`)
abbrev pub takes_memory : Shown → CommonHeader → Chunk → ℕ → Bool
takes_memory a header (chunks.Data piece) now = data_takes_memory a piece
takes_memory a header (chunks.SelectiveAck sack) now =
    sack_takes_memory a sack.cumulative_tsn_ack sack.gap_ack_blocks sack.advertised_receiver_window_credit now
takes_memory a header (chunks.Init init) now = init_takes_memory a
takes_memory a header (chunks.InitAck init) now = init_ack_takes_memory a header init
takes_memory a header (chunks.CookieEcho cookie) now = cookie_echo_takes_memory a cookie
takes_memory a header chunks.CookieAck now = cookie_ack_takes_memory a
takes_memory a header (chunks.Heartbeat heartbeat) now = heartbeat_takes_memory heartbeat
takes_memory a header (chunks.ForwardTsn forward) now =
    forward_takes_memory a forward.new_cumulative_tsn forward.streams
takes_memory a header (chunks.IForwardTsn forward) now =
    forward_takes_memory a forward.new_cumulative_tsn (skips_of forward.entries)
takes_memory a header (chunks.Reconfig reconfig) now = true
takes_memory a header chunk now = false

-- a chunk that its own check refuses takes no memory itself; it is a fault, too
abbrev pub chunk_takes_memory : Shown → CommonHeader → Chunk → ℕ → Bool
chunk_takes_memory a header chunk now = is_ok (checked_chunk chunk) && takes_memory a header chunk now

-- a fault or the end of a shutdown that closes an open association takes memory for the events that tell of it, and an
-- exhausted receive buffer for the ABORT, in any state
abbrev pub takes_memory_after : Shown × Flow → (Shown → AckTrigger → Bool) → Bool
takes_memory_after (a, flows.Next trigger) more = more a trigger
takes_memory_after (a, flows.Fault fault) more = not (is_closed_state a.state)
takes_memory_after (a, flows.Closed) more = not (is_closed_state a.state)
takes_memory_after (a, flows.Exhausted) more = true

-- one of these chunks, taken in order up to the first that ends the packet, takes memory, or closes an open association
abbrev pub chunks_take_memory : CommonHeader → List Chunk → Shown → AckTrigger → ℕ → Bool
chunks_take_memory header [] a trigger now = false
chunks_take_memory header (c ∷ cs) a trigger now =
    chunk_takes_memory a header c now
    || takes_memory_after (on_chunk a header c trigger now) (λ b next. chunks_take_memory header cs b next now)

abbrev pub packet_takes_memory_of : Shown → Option Packet → ℕ → Bool
packet_takes_memory_of a None now = false
packet_takes_memory_of a (Some packet) now = chunks_take_memory packet.common_header packet.chunks a triggers.None now

-- what came, if it is a packet, takes memory: the association was not lost, and a chunk that is reached takes some
abbrev pub packet_takes_memory : Shown → Option Packet → ℕ → Bool
packet_takes_memory a packet now = not a.lost && packet_takes_memory_of a packet now
