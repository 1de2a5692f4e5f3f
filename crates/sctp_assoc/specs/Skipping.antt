-- What a FORWARD TSN does that comes (RFC 3758 section 3.6).
use Rattle.std.specs.Prelude.{ℕ, Bool, true, false, List, [], ◌∷◌, ◌++◌, ◌%◌, ◌^◌, ◌&&◌, ◌||◌, if◌then◌else◌, nat_lt}
use Rattle.std.specs.Prelude.{not, length}
use Rattle.sctp_wire_types.specs.declared.chunk.Chunk.{Chunk}
use Rattle.sctp_wire_types.specs.declared.chunk.Chunk.TheVariants as chunks
use Rattle.sctp_wire_types.specs.declared.chunk.IForwardTsnEntry.{IForwardTsnEntry}
use Rattle.sctp_wire_types.specs.declared.chunk.SkippedStream.{SkippedStream}
use Rattle.sctp_wire_types.specs.declared.event.StreamEvent.TheVariants.{Readable}
use Rattle.sctp_streams.specs.declared.event.Event.{Event}
use Rattle.sctp_streams.specs.declared.event.Event.TheVariants as events
use Rattle.sctp_streams.specs.Stream.{stream_skipped}
use Rattle.sctp_streams.specs.Streams.{becomes_ready_in, changed_stream, passed_in}
use Rattle.sctp_inbound.specs.declared.receiver.AckTrigger.{AckTrigger}
use Rattle.sctp_inbound.specs.declared.receiver.AckTrigger.TheVariants as triggers
use Rattle.sctp_inbound.specs.Receiver.{asked, ended_packet, ended_packet_timers, is_behind, passed_to}
use Rattle.sctp_resets.specs.Resets.{is_retiring, without_unordered}
use Rattle.sctp_resets.specs.Resets as resets
use Rattle.sctp_assoc.specs.declared.inbound.Flow.{Flow}
use Rattle.sctp_assoc.specs.declared.inbound.Flow.TheVariants as flows
use Rattle.sctp_assoc.specs.declared.skipping.Standing.{Standing}
use Rattle.sctp_assoc.specs.declared.skipping.Standing.TheVariants as standings
use Rattle.sctp_assoc.specs.Closing.{is_exhausted}
use Rattle.sctp_assoc.specs.Control.{queued}
use Rattle.sctp_assoc.specs.Finding.{finding_takes_memory, found_for}
use Rattle.sctp_assoc.specs.Resets.{settled, settling_takes_memory}
use Rattle.sctp_assoc.specs.Shown.{Shown, uses_forward_tsn}

-- an ERROR with the cause Unrecognized Chunk Type (RFC 4960 section 3.3.10.6)
abbrev pub unrecognized_chunk : Chunk
unrecognized_chunk = chunks.Error (record { error_causes = record { code = 6; value = [] } ∷ [] })

-- a TSN, a number of 32 bits, is ahead of the last one that came or was skipped
abbrev pub is_ahead : Shown → ℕ → Bool
is_ahead a tsn = nat_lt tsn (2 ^ 32) && not (is_behind a.receiver tsn)

-- where the new cumulative TSN of a FORWARD TSN lies
abbrev pub standing_of : Shown → ℕ → Standing
standing_of a tsn =
    if uses_forward_tsn a then (if is_ahead a tsn then standings.Ahead else standings.Behind) else standings.Unused

-- Readable is told where a skip makes a message ready and none was
abbrev pub readable_told : Bool → ℕ → List Event
readable_told ready id = if ready then events.Stream (Readable id) ∷ [] else []

-- The ordered messages of a stream, if it is live, are skipped up to an SSN. Where a generation of it ended and is
-- still read, the skip is one of its newest generation, and kept for that.
unfoldable pub with_skip : ℕ → ℕ → ℕ → Shown → Shown
with_skip tsn id ssn a =
    if is_retiring a.resets id then record a { resets = resets.with_skip a.resets id ssn tsn } else
    record a {
      streams = changed_stream (stream_skipped ssn) a.streams id;
      events = a.events ++ readable_told (becomes_ready_in a.streams id ssn) id;
    }

-- so are those of several streams, one after another, by a FORWARD TSN with this new cumulative TSN
abbrev pub with_skips : ℕ → List SkippedStream → Shown → Shown
with_skips tsn [] a = a
with_skips tsn (e ∷ es) a = with_skips tsn es (with_skip tsn e.stream_identifier e.stream_sequence_number a)

-- a skip takes memory where it makes a message ready and none was, or is kept
abbrev pub skip_takes_memory : ℕ → ℕ → Shown → Bool
skip_takes_memory id ssn a = is_retiring a.resets id || becomes_ready_in a.streams id ssn

-- one of these skips does
abbrev pub some_takes_memory : ℕ → List SkippedStream → Shown → Bool
some_takes_memory tsn [] a = false
some_takes_memory tsn (e ∷ es) a =
    skip_takes_memory e.stream_identifier e.stream_sequence_number a
    || some_takes_memory tsn es (with_skip tsn e.stream_identifier e.stream_sequence_number a)

-- the skip of an I-FORWARD-TSN: the low 16 bits of its message identifier are the SSN
abbrev pub skip_of : IForwardTsnEntry → SkippedStream
skip_of e = record {
  stream_identifier = e.stream_identifier;
  stream_sequence_number = e.message_identifier % 2 ^ 16;
}

-- those of its entries that are of ordered messages
abbrev pub skips_of : List IForwardTsnEntry → List SkippedStream
skips_of [] = []
skips_of (e ∷ es) = if e.unordered then skips_of es else skip_of e ∷ skips_of es

-- without FORWARD TSN in use an ERROR goes out
abbrev pub refused : Shown → AckTrigger → Shown × Flow
refused a trigger = (queued a unrecognized_chunk, flows.Next trigger)

-- one that is not ahead only asks for an acknowledgement at once
abbrev pub acknowledged_at_once : Shown → ℕ → Shown
acknowledged_at_once a now = record a {
  receiver = ended_packet a.receiver triggers.Immediate;
  timers = ended_packet_timers a.timers triggers.Immediate now;
}

-- the last TSN that came or was skipped and the pieces of incomplete unordered messages pass over a TSN
abbrev pub with_passed : Shown → ℕ → Shown
with_passed a tsn =
    record a {
      receiver = passed_to a.receiver tsn;
      streams = passed_in a.streams tsn;
      resets = without_unordered a.resets tsn;
    }

-- that asks to be acknowledged as DATA does, unless it leaves the receive buffer exhausted
abbrev pub asks_behind : Shown → AckTrigger → Shown × Flow
asks_behind a trigger =
    if is_exhausted a then (a, flows.Exhausted) else (a, flows.Next (asked a.receiver trigger false))

-- what is given up is skipped, and the last TSN that came or was skipped passes over it
abbrev pub on_forward_ahead : Shown → ℕ → List SkippedStream → AckTrigger → Shown × Flow
on_forward_ahead a tsn skips trigger = asks_behind (settled (with_passed (with_skips tsn skips a) tsn)) trigger

abbrev pub on_forward_at : Standing → Shown → ℕ → List SkippedStream → AckTrigger → ℕ → Shown × Flow
on_forward_at standings.Unused a tsn skips trigger now = refused a trigger
on_forward_at standings.Behind a tsn skips trigger now = (acknowledged_at_once a now, flows.Next trigger)
on_forward_at standings.Ahead a tsn skips trigger now = on_forward_ahead (found_for tsn skips a) tsn skips trigger

-- a FORWARD TSN with this new cumulative TSN and these skips of ordered messages; the streams on which it skips are
-- found or made before
unfoldable pub on_forward : Shown → ℕ → List SkippedStream → AckTrigger → ℕ → Shown × Flow
on_forward a tsn skips trigger now = on_forward_at (standing_of a tsn) a tsn skips trigger now

-- memory is taken for what is kept of DATA that waits, and where a request of the peer is performed or a kept skip
-- applied
abbrev pub passing_takes_memory : ℕ → Shown → Bool
passing_takes_memory tsn a =
    nat_lt 0 (length a.resets.generations.deferred) || settling_takes_memory (with_passed a tsn)

abbrev pub ahead_takes_memory : Shown → ℕ → List SkippedStream → Bool
ahead_takes_memory a tsn skips =
    some_takes_memory tsn skips a || passing_takes_memory tsn (with_skips tsn skips a)

abbrev pub forward_takes_at : Standing → Shown → ℕ → List SkippedStream → Bool
forward_takes_at standings.Unused a tsn skips = true
forward_takes_at standings.Behind a tsn skips = false
forward_takes_at standings.Ahead a tsn skips =
    finding_takes_memory tsn skips a || ahead_takes_memory (found_for tsn skips a) tsn skips

-- it takes memory for the ERROR that refuses it, for a stream that it makes, for Readable where it makes a message
-- ready, and for what resets keep
abbrev pub forward_takes_memory : Shown → ℕ → List SkippedStream → Bool
forward_takes_memory a tsn skips = forward_takes_at (standing_of a tsn) a tsn skips
