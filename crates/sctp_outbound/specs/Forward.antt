-- The FORWARD TSN that a sender makes (RFC 3758 sections 3.2 and 3.5).
use Rattle.std.specs.Prelude.{ℕ, Bool, List, [], ◌+◌, ◌-◌, ◌%◌, ◌^◌, ◌&&◌, ◌||◌, if◌then◌else◌, map, take}
use Rattle.std.specs.Prelude.{slice_get}
use Rattle.std.specs.Prelude.{Option, Some, None, false}
use Rattle.std.specs.List.{fold}
use Rattle.std.specs.BTreeMap.{insert_entry}
use Rattle.std.specs.Ordering.{nat_cmp}
use Rattle.sctp_wire_types.specs.declared.chunk.ChunkForwardTsn.{ChunkForwardTsn}
use Rattle.sctp_wire_types.specs.declared.chunk.SkippedStream.{SkippedStream}
use Rattle.sctp_outbound_queue.specs.declared.message.Attributes.{Attributes}
use Rattle.sctp_outbound_queue.specs.declared.message.InFlight.{InFlight}
use Rattle.sctp_outbound_queue.specs.Outbound.{abandoned_in_front_of, is_abandoned_piece, tsn_at}
use Rattle.sctp_outbound.specs.declared.sender.Sender.{Sender}

-- the advanced peer ack point is past the cumulative TSN ack point: the first piece in flight is abandoned
abbrev pub is_front_abandoned : Sender → Bool
is_front_abandoned s = is_abandoned_piece (slice_get s.queue.in_flight 0)

-- FORWARD TSN is due where it is in use and that point is past the other
abbrev pub forward_asked : Bool → Sender → Sender
forward_asked forward s = record s { is_forward_due = s.is_forward_due || (forward && is_front_abandoned s) }

-- the abandoned pieces in front of all others in flight
abbrev pub abandoned_front : Sender → List InFlight
abandoned_front s = take (abandoned_in_front_of s.queue.in_flight) s.queue.in_flight

-- the advanced peer ack point: the TSN of the last of them, or the cumulative TSN ack point
abbrev pub advanced_peer_ack_point_of : Sender → ℕ
advanced_peer_ack_point_of s =
    (tsn_at s.queue.first_tsn (abandoned_in_front_of s.queue.in_flight) + 2 ^ 32 - 1) % 2 ^ 32

-- the greatest SSNs by stream once a message is skipped too, which comes behind those before it in its stream
abbrev pub skipped_with : List (ℕ × ℕ) → Attributes → List (ℕ × ℕ)
skipped_with numbers a =
    if a.unordered then numbers else
    insert_entry nat_cmp numbers a.stream_identifier a.stream_sequence_number

abbrev pub skipped_over : List (ℕ × ℕ) → Option InFlight → List (ℕ × ℕ)
skipped_over numbers None = numbers
skipped_over numbers (Some p) = skipped_with numbers p.message

-- of the ordered ones among these pieces, in the order of their TSNs: for each stream, identifiers ascending, the SSN
-- of the last one
abbrev pub skipped_numbers : List InFlight → List (ℕ × ℕ)
skipped_numbers pieces = fold (λ numbers p. skipped_with numbers p.message) [] pieces

abbrev pub skipped_stream : ℕ × ℕ → SkippedStream
skipped_stream e = record { stream_identifier = e.0; stream_sequence_number = e.1 }

-- FORWARD TSN up to the advanced peer ack point
abbrev pub forward_of : Sender → ChunkForwardTsn
forward_of s = record {
  new_cumulative_tsn = advanced_peer_ack_point_of s;
  streams = map skipped_stream (skipped_numbers (abandoned_front s));
}

-- it is due, and not overtaken by a SACK since
abbrev pub gives_forward : Sender → Bool
gives_forward s = s.is_forward_due && is_front_abandoned s

-- the FORWARD TSN that a poll gives
abbrev pub forward_by : Sender → Option ChunkForwardTsn
forward_by s = if gives_forward s then Some (forward_of s) else None

abbrev pub forward_given : Sender → Sender
forward_given s = record s { is_forward_due = false }
