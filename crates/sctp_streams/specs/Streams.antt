-- The live streams of an association and their generations.
use Rattle.std.specs.Prelude.{ℕ, Bool, true, false, ◌==◌, ◌&&◌, if◌then◌else◌, List, [], ◌∷◌, ◌+◌, ◌-◌, ◌^◌, fold, map}
use Rattle.std.specs.Prelude.{min, nat_lt, not, sum_by, Option, Some, None}
use Rattle.std.specs.List.{list_any}
use Rattle.std.specs.Ordering.{nat_cmp}
use Rattle.std.specs.BTreeMap.{is_at, insert_entry}
use Rattle.std.specs.Map.{lookup, remove_entry, set_value}
use Rattle.sctp_wire_types.specs.declared.ids.PayloadProtocolIdentifier.{PayloadProtocolIdentifier}
use Rattle.sctp_wire_types.specs.declared.chunk.ChunkPayloadData.{ChunkPayloadData}
use Rattle.sctp_wire_types.specs.declared.error.Error.{Error}
use Rattle.sctp_streams.specs.declared.stats.DataChannelStats.{DataChannelStats}
use Rattle.sctp_receive_queues.specs.Messages.{ReceivedMessage}
use Rattle.sctp_receive_queues.specs.Reassembly.{bounded, is_ready, refusal, skipped}
use Rattle.sctp_receive_queues.specs.Reassembly as reassembly
use Rattle.sctp_streams.specs.Stream.{StreamView, falls_to_low_mark, fresh_stream, gives_messages, reaches_high_mark}
use Rattle.sctp_streams.specs.Stream.{released_from, stream_passed, stream_pushed, stream_read, with_ssn_given_back}

pub record StreamMap : Type 0 where
  -- the live streams by their identifiers, which ascend
  pub by_id : List (ℕ × StreamView)
  -- the number of the next generation
  pub next_generation : ℕ

abbrev pub no_stream : StreamMap
no_stream = record { by_id = []; next_generation = 0 }

-- the live stream of an identifier
abbrev pub stream_at : StreamMap → ℕ → Option StreamView
stream_at m id = lookup (is_at (nat_cmp id)) m.by_id

-- the stream of this identifier, if it is live, is this one
abbrev pub with_stream : StreamMap → ℕ → StreamView → StreamMap
with_stream m id s = record m { by_id = set_value (is_at (nat_cmp id)) m.by_id s }

abbrev pub change_at : (StreamView → StreamView) → Option StreamView → StreamMap → ℕ → StreamMap
change_at f None m id = m
change_at f (Some s) m id = with_stream m id (f s)

-- the stream of this identifier, if it is live, is changed
abbrev pub changed_stream : (StreamView → StreamView) → StreamMap → ℕ → StreamMap
changed_stream f m id = change_at f (stream_at m id) m id

-- the buffered amount is a number of 64 bits with so many bytes more; where no stream is live nothing is buffered
abbrev pub has_room : Option StreamView → ℕ → Bool
has_room None bytes = true
has_room (Some s) bytes = nat_lt (s.buffered + bytes) (2 ^ 64)

-- a live stream is of this generation
abbrev pub is_generation : Option StreamView → ℕ → Bool
is_generation None generation = false
is_generation (Some s) generation = s.stats.generation == generation

-- so many bytes more on the live stream take its buffered amount to the high mark
abbrev pub reaches_high_mark_at : Option StreamView → ℕ → Bool
reaches_high_mark_at None bytes = false
reaches_high_mark_at (Some s) bytes = reaches_high_mark s bytes

abbrev pub falls_to_low_mark_at : Option StreamView → ℕ → ℕ → Bool
falls_to_low_mark_at None generation bytes = false
falls_to_low_mark_at (Some s) generation bytes = s.stats.generation == generation && falls_to_low_mark s bytes

-- a release of so many bytes of a generation, which is still live, takes its buffered amount to the low mark
abbrev pub falls_to_low_mark_in : StreamMap → ℕ → ℕ → ℕ → Bool
falls_to_low_mark_in m id generation bytes = falls_to_low_mark_at (stream_at m id) generation bytes

-- bytes of a generation are released, where it is still live
abbrev pub released_in : StreamMap → ℕ → ℕ → ℕ → StreamMap
released_in m id generation bytes =
    if is_generation (stream_at m id) generation then changed_stream (λ s. released_from s bytes) m id else m

abbrev pub pushed_at : Option StreamView → StreamMap → ℕ → ChunkPayloadData → StreamMap × Bool
pushed_at None m id p = (m, false)
pushed_at (Some s) m id p = (with_stream m id (stream_pushed s p).0, (stream_pushed s p).1)

-- a piece came on a stream, and whether it was kept
abbrev pub pushed_in : StreamMap → ℕ → ChunkPayloadData → StreamMap × Bool
pushed_in m id p = pushed_at (stream_at m id) m id p

abbrev pub refusal_at : Option StreamView → ChunkPayloadData → ℕ → Option Error
refusal_at None p limit = None
refusal_at (Some s) p limit = refusal s.reassembly p limit

-- why the live stream refuses a piece
abbrev pub refusal_in : StreamMap → ℕ → ChunkPayloadData → ℕ → Option Error
refusal_in m id p limit = refusal_at (stream_at m id) p limit

abbrev pub read_at : Option StreamView → StreamMap → ℕ → StreamMap × Option ReceivedMessage
read_at None m id = (m, None)
read_at (Some s) m id = (with_stream m id (stream_read s).0, (stream_read s).1)

-- what a read on a stream leaves and gives
abbrev pub read_in : StreamMap → ℕ → StreamMap × Option ReceivedMessage
read_in m id = read_at (stream_at m id) m id

abbrev pub is_readable_at : Option StreamView → Bool
is_readable_at None = false
is_readable_at (Some s) = is_ready s.reassembly

abbrev pub is_readable_in : StreamMap → ℕ → Bool
is_readable_in m id = is_readable_at (stream_at m id)

abbrev pub becomes_ready : Option StreamView → ℕ → Bool
becomes_ready None ssn = false
becomes_ready (Some s) ssn = not (is_ready s.reassembly) && is_ready (skipped s.reassembly ssn)

-- a skip of ordered messages up to an SSN makes a message ready on a live stream on which none was
abbrev pub becomes_ready_in : StreamMap → ℕ → ℕ → Bool
becomes_ready_in m id ssn = becomes_ready (stream_at m id) ssn

abbrev pub bound_of_skip_at : Option StreamView → ℕ → ℕ → ℕ
bound_of_skip_at None ssn tsn = ssn
bound_of_skip_at (Some s) ssn tsn = bounded s.reassembly.ordered ssn tsn

-- how far a skip up to an SSN goes on a live stream among the messages that have no piece above a TSN; all the way
-- where the stream is not live
abbrev pub bound_of_skip_in : StreamMap → ℕ → ℕ → ℕ → ℕ
bound_of_skip_in m id ssn tsn = bound_of_skip_at (stream_at m id) ssn tsn

abbrev pub passed_each : ℕ → List (ℕ × StreamView) → List (ℕ × StreamView)
passed_each tsn es = map (λ e. (e.0, stream_passed tsn e.1)) es

-- a FORWARD TSN passed over the unordered pieces up to a TSN, on all live streams
abbrev pub passed_in : StreamMap → ℕ → StreamMap
passed_in m tsn = record m { by_id = passed_each tsn m.by_id }

-- a message was dropped before any of it was sent: where its generation is live, its bytes are released, and the number
-- of an ordered one is given back
abbrev pub given_back_in : StreamMap → ℕ → ℕ → Bool → ℕ → StreamMap
given_back_in m id generation unordered bytes =
    if is_generation (stream_at m id) generation then
    changed_stream (λ s. released_from (if unordered then s else with_ssn_given_back s) bytes) m id
    else m

abbrev pub generation_left : StreamMap → Bool
generation_left m = nat_lt m.next_generation (2 ^ 64 - 1)

-- a new stream in the next generation
abbrev pub made : StreamMap → ℕ → ℕ → PayloadProtocolIdentifier → StreamMap
made m id first kind = record {
  by_id = insert_entry nat_cmp m.by_id id (fresh_stream id m.next_generation first kind);
  next_generation = m.next_generation + 1;
}

-- the live streams, identifiers ascending
abbrev pub live_streams : StreamMap → List StreamView
live_streams m = map (λ e. e.1) m.by_id

-- the identifiers of the live streams, which ascend
abbrev pub live_ids : StreamMap → List ℕ
live_ids m = map (λ e. e.0) m.by_id

-- a read on some live stream gives a message
abbrev pub some_gives_messages : StreamMap → Bool
some_gives_messages m = list_any gives_messages (live_streams m)

-- a stream counts where a read on it gives a message: 1 or 0
abbrev pub readable_count : StreamView → ℕ
readable_count s = if gives_messages s then 1 else 0

-- the number of streams whose reads give messages, of some streams by their identifiers
abbrev pub readable_in : List (ℕ × StreamView) → ℕ
readable_in es = sum_by readable_count (map (λ e. e.1) es)

-- the bytes that came and were not read, of some streams by their identifiers
abbrev pub waiting_in : List (ℕ × StreamView) → ℕ
waiting_in es = sum_by (λ (s : StreamView). reassembly.bytes_waiting s.reassembly) (map (λ e. e.1) es)

-- the bytes that came and were not read, at most the greatest number of 64 bits
abbrev pub bytes_waiting : StreamMap → ℕ
bytes_waiting m = fold (λ sum s. min (sum + reassembly.bytes_waiting s.reassembly) (2 ^ 64 - 1)) 0 (live_streams m)

abbrev pub waiting_at : Option StreamView → ℕ
waiting_at None = 0
waiting_at (Some s) = reassembly.bytes_waiting s.reassembly

-- the bytes that came on a live stream and were not read; none where it is not live
abbrev pub waiting_of : StreamMap → ℕ → ℕ
waiting_of m id = waiting_at (stream_at m id)

abbrev pub first_ended_of : List (ℕ × StreamView) → ℕ → StreamMap × Option DataChannelStats
first_ended_of [] next = (record { by_id = []; next_generation = next }, None)
first_ended_of (e ∷ es) next = (record { by_id = es; next_generation = next }, Some e.1.stats)

-- what is left without the stream of the least identifier, and that stream's last counters
abbrev pub first_ended : StreamMap → StreamMap × Option DataChannelStats
first_ended m = first_ended_of m.by_id m.next_generation

-- without the stream of this identifier, if it is live
abbrev pub without_stream : StreamMap → ℕ → StreamMap
without_stream m id = record m { by_id = remove_entry (is_at (nat_cmp id)) m.by_id }

abbrev pub stats_of_each : List (ℕ × StreamView) → List DataChannelStats
stats_of_each [] = []
stats_of_each (e ∷ es) = e.1.stats ∷ stats_of_each es

-- the last counters of all live streams, identifiers ascending
abbrev pub last_stats : StreamMap → List DataChannelStats
last_stats m = stats_of_each m.by_id

abbrev pub without_streams : StreamMap → StreamMap
without_streams m = record m { by_id = [] }
