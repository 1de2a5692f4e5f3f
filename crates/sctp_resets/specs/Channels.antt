-- The streams of an association, what is told of them, and DATA that comes to them (RFC 4960 section 6.9).
use Rattle.std.specs.Prelude.{ℕ, Bool, true, false, List, [], ◌∷◌, ◌++◌, ◌&&◌, not, if◌then◌else◌}
use Rattle.std.specs.Prelude.{Option, Some, None, is_some}
use Rattle.sctp_wire_types.specs.declared.chunk.ChunkPayloadData.{ChunkPayloadData}
use Rattle.sctp_wire_types.specs.declared.error.Error.{Error}
use Rattle.sctp_wire_types.specs.declared.event.StreamEvent.TheVariants.{Opened, Readable}
use Rattle.sctp_wire_types.specs.declared.ids.PayloadProtocolIdentifier.TheVariants as kinds
use Rattle.sctp_streams.specs.declared.event.Event.{Event}
use Rattle.sctp_streams.specs.declared.event.Event.TheVariants.{DatagramReceived, DataChannelStatsFinal}
use Rattle.sctp_streams.specs.declared.event.Event.TheVariants as events
use Rattle.sctp_streams.specs.Stream.{StreamView, is_write_half_open}
use Rattle.sctp_streams.specs.Streams.{StreamMap, stream_at, generation_left, is_readable_in, made, pushed_in}
use Rattle.sctp_streams.specs.Streams.{refusal_in}

pub record Channels : Type 0 where
  -- the live streams
  pub streams : StreamMap
  -- the events that the application was not given yet, oldest first
  pub events : List Event
  -- the streams that the peer opened and the application did not accept yet
  pub to_accept : List ℕ

abbrev pub channels : StreamMap → List Event → List ℕ → Channels
channels streams events to_accept = record { streams = streams; events = events; to_accept = to_accept }

abbrev pub with_new_stream : ℕ → Channels → ℕ → Channels
with_new_stream first c id = record {
  streams = made c.streams id first kinds.Unknown;
  events = c.events ++ events.Stream (Opened id) ∷ [];
  to_accept = c.to_accept ++ id ∷ [];
}

-- the stream is not live, and a generation is left for it
abbrev pub makes_stream : StreamMap → ℕ → Bool
makes_stream m id = not (is_some (stream_at m id)) && generation_left m

-- The stream of an identifier is live, or is made with the event Opened; false where no generation is left for it. The
-- messages of one that is made have the first identifier or a greater one.
unfoldable pub opened : ℕ → Channels → ℕ → Channels × Bool
opened first c id =
    if is_some (stream_at c.streams id) then (c, true) else
    if not (generation_left c.streams) then (c, false) else (with_new_stream first c id, true)

-- what is told where DATA came: DatagramReceived, and Readable where it was kept and its stream can be read
abbrev pub told : Channels → ℕ → Bool → Channels
told c id kept =
    if kept && is_readable_in c.streams id then
    record c { events = (c.events ++ DatagramReceived ∷ []) ++ events.Stream (Readable id) ∷ [] }
    else record c { events = c.events ++ DatagramReceived ∷ [] }

abbrev pub with_piece : Channels → ℕ → StreamMap × Bool → Channels
with_piece c id (streams, kept) = told (record c { streams = streams }) id kept

abbrev pub given_unless : Option Error → Channels → ChunkPayloadData → Channels
given_unless (Some fault) c d = c
given_unless None c d = with_piece c d.stream_identifier (pushed_in c.streams d.stream_identifier d)

abbrev pub given_where : ℕ → Channels × Bool → ChunkPayloadData → Channels
given_where limit (c, false) d = c
given_where limit (c, true) d = given_unless (refusal_in c.streams d.stream_identifier d limit) c d

-- DATA goes to its stream, which is made where it is missing; where none can be made, or the stream refuses the DATA as
-- that of a message that is longer than the limit or contradicts itself, it is dropped
unfoldable pub delivered : ℕ → ℕ → Channels → ChunkPayloadData → Channels
delivered first limit c d = given_where limit (opened first c d.stream_identifier) d

abbrev pub final_told_at : Option StreamView → List Event → List Event
final_told_at None told_before = told_before
final_told_at (Some s) told_before = told_before ++ DataChannelStatsFinal s.stats ∷ []

-- the last counters of a stream are told, where it is live
abbrev pub final_told : StreamMap → ℕ → List Event → List Event
final_told m id told_before = final_told_at (stream_at m id) told_before

abbrev pub write_half_closed_at : Option StreamView → Bool
write_half_closed_at None = false
write_half_closed_at (Some s) = not (is_write_half_open s.halves)

-- the stream is live and its write half is closed
abbrev pub is_write_half_closed : StreamMap → ℕ → Bool
is_write_half_closed m id = write_half_closed_at (stream_at m id)
