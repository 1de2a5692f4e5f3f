-- The stream to which something comes is found, or made.
use Rattle.std.specs.Prelude.{ℕ, Bool, true, false, List, [], ◌∷◌, ◌++◌, ◌&&◌, ◌||◌, if◌then◌else◌, not, is_some}
use Rattle.sctp_wire_types.specs.Config.{is_rfc}
use Rattle.sctp_wire_types.specs.declared.chunk.SkippedStream.{SkippedStream}
use Rattle.sctp_wire_types.specs.declared.event.StreamEvent.TheVariants.{Opened}
use Rattle.sctp_wire_types.specs.declared.ids.PayloadProtocolIdentifier.TheVariants as kinds
use Rattle.sctp_streams.specs.declared.event.Event.TheVariants as events
use Rattle.sctp_streams.specs.Streams.{generation_left, made, stream_at}
use Rattle.sctp_resets.specs.Resets.{is_hidden}
use Rattle.sctp_assoc.specs.Shown.{Shown}

abbrev pub with_new_stream : Shown → ℕ → Shown
with_new_stream a id = record a {
  streams = made a.streams id a.sender.queue.next_message_id kinds.Unknown;
  to_accept = a.to_accept ++ id ∷ [];
  events = a.events ++ events.Stream (Opened id) ∷ [];
}

-- the stream of an identifier is live, or is made with the event Opened; false where no generation is left for it
unfoldable pub stream_found : Shown → ℕ → Shown × Bool
stream_found a id =
    if is_some (stream_at a.streams id) then (a, true) else
    if not (generation_left a.streams) then (a, false) else (with_new_stream a id, true)

-- a stream is made: it is not live, and a generation is left for it
abbrev pub makes_stream : Shown → ℕ → Bool
makes_stream a id = not (is_some (stream_at a.streams id)) && generation_left a.streams

-- By the rules of the RFCs a FORWARD TSN with this new cumulative TSN makes a stream on which it skips, as DATA under
-- that TSN would, unless such DATA would be of a later generation of the stream: what is given up on a stream before
-- anything of it came is never waited for (RFC 3758 section 3.6). The port passes over a stream that is not live.
unfoldable pub makes_for : ℕ → ℕ → Shown → Bool
makes_for tsn id a = is_rfc a.profile && not (is_hidden a.resets id tsn)

abbrev pub found_if : Bool → Shown → ℕ → Shown
found_if true a id = (stream_found a id).0
found_if false a id = a

-- the stream of one skip is found or made
unfoldable pub found_at : ℕ → ℕ → Shown → Shown
found_at tsn id a = found_if (makes_for tsn id a) a id

-- so are those of several, one after another
abbrev pub found_for : ℕ → List SkippedStream → Shown → Shown
found_for tsn [] a = a
found_for tsn (e ∷ es) a = found_for tsn es (found_at tsn e.stream_identifier a)

-- that takes memory where a stream is made
abbrev pub finding_takes_memory : ℕ → List SkippedStream → Shown → Bool
finding_takes_memory tsn [] a = false
finding_takes_memory tsn (e ∷ es) a =
    makes_for tsn e.stream_identifier a && makes_stream a e.stream_identifier
    || finding_takes_memory tsn es (found_at tsn e.stream_identifier a)
