-- Where Finished of streams stands among the events, noted for each remainder of the identifiers of streams.
use Rattle.std.specs.Prelude.{ℕ, Bool, false, ◌&&◌, ◌≡◌, ◌+◌, ◌%◌, nat_lt, if◌then◌else◌}
use Rattle.std.specs.Prelude.{List, [], ◌∷◌, take, slice_get, slice_set, Option, Some, None}
use Rattle.sctp_wire_types.specs.declared.event.StreamEvent.{StreamEvent}
use Rattle.sctp_wire_types.specs.declared.event.StreamEvent.TheVariants as told
use Rattle.sctp_streams.specs.declared.event.Event.{Event}
use Rattle.sctp_streams.specs.declared.event.Event.TheVariants as events
use Rattle.sctp_resets.specs.declared.marks.Mark.{Mark}
use Rattle.sctp_resets.specs.declared.marks.Mark.TheVariants as marks
use Rattle.sctp_resets.specs.Telling.{finished_in, is_finished_of}

abbrev pub remainder_of : ℕ → ℕ
remainder_of id = id % 512

-- one more Finished of streams with the remainder stands at an index
abbrev pub again : Mark → ℕ → Mark
again marks.Nowhere index = marks.Once index
again (marks.Once first) index = marks.Often
again marks.Often index = marks.Often

abbrev pub finished_marked_at : Option Mark → List Mark → ℕ → ℕ → List Mark
finished_marked_at None ms remainder index = ms
finished_marked_at (Some m) ms remainder index = slice_set ms remainder (again m index)

-- Finished of the stream stands at an index
abbrev pub finished_marked : ℕ → ℕ → List Mark → List Mark
finished_marked index id ms = finished_marked_at (slice_get ms (remainder_of id)) ms (remainder_of id) index

abbrev pub said_marked : ℕ → StreamEvent → List Mark → List Mark
said_marked index (told.Opened i) ms = ms
said_marked index (told.Readable i) ms = ms
said_marked index (told.Writable i) ms = ms
said_marked index (told.Finished i) ms = finished_marked index i ms
said_marked index (told.ResetComplete i) ms = ms
said_marked index (told.ResetFailed i reason) ms = ms
said_marked index (told.Stopped i code) ms = ms
said_marked index (told.BufferedAmountLow i) ms = ms
said_marked index (told.BufferedAmountHigh i) ms = ms
said_marked index told.Available ms = ms

-- an event stands at an index
unfoldable pub marked : ℕ → Event → List Mark → List Mark
marked index events.Connected ms = ms
marked index (events.HandshakeFailed reason) ms = ms
marked index (events.AssociationLost reason) ms = ms
marked index (events.Stream e) ms = said_marked index e ms
marked index (events.DataChannelStatsFinal stats) ms = ms
marked index events.DatagramReceived ms = ms

-- these events stand from an index on
abbrev pub marked_from : ℕ → List Mark → List Event → List Mark
marked_from index ms [] = ms
marked_from index ms (e ∷ es) = marked_from (index + 1) (marked index e ms) es

abbrev pub tells_finished : ℕ → Option Event → Bool
tells_finished id None = false
tells_finished id (Some e) = is_finished_of id e

-- What a mark says of Finished of a stream with its remainder: that none stands among the events; or that one does at
-- most, and if so at this index. Without a mark nothing is said.
abbrev pub Says : Option Mark → ℕ → List Event → Type 0
Says None id es = Unit {0}
Says (Some marks.Nowhere) id es = (first : ℕ) → finished_in id (take first es) ≡ 0
Says (Some (marks.Once index)) id es =
    (first : ℕ) → finished_in id (take first es)
    ≡ (if nat_lt index first && tells_finished id (slice_get es index) then 1 else 0)
Says (Some marks.Often) id es = Unit {0}

-- the marks are those of the events
abbrev pub AreMarked : List Mark → List Event → Type 0
AreMarked ms es = (id : ℕ) → Says (slice_get ms (remainder_of id)) id es
