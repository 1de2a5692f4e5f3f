-- Which event is told next: Finished of a generation waits until that is read to its end (RFC 8831 section 6.7).
use Rattle.std.specs.Prelude.{ℕ, Bool, true, false, ◌&&◌, ◌≡◌, ◌+◌, ◌<◌, ◌≤◌, ◌==◌, not, nat_lt, if◌then◌else◌}
use Rattle.std.specs.Prelude.{List, [], ◌∷◌, take, length, slice_get, Option, Some, None}
use Rattle.std.specs.List.{count_by}
use Rattle.sctp_wire_types.specs.declared.event.StreamEvent.{StreamEvent}
use Rattle.sctp_wire_types.specs.declared.event.StreamEvent.TheVariants as told
use Rattle.sctp_streams.specs.declared.event.Event.{Event}
use Rattle.sctp_streams.specs.declared.event.Event.TheVariants as events
use Rattle.sctp_generations.specs.Generations.{GenerationsView}
use Rattle.sctp_generations.specs.Retiring.{RetiringMap, count_at}
use Rattle.sctp_reset_requests.specs.Debts.{DebtsView, awaits_end, end_told_of, told_of}

abbrev pub finished_says : ℕ → StreamEvent → Bool
finished_says id (told.Opened i) = false
finished_says id (told.Readable i) = false
finished_says id (told.Writable i) = false
finished_says id (told.Finished i) = i == id
finished_says id (told.ResetComplete i) = false
finished_says id (told.ResetFailed i reason) = false
finished_says id (told.Stopped i code) = false
finished_says id (told.BufferedAmountLow i) = false
finished_says id (told.BufferedAmountHigh i) = false
finished_says id told.Available = false

-- an event tells Finished of a stream
abbrev pub is_finished_of : ℕ → Event → Bool
is_finished_of id events.Connected = false
is_finished_of id (events.HandshakeFailed reason) = false
is_finished_of id (events.AssociationLost reason) = false
is_finished_of id (events.Stream e) = finished_says id e
is_finished_of id (events.DataChannelStatsFinal stats) = false
is_finished_of id events.DatagramReceived = false

abbrev pub finished_in : ℕ → List Event → ℕ
finished_in id es = count_by (is_finished_of id) es

-- Of the events Finished of a stream, the last ones are not ready: as many as its generations that ended and are still
-- read. One of those stands among so many first events.
abbrev pub has_unready : GenerationsView → List Event → ℕ → ℕ → Bool
has_unready g es first id =
    not (count_at g.retiring id == 0) && nat_lt 0 (finished_in id (take first es))
    && nat_lt (finished_in id es) (finished_in id (take first es) + count_at g.retiring id)

-- the end of a reset waits: it is not awaited, and a Finished of its stream that is not ready stands in front of it
abbrev pub is_end_held : GenerationsView → DebtsView → List Event → ℕ → ℕ → Bool
is_end_held g d es first id = not (awaits_end d id) && has_unready g es first id

abbrev pub is_told_held : GenerationsView → DebtsView → List Event → ℕ → StreamEvent → Bool
is_told_held g d es first (told.Opened i) = false
is_told_held g d es first (told.Readable i) = false
is_told_held g d es first (told.Writable i) = has_unready g es first i
is_told_held g d es first (told.Finished i) = has_unready g es first i
is_told_held g d es first (told.ResetComplete i) = is_end_held g d es first i
is_told_held g d es first (told.ResetFailed i reason) = is_end_held g d es first i
is_told_held g d es first (told.Stopped i code) = has_unready g es first i
is_told_held g d es first (told.BufferedAmountLow i) = has_unready g es first i
is_told_held g d es first (told.BufferedAmountHigh i) = has_unready g es first i
is_told_held g d es first told.Available = false

-- An event, the last of so many first ones, waits: it is of a stream of which a Finished that is not ready stands in
-- front of it, or is that Finished. Opened and Readable do not wait, nor does the end of a reset that is awaited.
abbrev pub is_held : GenerationsView → DebtsView → List Event → ℕ → Event → Bool
is_held g d es first events.Connected = false
is_held g d es first (events.HandshakeFailed reason) = false
is_held g d es first (events.AssociationLost reason) = false
is_held g d es first (events.Stream e) = is_told_held g d es first e
is_held g d es first (events.DataChannelStatsFinal stats) = false
is_held g d es first events.DatagramReceived = false

abbrev pub told_from : GenerationsView → DebtsView → List Event → ℕ → List Event → Option ℕ
told_from g d es index [] = None
told_from g d es index (e ∷ rest) =
    if is_held g d es (index + 1) e then told_from g d es (index + 1) rest else Some index

-- the index of the event that is told next: the first one that does not wait
abbrev pub next_told : GenerationsView → DebtsView → List Event → Option ℕ
next_told g d es = told_from g d es 0 es

-- these generations ended and are still read, and nothing came for those behind
abbrev pub retiring_alone : RetiringMap → GenerationsView
retiring_alone m = record { retiring = m; deferred = []; skips = [] }

-- So many of the oldest events wait, and perhaps more, where these generations ended and are still read, and this is
-- owed of resets.
pub record FrontWaits (m : RetiringMap) (d : DebtsView) (es : List Event) (waiting : ℕ) : Type 0 where
  -- so many there are
  pub within : waiting ≤ length es
  -- each of them waits
  pub held : (index : ℕ) (e : Event) → index < waiting → slice_get es index ≡ Some e
      → is_held (retiring_alone m) d es (index + 1) e ≡ true

-- the event is not Finished of a stream
abbrev pub says_no_finished : StreamEvent → Bool
says_no_finished (told.Opened i) = true
says_no_finished (told.Readable i) = true
says_no_finished (told.Writable i) = true
says_no_finished (told.Finished i) = false
says_no_finished (told.ResetComplete i) = true
says_no_finished (told.ResetFailed i reason) = true
says_no_finished (told.Stopped i code) = true
says_no_finished (told.BufferedAmountLow i) = true
says_no_finished (told.BufferedAmountHigh i) = true
says_no_finished told.Available = true

-- The event is not Finished of a stream: put behind others, it changes nothing for those in front of it.
abbrev pub is_not_finished : Event → Bool
is_not_finished events.Connected = true
is_not_finished (events.HandshakeFailed reason) = true
is_not_finished (events.AssociationLost reason) = true
is_not_finished (events.Stream e) = says_no_finished e
is_not_finished (events.DataChannelStatsFinal stats) = true
is_not_finished events.DatagramReceived = true

abbrev pub debts_said : StreamEvent → DebtsView → DebtsView
debts_said (told.Opened i) d = d
debts_said (told.Readable i) d = d
debts_said (told.Writable i) d = d
debts_said (told.Finished i) d = told_of d i
debts_said (told.ResetComplete i) d = end_told_of d i
debts_said (told.ResetFailed i reason) d = end_told_of d i
debts_said (told.Stopped i code) d = d
debts_said (told.BufferedAmountLow i) d = d
debts_said (told.BufferedAmountHigh i) d = d
debts_said told.Available d = d

-- what is owed of resets once an event was told
abbrev pub debts_told : Event → DebtsView → DebtsView
debts_told events.Connected d = d
debts_told (events.HandshakeFailed reason) d = d
debts_told (events.AssociationLost reason) d = d
debts_told (events.Stream e) d = debts_said e d
debts_told (events.DataChannelStatsFinal stats) d = d
debts_told events.DatagramReceived d = d
