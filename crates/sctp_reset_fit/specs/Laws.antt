-- What an association does to the resets of a stream that it receives is what may happen in the stream's course.
use Rattle.std.specs.Prelude.{◌≡◌, ◌<◌, ◌^◌, ℕ, Bool, true, false, List, [], ◌∷◌, ◌++◌, Option, Some, None}
use Rattle.std.specs.List.{AllByRecursion}
use Rattle.sctp_wire_types.specs.declared.chunk.ChunkPayloadData.{ChunkPayloadData}
use Rattle.sctp_receive_queues.specs.Messages.{ReceivedMessage}
use Rattle.sctp_receive_queues.specs.Reassembly.{refusal}
use Rattle.sctp_streams.specs.Stream.{StreamView, is_read_half_open}
use Rattle.sctp_streams.specs.Streams.{StreamMap, no_stream, pushed_in, read_in, stream_at}
use Rattle.sctp_generations.specs.Generations as generations
use Rattle.sctp_generations.specs.Generations.{GenerationsView, no_generations, with_deferred}
use Rattle.sctp_reset_requests.specs.Peer.{boundary_for}
use Rattle.sctp_reset_requests.specs.Request.{PeerRequestView, is_due}
use Rattle.sctp_resets.specs.Channels.{Channels}
use Rattle.sctp_resets.specs.Draining.{drained_out}
use Rattle.sctp_resets.specs.Resets.{ResetsView, performed}
use Rattle.sctp_courses.specs.Course.{Course, fresh_course}
use Rattle.sctp_courses.specs.Events as events
use Rattle.sctp_courses.specs.Events.{Event, happens, is_new, run}
use Rattle.sctp_courses.specs.Invariants.{Invariant}
use Rattle.sctp_reset_fit.specs.Held.{IsHeldOn, IsMadeOn}
use Rattle.sctp_reset_fit.specs.Stands.{IsNear, IsReadOn, StandsFor, last_below, offset_of}

-- Nothing comes by an event, no request is taken up or performed, and the sender does nothing.
abbrev pub is_quiet : Event → Bool
is_quiet Event.AssignsMine = false
is_quiet Event.AssignsOther = false
is_quiet (Event.Asks named) = false
is_quiet (Event.Advances point) = false
is_quiet (Event.Takes o) = false
is_quiet (Event.Keeps o) = false
is_quiet (Event.Opens generation) = true
is_quiet Event.Comes = false
is_quiet Event.Performs = false
is_quiet Event.Retires = true
is_quiet Event.Leaves = true
is_quiet Event.Finishes = true
is_quiet Event.Releases = true
is_quiet Event.Gives = true
is_quiet Event.Passes = true
is_quiet (Event.Reads os) = true
is_quiet (Event.Holds test) = true
is_quiet (Event.Defers test) = true
is_quiet Event.Closes = true
is_quiet Event.Discards = true
is_quiet Event.Vanishes = true

-- The course leads on to another state of it by quiet events.
pub record LeadsTo (c d : Course) : Type 0 where
  pub events : List Event
  pub quiet : AllByRecursion (λ (e : Event). is_quiet e ≡ true) events
  pub is : d ≡ run events c

-- a piece passes a test
abbrev pub Passes : (ChunkPayloadData → Bool) → ChunkPayloadData → Type 0
Passes test p = test p ≡ true

-- What is kept of a stream, and the request of the peer that waits, stand for the stream's course. What the stream
-- holds are pieces of which P is so, on the offsets that are held there.
abbrev pub Stands : (ChunkPayloadData → Type 0) → ℕ → ℕ → GenerationsView → StreamMap → Option PeerRequestView → Course
    → Type 0
Stands P initial id g m in_progress c = StandsFor initial id P (IsHeldOn P initial id) g m in_progress c

-- The course leads on to a state that this stands for, and nothing is read.
pub record LeadsOn (P : ChunkPayloadData → Type 0) (initial id : ℕ) (g : GenerationsView) (m : StreamMap)
    (in_progress : Option PeerRequestView)
    (c : Course) : Type 0 where
  pub after : Course
  pub leads : LeadsTo c after
  pub stands : Stands P initial id g m in_progress after
  pub told : after.told ≡ c.told

-- at first
abbrev pub NothingStandsForTheStart : (ChunkPayloadData → Type 0) → Type 0
NothingStandsForTheStart P = (initial id : ℕ) → Stands P initial id no_generations no_stream None fresh_course

-- DATA is of a generation that is not read yet exactly where it is so in the course.
abbrev pub WhatIsHiddenIsHidden : (ChunkPayloadData → Type 0) → Type 0
WhatIsHiddenIsHidden P =
    (initial id tsn : ℕ) (g : GenerationsView) (m : StreamMap) (in_progress : Option PeerRequestView)
    (c : Course) → Invariant c → Stands P initial id g m in_progress c → IsNear initial tsn
    → generations.is_hidden g id tsn (boundary_for in_progress id) ≡ events.is_hidden c (offset_of initial tsn)

-- New DATA of the generation that is read, which its live stream does not refuse, is taken in there.
abbrev pub NewDataIsTaken : (ChunkPayloadData → Type 0) → Type 0
NewDataIsTaken P = (initial limit : ℕ) (piece : ChunkPayloadData) (t : StreamView) (g : GenerationsView) (m : StreamMap)
    (in_progress : Option PeerRequestView) (c : Course) → Invariant c
    → Stands P initial piece.stream_identifier g m in_progress c → P piece → IsNear initial piece.tsn
    → stream_at m piece.stream_identifier ≡ Some t → refusal t.reassembly piece limit ≡ None
    → is_new c (offset_of initial piece.tsn) ≡ true
    → generations.is_hidden g piece.stream_identifier piece.tsn
    (boundary_for in_progress piece.stream_identifier) ≡ false
    → LeadsOn P initial piece.stream_identifier g (pushed_in m piece.stream_identifier piece).0 in_progress
    (happens c (Event.Takes (offset_of initial piece.tsn)))

-- New DATA of that generation which does not go to its live stream is taken in all the same: the course has no less
-- than the stream holds.
abbrev pub LeftDataIsTaken : (ChunkPayloadData → Type 0) → Type 0
LeftDataIsTaken P = (initial : ℕ) (piece : ChunkPayloadData) (t : StreamView) (g : GenerationsView) (m : StreamMap)
    (in_progress : Option PeerRequestView) (c : Course) → Invariant c
    → Stands P initial piece.stream_identifier g m in_progress c → IsNear initial piece.tsn
    → stream_at m piece.stream_identifier ≡ Some t → is_new c (offset_of initial piece.tsn) ≡ true
    → generations.is_hidden g piece.stream_identifier piece.tsn
    (boundary_for in_progress piece.stream_identifier) ≡ false
    → LeadsOn P initial piece.stream_identifier g m in_progress
    (happens c (Event.Takes (offset_of initial piece.tsn)))

-- New DATA of a later one waits there.
abbrev pub LaterDataWaits : (ChunkPayloadData → Type 0) → Type 0
LaterDataWaits P = (initial : ℕ) (piece : ChunkPayloadData) (g : GenerationsView) (m : StreamMap)
    (in_progress : Option PeerRequestView) (c : Course) → Invariant c
    → Stands P initial piece.stream_identifier g m in_progress c → P piece → IsNear initial piece.tsn
    → is_new c (offset_of initial piece.tsn) ≡ true
    → generations.is_hidden g piece.stream_identifier piece.tsn
    (boundary_for in_progress piece.stream_identifier) ≡ true
    → LeadsOn P initial piece.stream_identifier (with_deferred g piece) m in_progress
    (happens c (Event.Keeps (offset_of initial piece.tsn)))

-- A message is read: the course leads on to a state that what is left stands for, in which it was read in the
-- generation of its stream, with the offsets of the pieces that it was made of.
pub record ReadsIt (P : ChunkPayloadData → Type 0) (initial id generation : ℕ) (message : ReceivedMessage)
    (g : GenerationsView) (m : StreamMap)
    (in_progress : Option PeerRequestView) (c : Course) : Type 0 where
  pub after : Course
  pub leads : LeadsTo c after
  pub stands : Stands P initial id g m in_progress after
  pub offsets : List ℕ
  pub made : IsMadeOn P initial id message offsets
  pub told : after.told ≡ c.told ++ record { generation = generation; offsets = offsets } ∷ []

abbrev pub MessagesAreRead : (ChunkPayloadData → Type 0) → Type 0
MessagesAreRead P = (initial id : ℕ) (message : ReceivedMessage) (t : StreamView) (g : GenerationsView) (m : StreamMap)
    (in_progress : Option PeerRequestView) (c : Course) → Invariant c → Stands P initial id g m in_progress c
    → stream_at m id ≡ Some t → is_read_half_open t.halves ≡ true → (read_in m id).1 ≡ Some message
    → ReadsIt P initial id t.stats.generation message g (read_in m id).0 in_progress c

-- Behind a read the generations that ended and of which no byte waits are passed, one after the other, and what waited
-- for the next one is given to it.
abbrev pub StreamsAreReadOut : (ChunkPayloadData → Type 0) → Type 0
StreamsAreReadOut P = (initial id first limit : ℕ) (g : GenerationsView) (x : Channels)
    (in_progress : Option PeerRequestView) (c : Course) → Invariant c → Stands P initial id g x.streams in_progress c
    → (l : LeadsOn P initial id (drained_out first limit id (boundary_for in_progress id) (g, x)).0
    (drained_out first limit id (boundary_for in_progress id) (g, x)).1.streams in_progress c)
    × IsReadOn l.after

-- The request of the peer that waits is performed once all that was sent before it came.
abbrev pub RequestsArePerformed : (ChunkPayloadData → Type 0) → Type 0
RequestsArePerformed P = (initial id first limit : ℕ) (q : PeerRequestView) (r : ResetsView) (x : Channels) (c : Course)
    → Invariant c → Stands P initial id r.generations x.streams (Some q) c → IsReadOn c → c.point < 2 ^ 31
    → is_due q (last_below initial c.point) ≡ true
    → (l : LeadsOn P initial id (performed q first limit r x).0.0.generations (performed q first limit r x).0.1.streams
    None (happens c Event.Performs)) × IsReadOn l.after
