-- One side over lists of calls, beside the course of a stream that its peer sends.
use Rattle.std.specs.Prelude.{◌≡◌, ◌<◌, ◌^◌, ◌==◌, ⊤, ℕ, true, false, if◌then◌else◌, List, [], ◌∷◌, ◌++◌, length}
use Rattle.std.specs.Prelude.{Option, Some, None}
use Rattle.std.specs.List.{AllByRecursion}
use Rattle.sctp_wire_types.specs.declared.chunk.ChunkPayloadData.{ChunkPayloadData}
use Rattle.sctp_receive_queues.specs.Messages.{ReceivedMessage}
use Rattle.sctp_streams.specs.declared.event.Event.{Event}
use Rattle.sctp_streams.specs.Stream.{StreamView}
use Rattle.sctp_streams.specs.Streams.{stream_at}
use Rattle.sctp_courses.specs.Course.{Course, Told}
use Rattle.sctp_courses.specs.Events as events
use Rattle.sctp_courses.specs.Events.{run}
use Rattle.sctp_courses.specs.Laws.{KeepsBoundaries}
use Rattle.sctp_reset_fit.specs.Held.{IsMadeOn}
use Rattle.sctp_reset_fit.specs.Keeping.{GoesOn}
use Rattle.sctp_assoc.specs.Calls.{read_from_stream}
use Rattle.sctp_assoc.specs.Shown.{Shown}
use Rattle.sctp_sides.specs.Brought.{BringsOnly}
use Rattle.sctp_sides.specs.OneSide.{Call, FailsInside, IsCarriedOut, IsUnchanged}
use Rattle.sctp_sides.specs.OneSide.Call.{HandleEvent, Read}
use Rattle.sctp_course_sides.specs.Following.{PacketComes}
use Rattle.sctp_course_sides.specs.Sends.{is_at_sender}

-- A call of one side, and what the stream's sender did since the call before it.
pub record Turn : Type 0 where
  pub sent : List events.Event
  pub call : Call

abbrev pub AreSent : List events.Event → Type 0
AreSent sent = AllByRecursion (λ (e : events.Event). is_at_sender e ≡ true) sent

-- numbers of 32 bits tell its requests and its offsets apart
pub record IsFew (c : Course) : Type 0 where
  pub requests : length c.asked < 2 ^ 31
  pub offsets : c.assigned < 2 ^ 31

-- what a call brings is of the course, and P is so of each DATA
abbrev pub Brings : (ChunkPayloadData → Type 0) → ℕ → ℕ → Course → Call → Type 0
Brings P initial id c (HandleEvent packet now) = PacketComes initial id c packet × BringsOnly P packet
Brings P initial id c call = ⊤

-- the message that a call reads on a stream, if it reads one there
abbrev pub message_read : ℕ → Call → Shown → Option ReceivedMessage
message_read id (Read read) a = if read == id then (read_from_stream a read).1 else None
message_read id call a = None

-- What was read grows by this message, in the generation of its stream and on the offsets of the pieces that it was
-- made of, or by nothing.
pub record GrowsBy (P : ChunkPayloadData → Type 0) (initial id : ℕ) (message : ReceivedMessage) (a : Shown)
    (before after : List Told) : Type 0 where
  pub stream : StreamView
  pub live : stream_at a.streams id ≡ Some stream
  pub offsets : List ℕ
  pub made : IsMadeOn P initial id message offsets
  pub is : after ≡ before ++ record { generation = stream.stats.generation; offsets = offsets } ∷ []

abbrev pub Grows : (ChunkPayloadData → Type 0) → ℕ → ℕ → Option ReceivedMessage → Shown → List Told → List Told → Type 0
Grows P initial id None a before after = after ≡ before
Grows P initial id (Some message) a before after = GrowsBy P initial id message a before after

-- neither lost nor failed
pub record IsPresent (a : Shown) : Type 0 where
  pub working : a.failed ≡ false
  pub not_lost : a.lost ≡ false

-- A call leads the course on: what was read of it grows so, its boundaries are kept, and so it goes on while the
-- association is present.
pub record LeadsAlong (Reads : List Told → List Told → Type 0) (b : Shown) (c : Course)
    (Later : Shown → Course → Type 0) : Type 0 where
  pub after : Course
  pub goes : GoesOn c after
  pub read : Reads c.told after.told
  pub keeps : KeepsBoundaries after
  pub later : IsPresent b → Later b after

-- nothing is read
abbrev pub ReadsNothing : List Told → List Told → Type 0
ReadsNothing before after = after ≡ before

-- A call that is carried out adds to what was read what it reads; one that is refused, or fails for want of memory,
-- adds nothing.
pub record LeadsEitherWay (P : ChunkPayloadData → Type 0) (initial id : ℕ) (call : Call) (told : List Event)
    (a b : Shown) (c : Course)
    (Later : Shown → Course → Type 0) : Type 0 where
  pub done : IsCarriedOut call told a b → LeadsAlong (Grows P initial id (message_read id call a) a) b c Later
  pub unchanged : IsUnchanged told a b → LeadsAlong ReadsNothing b c Later
  pub failed : FailsInside call told a b → LeadsAlong ReadsNothing b c Later

-- Whatever the peer sends by the course and whatever is called, all boundaries are kept in turn after turn.
abbrev pub KeepsAlong : (ChunkPayloadData → Type 0) → ℕ → ℕ → List Turn → Shown → Course → Type 0
KeepsAlong P initial id [] a c = KeepsBoundaries c
KeepsAlong P initial id (turn ∷ turns) a c = (b : Shown) (told : List Event) → AreSent turn.sent
    → IsFew (run turn.sent c) → Brings P initial id (run turn.sent c) turn.call
    → LeadsEitherWay P initial id turn.call told a b (run turn.sent c) (KeepsAlong P initial id turns)
