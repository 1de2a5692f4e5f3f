-- What a receiver does to its streams leads the course of each one on; and how far that came.
use Rattle.std.specs.Prelude.{◌≡◌, ℕ, Bool, true, false, List}
use Rattle.std.specs.List.{AllByRecursion}
use Rattle.sctp_wire_types.specs.declared.chunk.ChunkPayloadData.{ChunkPayloadData}
use Rattle.sctp_streams.specs.Streams.{StreamMap}
use Rattle.sctp_reset_requests.specs.Laws.{IsCompletedUpTo}
use Rattle.sctp_resets.specs.Resets.{ResetsView}
use Rattle.sctp_courses.specs.Course.{Course}
use Rattle.sctp_courses.specs.Events.{Event, run}
use Rattle.sctp_courses.specs.Invariants.{Invariant}
use Rattle.sctp_reset_fit.specs.Laws.{LeadsOn, Stands}
use Rattle.sctp_reset_fit.specs.Stands.{IsReadOn}

-- What the sender did is as it was, and so is how far the receiver came.
pub record IsAsFar (c d : Course) : Type 0 where
  pub asked : d.asked ≡ c.asked
  pub assigned : d.assigned ≡ c.assigned
  pub mine : d.mine ≡ c.mine
  pub performed : d.performed ≡ c.performed
  pub point : d.point ≡ c.point
  pub taken : d.taken ≡ c.taken

-- Whatever course resets and streams stand for leads on quietly to one that these stand for then, and nothing is read.
abbrev pub KeepsCourse : (ChunkPayloadData → Type 0) → ℕ → ℕ → ResetsView → StreamMap → ResetsView → StreamMap → Type 0
KeepsCourse P initial id r m s n = (c : Course) → Invariant c
    → Stands P initial id r.generations m r.peer.in_progress c → IsReadOn c
    → (l : LeadsOn P initial id s.generations n s.peer.in_progress c) × IsReadOn l.after

-- the sender does nothing by an event
abbrev pub is_at_receiver : Event → Bool
is_at_receiver Event.AssignsMine = false
is_at_receiver Event.AssignsOther = false
is_at_receiver (Event.Asks named) = false
is_at_receiver e = true

-- The course goes on by what its receiver does.
pub record GoesOn (c d : Course) : Type 0 where
  pub events : List Event
  pub received : AllByRecursion (λ (e : Event). is_at_receiver e ≡ true) events
  pub is : d ≡ run events c

-- Resets and streams stand beside a course: they stand for it, what ended and has nothing to read was passed, and the
-- requests that the peer had performed are those of the course.
pub record StandsBeside (P : ChunkPayloadData → Type 0) (initial id : ℕ) (r : ResetsView) (m : StreamMap)
    (c : Course) : Type 0 where
  pub kept : Invariant c
  pub stands : Stands P initial id r.generations m r.peer.in_progress c
  pub read_on : IsReadOn c
  pub numbered : IsCompletedUpTo initial c.performed r.peer

-- The course goes on to one that resets and streams stand beside; nothing came, and nothing was read.
pub record GoesOnBeside (P : ChunkPayloadData → Type 0) (initial id : ℕ) (r : ResetsView) (m : StreamMap)
    (c : Course) : Type 0 where
  pub after : Course
  pub goes : GoesOn c after
  pub stands : StandsBeside P initial id r m after
  pub told : after.told ≡ c.told
  pub point : after.point ≡ c.point
  pub taken : after.taken ≡ c.taken
