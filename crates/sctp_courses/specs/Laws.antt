-- What is promised of a stream across its resets.
use Rattle.std.specs.Prelude.{ℕ, ◌<◌, ◌≤◌, ◌≡◌, true, List, [], Option, Some, None}
use Rattle.std.specs.List.{AllByRecursion}
use Rattle.sctp_courses.specs.Course.{Course, Live, Told, boundary_at, fresh_course, is_named, offsets_told, times}
use Rattle.sctp_courses.specs.Events.{Event, happens, is_idle, run}
use Rattle.sctp_courses.specs.Invariants.{AreBelow, Invariant, IsOnItsSide}

-- A message lies on one side of a boundary: below it, until there is a generation past it, and else by its generation.
abbrev pub IsDivided : ℕ → Option ℕ → Told → Type 0
IsDivided boundary None t = AreBelow boundary t.offsets
IsDivided boundary (Some from) t = IsOnItsSide boundary from t

-- Each performed request that names the stream divides what is read of it by generations: what is read in the generation
-- that it ended, and in those before, lies below its boundary, and what is read in later ones lies at or past it. No
-- offset is read twice. A generation past a request is one that was given out after the request was performed, and
-- while the stream can be read and nothing of it retires, there is one for each performed request.
pub record KeepsBoundaries (c : Course) : Type 0 where
  pub divides : (k : ℕ) → k < c.performed → is_named c.asked k ≡ true
      → AllByRecursion (IsDivided (boundary_at c.asked k) (c.past k)) c.told
  pub once : (o : ℕ) → times o (offsets_told c.told) ≤ 1
  pub begins : (k from : ℕ) → c.past k ≡ Some from → (k < c.performed) × (is_named c.asked k ≡ true) × (from < c.next)
  pub settled : (l : Live) → c.live ≡ Some l → l.is_open ≡ true → c.marks ≡ [] → is_idle c ≡ true → (k : ℕ)
      → k < c.performed → is_named c.asked k ≡ true → (from : ℕ) × (c.past k ≡ Some from) × (from ≤ l.generation)

-- Whatever happens, all boundaries are kept.
abbrev pub BoundariesAreKept : Type 0
BoundariesAreKept = (events : List Event) → KeepsBoundaries (run events fresh_course)

-- From any state on, not only from the start: each event keeps the invariant,
abbrev pub EachEventKeepsTheInvariant : Type 0
EachEventKeepsTheInvariant = (c : Course) (e : Event) → Invariant c → Invariant (happens c e)

-- and the invariant is enough for the promise.
abbrev pub TheInvariantIsEnough : Type 0
TheInvariantIsEnough = (c : Course) → Invariant c → KeepsBoundaries c
