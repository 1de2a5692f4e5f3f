-- One stream from its sender to its receiver, across its resets (RFC 6525): the requests of the sender to reset its
-- outgoing streams, the offsets that were assigned to this one, and what the receiver does with what comes on them, in
-- one generation of the stream after the other. An offset is the distance of a TSN from its direction's initial TSN; it
-- never wraps. A reach is one past an offset.
use Rattle.std.specs.Prelude.{ℕ, ◌+◌, ◌==◌, ◌&&◌, not, nat_le, nat_lt, if◌then◌else◌, Bool, false}
use Rattle.std.specs.Prelude.{List, [], ◌∷◌, flat_map, Option, Some, None, get_or}
use Rattle.std.specs.List.{list_any}

-- A request to reset outgoing streams, as it was first sent: its boundary, the reach of all that was assigned before
-- it, and whether it names this stream.
pub record Request : Type 0 where
  pub boundary : ℕ
  pub named : Bool

-- The stream while it is live at the receiver: the number of its generation, whether it can be read, and the offsets of
-- what waits to be read.
pub record Live : Type 0 where
  pub generation : ℕ
  pub is_open : Bool
  pub held : List ℕ

-- A message that was read: in which generation, and the offsets of its pieces.
pub record Told : Type 0 where
  pub generation : ℕ
  pub offsets : List ℕ

pub record Course : Type 0 where
  -- the requests that were sent, in the order of their first sendings
  pub asked : List Request
  -- the reach of all that was assigned, to whatever stream, and the offsets that were assigned to this one
  pub assigned : ℕ
  pub mine : List ℕ
  -- the receiver performed the first so many requests; the next one came, and waits for what was sent before it
  pub performed : ℕ
  pub waits : Bool
  -- the cumulative reach: what comes at an offset below it is not new; and which offsets of this stream were taken in
  pub point : ℕ
  pub taken : List ℕ
  -- the generations below this number were given out, to whatever stream
  pub next : ℕ
  pub live : Option Live
  -- the boundaries of generations that ended and are still read; that of the one that is read now stands first
  pub marks : List ℕ
  -- what came for generations that are not read yet, and what of it is being given to the stream
  pub deferred : List ℕ
  pub hand : List ℕ
  -- the request that was performed last is still to end the newest generation; what waited for it is still to be given
  pub retires : Bool
  pub releases : Bool
  -- by request: the first generation past it, once there is one
  pub past : ℕ → Option ℕ
  -- the messages that were read
  pub told : List Told

-- at first no stream is live, and nothing was asked
abbrev pub fresh_course : Course
fresh_course = record {
  asked = [];
  assigned = 0;
  mine = [];
  performed = 0;
  waits = false;
  point = 0;
  taken = [];
  next = 0;
  live = None;
  marks = [];
  deferred = [];
  hand = [];
  retires = false;
  releases = false;
  past = λ k. None;
  told = [];
}

abbrev pub no_request : Request
no_request = record { boundary = 0; named = false }

abbrev pub request_at : List Request → ℕ → Request
request_at asked k = get_or asked k no_request

abbrev pub boundary_at : List Request → ℕ → ℕ
boundary_at asked k = (request_at asked k).boundary

abbrev pub is_named : List Request → ℕ → Bool
is_named asked k = (request_at asked k).named

-- the offsets that wait to be read on the stream
abbrev pub held_on : Option Live → List ℕ
held_on None = []
held_on (Some l) = l.held

-- the stream is live and can be read
abbrev pub is_readable : Option Live → Bool
is_readable None = false
is_readable (Some l) = l.is_open

-- how often a list has a number
abbrev pub times : ℕ → List ℕ → ℕ
times o [] = 0
times o (x ∷ xs) = (if x == o then 1 else 0) + times o xs

-- the offsets of all that was read
abbrev pub offsets_told : List Told → List ℕ
offsets_told ts = flat_map (λ (t : Told). t.offsets) ts

-- an offset lies between two boundaries
abbrev pub is_between : ℕ → ℕ → ℕ → Bool
is_between after upto o = nat_le after o && nat_lt o upto

abbrev pub has_between : ℕ → ℕ → List ℕ → Bool
has_between after upto os = list_any (is_between after upto) os

-- A mark stands for a boundary where nothing that is deferred lies between the two: a generation that ends with the mark
-- ends with the boundary, too.
abbrev pub stands_for : List ℕ → ℕ → ℕ → Bool
stands_for deferred boundary mark = nat_le mark boundary && not (has_between mark boundary deferred)

-- the generation that a boundary ends did end, and is still to be read
abbrev pub is_marked : List ℕ → List ℕ → ℕ → Bool
is_marked marks deferred boundary = list_any (stands_for deferred boundary) marks
