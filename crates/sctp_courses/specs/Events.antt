-- What may happen to a stream across its resets. What an implementation may choose freely is an event, of which nothing
-- comes where its rule does not allow it.
use Rattle.std.specs.Prelude.{ℕ, suc, ◌-◌, ◌==◌, ◌&&◌, ◌||◌, not, nat_le, nat_lt, if◌then◌else◌, Bool, true, false}
use Rattle.std.specs.Prelude.{List, [], ◌∷◌, ◌++◌, length, drop, filter, Option, Some, None, is_some}
use Rattle.std.specs.List.{list_any}
use Rattle.sctp_model.specs.Packets.{mem}
use Rattle.sctp_courses.specs.Course.{Course, Live, Request, boundary_at, is_marked, is_named, is_readable, times}

-- The sender

-- a request that was not performed names the stream: no offset is assigned to it until then (RFC 6525 section 5.1.2)
abbrev pub is_to_be_reset : Course → Bool
is_to_be_reset c = list_any (λ (q : Request). q.named) (drop c.performed c.asked)

-- the next offset goes to this stream
abbrev pub assigned_mine : Course → Course
assigned_mine c = record c { assigned = suc c.assigned; mine = c.assigned ∷ c.mine }

-- it goes to another one
abbrev pub assigned_other : Course → Course
assigned_other c = record c { assigned = suc c.assigned }

-- a request is sent for the first time
abbrev pub asking : Bool → Course → Course
asking named c = record c { asked = c.asked ++ record { boundary = c.assigned; named = named } ∷ [] }

-- The receiver: what comes

-- no request is being performed, and nothing is being given to the stream
abbrev pub is_idle : Course → Bool
is_idle c = not c.releases && (length c.hand == 0)

-- an offset of this stream is at or past the cumulative reach and was not taken in
abbrev pub is_new : Course → ℕ → Bool
is_new c o = nat_le c.point o && (mem o c.mine && not (mem o c.taken))

-- the request that waits names the stream, and the offset lies at or past its boundary
abbrev pub is_behind : List Request → ℕ → Bool → ℕ → Bool
is_behind asked performed waits o = waits && (is_named asked performed && nat_le (boundary_at asked performed) o)

-- what comes at an offset is of a generation that is not read yet (RFC 6525 section 5.2.2)
abbrev pub is_hidden : Course → ℕ → Bool
is_hidden c o = not (length c.marks == 0) || is_behind c.asked c.performed c.waits o

abbrev pub with_held : Option Live → ℕ → Option Live
with_held None o = None
with_held (Some l) o = Some (record l { held = o ∷ l.held })

-- what came goes to the live stream
abbrev pub taken_in : Course → ℕ → Course
taken_in c o = record c { live = with_held c.live o; taken = o ∷ c.taken }

-- what came waits for the generation that it is of
abbrev pub kept : Course → ℕ → Course
kept c o = record c { deferred = o ∷ c.deferred; taken = o ∷ c.taken }

-- The receiver: a new generation

-- the request was performed, and no generation past it was there yet; no boundary that is still to be passed stands for
-- its own
abbrev pub becomes_past : Course → ℕ → Bool
becomes_past c k =
    (nat_lt k c.performed && is_named c.asked k)
    && (not (is_some (c.past k)) && not (is_marked c.marks c.deferred (boundary_at c.asked k)))

abbrev pub opened : Course → ℕ → Course
opened c generation = record c {
  next = suc generation;
  live = Some (record { generation = generation; is_open = true; held = [] });
  past = λ k. if becomes_past c k then Some generation else c.past k;
}

-- The receiver: a request is performed, in steps (RFC 6525 section 5.2.2)

-- it is performed once all that was sent before it was taken in or passed over
abbrev pub is_due : Course → Bool
is_due c = c.waits && nat_le (boundary_at c.asked c.performed) c.point

abbrev pub performed_next : Course → Course
performed_next c = record c {
  performed = suc c.performed;
  waits = false;
  retires = is_named c.asked c.performed;
  releases = true;
}

abbrev pub last_boundary : Course → ℕ
last_boundary c = boundary_at c.asked (c.performed - 1)

-- the live generation ends with the boundary, and is still read
abbrev pub retired : Course → Course
retired c = record c { marks = c.marks ++ last_boundary c ∷ []; retires = false }

-- a generation that ended before ends with the boundary, too: nothing came for a later one
abbrev pub left : Course → Course
left c = record c { retires = false }

-- the generation is over, since nothing of it can be read any more; so it is where the stream is not live
abbrev pub finished : Course → Course
finished c = record c { live = None; retires = false }

-- what waited for the request is given to the stream, unless an older generation is still read
abbrev pub released : Course → Course
released c =
    if length c.marks == 0 then record c { hand = c.deferred; deferred = []; releases = false }
    else record c { releases = false }

-- the first of what is given comes to the stream; it is lost where no stream is live
abbrev pub given_next : List ℕ → Course → Course
given_next [] c = c
given_next (o ∷ os) c = record c { live = with_held c.live o; hand = os }

-- The receiver: a generation is read to its end

-- what waits is of the generation after the one that ended: up to the next boundary, if there is one, else up to that of
-- the request that waits, if that names the stream
abbrev pub is_of_next : List ℕ → Course → ℕ → Bool
is_of_next [] c o = not (is_behind c.asked c.performed c.waits o)
is_of_next (mark ∷ marks) c o = nat_lt o mark

abbrev pub passed_first : List ℕ → Course → Course
passed_first [] c = c
passed_first (mark ∷ marks) c = record c {
  live = None;
  marks = marks;
  hand = filter (is_of_next marks c) c.deferred;
  deferred = filter (λ o. not (is_of_next marks c o)) c.deferred;
}

-- The receiver: the application

-- each of these is held, and as often
abbrev pub are_held : List ℕ → List ℕ → Bool
are_held os held = not (list_any (λ o. nat_lt (times o held) (times o os)) os)

abbrev pub without_held : List ℕ → Live → Live
without_held os l = record l { held = filter (λ o. not (mem o os)) l.held }

abbrev pub read_from : List ℕ → Option Live → Course → Course
read_from os None c = c
read_from os (Some l) c =
    if l.is_open && are_held os l.held then record c {
      live = Some (without_held os l);
      told = c.told ++ record { generation = l.generation; offsets = os } ∷ [];
    }
    else c

abbrev pub held_where : (ℕ → Bool) → Option Live → Option Live
held_where test None = None
held_where test (Some l) = Some (record l { held = filter test l.held })

abbrev pub closed_to_reads : Option Live → Option Live
closed_to_reads None = None
closed_to_reads (Some l) = Some (record l { is_open = false })

-- nothing of the stream is left but what is live
abbrev pub discarded : Course → Course
discarded c = record c { marks = []; deferred = [] }

-- The events

pub data Event : Type 0 where
  -- the sender assigns an offset to this stream, or to another one; it asks for a reset that names the stream or not
  AssignsMine : Event
  AssignsOther : Event
  Asks : Bool → Event
  -- the receiver's cumulative reach moves on; what comes on an offset goes to the stream, or waits
  Advances : ℕ → Event
  Takes : ℕ → Event
  Keeps : ℕ → Event
  -- a new generation is live, with this number
  Opens : ℕ → Event
  -- the next request comes, and is performed
  Comes : Event
  Performs : Event
  Retires : Event
  Leaves : Event
  Finishes : Event
  Releases : Event
  Gives : Event
  -- the generation that is read is over, and what came for the next one is given out
  Passes : Event
  -- a message of these offsets is read
  Reads : List ℕ → Event
  -- of what is held, and of what is deferred, only what passes the test stays
  Holds : (ℕ → Bool) → Event
  Defers : (ℕ → Bool) → Event
  -- the application reads the stream no more; nothing waits for it any more; it is gone
  Closes : Event
  Discards : Event
  Vanishes : Event

abbrev pub happens : Course → Event → Course
happens c Event.AssignsMine = if is_to_be_reset c then c else assigned_mine c
happens c Event.AssignsOther = assigned_other c
happens c (Event.Asks named) = asking named c
happens c (Event.Advances point) = if nat_le c.point point then record c { point = point } else c
happens c (Event.Takes o) =
    if is_idle c && (is_new c o && (is_some c.live && not (is_hidden c o))) then taken_in c o else c
happens c (Event.Keeps o) = if is_idle c && (is_new c o && is_hidden c o) then kept c o else c
happens c (Event.Opens generation) =
    if not c.retires && (not (is_some c.live) && nat_le c.next generation) then opened c generation else c
happens c Event.Comes = if is_idle c && nat_lt c.performed (length c.asked) then record c { waits = true } else c
happens c Event.Performs = if is_idle c && is_due c then performed_next c else c
happens c Event.Retires = if c.retires then retired c else c
happens c Event.Leaves =
    if c.retires && is_marked c.marks c.deferred (last_boundary c) then left c else c
happens c Event.Finishes = if c.retires && (length c.marks == 0) then finished c else c
happens c Event.Releases = if c.releases && not c.retires then released c else c
happens c Event.Gives = given_next c.hand c
happens c Event.Passes = if is_idle c then passed_first c.marks c else c
happens c (Event.Reads os) = read_from os c.live c
happens c (Event.Holds test) = record c { live = held_where test c.live }
happens c (Event.Defers test) = record c { deferred = filter test c.deferred }
happens c Event.Closes = record c { live = closed_to_reads c.live }
happens c Event.Discards = if is_idle c && not (is_readable c.live) then discarded c else c
happens c Event.Vanishes = if is_readable c.live then c else record c { live = None }

abbrev pub run : List Event → Course → Course
run [] c = c
run (e ∷ es) c = run es (happens c e)
