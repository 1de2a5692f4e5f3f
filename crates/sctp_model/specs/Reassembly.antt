-- The reassembly of one stream at the receiver (RFC 4960 sections 6.5, 6.6 and 6.9; RFC 3758 section 3.6).
use Rattle.std.specs.Prelude.{ℕ, zero, suc, ◌+◌, ◌%◌, max, Bool, not, ◌&&◌, ◌||◌, List, [], ◌∷◌, ◌++◌, length, flat_map}
use Rattle.std.specs.Prelude.{filter, Option, Some, None, is_some, ◌==◌, nat_le, if◌then◌else◌}
use Rattle.sctp_model.specs.Packets.{Data}
use Rattle.sctp_serial.specs.Serial.{ssn_lt, ssn_lte}

-- A message that a read gives: the offset of its first piece, and what the reader sees of it.
pub record Got : Type 0 where
  pub from : ℕ
  pub ordered : Bool
  pub payload_type : ℕ
  pub bytes : List ℕ

-- The pieces held of ordered messages and of unordered ones, the next stream sequence number in order, and the complete
-- unordered messages in the order of their completion.
pub record Queue : Type 0 where
  pub cursor : ℕ
  pub ordered : List Data
  pub unordered : List Data
  pub complete : List Got

abbrev pub empty_queue : Queue
empty_queue = record { cursor = 0; ordered = []; unordered = []; complete = [] }

-- the piece held at an offset
abbrev pub at : ℕ → List Data → Option Data
at o [] = None
at o (d ∷ ds) = if d.offset == o then Some d else at o ds

-- one past the greatest offset held
abbrev pub top : List Data → ℕ
top [] = 0
top (d ∷ ds) = max (suc d.offset) (top ds)

abbrev pub with_first : Data → Option (List Data) → Option (List Data)
with_first d None = None
with_first d (Some ds) = Some (d ∷ ds)

-- the pieces held from offset o on, one offset after another, up to one with the last flag; none if one of them is
-- missing (at most n of them, and `top held` is enough)
abbrev pub run_on : Option Data → Option (List Data) → Option (List Data)
run_on None rest = None
run_on (Some d) rest = if d.last then Some (d ∷ []) else with_first d rest

abbrev pub run_from : ℕ → ℕ → List Data → Option (List Data)
run_from zero o held = None
run_from (suc n) o held = run_on (at o held) (run_from n (suc o) held)

-- A message all of whose pieces are held: its first piece, and all of them in order.
pub record Run : Type 0 where
  pub head : Data
  pub pieces : List Data

abbrev pub run_with : Data → Option (List Data) → Option Run
run_with d None = None
run_with d (Some ds) = Some (record { head = d; pieces = ds })

-- the message that begins with the piece d, if all of it is held
abbrev pub run_of : List Data → Data → Option Run
run_of held d = run_with d (run_from (top held) d.offset held)

-- its bytes are its pieces' bytes in order
abbrev pub got_of : Run → Got
got_of r = record {
  from = r.head.offset;
  ordered = r.head.ordered;
  payload_type = r.head.payload_type;
  bytes = flat_map (λ (d : Data). d.bytes) r.pieces;
}

-- Ordered messages.

abbrev pub earlier : ℕ → Option ℕ → ℕ
earlier c None = c
earlier c (Some e) = if ssn_lt e c then e else c

-- the first stream sequence number held, in their order
abbrev pub least : List Data → Option ℕ
least [] = None
least (d ∷ ds) = Some (earlier d.ssn (least ds))

-- the piece with the sequence number c that begins its message
abbrev pub begins : ℕ → List Data → Option Data
begins c [] = None
begins c (d ∷ ds) = if (d.ssn == c) && d.first then Some d else begins c ds

abbrev pub run_begun : List Data → Option Data → Option Run
run_begun held None = None
run_begun held (Some d) = run_of held d

-- the message with the sequence number c, if all of it is held
abbrev pub message_in : List Data → ℕ → Option Run
message_in held c = run_begun held (begins c held)

-- A message that a read gives, and what the queue is afterwards.
pub record Taken : Type 0 where
  pub got : Got
  pub rest : Queue

-- the queue without the ordered message of the sequence number c; one at the cursor moves it by one
abbrev pub without : Queue → ℕ → Queue
without q c = record q {
  cursor = if c == q.cursor then (c + 1) % 65536 else q.cursor;
  ordered = filter (λ (d : Data). not (d.ssn == c)) q.ordered;
}

abbrev pub taken_out : Queue → ℕ → Option Run → Option Taken
taken_out q c None = None
taken_out q c (Some r) = Some (record { got = got_of r; rest = without q c })

abbrev pub next_of : Queue → Option ℕ → Option Taken
next_of q None = None
next_of q (Some c) = if ssn_lt q.cursor c then None else taken_out q c (message_in q.ordered c)

-- the first ordered message held, if it is complete and not past the cursor
abbrev pub next_ordered : Queue → Option Taken
next_ordered q = next_of q (least q.ordered)

abbrev pub next_from : Queue → List Got → Option Taken
next_from q [] = next_ordered q
next_from q (g ∷ gs) = Some (record { got = g; rest = record q { complete = gs } })

-- What a read gives: complete unordered messages first, then the ordered one that is due.
abbrev pub next : Queue → Option Taken
next q = next_from q q.complete

-- what reads give one after another, and the queue after them
pub record Drained : Type 0 where
  pub gots : List Got
  pub rest : Queue

abbrev pub drain_on : Queue → Option Taken → (Queue → Drained) → Drained
drain_on q None more = record { gots = []; rest = q }
drain_on q (Some t) more = record { gots = t.got ∷ (more t.rest).gots; rest = (more t.rest).rest }

abbrev pub drain : ℕ → Queue → Drained
drain zero q = record { gots = []; rest = q }
drain (suc n) q = drain_on q (next q) (drain n)

-- each read takes a piece or a complete message at least, so this many reads are enough
abbrev pub waiting : Queue → ℕ
waiting q = length q.complete + length q.ordered

-- Ready: what reads, repeated until none gives anything, give.
abbrev pub ready : Queue → List Got
ready q = (drain (waiting q) q).gots

-- Unordered messages.

abbrev pub or_else : Option Run → Option Run → Option Run
or_else None r = r
or_else (Some r) _ = Some r

-- the first of the pieces ds that begins a message all of which is held
abbrev pub first_complete : List Data → List Data → Option Run
first_complete held [] = None
first_complete held (d ∷ ds) =
    if d.first then or_else (run_of held d) (first_complete held ds) else first_complete held ds

abbrev pub settle : Queue → Option Run → Queue
settle q None = q
settle q (Some r) = record q {
  unordered = filter (λ (d : Data). not (is_some (at d.offset r.pieces))) q.unordered;
  complete = q.complete ++ got_of r ∷ [];
}

-- What arrives.

-- an ordered piece is kept unless its message lies before the cursor
abbrev pub push_ordered : Queue → Data → Queue
push_ordered q d = if ssn_lt d.ssn q.cursor then q else record q { ordered = d ∷ q.ordered }

-- an unordered piece is kept, and where it completes its message, that is ready
abbrev pub with_unordered : Queue → Data → Queue
with_unordered q d = record q { unordered = d ∷ q.unordered }

abbrev pub push_unordered : Queue → Data → Queue
push_unordered q d = settle (with_unordered q d) (first_complete (d ∷ q.unordered) (d ∷ q.unordered))

abbrev pub push : Queue → Data → Queue
push q d = if d.ordered then push_ordered q d else push_unordered q d

-- A skip up to the sequence number m: incomplete ordered messages up to it are dropped, complete ones stay readable,
-- and the cursor moves past m where it was not past it.
abbrev pub skip : Queue → ℕ → Queue
skip q m = record q {
  cursor = if ssn_lte q.cursor m then (m + 1) % 65536 else q.cursor;
  ordered = filter (λ (d : Data). not (ssn_lte d.ssn m) || is_some (message_in q.ordered d.ssn)) q.ordered;
}

abbrev pub skip_if : Queue → Option ℕ → Queue
skip_if q None = q
skip_if q (Some m) = skip q m

-- unordered pieces below a reach whose message isn't complete are dropped
abbrev pub drop_unordered : ℕ → Queue → Queue
drop_unordered reach q = record q { unordered = filter (λ (d : Data). nat_le reach d.offset) q.unordered }
