-- A stream's reassembly stands for a queue of the model: it holds the same pieces, put together by messages (RFC 4960
-- sections 6.5, 6.6 and 6.9).
use Rattle.std.specs.Prelude.{◌≡◌, ℕ, suc, ◌+◌, ◌%◌, ◌<◌, ◌≤◌, ◌⊎◌, Bool, true, false, not, ◌&&◌, ◌==◌, List, [], ◌∷◌}
use Rattle.std.specs.Prelude.{◌++◌, length, map, filter, flat_map, nat_lt, if◌then◌else◌, Option, Some, None, ⊤}
use Rattle.std.specs.List.{AllByRecursion}
use Rattle.sctp_wire_types.specs.declared.chunk.ChunkPayloadData.{ChunkPayloadData}
use Rattle.sctp_wire_types.specs.declared.error.Error.{Error}
use Rattle.sctp_wire_types.specs.declared.error.Error.TheVariants as errors
use Rattle.sctp_wire_types.specs.Ids.{number_of}
use Rattle.sctp_receive_queues.specs.Messages.{ReceivedMessage, bytes_left}
use Rattle.sctp_receive_queues.specs.Pieces.{is_complete}
use Rattle.sctp_receive_queues.specs.Reassembly.{Group, Reassembly, skipped}
use Rattle.sctp_model.specs.Messages.{Plan, IsAt, place_at, is_last}
use Rattle.sctp_model.specs.Packets.{Data, mem, data_at}
use Rattle.sctp_serial.specs.Serial.{ssn_lt, tsn, ssn_lte}
use Rattle.sctp_model.specs.Reassembly.{Got, Queue, Taken, at, least, skip}
use Rattle.sctp_model.specs.Safe.{AreRising, Letter, letter_read}
use Rattle.sctp_model.specs.Invariants.{IsHeld}

-- A DATA chunk carries this DATA of a direction with this initial TSN, on whatever stream.
pub record CarriesData (initial : ℕ) (c : ChunkPayloadData) (d : Data) : Type 0 where
  pub tsn : c.tsn ≡ tsn initial d.offset
  pub ssn : c.stream_sequence_number ≡ d.ssn
  pub ordered : c.unordered ≡ not d.ordered
  pub first : c.beginning_fragment ≡ d.first
  pub last : c.ending_fragment ≡ d.last
  pub payload_type : number_of c.payload_type ≡ d.payload_type
  pub bytes : c.user_data ≡ d.bytes

-- the chunks are the DATA of these offsets, one for each and in the same order
abbrev pub CarryDataOf : ℕ → Plan → List ChunkPayloadData → List ℕ → Type 0
CarryDataOf initial p [] [] = ⊤
CarryDataOf initial p [] (o ∷ os) = ⊥
CarryDataOf initial p (c ∷ cs) [] = ⊥
CarryDataOf initial p (c ∷ cs) (o ∷ os) = CarriesData initial c (data_at p o) × CarryDataOf initial p cs os

-- What is held of an ordered message: its stream sequence number before that wraps, and the offsets of the pieces.
pub record HeldMessage : Type 0 where
  pub number : ℕ
  pub offsets : List ℕ

-- the offset o is that of a piece of the ordered message with this number on stream s
pub record IsOf (p : Plan) (s number o : ℕ) : Type 0 where
  pub at : IsAt p s true o
  pub sent : (place_at p o).marker ≡ false
  pub is : (place_at p o).ssn ≡ number

-- A group is what is held of one message: at least one piece, the pieces in the order of their offsets.
pub record IsGroup (initial : ℕ) (p : Plan) (s : ℕ) (g : Group) (h : HeldMessage) : Type 0 where
  pub ssn : g.ssn ≡ h.number % 65536
  pub pieces : CarryDataOf initial p g.pieces h.offsets
  pub some : 0 < length h.offsets
  pub rising : AreRising h.offsets
  pub mine : AllByRecursion (IsOf p s h.number) h.offsets

abbrev pub AreGroups : ℕ → Plan → ℕ → List Group → List HeldMessage → Type 0
AreGroups initial p s [] [] = ⊤
AreGroups initial p s [] (h ∷ hs) = ⊥
AreGroups initial p s (g ∷ gs) [] = ⊥
AreGroups initial p s (g ∷ gs) (h ∷ hs) = IsGroup initial p s g h × AreGroups initial p s gs hs

abbrev pub offsets_in : List HeldMessage → List ℕ
offsets_in hs = flat_map (λ (h : HeldMessage). h.offsets) hs

abbrev pub numbers_in : List HeldMessage → List ℕ
numbers_in hs = map (λ (h : HeldMessage). h.number) hs

-- what a reader sees of a message
abbrev pub letter_received : ReceivedMessage → Letter
letter_received m = record { payload_type = number_of m.payload_type; bytes = bytes_left m }

-- The pieces of unordered messages that wait for others of their message (RFC 4960 sections 6.6 and 6.9).

-- the run begins at the next offset, and that is of the same message: the piece at the offset o doesn't end its own
-- (RFC 4960 section 3.3.1)
abbrev pub leads : Plan → ℕ → List ℕ → Bool
leads p o [] = false
leads p o (x ∷ xs) = (x == suc o) && not (is_last p (place_at p o))

-- an offset in front of some runs belongs to the first one where it leads that, and else is a run by itself
abbrev pub led : Plan → ℕ → List (List ℕ) → List (List ℕ)
led p o [] = (o ∷ []) ∷ []
led p o (r ∷ rs) = if leads p o r then (o ∷ r) ∷ rs else (o ∷ []) ∷ r ∷ rs

-- Ascending offsets cut into runs, each as long as can be: the offsets of a run follow one another, and its pieces are
-- of one message (RFC 4960 section 6.9).
abbrev pub runs_of : Plan → List ℕ → List (List ℕ)
runs_of p [] = []
runs_of p (o ∷ os) = led p o (runs_of p os)

-- the chunks of each run are the DATA of the offsets of its run
abbrev pub AreRuns : ℕ → Plan → List (List ChunkPayloadData) → List (List ℕ) → Type 0
AreRuns initial p [] [] = ⊤
AreRuns initial p [] (r ∷ rs) = ⊥
AreRuns initial p (c ∷ cs) [] = ⊥
AreRuns initial p (c ∷ cs) (r ∷ rs) = CarryDataOf initial p c r × AreRuns initial p cs rs

-- the offset o is that of a piece of an unordered message of stream s
pub record IsLoose (p : Plan) (s o : ℕ) : Type 0 where
  pub at : IsAt p s false o
  pub sent : (place_at p o).marker ≡ false

-- The chunks are the runs of these offsets, none of them a whole message, and what the model holds of unordered
-- messages at an offset is its DATA where that is one of them, and nothing elsewhere.
pub record AreWaiting (initial : ℕ) (p : Plan) (s : ℕ) (chunks : List (List ChunkPayloadData))
    (held : List Data) : Type 0 where
  pub offsets : List ℕ
  pub runs : AreRuns initial p chunks (runs_of p offsets)
  pub ascends : AreRising offsets
  pub mine : AllByRecursion (IsLoose p s) offsets
  pub same : (o : ℕ) → at o held ≡ (if mem o offsets then Some (data_at p o) else None)
  pub exact : AllByRecursion (λ (d : Data). d ≡ data_at p d.offset) held
  pub incomplete : AllByRecursion (λ (r : List ChunkPayloadData). is_complete r ≡ false) chunks

-- The groups ascend strictly by the number of their message, and what the model holds of ordered messages at an offset
-- is its DATA where one of the groups has it, and nothing elsewhere. The same message is next, the same pieces of
-- unordered messages wait, and the same unordered messages are complete, in the same order.
pub record StandsFor (initial : ℕ) (p : Plan) (s : ℕ) (r : Reassembly) (q : Queue) : Type 0 where
  pub held : List HeldMessage
  pub groups : AreGroups initial p s r.ordered held
  pub ascends : AreRising (numbers_in held)
  pub same : (o : ℕ) → at o q.ordered ≡ (if mem o (offsets_in held) then Some (data_at p o) else None)
  pub next : r.next_ssn ≡ q.cursor
  pub waiting : AreWaiting initial p s r.unordered q.unordered
  pub complete : map letter_received r.complete ≡ map letter_read q.complete

-- What the model's invariant gives of a stream within its span: what is held are pieces that were taken in, their
-- numbers before they wrap lie from `low` on and less than half the range apart, and so does the cursor, which is
-- `cursor` before it wraps.
pub record IsInWindow (p : Plan) (taken : List ℕ) (s low cursor : ℕ) (q : Queue) : Type 0 where
  pub held : AllByRecursion (IsHeld p taken s true low) q.ordered
  pub near : AllByRecursion (λ (d : Data). (place_at p d.offset).ssn < low + 32767) q.ordered
  pub is : q.cursor ≡ cursor % 65536
  pub above : low ≤ cursor
  pub until : cursor ≤ low + 32767

-- a read answers the same letter on both sides, or nothing on both, and afterwards one stands for the other again
abbrev pub IsAnsweredAlike : ℕ → Plan → ℕ → Queue → Reassembly × Option ReceivedMessage → Option Taken → Type 0
IsAnsweredAlike initial p s q (r, None) None = StandsFor initial p s r q
IsAnsweredAlike initial p s q (r, None) (Some t) = ⊥
IsAnsweredAlike initial p s q (r, Some m) None = ⊥
IsAnsweredAlike initial p s q (r, Some m) (Some t) =
    (letter_received m ≡ letter_read t.got) × StandsFor initial p s r t.rest

-- where it is refused at all, that is for the bytes that its message would have, and not for a contradiction
abbrev pub IsForBytesAlone : Option Error → Type 0
IsForBytesAlone e = (e ≡ None) ⊎ (e ≡ Some errors.ErrInboundMessageTooLarge)

-- what a read answers is what the model's reader got
abbrev pub IsReadAs : Option ReceivedMessage → List Got → List Got → Type 0
IsReadAs None before after = after ≡ before
IsReadAs (Some m) before after = (g : Got) × (after ≡ before ++ g ∷ []) × (letter_received m ≡ letter_read g)

-- a skip where a FORWARD TSN reports a sequence number for the stream
abbrev pub skipped_if : Reassembly → Option ℕ → Reassembly
skipped_if r None = r
skipped_if r (Some m) = skipped r m

-- A skip that leaves what lies past a TSN (RFC 3758 section 3.6).

-- the ordered pieces held past the offset o, of messages up to the sequence number m
abbrev pub held_past : Queue → ℕ → ℕ → List Data
held_past q m o = filter (λ (d : Data). ssn_lte d.ssn m && nat_lt o d.offset) q.ordered

-- the sequence number in front of another one, else m
abbrev pub just_before : ℕ → Option ℕ → ℕ
just_before m None = m
just_before m (Some c) = (c + 65535) % 65536

-- how far a skip up to m goes that leaves each message with a piece past the offset o: the sequence number in front of
-- the first of these, and m where there is none up to m
abbrev pub bounded_at : Queue → ℕ → ℕ → ℕ
bounded_at q m o = just_before m (least (held_past q m o))

-- A queue after a skip up to b still has the pieces of each ordered message with one held past the offset o, and such a
-- message that didn't lie before the next one doesn't now.
pub record IsSpared (p : Plan) (o b : ℕ) (q : Queue) : Type 0 where
  pub pieces : (x y : ℕ) (d e : Data) → at x q.ordered ≡ Some d → at y q.ordered ≡ Some e → o < y
      → (place_at p x).ssn ≡ (place_at p y).ssn
      → at x (skip q b).ordered ≡ Some d
  pub cursor : (y : ℕ) (e : Data) → at y q.ordered ≡ Some e → o < y → ssn_lt e.ssn q.cursor ≡ false
      → ssn_lt e.ssn (skip q b).cursor ≡ false
