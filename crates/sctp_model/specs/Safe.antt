-- What is promised of one direction: what is read was accepted, whole, at most once and in order. On reliable streams,
-- what was or can be read at an open receiver is all that was accepted and taken in, an ordered message once all ordered
-- ones before it were (on ordered streams the longest accepted front whose pieces were all taken in), and no more bytes
-- are released than were taken in.
use Rattle.std.specs.Prelude.{ℕ, suc, ◌+◌, ◌*◌, ◌^◌, ◌<◌, ◌≤◌, ◌≡◌, Bool, true, false, ⊤, List, [], ◌∷◌, ◌++◌, length}
use Rattle.std.specs.Prelude.{map, filter, take, drop, if◌then◌else◌}
use Rattle.std.specs.List.{AllByRecursion}
use Rattle.sctp_model.specs.Messages.{Message, Plan, place_at, message_at, count_ordered, is_reliable, bytes_below}
use Rattle.sctp_model.specs.Packets.{mem}
use Rattle.sctp_model.specs.Reassembly.{Got, ready}
use Rattle.sctp_model.specs.Machine.{Direction, Event, happens, live}

-- Piece k of message i of stream s stands on an offset that was taken in. That offset stands for the piece itself and
-- not for an abandoned tail, so it came with the piece's bytes.
pub record IsTaken (p : Plan) (taken : List ℕ) (s i k : ℕ) : Type 0 where
  pub offset : ℕ
  pub known : offset < length p.places
  pub stream : (place_at p offset).stream ≡ s
  pub message : (place_at p offset).message ≡ i
  pub piece : (place_at p offset).piece ≡ k
  pub sent : (place_at p offset).marker ≡ false
  pub taken_in : mem offset taken ≡ true

-- Message i of stream s is whole: it was accepted, and each of its pieces was taken in.
pub record IsWhole (p : Plan) (taken : List ℕ) (s i : ℕ) : Type 0 where
  pub accepted : i < length (p.accepted s)
  pub pieces : (k : ℕ) → p.size * k < length (message_at p s i).bytes → IsTaken p taken s i k

-- What was read is message i of stream s, and that is whole.
pub record Tells (p : Plan) (taken : List ℕ) (s : ℕ) (g : Got) (i : ℕ) : Type 0 where
  pub payload_type : g.payload_type ≡ (message_at p s i).payload_type
  pub bytes : g.bytes ≡ (message_at p s i).bytes
  pub ordered : g.ordered ≡ (message_at p s i).ordered
  pub whole : IsWhole p taken s i

-- The numbers name what was read, one for each member.
abbrev pub Names : Plan → List ℕ → ℕ → List Got → List ℕ → Type 0
Names p taken s [] [] = ⊤
Names p taken s [] (i ∷ is) = ⊥
Names p taken s (g ∷ gs) [] = ⊥
Names p taken s (g ∷ gs) (i ∷ is) = Tells p taken s g i × Names p taken s gs is

abbrev pub AreDistinct : List ℕ → Type 0
AreDistinct [] = ⊤
AreDistinct (i ∷ is) = (mem i is ≡ false) × AreDistinct is

abbrev pub AreRising : List ℕ → Type 0
AreRising [] = ⊤
AreRising (i ∷ is) = AllByRecursion (λ (j : ℕ). i < j) is × AreRising is

abbrev pub is_ordered : Plan → ℕ → ℕ → Bool
is_ordered p s i = (message_at p s i).ordered

-- One list of numbers for all that was read: each member is that message and whole, no message comes twice, and the
-- ordered ones come in the order of their acceptance.
pub record AreInOrder (p : Plan) (taken : List ℕ) (s : ℕ) (gots : List Got) (numbers : List ℕ) : Type 0 where
  pub named : Names p taken s gots numbers
  pub once : AreDistinct numbers
  pub rising : AreRising (filter (is_ordered p s) numbers)

abbrev pub IsKeptOrdered : Plan → ℕ → Type 0
IsKeptOrdered p s = (i : ℕ) → i < length (p.accepted s) → is_ordered p s i ≡ true

abbrev pub IsKeptReliable : Plan → ℕ → Type 0
IsKeptReliable p s = (i : ℕ) → i < length (p.accepted s) → is_reliable (message_at p s i).policy ≡ true

-- What a reader sees of a message.
pub record Letter : Type 0 where
  pub payload_type : ℕ
  pub bytes : List ℕ

abbrev pub letter_read : Got → Letter
letter_read g = record { payload_type = g.payload_type; bytes = g.bytes }

abbrev pub letter_written : Message → Letter
letter_written m = record { payload_type = m.payload_type; bytes = m.bytes }

-- The first `count` messages of stream s are its longest front whose members are all whole.
pub record IsPrefix (p : Plan) (taken : List ℕ) (s count : ℕ) : Type 0 where
  pub within : count ≤ length (p.accepted s)
  pub whole : (i : ℕ) → i < count → IsWhole p taken s i
  pub longest : IsWhole p taken s count → ⊥

abbrev pub letters_written : Plan → ℕ → ℕ → List Letter
letters_written p s count = map letter_written (take count (p.accepted s))

abbrev pub IsExactly : Plan → List ℕ → ℕ → List Got → Type 0
IsExactly p taken s gots = (count : ℕ) × IsPrefix p taken s count × (map letter_read gots ≡ letters_written p s count)

abbrev pub IsFront : Plan → List ℕ → ℕ → List Got → Type 0
IsFront p taken s gots =
    (count : ℕ) × (some : ℕ) × IsPrefix p taken s count × (some ≤ count)
    × (map letter_read gots ≡ letters_written p s some)

-- Message i is to be had: it is whole, and where it is ordered, so is each ordered message before it.
pub record IsToBeHad (p : Plan) (taken : List ℕ) (s i : ℕ) : Type 0 where
  pub whole : IsWhole p taken s i
  pub before : is_ordered p s i ≡ true → (j : ℕ) → j < i → is_ordered p s j ≡ true → IsWhole p taken s j

-- All that is to be had is there, and nothing else.
pub record AreAll (p : Plan) (taken : List ℕ) (s : ℕ) (gots : List Got) (numbers : List ℕ) : Type 0 where
  pub in_order : AreInOrder p taken s gots numbers
  pub sound : (i : ℕ) → mem i numbers ≡ true → IsToBeHad p taken s i
  pub complete : (i : ℕ) → IsToBeHad p taken s i → mem i numbers ≡ true

-- Read followed by Ready.
abbrev pub read_or_ready : Direction → ℕ → List Got
read_or_ready w s = w.reads s ++ ready (live (w.receiver.queues s))

-- The promise for stream s.
pub record IsSafe (w : Direction) (s : ℕ) : Type 0 where
  pub read : (numbers : List ℕ) × AreInOrder w.sender.plan w.receiver.taken s (w.reads s) numbers
  pub prefix : IsKeptOrdered w.sender.plan s → IsKeptReliable w.sender.plan s → w.receiver.is_open ≡ true
      → IsExactly w.sender.plan w.receiver.taken s (read_or_ready w s)
  pub front : IsKeptOrdered w.sender.plan s → IsKeptReliable w.sender.plan s → w.receiver.is_open ≡ false
      → IsFront w.sender.plan w.receiver.taken s (w.reads s)
  pub released : IsKeptReliable w.sender.plan s
      → w.sender.released s ≤ bytes_below w.sender.plan (λ o. mem o w.receiver.taken) s (length w.sender.plan.places)
  pub all : IsKeptReliable w.sender.plan s → w.receiver.is_open ≡ true
      → (numbers : List ℕ) × AreAll w.sender.plan w.receiver.taken s (read_or_ready w s) numbers

-- The last ordered message read, as one past its number and one past its sequence number before that wraps; 0 where
-- there is none.
abbrev pub number_of : Plan → Got → ℕ
number_of p g = (place_at p g.from).message

abbrev pub ssn_of : Plan → Got → ℕ
ssn_of p g = (place_at p g.from).ssn

abbrev pub read_end : Plan → ℕ → List Got → ℕ
read_end p found [] = found
read_end p found (g ∷ gs) = read_end p (if g.ordered then suc (number_of p g) else found) gs

abbrev pub read_ssn : Plan → ℕ → List Got → ℕ
read_ssn p found [] = found
read_ssn p found (g ∷ gs) = read_ssn p (if g.ordered then suc (ssn_of p g) else found) gs

-- how many ordered messages of stream s were accepted past the last ordered one read
abbrev pub unread : Plan → ℕ → List Got → ℕ
unread p s gots = count_ordered (drop (read_end p 0 gots) (p.accepted s))

-- The numbers that wrap are far from meeting themselves; on streams within their span those of messages, too.
pub record IsWithin (w : Direction) : Type 0 where
  pub offsets : length w.sender.plan.places < 2 ^ 31
  pub flight : length w.sender.plan.places < w.sender.reach + 16384
  pub unread : (s : ℕ) → w.over s ≡ false → unread w.sender.plan s (w.reads s) < 32768

-- After each event so far.
abbrev pub StaysWithin : Direction → List Event → Type 0
StaysWithin w [] = IsWithin w
StaysWithin w (e ∷ es) = IsWithin w × StaysWithin (happens w e) es
