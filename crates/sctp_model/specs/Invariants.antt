-- What holds of a direction after every event, while its numbers stay within their limits. `IsSafe` is read off from
-- it.
use Rattle.std.specs.Prelude.{ℕ, suc, ◌+◌, ◌*◌, ◌%◌, ◌<◌, ◌≤◌, ◌≡◌, ◌⊎◌, max, Bool, true, false, not, ◌&&◌, List, ◌++◌}
use Rattle.std.specs.Prelude.{length, map, filter, Option, Some, None}
use Rattle.std.specs.List.{AllByRecursion}
use Rattle.sctp_model.specs.Messages.{Place, Plan, IsAt, place_at, message_at, message_of, is_last, is_reliable, rank}
use Rattle.sctp_model.specs.Messages.{bytes_below, bytes_among}
use Rattle.sctp_model.specs.Packets.{Data, Sack, Forward, mem, names, data_at}
use Rattle.sctp_model.specs.Reassembly.{Got, Queue, at}
use Rattle.sctp_model.specs.Machine.{Direction, live, reach}
use Rattle.sctp_model.specs.Safe.{Tells, AreDistinct, AreRising, IsWhole, IsKeptOrdered, letter_read, letters_written}
use Rattle.sctp_model.specs.Safe.{is_ordered, number_of, read_end, read_ssn}

-- The assignment of offsets to places.

-- y is the next piece of the same message
pub record Follows (x y : Place) : Type 0 where
  pub stream : y.stream ≡ x.stream
  pub message : y.message ≡ x.message
  pub ssn : y.ssn ≡ x.ssn
  pub piece : y.piece ≡ suc x.piece

pub record IsBefore (p : Plan) (o q : ℕ) : Type 0 where
  pub next : o ≡ suc q
  pub follows : Follows (place_at p q) (place_at p o)
  pub sent : (place_at p q).marker ≡ false

-- two places of ordered messages of one stream within its span, the second on the same offset or a later one
pub record IsPair (p : Plan) (s : ℕ) (x y : Place) (o q : ℕ) : Type 0 where
  pub ssn : x.ssn ≤ y.ssn
  pub together : x.ssn ≡ y.ssn → x.message ≡ y.message
  pub alike : x.message ≡ y.message → x.ssn ≡ y.ssn
  pub near : y.ssn + o ≤ x.ssn + q
  pub rank : y.ssn + rank (p.accepted s) x.message ≤ x.ssn + rank (p.accepted s) y.message

pub record IsPlanned (p : Plan) (over : ℕ → Bool) : Type 0 where
  pub size : 0 < p.size
  pub filled : (s i : ℕ) → i < length (p.accepted s) → 0 < length (message_at p s i).bytes
  pub known : (o : ℕ) → o < length p.places → (place_at p o).message < length (p.accepted (place_at p o).stream)
  pub piece : (o : ℕ) → o < length p.places → p.size * (place_at p o).piece < length (message_of p (place_at p o)).bytes
  pub one : (o q : ℕ) → o < length p.places → q < length p.places → (place_at p o).stream ≡ (place_at p q).stream
      → (place_at p o).message ≡ (place_at p q).message → (place_at p o).piece ≡ (place_at p q).piece → o ≡ q
  pub after : (o : ℕ) → suc o < length p.places → is_last p (place_at p o) ≡ false → (place_at p o).marker ≡ false
      → Follows (place_at p o) (place_at p (suc o))
  pub before : (o k : ℕ) → o < length p.places → (place_at p o).piece ≡ suc k → (q : ℕ) × IsBefore p o q
  -- ordered messages of a stream stand in the order of their numbers, also past its span
  pub rises : (s o q : ℕ) → o ≤ q → IsAt p s true o → IsAt p s true q → (place_at p o).message ≤ (place_at p q).message
  pub pairs : (s : ℕ) → over s ≡ false → (o q : ℕ) → o ≤ q → IsAt p s true o → IsAt p s true q
      → IsPair p s (place_at p o) (place_at p q) o q

-- The sender's counters.

-- an ordered message of stream s that has the offset o, against the next one
pub record IsEarlier (p : Plan) (s next ssn : ℕ) (x : Place) (o : ℕ) : Type 0 where
  pub below : x.ssn < ssn
  pub near : ssn + o ≤ x.ssn + length p.places
  pub rank : ssn + rank (p.accepted s) x.message ≤ x.ssn + rank (p.accepted s) next

-- the message going on, of which some pieces have an offset and some have none
pub record IsGoing (p : Plan) (gone : ℕ → ℕ → Bool) (y : Place) : Type 0 where
  pub last : ℕ
  pub is : length p.places ≡ suc last
  pub follows : Follows (place_at p last) y
  pub sent : (place_at p last).marker ≡ false
  pub more : is_last p (place_at p last) ≡ false
  pub stays : gone y.stream y.message ≡ false
  pub plain : y.marker ≡ false

pub record IsSending (p : Plan) (current : Option Place) (next ssn : ℕ → ℕ) (begun gone : ℕ → ℕ → Bool)
    (over : ℕ → Bool) : Type 0 where
  pub within : (s : ℕ) → next s ≤ length (p.accepted s)
  pub counted : (o : ℕ) → o < length p.places → begun (place_at p o).stream (place_at p o).message ≡ true
  pub numbers : (s o : ℕ) → IsAt p s true o → (place_at p o).message < next s
  pub earlier : (s : ℕ) → over s ≡ false → (o : ℕ) → IsAt p s true o → IsEarlier p s (next s) (ssn s) (place_at p o) o
  pub going : (y : Place) → current ≡ Some y → IsGoing p gone y
  pub closed : current ≡ None → (o : ℕ) → length p.places ≡ suc o
      → (is_last p (place_at p o) ≡ true) ⊎ ((place_at p o).marker ≡ true)
  -- nothing reliable is given up
  pub given_up : (s i : ℕ) → gone s i ≡ true
      → (i < length (p.accepted s)) × (is_reliable (message_at p s i).policy ≡ false)

-- The sequence numbers, before they wrap, of a stream's ordered messages from the acknowledged reach on, also past its
-- span: they ascend with the offsets, and each is below the stream's next number. So is that of the message going on.
pub record IsAscending (p : Plan) (current : Option Place) (ssn : ℕ → ℕ) (reach : ℕ) : Type 0 where
  pub ascends : (s o q : ℕ) → reach ≤ o → o ≤ q → IsAt p s true o → IsAt p s true q
      → (place_at p o).ssn ≤ (place_at p q).ssn
  pub below : (s o : ℕ) → reach ≤ o → IsAt p s true o → (place_at p o).ssn < ssn s
  pub going : (y : Place) → current ≡ Some y → (message_of p y).ordered ≡ true → y.ssn < ssn y.stream

abbrev pub gone_at : Plan → (ℕ → ℕ → Bool) → ℕ → Bool
gone_at p gone o = gone (place_at p o).stream (place_at p o).message

abbrev pub IsAccounted : Plan → (ℕ → ℕ → Bool) → List ℕ → ℕ → Type 0
IsAccounted p gone taken o = (mem o taken ≡ true) ⊎ (gone_at p gone o ≡ true)

abbrev pub NoneGone : (ℕ → ℕ → Bool) → ℕ → Type 0
NoneGone gone s = (i : ℕ) → gone s i ≡ false

-- the acknowledged bytes of messages of stream s that stay, and all bytes of those given up
abbrev pub released_bytes : Plan → (ℕ → Bool) → (ℕ → ℕ → Bool) → ℕ → ℕ
released_bytes p acked gone s =
    bytes_below p (λ o. acked o && not (gone_at p gone o)) s (length p.places) + bytes_among p (gone s) s

-- What is on its way.

-- DATA is the piece of its offset, by the cut and the assignment
pub record IsPiece (p : Plan) (d : Data) : Type 0 where
  pub known : d.offset < length p.places
  pub is : d ≡ data_at p d.offset
  pub sent : (place_at p d.offset).marker ≡ false

-- a SACK names only what was taken in or passed over
pub record IsHonest (taken : List ℕ) (passed : ℕ) (at : ℕ) (k : Sack) : Type 0 where
  pub reach : k.reach ≤ at
  pub named : (o : ℕ) → names k o ≡ true → (mem o taken ≡ true) ⊎ (o < passed)

-- m is the sequence number, before it wraps, of the last ordered message of stream s on the offsets from `start` to
-- `reach`, and that message was given up
pub record IsReported (p : Plan) (gone : ℕ → ℕ → Bool) (s start reach m : ℕ) : Type 0 where
  pub offset : ℕ
  pub from : start ≤ offset
  pub below : offset < reach
  pub at : IsAt p s true offset
  pub given_up : gone_at p gone offset ≡ true
  pub is : m ≡ (place_at p offset).ssn
  pub last : (o : ℕ) → IsAt p s true o → o < reach → o ≤ offset

-- A FORWARD TSN: each offset below its reach is acknowledged (those below `start`) or belongs to an abandoned
-- message (those from there on), its reach is one past the last offset of an abandoned message, and for each stream
-- with an ordered message from `start` to the reach it reports the last one's sequence number (`reported`). That is the
-- greatest of these, whether or not the stream's span was over (`greatest_given_up`). If it wasn't over then, no
-- ordered message below `start` has a greater one either (`greatest`), and as long as it isn't over each one past the
-- reach has (`all`).
-- `acked` and `now` are what is acknowledged now, and the acknowledged reach.
pub record IsForward (p : Plan) (gone : ℕ → ℕ → Bool) (over : ℕ → Bool) (acked : ℕ → Bool) (now : ℕ)
    (f : Forward) : Type 0 where
  pub behind : f.start ≤ now
  pub ahead : f.start < f.reach
  pub known : f.reach ≤ length p.places
  pub near : f.reach ≤ f.start + 16384
  pub acknowledged : (o : ℕ) → o < f.start → acked o ≡ true
  pub abandoned : (o : ℕ) → f.start ≤ o → o < f.reach → gone_at p gone o ≡ true
  pub ends : (o : ℕ) → f.reach ≡ suc o → (is_last p (place_at p o) ≡ true) ⊎ ((place_at p o).marker ≡ true)
  pub complete : (s o : ℕ) → IsAt p s true o → f.start ≤ o → o < f.reach → (m : ℕ) × (f.numbers s ≡ Some m)
  pub reported : (s m : ℕ) → f.numbers s ≡ Some m → IsReported p gone s f.start f.reach m
  pub greatest_given_up : (s m : ℕ) → f.numbers s ≡ Some m → (o : ℕ) → IsAt p s true o → f.start ≤ o → o < f.reach
      → (place_at p o).ssn ≤ m
  pub greatest : (s m : ℕ) → f.numbers s ≡ Some m → f.past s ≡ false → (o : ℕ) → IsAt p s true o → o < f.reach
      → (place_at p o).ssn ≤ m
  pub all : (s m : ℕ) → f.numbers s ≡ Some m → over s ≡ false → (o : ℕ) → IsAt p s true o → (place_at p o).ssn ≤ m
      → o < f.reach

-- One stream at the receiver.

pub record IsHeld (p : Plan) (taken : List ℕ) (s : ℕ) (ordered : Bool) (low : ℕ) (d : Data) : Type 0 where
  pub is : d ≡ data_at p d.offset
  pub at : IsAt p s ordered d.offset
  pub sent : (place_at p d.offset).marker ≡ false
  pub taken_in : mem d.offset taken ≡ true
  pub above : low ≤ (place_at p d.offset).ssn

-- `skipped` is one past the sequence number of a message of stream s that was given up and passed over
pub record IsSkipped (p : Plan) (gone : ℕ → ℕ → Bool) (passed s skipped : ℕ) : Type 0 where
  pub offset : ℕ
  pub below : offset < passed
  pub at : IsAt p s true offset
  pub given_up : gone_at p gone offset ≡ true
  pub is : skipped ≡ suc (place_at p offset).ssn

-- The ordered messages of a stream kept reliable: none was skipped, what was taken in and not read is held, and what
-- was read is each ordered message below `end`.
pub record IsFull (p : Plan) (taken : List ℕ) (s next ssn cursor low end : ℕ) (q : Queue)
    (reads : List Got) : Type 0 where
  pub unskipped : cursor ≡ low
  pub level : low ≡ rank (p.accepted s) end
  pub exact : (o : ℕ) → IsAt p s true o → (place_at p o).ssn ≡ rank (p.accepted s) (place_at p o).message
  pub level_next : ssn ≡ rank (p.accepted s) next
  pub held : (o : ℕ) → IsAt p s true o → mem o taken ≡ true → low ≤ (place_at p o).ssn
      → at o q.ordered ≡ Some (data_at p o)
  pub read : (i : ℕ) → i < end → is_ordered p s i ≡ true → mem i (map (number_of p) reads) ≡ true
  pub letters : IsKeptOrdered p s → map letter_read reads ≡ letters_written p s end

-- The ordered half. `low` and `end` are one past the sequence number and the number of the last ordered message read,
-- `skipped` is one past the greatest sequence number skipped, each 0 where there is none. `current`, `next` and `ssn`
-- are the sender's.
pub record IsOrdered (p : Plan) (gone : ℕ → ℕ → Bool) (current : Option Place) (next ssn : ℕ) (taken : List ℕ)
    (passed skipped s low end : ℕ)
    (q : Queue) (reads : List Got) : Type 0 where
  -- the cursor is one past the later of the last ordered message read and the last one skipped
  pub cursor : ℕ
  pub latest : cursor ≡ max low skipped
  pub is : q.cursor ≡ cursor % 65536
  pub above : low ≤ cursor
  pub origin : (skipped ≡ 0) ⊎ IsSkipped p gone passed s skipped
  pub begun : cursor ≤ ssn
  pub going : (y : Place) → current ≡ Some y → y.stream ≡ s → (message_of p y).ordered ≡ true → cursor ≤ y.ssn
  pub held : AllByRecursion (IsHeld p taken s true low) q.ordered
  pub past : (o : ℕ) → IsAt p s true o → (place_at p o).ssn < cursor → (mem o taken ≡ true) ⊎ (o < passed)
  pub later : (o : ℕ) → IsAt p s true o → low ≤ (place_at p o).ssn → end ≤ (place_at p o).message
  pub link : (o : ℕ) → IsAt p s true o → low ≤ (place_at p o).ssn
      → (place_at p o).ssn + rank (p.accepted s) end ≤ low + rank (p.accepted s) (place_at p o).message
  pub until : end ≤ next
  pub gap : ssn + rank (p.accepted s) end ≤ low + rank (p.accepted s) next
  pub full : NoneGone gone s → IsFull p taken s next ssn cursor low end q reads

-- the number of a message given to the reader, or complete
abbrev pub numbers_of : Plan → List Got → List ℕ
numbers_of p gots = map (number_of p) gots

abbrev pub IsFresh : Plan → List Got → Data → Type 0
IsFresh p gots d = mem (place_at p d.offset).message (numbers_of p gots) ≡ false

-- what was taken in of an unordered message is held, or the message is complete
abbrev pub IsKept : Plan → Queue → List Got → ℕ → Type 0
IsKept p q gots o = (at o q.unordered ≡ Some (data_at p o)) ⊎ (mem (place_at p o).message (numbers_of p gots) ≡ true)

-- The unordered half; `gots` is what was read and what is complete.
pub record IsUnordered (p : Plan) (gone : ℕ → ℕ → Bool) (taken : List ℕ) (s : ℕ) (q : Queue)
    (gots : List Got) : Type 0 where
  pub held : AllByRecursion (IsHeld p taken s false 0) q.unordered
  pub fresh : AllByRecursion (IsFresh p gots) q.unordered
  pub all : NoneGone gone s → (i : ℕ) → IsWhole p taken s i → is_ordered p s i ≡ false
      → mem i (numbers_of p gots) ≡ true
  pub kept : NoneGone gone s → (o : ℕ) → IsAt p s false o → mem o taken ≡ true → IsKept p q gots o

-- what was read, or is complete, is a whole message that begins on its offset
pub record IsGot (p : Plan) (taken : List ℕ) (s : ℕ) (g : Got) : Type 0 where
  pub known : g.from < length p.places
  pub stream : (place_at p g.from).stream ≡ s
  pub tells : Tells p taken s g (number_of p g)

pub record IsStream (p : Plan) (gone : ℕ → ℕ → Bool) (current : Option Place) (next ssn : ℕ) (taken : List ℕ)
    (passed skipped s : ℕ)
    (q : Queue) (reads : List Got) : Type 0 where
  pub got : AllByRecursion (IsGot p taken s) (reads ++ q.complete)
  pub once : AreDistinct (numbers_of p (reads ++ q.complete))
  pub rising : AreRising (numbers_of p (filter (λ (g : Got). g.ordered) reads))
  pub below : AllByRecursion (λ (i : ℕ). i < read_end p 0 reads) (numbers_of p (filter (λ (g : Got). g.ordered) reads))
  pub complete : AllByRecursion (λ (g : Got). g.ordered ≡ false) q.complete
  pub ordered : IsOrdered p gone current next ssn taken passed skipped s (read_ssn p 0 reads)
      (read_end p 0 reads) q reads
  pub unordered : IsUnordered p gone taken s q (reads ++ q.complete)

pub record Invariant (w : Direction) : Type 0 where
  pub planned : IsPlanned w.sender.plan w.over
  pub sending : IsSending w.sender.plan w.sender.current w.sender.next w.sender.ssn w.sender.begun w.sender.gone w.over
  pub ascending : IsAscending w.sender.plan w.sender.current w.sender.ssn w.sender.reach
  -- every DATA packet ever sent is its offset's piece
  pub datas : AllByRecursion (IsPiece w.sender.plan) w.datas
  pub taken : (o : ℕ) → mem o w.receiver.taken ≡ true
      → (o < length w.sender.plan.places) × ((place_at w.sender.plan o).marker ≡ false)
  -- every offset below the receiver's reach was taken in, or belongs to a message that was given up
  pub accounted : (o : ℕ) → o < reach w.receiver → IsAccounted w.sender.plan w.sender.gone w.receiver.taken o
  pub passed : w.receiver.passed ≤ length w.sender.plan.places
  -- an unsent tail has an offset only where its message was abandoned
  pub tails : (o : ℕ) → o < length w.sender.plan.places → (place_at w.sender.plan o).marker ≡ true
      → gone_at w.sender.plan w.sender.gone o ≡ true
  -- every SACK ever sent names only what was taken in or passed over, also when it comes late
  pub sacks : AllByRecursion (IsHonest w.receiver.taken w.receiver.passed (reach w.receiver)) w.sacks
  pub acknowledged : (o : ℕ) → w.sender.acknowledged o ≡ true
      → (mem o w.receiver.taken ≡ true) ⊎ (o < w.receiver.passed)
  -- every offset below the sender's acknowledged reach is acknowledged, and the receiver's reach is as far at least
  pub cumulative : (o : ℕ) → o < w.sender.reach → w.sender.acknowledged o ≡ true
  pub behind : w.sender.reach ≤ reach w.receiver
  -- every FORWARD TSN ever sent is true
  pub forwards : AllByRecursion (IsForward w.sender.plan w.sender.gone w.over w.sender.acknowledged w.sender.reach)
      w.forwards
  pub released : (s : ℕ) → w.sender.released s ≡ released_bytes w.sender.plan w.sender.acknowledged w.sender.gone s
  -- the order, the cursor and the reads of each stream within its span
  pub streams : (s : ℕ) → w.over s ≡ false
      → IsStream w.sender.plan w.sender.gone w.sender.current (w.sender.next s) (w.sender.ssn s) w.receiver.taken
      w.receiver.passed (w.skipped s) s
      (live (w.receiver.queues s)) (w.reads s)
