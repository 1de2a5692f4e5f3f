-- The laws that join the reassembly of one stream to the queue of the model.
use Rattle.std.specs.Prelude.{◌≡◌, ℕ, suc, ◌+◌, ◌%◌, ◌^◌, ◌<◌, Bool, true, false, nat_lt, List, length, map, slice_get}
use Rattle.std.specs.Prelude.{Some, None}
use Rattle.std.specs.List.{AllByRecursion}
use Rattle.sctp_wire_types.specs.declared.chunk.ChunkPayloadData.{ChunkPayloadData}
use Rattle.sctp_receive_queues.specs.Reassembly.{Reassembly, bounded, empty_reassembly, pushed, ready as view_ready}
use Rattle.sctp_receive_queues.specs.Reassembly.{refusal, skipped, taken, unordered_skipped}
use Rattle.sctp_model.specs.Messages.{Plan, place_at}
use Rattle.sctp_model.specs.Packets.{Data, Forward, data_at, skips}
use Rattle.sctp_serial.specs.Serial.{tsn, ssn_lte}
use Rattle.sctp_model.specs.Reassembly.{Queue, at, drop_unordered, empty_queue, next, push, ready, skip}
use Rattle.sctp_model.specs.Machine.{Direction, Event, happens, is_new, live, reach}
use Rattle.sctp_model.specs.Safe.{IsWithin, letter_read, read_ssn}
use Rattle.sctp_model.specs.Invariants.{Invariant, IsPlanned}
use Rattle.sctp_reassembly.specs.Stands.{CarriesData, IsInWindow, IsLoose, StandsFor, IsAnsweredAlike, IsForBytesAlone}
use Rattle.sctp_reassembly.specs.Stands.{IsReadAs, IsSpared, bounded_at, letter_received, skipped_if}

-- A piece of an ordered message that came is put to the others of its message on both sides, or on both sides it is of
-- a message that lies before the next one. It is refused for the bytes of its message alone.
abbrev pub OrderedPiecesStand : Type 0
OrderedPiecesStand = (initial : ℕ) (p : Plan) (over : ℕ → Bool) (came : List ℕ) (s low cursor o limit : ℕ)
    (r : Reassembly) (q : Queue) (c : ChunkPayloadData)
    → IsPlanned p over → over s ≡ false → length p.places < 2 ^ 31 → StandsFor initial p s r q
    → CarriesData initial c (data_at p o) → (data_at p o).ordered ≡ true → at o q.ordered ≡ None
    → IsInWindow p came s low cursor (push q (data_at p o))
    → StandsFor initial p s (pushed r c).0 (push q (data_at p o)) × IsForBytesAlone (refusal r c limit)

-- A read answers the same on both sides.
abbrev pub ReadsAnswerAlike : Type 0
ReadsAnswerAlike = (initial : ℕ) (p : Plan) (over : ℕ → Bool) (came : List ℕ) (s low cursor : ℕ)
    (r : Reassembly) (q : Queue)
    → IsPlanned p over → over s ≡ false → length p.places < 2 ^ 31 → IsInWindow p came s low cursor q
    → StandsFor initial p s r q
    → IsAnsweredAlike initial p s q (taken r) (next q)

-- A skip up to a sequence number drops the same messages on both sides.
abbrev pub OrderedSkipsStand : Type 0
OrderedSkipsStand = (initial : ℕ) (p : Plan) (over : ℕ → Bool) (came : List ℕ) (s low cursor m : ℕ)
    (r : Reassembly) (q : Queue)
    → IsPlanned p over → over s ≡ false → length p.places < 2 ^ 31 → IsInWindow p came s low cursor q
    → StandsFor initial p s r q
    → StandsFor initial p s (skipped r m) (skip q m)

-- So does a skip that is bounded by a TSN: on both sides it goes as far as the message in front of the first one with a
-- piece past that TSN.
abbrev pub BoundedSkipsStand : Type 0
BoundedSkipsStand = (initial : ℕ) (p : Plan) (over : ℕ → Bool) (came : List ℕ) (s low cursor m o : ℕ)
    (r : Reassembly) (q : Queue)
    → IsPlanned p over → over s ≡ false → length p.places < 2 ^ 31 → o < 2 ^ 31 → IsInWindow p came s low cursor q
    → StandsFor initial p s r q
    → (bounded r.ordered m (tsn initial o) ≡ bounded_at q m o)
    × StandsFor initial p s (skipped r (bounded r.ordered m (tsn initial o))) (skip q (bounded_at q m o))

-- It leaves each message with a piece past the offset, and where no message up to the sequence number has one, it is
-- the skip up to that. The number n before it wraps is less than half the range away from those held.
abbrev pub BoundedSkipsSpare : Type 0
BoundedSkipsSpare = (p : Plan) (came : List ℕ) (s low cursor n o : ℕ) (q : Queue)
    → IsInWindow p came s low cursor q → n < low + 32768
    → AllByRecursion (λ (d : Data). (place_at p d.offset).ssn < n + 32768) q.ordered
    → IsSpared p o (bounded_at q (n % 65536) o) q
    × (((x : ℕ) (d : Data) → at x q.ordered ≡ Some d → o < x → ssn_lte d.ssn (n % 65536) ≡ false)
    → bounded_at q (n % 65536) o ≡ n % 65536)

-- An empty reassembly stands for an empty queue.
abbrev pub EmptyOnesStand : Type 0
EmptyOnesStand = (initial : ℕ) (p : Plan) (s : ℕ) → StandsFor initial p s empty_reassembly empty_queue

-- The model's invariant with its limits gives the window of each stream within its span.
abbrev pub TheInvariantGivesTheWindow : Type 0
TheInvariantGivesTheWindow = (w : Direction) → IsWithin w → Invariant w → (s : ℕ) → w.over s ≡ false
    → (cursor : ℕ) × IsInWindow w.sender.plan w.receiver.taken s (read_ssn w.sender.plan 0 (w.reads s)) cursor
    (live (w.receiver.queues s))

-- What is ready is the same on both sides, in the same order.
abbrev pub TheSameIsReady : Type 0
TheSameIsReady = (initial : ℕ) (p : Plan) (over : ℕ → Bool) (came : List ℕ) (s low cursor : ℕ)
    (r : Reassembly) (q : Queue)
    → IsPlanned p over → over s ≡ false → length p.places < 2 ^ 31 → IsInWindow p came s low cursor q
    → StandsFor initial p s r q
    → map letter_received (view_ready r) ≡ map letter_read (ready q)

-- A piece of an unordered message that came, of as many pieces as it may have and in any order, is put to those of its
-- message that wait on both sides, and where with it the message is whole, that is the last complete one on both sides.
-- It is refused for the bytes of its message alone.
abbrev pub UnorderedPiecesStand : Type 0
UnorderedPiecesStand = (initial : ℕ) (p : Plan) (over : ℕ → Bool) (s o limit : ℕ) (r : Reassembly) (q : Queue)
    (c : ChunkPayloadData)
    → IsPlanned p over → length p.places < 2 ^ 31 → StandsFor initial p s r q
    → CarriesData initial c (data_at p o) → IsLoose p s o → at o q.unordered ≡ None
    → StandsFor initial p s (pushed r c).0 (push q (data_at p o)) × IsForBytesAlone (refusal r c limit)

-- A drop of the pieces of unordered messages up to an offset drops the same pieces on both sides.
abbrev pub UnorderedDropsStand : Type 0
UnorderedDropsStand = (initial : ℕ) (p : Plan) (over : ℕ → Bool) (s o : ℕ) (r : Reassembly) (q : Queue)
    → IsPlanned p over → length p.places < 2 ^ 31 → o < 2 ^ 31 → StandsFor initial p s r q
    → StandsFor initial p s (unordered_skipped r (tsn initial o)) (drop_unordered (suc o) q)

-- The same in events of the model's machine, of any direction within its limits: DATA of an ordered message that comes
-- and is new,
abbrev pub DataThatComesStands : Type 0
DataThatComesStands = (initial : ℕ) (w : Direction) (k limit : ℕ) (r : Reassembly) (c : ChunkPayloadData) (d : Data)
    → IsWithin w → Invariant w → w.over d.stream ≡ false → slice_get w.datas k ≡ Some d → w.receiver.is_open ≡ true
    → is_new w.receiver d.offset ≡ true
    → d.ordered ≡ true → CarriesData initial c d
    → StandsFor initial w.sender.plan d.stream r (live (w.receiver.queues d.stream))
    → StandsFor initial w.sender.plan d.stream (pushed r c).0
    (live ((happens w (Event.DataComes k)).receiver.queues d.stream)) × IsForBytesAlone (refusal r c limit)

-- DATA of an unordered message that comes and is new,
abbrev pub UnorderedDataThatComesStands : Type 0
UnorderedDataThatComesStands = (initial : ℕ) (w : Direction) (k limit : ℕ) (r : Reassembly)
    (c : ChunkPayloadData) (d : Data)
    → IsWithin w → Invariant w → w.over d.stream ≡ false → slice_get w.datas k ≡ Some d → w.receiver.is_open ≡ true
    → is_new w.receiver d.offset ≡ true
    → d.ordered ≡ false → CarriesData initial c d
    → StandsFor initial w.sender.plan d.stream r (live (w.receiver.queues d.stream))
    → StandsFor initial w.sender.plan d.stream (pushed r c).0
    (live ((happens w (Event.DataComes k)).receiver.queues d.stream)) × IsForBytesAlone (refusal r c limit)

-- and a read of a stream that is there.
abbrev pub AReadThatHappensStands : Type 0
AReadThatHappensStands = (initial : ℕ) (w : Direction) (s : ℕ) (r : Reassembly) (q : Queue)
    → IsWithin w → Invariant w → w.over s ≡ false → w.receiver.is_open ≡ true → w.receiver.queues s ≡ Some q
    → StandsFor initial w.sender.plan s r q
    → StandsFor initial w.sender.plan s (taken r).0 (live ((happens w (Event.Read s)).receiver.queues s))
    × IsReadAs (taken r).1 (w.reads s) ((happens w (Event.Read s)).reads s)

-- A FORWARD TSN that comes and is ahead is a skip, and a drop of the pieces of unordered messages up to the offset o,
-- the last one below its reach: the TSN of that is the one that the FORWARD TSN says.
abbrev pub AForwardThatComesStands : Type 0
AForwardThatComesStands = (initial : ℕ) (w : Direction) (k s o : ℕ) (r : Reassembly) (q : Queue) (f : Forward)
    → IsWithin w → Invariant w → w.over s ≡ false → slice_get w.forwards k ≡ Some f → w.receiver.is_open ≡ true
    → nat_lt (reach w.receiver) f.reach ≡ true
    → f.reach ≡ suc o → w.receiver.queues s ≡ Some q → StandsFor initial w.sender.plan s r q
    → StandsFor initial w.sender.plan s (unordered_skipped (skipped_if r (skips f s)) (tsn initial o))
    (live ((happens w (Event.ForwardComes k)).receiver.queues s))
