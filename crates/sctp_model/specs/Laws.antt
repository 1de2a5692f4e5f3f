-- The laws that stand on the contracts of this crate's functions.
use Rattle.std.specs.Prelude.{ℕ, suc, ◌+◌, ◌-◌, ◌*◌, ◌%◌, ◌^◌, ◌<◌, ◌≤◌, ◌≡◌, ◌↔◌, ◌⊎◌, max, true, false, List, ◌++◌}
use Rattle.std.specs.Prelude.{take, Some, None, nat_lt}
use Rattle.sctp_model.specs.Messages.{piece_of, accepted_bytes}
use Rattle.sctp_model.specs.Packets.{mem, names}
use Rattle.sctp_serial.specs.Serial.{tsn, tsn_lt}
use Rattle.sctp_model.specs.Offsets.{offset_near, offset_spelt, offset_ahead}
use Rattle.sctp_model.specs.Machine.{Direction, Event, Receiver, fresh, happens, run, live, reach, sack_of}
use Rattle.sctp_model.specs.Safe.{IsSafe, IsWithin, StaysWithin, read_ssn}
use Rattle.sctp_model.specs.Invariants.{Invariant}

-- A TSN made from an offset less than 2^31 away is read as that offset, and of two such the earlier one is the one
-- before.
abbrev pub TsnsSpellOffsets : Type 0
TsnsSpellOffsets = (initial reach offset : ℕ) → offset < reach + 2 ^ 31 → reach < offset + 2 ^ 31
    → (offset_near initial reach (tsn initial offset) ≡ offset)
    × (tsn_lt (tsn initial reach) (tsn initial offset) ≡ nat_lt reach offset)

abbrev pub TsnsAheadSpellOffsets : Type 0
TsnsAheadSpellOffsets = (initial reach offset : ℕ) → reach ≤ offset → offset < reach + 2 ^ 31
    → offset_ahead initial reach (tsn initial offset) ≡ Some offset

-- A TSN shortly before the initial one spells no offset, and any other is read as before.
abbrev pub TsnsBeforeTheInitialSpellNone : Type 0
TsnsBeforeTheInitialSpellNone =
    (initial reach n : ℕ) → 0 < n → reach + n < 2 ^ 31
    → offset_spelt initial reach ((initial + 2 ^ 32 - n) % 2 ^ 32) ≡ None

abbrev pub TsnsPastTheInitialSpellSome : Type 0
TsnsPastTheInitialSpellSome = (initial reach offset : ℕ) → offset < reach + 2 ^ 31 → reach < offset + 2 ^ 31
    → offset_spelt initial reach (tsn initial offset) ≡ Some offset

-- Pieces, one after another, are the bytes.
abbrev pub PiecesJoin : Type 0
PiecesJoin = (size k : ℕ) (bytes : List ℕ) → take (size * k) bytes ++ piece_of size bytes k ≡ take (size * suc k) bytes

-- The cumulative reach is the greatest p such that each offset below p was taken in or passed over.
abbrev pub ReachIsGreatest : Type 0
ReachIsGreatest =
    (r : Receiver)
    → ((o : ℕ) → o < reach r → (mem o r.taken ≡ true) ⊎ (o < r.passed)) × (r.passed ≤ reach r)
    × (mem (reach r) r.taken ≡ false)

-- A SACK names all that lies below the reach or was taken in, and nothing else.
abbrev pub SacksAreExact : Type 0
SacksAreExact = (r : Receiver) (o : ℕ) → (names (sack_of r) o ≡ true) ↔ ((o < reach r) ⊎ (mem o r.taken ≡ true))

-- Whatever happens, each stream within its span is safe, as long as the limits held after each event so far.
abbrev pub OneDirectionIsSafe : Type 0
OneDirectionIsSafe = (size : ℕ) → 0 < size → (events : List Event) → StaysWithin (fresh size) events
    → (s : ℕ) → (run events (fresh size)).over s ≡ false → IsSafe (run events (fresh size)) s

-- What is proved of every direction on the way, and later layers build on.
abbrev pub TheInvariantHolds : Type 0
TheInvariantHolds =
    (size : ℕ) → 0 < size → (events : List Event) → StaysWithin (fresh size) events
    → Invariant (run events (fresh size))

-- From any direction on, not only from the start: each event keeps the invariant where the limits hold,
abbrev pub EachEventKeepsTheInvariant : Type 0
EachEventKeepsTheInvariant = (w : Direction) (e : Event) → IsWithin w → Invariant w → Invariant (happens w e)

-- and the invariant with the limits is enough for the promise of each stream within its span.
abbrev pub TheInvariantIsEnough : Type 0
TheInvariantIsEnough = (w : Direction) → IsWithin w → Invariant w → (s : ℕ) → w.over s ≡ false → IsSafe w s

-- Of what the invariant says of a stream within its span: the ordered cursor is one past the later of the sequence
-- numbers of the last ordered message read and of the last one skipped, 0 where there is neither, modulo 2^16.
abbrev pub TheCursorIsPastTheLater : Type 0
TheCursorIsPastTheLater = (w : Direction) → Invariant w → (s : ℕ) → w.over s ≡ false
    → (live (w.receiver.queues s)).cursor ≡ max (read_ssn w.sender.plan 0 (w.reads s)) (w.skipped s) % 65536

-- Of what it says of the bytes released: they are never more than were accepted on their stream.
abbrev pub NoMoreIsReleased : Type 0
NoMoreIsReleased = (w : Direction) → Invariant w → (s : ℕ) → w.sender.released s ≤ accepted_bytes w.sender.plan s
