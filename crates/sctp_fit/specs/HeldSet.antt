-- The laws of the TSNs that are held past the receiver's last TSN in order. They are those of the offsets past the
-- reach that came. A new one moves the last TSN in order with the reach (RFC 4960 sections 3.3.4 and 6.2), and so does
-- a FORWARD TSN (RFC 3758 section 3.6).
use Rattle.std.specs.Prelude.{◌≡◌, ℕ, suc, ◌+◌, ◌-◌, ◌^◌, ◌<◌, ◌≤◌, ◌&&◌, not, true, List, [], ◌∷◌, length}
use Rattle.std.specs.Prelude.{nat_lt}
use Rattle.std.specs.List.{AllByRecursion, filter}
use Rattle.std.specs.List.Sorted.{IsStrictlySortedBy}
use Rattle.std.specs.Ordering.{nat_cmp}
use Rattle.sctp_wire_types.specs.declared.chunk.GapAckBlock.{GapAckBlock}
use Rattle.sctp_received.specs.Received.{advanced, is_held, is_held_at, is_named, is_new, with_tsn}
use Rattle.sctp_model.specs.Packets.{mem}
use Rattle.sctp_serial.specs.Serial.{tsn, tsn_lte}
use Rattle.sctp_fit.specs.Incoming.{Receiving, offset_of, reach_of, tsn_before}

-- the receiver's last TSN in order: the TSN before that of its reach
abbrev pub peer_last_tsn_of : Receiving → ℕ
peer_last_tsn_of a = tsn_before (tsn a.peer (reach_of a))

-- t is the TSN of an offset past the reach that came, and less than 65,536 past the last TSN in order
pub record IsPast (a : Receiving) (t : ℕ) : Type 0 where
  pub offset : ℕ
  pub came : mem offset a.taken ≡ true
  pub past : reach_of a < offset
  pub near : offset < reach_of a + 65535
  pub is : t ≡ tsn a.peer offset

-- The TSNs held are those of the offsets past the reach that came, each once and less than 65,536 past the last TSN in
-- order.
pub record HoldsPast (a : Receiving) (held : List ℕ) : Type 0 where
  pub all : (o : ℕ) → mem o a.taken ≡ true → reach_of a ≤ o → is_held (tsn a.peer o) held ≡ true
  pub only : AllByRecursion (IsPast a) held
  pub below : (o : ℕ) → mem o a.taken ≡ true → o < reach_of a + 65535
  pub once : IsStrictlySortedBy nat_cmp held

-- A TSN is new to the set where it is 1 to 65,535 past the last TSN in order and its offset did not come.
abbrev pub NewTsnsDidNotCome : Type 0
NewTsnsDidNotCome = (a : Receiving) (held : List ℕ) (t : ℕ) → t < 2 ^ 32 → HoldsPast a held
    → is_new held t (peer_last_tsn_of a)
    ≡ (nat_lt (offset_of a t) (reach_of a + 65535) && not (mem (offset_of a t) a.taken))

-- the offset o was taken in
abbrev pub with_offset : Receiving → ℕ → Receiving
with_offset a o = record a { taken = o ∷ a.taken }

-- A new TSN is held, and then the last TSN in order moves over all that follows it, to the new reach; what is held
-- after that is what lies past that.
abbrev pub TheSetFollows : Type 0
TheSetFollows = (a : Receiving) (held : List ℕ) (t n : ℕ) → t < 2 ^ 32 → HoldsPast a held
    → is_new held t (peer_last_tsn_of a) ≡ true → length (with_tsn held t (peer_last_tsn_of a)).0 ≤ n
    → ((advanced n (peer_last_tsn_of a) (with_tsn held t (peer_last_tsn_of a)).0).0
    ≡ peer_last_tsn_of (with_offset a (offset_of a t)))
    × HoldsPast (with_offset a (offset_of a t))
    (advanced n (peer_last_tsn_of a) (with_tsn held t (peer_last_tsn_of a)).0).1

-- A TSN is not behind the last one in order where it is 1 to half the range past it.
abbrev pub TsnsAheadAreNotBehind : Type 0
TsnsAheadAreNotBehind = (a : Receiving) (t : ℕ) → t < 2 ^ 32
    → not (tsn_lte t (peer_last_tsn_of a)) ≡ nat_lt (offset_of a t) (reach_of a + 2 ^ 31)

-- all up to the offset o was passed over
abbrev pub with_all_to : Receiving → ℕ → Receiving
with_all_to a o = record a { passed = suc o }

-- those of some TSNs that are past this one
abbrev pub past_tsn : ℕ → List ℕ → List ℕ
past_tsn t held = filter (λ s. not (tsn_lte s t)) held

-- A FORWARD TSN names a TSN that is 1 to half the range past the last TSN in order. The last TSN in order moves to that
-- TSN and over all that follows it, to the new reach; what is held after that is what lies past that.
abbrev pub TheSetIsPassedOver : Type 0
TheSetIsPassedOver = (a : Receiving) (held : List ℕ) (t n : ℕ) → t < 2 ^ 32 → HoldsPast a held
    → offset_of a t < reach_of a + 2 ^ 31 → length (past_tsn t held) ≤ n
    → ((advanced n t (past_tsn t held)).0 ≡ peer_last_tsn_of (with_all_to a (offset_of a t)))
    × HoldsPast (with_all_to a (offset_of a t)) (advanced n t (past_tsn t held)).1

-- Gap ack blocks that name exactly what is held name exactly those of the 65,535 offsets from the reach on that came;
-- blocks count from the last TSN in order: the reach itself is their 1.
abbrev pub BlocksNameWhatCame : Type 0
BlocksNameWhatCame = (a : Receiving) (held : List ℕ) (blocks : List GapAckBlock) → HoldsPast a held
    → ((o : ℕ) → 0 < o → o < 2 ^ 16 → is_named o blocks ≡ is_held_at (peer_last_tsn_of a) o held)
    → (o : ℕ) → 0 < o → o < 2 ^ 16 → is_named o blocks ≡ mem (reach_of a + o - 1) a.taken

-- Where nothing came, nothing is held.
abbrev pub NothingIsHeldAtFirst : Type 0
NothingIsHeldAtFirst = (a : Receiving) → a.taken ≡ [] → HoldsPast a []
