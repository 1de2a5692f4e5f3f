-- How far what came of the peer's DATA reaches, and what of it is held past that.
use Rattle.std.proofs.Common.{◌≡◌, ◌⊎◌, refl, ℕ, ◌<◌, ◌≤◌, true, false}
use Rattle.std.proofs.Common.{List, None}
use Rattle.sctp_streams.specs.Streams.{StreamMap}
use Rattle.sctp_model.specs.Packets.{mem}
use Rattle.sctp_model.specs.Machine.{Receiver}
use Rattle.sctp_model.proofs.OffsetSets.{reach_below, reach_from, reach_stops}
use Rattle.sctp_fit.specs.HeldSet.{HoldsPast, IsPast, peer_last_tsn_of}
use Rattle.sctp_model.proofs.Lists.{all_weaker}
use Rattle.sctp_fit.specs.Incoming.{Receiving}
use Rattle.sctp_directions.specs.Acts.{History, reach_in}
use Rattle.sctp_assoc.specs.Leads.{IsSamePast}

-- a receiver that has what came on this history
abbrev receiver_on : History → Receiver
receiver_on h = record { taken = h.taken; passed = h.passed; queues = λ s. None; is_open = true }

-- what came on this history, beside these streams
abbrev pub came_on : History → StreamMap → Receiving
came_on h m = record { streams = m; peer = h.peer; taken = h.taken; passed = h.passed }

-- all below the reach came or was passed over
pub below_reach : (h : History) (o : ℕ) → o < reach_in h → (mem o h.taken ≡ true) ⊎ (o < h.passed)
below_reach h o l = reach_below (receiver_on h) o l

-- the reach itself did not come
pub reach_missing : (h : History) → mem (reach_in h) h.taken ≡ false
reach_missing h = reach_stops (receiver_on h)

-- what was passed over lies below the reach
pub passed_reach : (h : History) → h.passed ≤ reach_in h
passed_reach h = reach_from (receiver_on h)

-- Nothing more came.

pub same_last_tsn : (h k : History) (m n : StreamMap) → IsSamePast h k
    → peer_last_tsn_of (came_on h m) ≡ peer_last_tsn_of (came_on k n)
same_last_tsn h k m n same = rw (same.peer, same.taken, same.passed) refl

-- what is held is what came past the reach, whatever the streams are
same_past : (h k : History) (m n : StreamMap) → IsSamePast h k → (t : ℕ) → IsPast (came_on h m) t
    → IsPast (came_on k n) t
same_past h k m n same t p = record {
  offset = p.offset;
  came = rw same.taken p.came;
  past = rw (same.taken, same.passed) p.past;
  near = rw (same.taken, same.passed) p.near;
  is = rw same.peer p.is;
}

pub same_held : (h k : History) (m n : StreamMap) {held : List ℕ} → IsSamePast h k → HoldsPast (came_on h m) held
    → HoldsPast (came_on k n) held
same_held h k m n {held} same holds = record {
  all = rw (same.peer, same.taken, same.passed) holds.all;
  only = all_weaker (IsPast (came_on h m)) (IsPast (came_on k n)) held (same_past h k m n same) holds.only;
  below = rw (same.taken, same.passed) holds.below;
  once = holds.once;
}
