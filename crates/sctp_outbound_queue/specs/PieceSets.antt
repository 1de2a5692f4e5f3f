-- Sets of pieces in flight.
use Rattle.std.specs.Prelude.{◌≡◌, ℕ, List, ◌<◌, false}
use Rattle.sctp_candidates.specs.Candidates.{HasRoom, StandFor}
use Rattle.sctp_outbound_queue.specs.declared.message.InFlight.{InFlight}
use Rattle.sctp_outbound_queue.specs.declared.message.Retransmission.TheVariants as causes
use Rattle.sctp_outbound_queue.specs.declared.piece_sets.PieceSets.{PieceSets}
use Rattle.sctp_outbound_queue.specs.Message.{picks, was_acknowledged}

-- the sets have exactly the pieces that are marked to be sent again; that are outstanding and were reported missing
-- often enough to be sent again; and that gap ack blocks named and that are not marked
abbrev pub AreStanding : PieceSets → List InFlight → Type 0
AreStanding s ps =
    StandFor s.marked (picks causes.Timer) ps × StandFor s.missing (picks causes.Fast) ps
    × StandFor s.acked was_acknowledged ps

-- there is memory for one piece more
abbrev pub HaveRoom : PieceSets → Type 0
HaveRoom s = HasRoom s.marked × HasRoom s.missing × HasRoom s.acked

-- a piece with this index is in flight
abbrev pub HavePlace : ℕ → PieceSets → Type 0
HavePlace i s = (i < s.marked.places) × (i < s.missing.places) × (i < s.acked.places)

-- a piece that is in no set
abbrev pub IsPlain : InFlight → Type 0
IsPlain p = (picks causes.Timer p ≡ false) × (picks causes.Fast p ≡ false) × (was_acknowledged p ≡ false)
