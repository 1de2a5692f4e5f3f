-- What a side takes in.
use Rattle.std.specs.Prelude.{◌≡◌, ◌⊎◌, ℕ, true, Option, slice_get}
use Rattle.sctp_wire.specs.declared.packet.Packet.{Packet}
use Rattle.sctp_model.specs.Packets.{mem}
use Rattle.sctp_serial.specs.Serial.{tsn}
use Rattle.sctp_model.specs.Machine.{Direction}
use Rattle.sctp_fit.specs.Incoming.{tsn_before}
use Rattle.sctp_steps.specs.declared.step.Side2.{Side2}
use Rattle.sctp_steps.specs.Ends.{Ends, packets_of}
use Rattle.sctp_steps.specs.Seen.{other_side}
use Rattle.sctp_pair.specs.World.{HasData, HasForward, World, packet_of_bytes}
use Rattle.pair_callers.specs.BetweenWorlds.{initial_of, to_side}

-- the packet of this number that comes to a side, as what it spells
abbrev pub packet_for : Side2 → ℕ → Ends → Option Packet
packet_for side number p = packet_of_bytes (slice_get (packets_of (other_side side) p) number)

abbrev pub HasNoData : Option Packet → Type 0
HasNoData packet = (t : ℕ) → HasData packet t → ⊥

-- nothing is taken in
abbrev pub TakesNothing : Direction → Direction → Type 0
TakesNothing before after = (o : ℕ) → mem o after.receiver.taken ≡ true → mem o before.receiver.taken ≡ true

-- What a side takes in of what comes to it is DATA of this packet.
abbrev pub TakesOf : Option Packet → Side2 → World → World → Type 0
TakesOf packet side w v = (o : ℕ) → mem o (to_side side v).receiver.taken ≡ true
    → (mem o (to_side side w).receiver.taken ≡ true) ⊎ HasData packet (tsn (initial_of (other_side side) w) o)

-- What a side passes over of what comes to it moves only by a FORWARD TSN of this packet (RFC 3758 section 3.6).
abbrev pub PassesBy : Option Packet → Side2 → World → World → Type 0
PassesBy packet side w v = ((to_side side v).receiver.passed ≡ (to_side side w).receiver.passed)
    ⊎ HasForward packet (tsn_before (tsn (initial_of (other_side side) w) (to_side side v).receiver.passed))
