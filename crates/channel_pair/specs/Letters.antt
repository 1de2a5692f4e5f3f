-- Messages of a stream as a reader sees them, and those of them that are a channel's data.
use Rattle.std.specs.Prelude.{◌≡◌, ℕ, ◌==◌, if◌then◌else◌, List, [], ◌∷◌, map}
use Rattle.std.specs.List.{AllByRecursion}
use Rattle.sctp_model.specs.Machine.{Direction}
use Rattle.sctp_model.specs.Safe.{Letter, letter_read, letter_written}
use Rattle.sctp_steps.specs.declared.step.Side2.{Side2}
use Rattle.sctp_steps.specs.declared.step.Side2.TheVariants as sides
use Rattle.sctp_pair.specs.World.{World}

-- a message of this payload type with these bytes
abbrev pub letter : ℕ → List ℕ → Letter
letter payload_type bytes = record { payload_type = payload_type; bytes = bytes }

-- the direction of what a side writes
abbrev pub from_side : Side2 → World → Direction
from_side sides.A w = w.ab
from_side sides.B w = w.ba

-- the direction of what comes to a side
abbrev pub to_side : Side2 → World → Direction
to_side sides.A w = w.ba
to_side sides.B w = w.ab

-- what was accepted of a side on a stream, and what it read there

abbrev pub letters_out : Side2 → ℕ → World → List Letter
letters_out x id w = map letter_written ((from_side x w).sender.plan.accepted id)

abbrev pub letters_in : Side2 → ℕ → World → List Letter
letters_in x id w = map letter_read ((to_side x w).reads id)

-- the bytes of those of payload type 53 (RFC 8831 section 8)
abbrev pub data_of : List Letter → List (List ℕ)
data_of [] = []
data_of (l ∷ ls) = if l.payload_type == 53 then l.bytes ∷ data_of ls else data_of ls

-- messages of that payload type
abbrev pub data_letters : List (List ℕ) → List Letter
data_letters sent = map (λ (bytes : List ℕ). letter 53 bytes) sent

-- messages of DCEP have payload type 50 (RFC 8832 section 8.1)
abbrev pub AreControls : List Letter → Type 0
AreControls ls = AllByRecursion (λ (l : Letter). l.payload_type ≡ 50) ls
