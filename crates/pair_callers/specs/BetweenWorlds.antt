-- What a caller of a pair knows from one world to the next.
use Rattle.std.specs.Prelude.{◌≡◌, ◌⊎◌, ◌≤◌, ℕ}
use Rattle.sctp_model.specs.Machine.{Direction}
use Rattle.sctp_steps.specs.declared.step.Side2.{Side2}
use Rattle.sctp_steps.specs.declared.step.Side2.TheVariants as sides
use Rattle.sctp_steps.specs.Ends.{Ends, end_of}
use Rattle.sctp_steps.specs.Seen.{IsOpen}
use Rattle.sctp_pair.specs.World.{IsWithinLimits, World}
use Rattle.sctp_pair.specs.Fits.{Fits, StandsIn}

-- the direction of what this side writes
abbrev pub from_side : Side2 → World → Direction
from_side sides.A w = w.ab
from_side sides.B w = w.ba

-- the direction of what comes to this side
abbrev pub to_side : Side2 → World → Direction
to_side sides.A w = w.ba
to_side sides.B w = w.ab

abbrev pub initial_of : Side2 → World → ℕ
initial_of sides.A w = w.initial_a
initial_of sides.B w = w.initial_b

-- From each world that the pair p fits it goes on to one in which it stands as q, and this holds of the two.
abbrev pub GoesOn : Ends → Ends → (World → World → Type 0) → Type 0
GoesOn p q Holds = (w : World) → Fits p w → (v : World) × StandsIn q v × Holds w v

-- The same where the next world is within the limits.
abbrev pub GoesOnWithin : Ends → Ends → (World → World → Type 0) → Type 0
GoesOnWithin p q Holds = GoesOn p q (λ w v. IsWithinLimits v → Holds w v)

-- the acknowledged reach did not fall
abbrev pub IsAcknowledgedOn : Direction → Direction → Type 0
IsAcknowledgedOn before after = before.sender.reach ≤ after.sender.reach

-- Where the side is closed or failed then, no offset was assigned.
abbrev pub AssignsWhileOpen : Side2 → Ends → World → World → Type 0
AssignsWhileOpen side q w v =
    IsOpen (end_of side q) ⊎ ((from_side side v).sender.plan.places ≡ (from_side side w).sender.plan.places)
