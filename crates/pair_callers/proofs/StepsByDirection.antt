-- A step of a pair, as what it does to the direction from a side or to it.
use Rattle.std.proofs.Common.{◌≡◌, refl, sym, true}
use Rattle.sctp_assoc.specs.declared.call.Reply.{Reply}
use Rattle.sctp_steps.specs.declared.step.Side2.{Side2}
use Rattle.sctp_steps.specs.declared.step.Side2.TheVariants as sides
use Rattle.sctp_steps.specs.declared.step.Step.{Step}
use Rattle.sctp_steps.specs.Ends.{Ends, end_of}
use Rattle.sctp_steps.specs.Steps.{AtSide}
use Rattle.sctp_steps.specs.Seen.{is_side, other_side}
use Rattle.sctp_pair.specs.World.{IsDirectionStep, IsPromised, IsSafeWorld, IsWorldStep, World}
use Rattle.sctp_pair.specs.Fits.{Fits, LeadsSafely}
use Rattle.sctp_assoc.specs.Shown.{Shown}
use Rattle.pair_callers.specs.BetweenWorlds.{GoesOn, GoesOnWithin, from_side, initial_of, to_side}

pub is_own : (x : Side2) → is_side x x ≡ true
is_own sides.A = refl
is_own sides.B = refl

pub step_from : (x : Side2) (step : Step) (r : Reply) (w v : World) → IsWorldStep step w r v
    → IsDirectionStep step r x (other_side x) w v.ends (initial_of x w) (from_side x w) (from_side x v)
step_from sides.A step r w v h = h.ab_step
step_from sides.B step r w v h = h.ba_step

pub step_to : (x : Side2) (step : Step) (r : Reply) (w v : World) → IsWorldStep step w r v
    → IsDirectionStep step r (other_side x) x w v.ends (initial_of (other_side x) w) (to_side x w) (to_side x v)
step_to sides.A step r w v h = h.ba_step
step_to sides.B step r w v h = h.ab_step

pub promised_from : (x : Side2) (v : World) → IsSafeWorld v
    → IsPromised (end_of x v.ends) (end_of (other_side x) v.ends) (from_side x v)
promised_from sides.A v h = h.ab_safe
promised_from sides.B v h = h.ba_safe

pub promised_to : (x : Side2) (v : World) → IsSafeWorld v
    → IsPromised (end_of (other_side x) v.ends) (end_of x v.ends) (to_side x v)
promised_to sides.A v h = h.ba_safe
promised_to sides.B v h = h.ab_safe

-- what a call did to one side's association
pub at_its_side : (x : Side2) (p : Ends) (Changes : Shown → Shown → Type 0) (q : Ends) → AtSide x p Changes q
    → Changes (end_of x p) (end_of x q)
at_its_side sides.A p Changes q h = h.0
at_its_side sides.B p Changes q h = h.0

-- The promise of a step that the pair p makes, to become q.
abbrev pub Leads : Step → Reply → Ends → Ends → Type 0
Leads step r p q = (w : World) → Fits p w → LeadsSafely step r w q

-- What holds of each step of worlds holds of the one that the pair makes.
pub goes_on : (step : Step) (r : Reply) (p q : Ends) (Holds : World → World → Type 0)
    → ((w v : World) → w.ends ≡ p → v.ends ≡ q → IsWorldStep step w r v → Holds w v)
    → Leads step r p q → GoesOn p q Holds
goes_on step r p q Holds of_step leads w fits =
    let x = leads w fits in (x.0, x.2, of_step w x.0 (sym fits.stand.is) (sym x.2.is) x.1)

pub goes_on_within : (step : Step) (r : Reply) (p q : Ends) (Holds : World → World → Type 0)
    → ((w v : World) → w.ends ≡ p → v.ends ≡ q → IsWorldStep step w r v → IsSafeWorld v → Holds w v)
    → Leads step r p q → GoesOnWithin p q Holds
goes_on_within step r p q Holds of_step leads w fits =
    let x = leads w fits in (x.0, x.2, λ within. of_step w x.0 (sym fits.stand.is) (sym x.2.is) x.1 (x.3 within))
