-- What a run of a pair leads to.
use Rattle.std.specs.Prelude.{◌≡◌, ℕ, Bool, false, List, [], ◌∷◌, ⊤}
use Rattle.sctp_model.specs.Machine.{Direction}
use Rattle.sctp_assoc.specs.declared.call.Reply.{Reply}
use Rattle.sctp_assoc.specs.declared.call.Reply.TheVariants as replies
use Rattle.sctp_steps.specs.declared.step.Side2.{Side2}
use Rattle.sctp_steps.specs.declared.step.Step.{Step}
use Rattle.sctp_steps.specs.Ends.{Ends}
use Rattle.sctp_pair.specs.World.{IsWithinLimits, World}
use Rattle.sctp_pair.specs.Fits.{Fits}
use Rattle.sctp_pair.specs.Counted.{AreFew, FitsCounted, Tally, tallied_in}
use Rattle.pair_callers.specs.BetweenWorlds.{to_side}
use Rattle.pair_callers.specs.Reading.{AreNumbered}

-- the answer that a reply tells, if it is that of a question about the state
abbrev pub answer_in : Reply → Bool
answer_in (replies.State answer) = answer
answer_in reply = false

-- what either side read on its streams are messages that the other one accepted, by their numbers
abbrev pub TellsAccepted : World → Type 0
TellsAccepted w = (side : Side2) (s : ℕ) → (to_side side w).over s ≡ false → AreNumbered (to_side side w) s

-- The steps with these replies lead from world to world. As long as each so far is within the limits, what was read in
-- it are accepted messages, and the pair fits the last one.
abbrev pub RunsTelling : List Step → List Reply → World → Ends → Type 0
RunsTelling [] [] w q = Fits q w
RunsTelling (s ∷ ss) (r ∷ rs) w q = (v : World) × (IsWithinLimits v → TellsAccepted v × RunsTelling ss rs v q)
RunsTelling [] (r ∷ rs) w q = ⊥
RunsTelling (s ∷ ss) [] w q = ⊥

-- The steps with these replies lead from world to world. As long as few pieces stay unacknowledged, counted from how
-- the pair was when the run began, and few messages unread, what was read in each are accepted messages.
abbrev pub RunsCounting : List Step → List Reply → World → Tally → Ends → Type 0
RunsCounting [] [] w t begin = ⊤
RunsCounting (s ∷ ss) (r ∷ rs) w t begin =
    (v : World) × (AreFew (tallied_in w s r t) w.initial_a w.initial_b begin
    → TellsAccepted v × RunsCounting ss rs v (tallied_in w s r t) begin)
RunsCounting [] (r ∷ rs) w t begin = ⊥
RunsCounting (s ∷ ss) [] w t begin = ⊥

-- One step leads to a next world. Where few pieces are unacknowledged and few messages unread, what was read in it are
-- accepted messages, and the pair fits it with its tally carried on.
abbrev pub StepsTelling : Step → Reply → Ends → Ends → Type 0
StepsTelling step reply p q = (t : Tally) (w : World) → FitsCounted t p w
    → AreFew (tallied_in w step reply t) w.initial_a w.initial_b w.ends
    → (v : World) × TellsAccepted v × FitsCounted (tallied_in w step reply t) q v

-- nothing was accepted and nothing read
pub record HasNothing (w : Direction) : Type 0 where
  pub accepted : (s : ℕ) → w.sender.plan.accepted s ≡ []
  pub read : (s : ℕ) → w.reads s ≡ []
  pub span : (s : ℕ) → w.over s ≡ false

-- the pair fits a world in which nothing happened
abbrev pub BeginsWithNothing : Ends → Type 0
BeginsWithNothing p = (w : World) × Fits p w × HasNothing w.ab × HasNothing w.ba
