-- Runs and steps that a caller counts, and new pairs.
use Rattle.std.proofs.Common.{refl, ℕ, List, [], ◌∷◌, ◌++◌}
use Rattle.std.specs.Prelude.{IfOk, Result, Ok, Err}
use Rattle.sctp_model.specs.Machine.{fresh}
use Rattle.sctp_assoc.specs.declared.call.Reply.{Reply}
use Rattle.sctp_steps.specs.declared.step.Step.{Step}
use Rattle.sctp_steps.specs.Ends.{Ends}
use Rattle.sctp_pair.specs.World.{IsSafeWorld, World, empty_world}
use Rattle.sctp_pair.specs.Fits.{Fits, RunsSafely}
use Rattle.sctp_pair.specs.Callers.{AcceptFew, CameBy, ComesOn, HoldsOn, Made, NothingIsReadBeforeADelivery}
use Rattle.sctp_pair.specs.Callers.{ReadsAreFronts, ReadsWereWritten}
use Rattle.sctp_pair.specs.Counted.{FitsCounted, LeadsCounted, RunsCounted, Tally}
use Rattle.sctp_steps.specs.Steps.{Runs, Steps}
use Rattle.sctp_pair.proofs.FewInAll.{few_in_front, few_stay_few}
use Rattle.pair_callers.specs.BetweenWorlds.{to_side}
use Rattle.pair_callers.specs.Running.{BeginsWithNothing, HasNothing, RunsCounting, RunsTelling, StepsTelling}
use Rattle.pair_callers.specs.Running.{TellsAccepted}
use Rattle.pair_callers.specs.Telling.{HoldFromNew}
use Rattle.pair_callers.proofs.QuestionSteps.{as_many_replies}
use Rattle.pair_callers.proofs.StepsByDirection.{promised_to}
use Rattle.pair_callers.proofs.ReadMessages.{are_numbered}

tells_accepted : (w : World) → IsSafeWorld w → TellsAccepted w
tells_accepted w safe side s span = are_numbered (to_side side w) s ((promised_to side w safe).safe s span)

pub runs_tell : (ss : List Step) (rs : List Reply) (w : World) (q : Ends) → RunsSafely ss rs w q → RunsTelling ss rs w q
runs_tell [] [] w q h = h
runs_tell (s ∷ ss) (r ∷ rs) w q h =
    (h.0, λ within. let x = h.3 within in (tells_accepted h.0 x.0, runs_tell ss rs h.0 q x.1))
runs_tell [] (r ∷ rs) w q h = absurd h
runs_tell (s ∷ ss) [] w q h = absurd h

pub runs_count : (ss : List Step) (rs : List Reply) (w : World) (t : Tally) (begin q : Ends)
    → RunsCounted ss rs w t begin q → RunsCounting ss rs w t begin
runs_count [] [] w t begin q h = tt
runs_count (s ∷ ss) (r ∷ rs) w t begin q h =
    (h.0, λ few. let x = h.2 few in (tells_accepted h.0 x.0, runs_count ss rs h.0 _ begin q x.2))
runs_count [] (r ∷ rs) w t begin q h = absurd h
runs_count (s ∷ ss) [] w t begin q h = absurd h

module _ (step : Step) (r : Reply) (p q : Ends)
    (leads : (t : Tally) (w : World) → FitsCounted t p w → LeadsCounted step r w t q) where
  pub steps_tell : StepsTelling step r p q
  steps_tell t w fits few =
      let x = leads t w fits in
      let y = x.2 few in
      (x.0, tells_accepted x.0 y.0, y.1)

-- These steps led a new pair to q.
module _ {m : Made} {p : Ends} (new : CameBy m [] [] p) (ss : List Step) (rs : List Reply) (q : Ends)
    (led : Runs ss rs p q) where
  -- What holds of all steps of a new pair holds where each side accepts few pieces in all.
  pub law_of_all : (Law : List Step → List Reply → Type 0) → HoldsOn Law ss rs p → AcceptFew m.size_a m.size_b ss rs
      → Law ss rs
  law_of_all Law holds few = holds m [] [] new (few_stay_few ss rs p q led m [] [] new few)

  -- the same where one step more follows the run
  pub law_of_one_more : (Law : List Step → List Reply → Type 0) (s : Step) (r : Reply) (last : Ends)
      → Steps s q r last → ComesOn ss rs p q → HoldsOn Law (s ∷ []) (r ∷ []) q
      → AcceptFew m.size_a m.size_b (ss ++ s ∷ []) (rs ++ r ∷ []) → Law (ss ++ s ∷ []) (rs ++ r ∷ [])
  law_of_one_more Law s r last one on holds few =
      let first = few_in_front m.size_a m.size_b ss rs p q led (s ∷ []) (r ∷ []) few in
      let came = on m [] [] new (few_stay_few ss rs p q led m [] [] new first) in
      holds m ss rs came (few_stay_few (s ∷ []) (r ∷ []) q last (last, one, refl) m ss rs came few)

-- what a pair was made with whose sides have the same payload size
abbrev pub made_alike : ℕ → ℕ → ℕ → Made
made_alike size initial_a initial_b = record {
  size_a = size;
  size_b = size;
  initial_a = initial_a;
  initial_b = initial_b;
}

-- These steps led a new pair to q whose sides have the same payload size.
module _ {size initial_a initial_b : ℕ} {p : Ends} (new : CameBy (made_alike size initial_a initial_b) [] [] p)
    (ss : List Step) (rs : List Reply) (q : Ends) (led : Runs ss rs p q) where
  -- What holds of all steps of a new pair, by the clauses of its run.
  pub hold_from_new : HoldsOn ReadsAreFronts ss rs p → HoldsOn ReadsWereWritten ss rs p
      → HoldsOn NothingIsReadBeforeADelivery ss rs p → HoldFromNew size ss rs
  hold_from_new front written undelivered = record {
    each = as_many_replies ss rs p q led;
    hold = λ few. record {
      front = law_of_all new ss rs q led ReadsAreFronts front few;
      written = law_of_all new ss rs q led ReadsWereWritten written few;
      undelivered = law_of_all new ss rs q led NothingIsReadBeforeADelivery undelivered few;
    };
  }

-- what holds of a value that was answered by four things that do
pub if_ok_all : {A E : Type 0} {P Q R S T : A → Type 0} (r : Result A E) → IfOk r P → IfOk r Q → IfOk r R → IfOk r S
    → ((a : A) → P a → Q a → R a → S a → T a) → IfOk r T
if_ok_all (Ok a) first second third fourth f = f a first second third fourth
if_ok_all (Err e) first second third fourth f = first

has_nothing : (size : ℕ) → HasNothing (fresh size)
has_nothing size = record { accepted = λ s. refl; read = λ s. refl; span = λ s. refl }

pub begins_with_nothing : (p : Ends) (initial_a initial_b size_a size_b : ℕ)
    → Fits p (empty_world p initial_a initial_b size_a size_b) → BeginsWithNothing p
begins_with_nothing p initial_a initial_b size_a size_b fits =
    (empty_world p initial_a initial_b size_a size_b, fits, has_nothing size_a, has_nothing size_b)
