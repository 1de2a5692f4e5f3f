-- A run goes on by one step, or by another run.
use Rattle.std.proofs.Common.{◌≡◌, refl, subst, ℕ, ◌<◌, ◌+◌, List, [], ◌∷◌, ◌++◌, length, take, get_or}
use Rattle.std.proofs.lemmas.List.{take_more}
use Rattle.sctp_steps.specs.Ends.{Ends}
use Rattle.sctp_steps.specs.Steps.{Runs, Steps}
use Rattle.sctp_assoc.specs.declared.call.Reply.{Reply}
use Rattle.sctp_steps.specs.declared.step.Step.{Step}

pub run_more : (ss : List Step) (rs : List Reply) (p u q : Ends) (s : Step) (r : Reply)
    → Runs ss rs p u → Steps s u r q → Runs (ss ++ s ∷ []) (rs ++ r ∷ []) p q
run_more [] [] p u q s r e h = (q, rw (← e) h, refl)
run_more (x ∷ xs) (y ∷ ys) p u q s r (v, first, more) h = (v, first, run_more xs ys v u q s r more h)
run_more [] (y ∷ ys) p u q s r h i = absurd h
run_more (x ∷ xs) [] p u q s r h i = absurd h

-- Two runs, the second from where the first one led, are one.
pub runs_join : (ss : List Step) (rs : List Reply) (p u q : Ends) (more : List Step) (answers : List Reply)
    → Runs ss rs p u → Runs more answers u q → Runs (ss ++ more) (rs ++ answers) p q
runs_join [] [] p u q more answers e h = subst (λ (z : Ends). Runs more answers z q) e h
runs_join (x ∷ xs) (y ∷ ys) p u q more answers (v, first, rest) h =
    (v, first, runs_join xs ys v u q more answers rest h)
runs_join [] (y ∷ ys) p u q more answers h i = absurd h
runs_join (x ∷ xs) [] p u q more answers h i = absurd h

-- a run goes on by the step at index i of a list
module _ (ss : List Step) (i : ℕ) (s : Step) (rs more : List Reply) (p u q : Ends) (r : Reply) where
  pub run_next : i < length ss → s ≡ get_or ss i s → more ≡ rs ++ r ∷ [] → Runs (take i ss) rs p u → Steps s u r q
      → Runs (take (i + 1) ss) more p q
  run_next within is grown h step =
      rw (grown, take_more ss i s within, ← is) (run_more (take i ss) rs p u q s r h step)
