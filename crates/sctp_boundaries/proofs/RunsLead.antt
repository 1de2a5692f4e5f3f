-- Steps of a pair, one after another, keep the boundaries of a stream.
use Rattle.std.proofs.Common.{sym, subst, [], ◌∷◌}
use Rattle.sctp_steps.specs.Ends.{Ends}
use Rattle.sctp_boundaries.specs.Between.{StandBetween}
use Rattle.sctp_boundaries.specs.Laws.{RunsKeepBoundaries, StepsKeepBoundaries}

module _ (step_leads : StepsKeepBoundaries) where
  pub steps_lead_on : RunsKeepBoundaries
  steps_lead_on [] [] p q run own_a own_b id w named s =
      (run, subst (λ (z : Ends). StandBetween own_a own_b id z w) (sym run) s)
  steps_lead_on (x ∷ xs) (r ∷ rs) p q (u, step, more) own_a own_b id w (named, all_named) s =
      let l = step_leads x p r u step own_a own_b id w named s in
      (u, step, l, λ few. steps_lead_on xs rs u q more own_a own_b id l.after all_named (l.stand few))
  steps_lead_on [] (r ∷ rs) p q run own_a own_b id w named s = absurd run
  steps_lead_on (x ∷ xs) [] p q run own_a own_b id w named s = absurd run
