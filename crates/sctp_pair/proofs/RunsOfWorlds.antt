-- Runs of a pair are runs of worlds.
use Rattle.std.proofs.Common.{sym, subst, List, [], ◌∷◌}
use Rattle.sctp_assoc.specs.declared.call.Reply.{Reply}
use Rattle.sctp_steps.specs.declared.step.Step.{Step}
use Rattle.sctp_steps.specs.Ends.{Ends}
use Rattle.sctp_steps.specs.Steps.{Runs}
use Rattle.sctp_pair.specs.World.{World}
use Rattle.sctp_pair.specs.Fits.{Fits, RunsSafely, StandsIn}
use Rattle.sctp_pair.proofs.StepsLead.{step_leads}

-- From each world in which a pair stands, its steps lead safely from world to world, as long as each is within the
-- limits.
pub runs_lead : (ss : List Step) (rs : List Reply) (p q : Ends) → Runs ss rs p q → (w : World) → Fits p w
    → RunsSafely ss rs w q
runs_lead [] [] p q e w fits = subst (λ (z : Ends). Fits z w) (sym e) fits
runs_lead (s ∷ ss) (r ∷ rs) p q (u, first, rest) w fits =
    let x = step_leads s p u r first w fits in (
      x.0,
      x.1,
      subst (λ (z : Ends). StandsIn z x.0) x.2.is x.2,
      λ within. (x.3 within, runs_lead ss rs u q rest x.0 (record { within = within; stand = x.2 })),
    )
runs_lead [] (r ∷ rs) p q h w fits = absurd h
runs_lead (s ∷ ss) [] p q h w fits = absurd h
