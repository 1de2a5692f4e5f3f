-- A run that was counted, and in which few stay unacknowledged and unread, led safely; and behind what led safely it
-- goes on so.
use Rattle.std.proofs.Common.{◌≡◌, refl, sym, ap, ◌∙◌, subst, ℕ, List, [], ◌∷◌, ◌++◌}
use Rattle.sctp_assoc.specs.declared.call.Reply.{Reply}
use Rattle.sctp_steps.specs.declared.step.Step.{Step}
use Rattle.sctp_pair.specs.Callers.{LedSafely, Made, StaysFew, tallied_by, tally_from, world_of}
use Rattle.sctp_pair.specs.Counted.{AreFew, FitsCounted, RunsCounted, Tally, tallied, tallied_in}
use Rattle.sctp_steps.specs.Ends.{Ends}
use Rattle.sctp_pair.specs.World.{IsWorldStep, World}

-- The world is one of a pair that was made so.
pub record IsMade (m : Made) (w : World) : Type 0 where
  pub size_a : w.ab.sender.plan.size ≡ m.size_a
  pub size_b : w.ba.sender.plan.size ≡ m.size_b
  pub initial_a : w.initial_a ≡ m.initial_a
  pub initial_b : w.initial_b ≡ m.initial_b

pub begun_made : (m : Made) (p : Ends) → IsMade m (world_of m p)
begun_made m p = record { size_a = refl; size_b = refl; initial_a = refl; initial_b = refl }

pub stays_made : {m : Made} {step : Step} {r : Reply} {w v : World} → IsWorldStep step w r v → IsMade m w → IsMade m v
stays_made h made = record {
  size_a = h.ab_step.size ∙ made.size_a;
  size_b = h.ba_step.size ∙ made.size_b;
  initial_a = h.same_a ∙ made.initial_a;
  initial_b = h.same_b ∙ made.initial_b;
}

-- what is told of the world is told of what the pair was made with
same_tally : (m : Made) (w : World) → IsMade m w → (step : Step) (r : Reply) (t : Tally)
    → tallied_in w step r t ≡ tallied_by m step r t
same_tally m w made step r t =
    ap (λ (z : ℕ). tallied z w.ba.sender.plan.size step r t) made.size_a
    ∙ ap (λ (z : ℕ). tallied m.size_a z step r t) made.size_b

same_few : (m : Made) (w : World) → IsMade m w → (t : Tally) (begin : Ends)
    → AreFew t m.initial_a m.initial_b begin → AreFew t w.initial_a w.initial_b begin
same_few m w made t begin few =
    subst (λ (z : ℕ). AreFew t z w.initial_b begin) (sym made.initial_a)
    (subst (λ (z : ℕ). AreFew t m.initial_a z begin) (sym made.initial_b) few)

-- Where few stay unacknowledged and unread, a run leads safely.
pub led_from : (m : Made) (begin : Ends) (ss : List Step) (rs : List Reply) (w : World) (t : Tally) (q : Ends)
    → IsMade m w → RunsCounted ss rs w t begin q → StaysFew m t ss rs begin → LedSafely m ss rs w t q
led_from m begin [] [] w t q made h few = h
led_from m begin (a ∷ ss) (r ∷ rs) w t q made (v, step, next) few =
    let same = same_tally m w made a r t in
    let here : AreFew (tallied_in w a r t) w.initial_a w.initial_b begin =
    subst (λ (z : Tally). AreFew z w.initial_a w.initial_b begin) (sym same)
    (same_few m w made (tallied_by m a r t) begin few.0) in
    let x = next here in (
      v,
      step,
      x.0,
      subst (λ (z : Tally). FitsCounted z v.ends v) same x.1,
      led_from m begin ss rs v (tallied_by m a r t) q (stays_made step made)
          (subst (λ (z : Tally). RunsCounted ss rs v z begin q) same x.2) few.1,
    )
led_from m begin [] (r ∷ rs) w t q made h few = absurd h
led_from m begin (a ∷ ss) [] w t q made h few = absurd h

-- What led safely goes on by what leads safely from where it ended.
pub led_join : (m : Made) (ss : List Step) (rs : List Reply) (more : List Step) (answers : List Reply) (p q : Ends)
    (w : World) (t : Tally) → IsMade m w → LedSafely m ss rs w t p
    → ((v : World) → IsMade m v → FitsCounted (tally_from m t ss rs) p v
    → LedSafely m more answers v (tally_from m t ss rs) q)
    → LedSafely m (ss ++ more) (rs ++ answers) w t q
led_join m [] [] more answers p q w t made h on = on w made h
led_join m (a ∷ ss) (r ∷ rs) more answers p q w t made (v, step, safe, fits, next) on = (
  v,
  step,
  safe,
  fits,
  led_join m ss rs more answers p q v (tallied_by m a r t) (stays_made step made) next on,
)
led_join m [] (r ∷ rs) more answers p q w t made h on = absurd h
led_join m (a ∷ ss) [] more answers p q w t made h on = absurd h
