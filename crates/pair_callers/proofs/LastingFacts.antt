-- What a step does not end.
use Rattle.std.proofs.Common.{◌≡◌, refl, sym, ◌∙◌, subst, ◌⊎◌, ⊎_elim, Bool, true, false}
use Rattle.std.proofs.lemmas.Bool.{true≢false}
use Rattle.sctp_model.specs.Messages.{is_reliable, message_at}
use Rattle.sctp_model.specs.Machine.{Direction}
use Rattle.sctp_assoc.specs.Shown.{Shown}
use Rattle.sctp_assoc.specs.declared.call.Reply.{Reply}
use Rattle.sctp_steps.specs.declared.step.Side2.{Side2}
use Rattle.sctp_steps.specs.declared.step.Step.{Step}
use Rattle.sctp_steps.specs.declared.step.Step.TheVariants as steps
use Rattle.sctp_steps.specs.Ends.{Ends, end_of}
use Rattle.sctp_steps.specs.Seen.{IsOpen}
use Rattle.sctp_pair.specs.World.{EndsSpan}
use Rattle.pair_callers.specs.BetweenWorlds.{GoesOn, from_side, to_side}
use Rattle.pair_callers.specs.Lasting.{KeepsReliable, PassesNothing, ReceivesOn, StaysClosed, StaysInSpan, StaysOver}
use Rattle.pair_callers.proofs.StepsByDirection.{Leads, goes_on, step_from, step_to}

-- what could only become true by one of these, stays false
pub stays_false : (before after : Bool) (P : Type 0) → before ≡ false → (P → ⊥)
    → (after ≡ true → (before ≡ true) ⊎ P) → after ≡ false
stays_false before true P e none h =
    ⊎_elim (λ (t : before ≡ true). absurd (true≢false (sym t ∙ e))) (λ (x : P). absurd (none x)) (h refl)
stays_false before false P e none h = refl

pub reliable_on : (step : Step) (r : Reply) (p q : Ends) → Leads step r p q
    → (side : Side2) → GoesOn p q (λ w v. KeepsReliable (from_side side w) (from_side side v))
reliable_on step r p q leads side =
    goes_on step r p q (λ w v. KeepsReliable (from_side side w) (from_side side v))
    (λ w v before after h s i reliable stays. stays_false ((from_side side w).sender.gone s i)
    ((from_side side v).sender.gone s i)
    (is_reliable (message_at (from_side side v).sender.plan s i).policy ≡ false) stays
    (λ f. true≢false (sym reliable ∙ f))
    ((step_from side step r w v h).given_up s i)) leads

receives_so : (a : Shown) (before after : Direction)
    → (after.receiver.is_open ≡ true) ⊎ ((before.receiver.is_open ≡ false) ⊎ (IsOpen a → ⊥))
    → ReceivesOn a before after
receives_so a before after h o was =
    ⊎_elim
    (λ (x : after.receiver.is_open ≡ true). x)
    (λ (y : (before.receiver.is_open ≡ false) ⊎ (IsOpen a → ⊥)). ⊎_elim
    (λ (f : before.receiver.is_open ≡ false). absurd (true≢false (sym was ∙ f)))
    (λ (n : IsOpen a → ⊥). absurd (n o))
    y)
    h

pub receives_on : (step : Step) (r : Reply) (p q : Ends) → Leads step r p q
    → (side : Side2) → GoesOn p q (λ w v. ReceivesOn (end_of side q) (to_side side w) (to_side side v))
receives_on step r p q leads side =
    goes_on step r p q (λ w v. ReceivesOn (end_of side q) (to_side side w) (to_side side v))
    (λ w v before after h. subst (λ (x : Ends). ReceivesOn (end_of side x) (to_side side w) (to_side side v)) after
    (receives_so (end_of side v.ends) (to_side side w) (to_side side v) (step_to side step r w v h).closes)) leads

pub over_on : (step : Step) (r : Reply) (p q : Ends) → Leads step r p q
    → (side : Side2) → GoesOn p q (λ w v. StaysOver (from_side side w) (from_side side v))
over_on step r p q leads side =
    goes_on step r p q (λ w v. StaysOver (from_side side w) (from_side side v))
    (λ w v before after h. (step_from side step r w v h).span_over) leads

pub closed_on : (step : Step) (r : Reply) (p q : Ends) → Leads step r p q
    → (side : Side2) → GoesOn p q (λ w v. StaysClosed (to_side side w) (to_side side v))
closed_on step r p q leads side =
    goes_on step r p q (λ w v. StaysClosed (to_side side w) (to_side side v))
    (λ w v before after h. (step_to side step r w v h).stays_closed) leads

pub polls_end_no_span : (side : Side2) (r : Reply) (p q : Ends) → Leads (steps.Poll side) r p q
    → (x : Side2) → GoesOn p q (λ w v. StaysInSpan (from_side x w) (from_side x v))
polls_end_no_span side r p q leads x =
    goes_on (steps.Poll side) r p q (λ w v. StaysInSpan (from_side x w) (from_side x v))
    (λ w v before after h s e. stays_false ((from_side x w).over s) ((from_side x v).over s)
    (EndsSpan (steps.Poll side) r s) e (λ y. true≢false (sym y))
    ((step_from x (steps.Poll side) r w v h).span s)) leads

pub polls_pass_nothing : (side : Side2) (r : Reply) (p q : Ends) → Leads (steps.Poll side) r p q
    → (x : Side2) → GoesOn p q (λ w v. PassesNothing (to_side x w) (to_side x v))
polls_pass_nothing side r p q leads x =
    goes_on (steps.Poll side) r p q (λ w v. PassesNothing (to_side x w) (to_side x v))
    (λ w v before after h. ⊎_elim (λ (y : (to_side x v).receiver.passed ≡ (to_side x w).receiver.passed). y)
    (λ (y : ⊥). absurd y)
    (step_to x (steps.Poll side) r w v h).passed) leads
