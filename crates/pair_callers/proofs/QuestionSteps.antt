-- What a question and a run leave.
use Rattle.std.proofs.Common.{◌≡◌, refl, ap, ◌∙◌, List, [], ◌∷◌, length, suc, ℕ}
use Rattle.sctp_assoc.specs.Shown.{Shown}
use Rattle.sctp_assoc.specs.declared.call.Reply.{Reply}
use Rattle.sctp_assoc.specs.declared.call.Reply.TheVariants as replies
use Rattle.sctp_steps.specs.declared.step.Side2.{Side2}
use Rattle.sctp_steps.specs.declared.step.Side2.TheVariants as sides
use Rattle.sctp_steps.specs.declared.step.Step.{Step}
use Rattle.sctp_steps.specs.declared.step.Step.TheVariants as steps
use Rattle.sctp_steps.specs.Ends.{Ends, end_of}
use Rattle.sctp_assoc.specs.Replies.{OnlyAnswers}
use Rattle.sctp_steps.specs.Steps.{Runs, Steps}
use Rattle.pair_callers.specs.Running.{answer_in}
use Rattle.pair_callers.proofs.StepsByDirection.{at_its_side}

pub lost_told : (side : Side2) (r : Reply) (p q : Ends) → Steps (steps.IsDrained side) p r q
    → answer_in r ≡ (end_of side p).lost
lost_told side r p q h =
    ap (λ (x : Reply). answer_in x)
    (at_its_side side p (λ (x y : Shown). OnlyAnswers x (replies.State x.lost) r y) q h).0

pub lost_same : (side : Side2) (r : Reply) (p q : Ends) → Steps (steps.IsDrained side) p r q → q ≡ p
lost_same sides.A r p q h = h.1 ∙ ap (λ (a : Shown). let x : Ends = record p { a = a } in x) h.0.1
lost_same sides.B r p q h = h.1 ∙ ap (λ (b : Shown). let x : Ends = record p { b = b } in x) h.0.1

pub as_many_replies : (ss : List Step) (rs : List Reply) (p q : Ends) → Runs ss rs p q → length rs ≡ length ss
as_many_replies [] [] p q h = refl
as_many_replies (s ∷ ss) (r ∷ rs) p q (u, first, rest) = ap (λ (n : ℕ). suc n) (as_many_replies ss rs u q rest)
as_many_replies [] (r ∷ rs) p q h = absurd h
as_many_replies (s ∷ ss) [] p q h = absurd h
