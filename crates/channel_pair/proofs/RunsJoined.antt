-- A run of a pair with a channel goes on by one step.
use Rattle.std.proofs.Common.{◌≡◌, refl, ℕ, ◌<◌, ◌+◌, List, [], ◌∷◌, ◌++◌, length, take, get_or}
use Rattle.std.proofs.lemmas.List.{take_more}
use Rattle.channel_pair.specs.declared.step.ChannelStep.{ChannelStep}
use Rattle.channel_pair.specs.declared.step.ChannelReply.{ChannelReply}
use Rattle.channel_pair.specs.Shapes.{Shape}
use Rattle.channel_pair.specs.Steps.{RunsAll, StepsChannel}

run_more : (ss : List ChannelStep) (rs : List ChannelReply) (p u q : Shape) (s : ChannelStep) (r : ChannelReply)
    → RunsAll ss rs p u → StepsChannel s u r q → RunsAll (ss ++ s ∷ []) (rs ++ r ∷ []) p q
run_more [] [] p u q s r e h = (q, rw (← e) h, refl)
run_more (x ∷ xs) (y ∷ ys) p u q s r (v, first, more) h = (v, first, run_more xs ys v u q s r more h)
run_more [] (y ∷ ys) p u q s r h i = absurd h
run_more (x ∷ xs) [] p u q s r h i = absurd h

-- a run goes on by the step at index i of a list
module _ (ss : List ChannelStep) (i : ℕ) (s : ChannelStep) (rs more : List ChannelReply) (p u q : Shape)
    (r : ChannelReply) where
  pub run_next : i < length ss → s ≡ get_or ss i s → more ≡ rs ++ r ∷ [] → RunsAll (take i ss) rs p u
      → StepsChannel s u r q → RunsAll (take (i + 1) ss) more p q
  run_next within is grown h step =
      rw (grown, take_more ss i s within, ← is) (run_more (take i ss) rs p u q s r h step)
