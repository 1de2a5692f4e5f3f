-- A run goes on by one call.
use Rattle.std.proofs.Common.{◌≡◌, refl, ℕ, ◌<◌, ◌+◌, List, [], ◌∷◌, ◌++◌, length, take, get_or}
use Rattle.std.proofs.lemmas.List.{take_more}
use Rattle.sctp_assoc.specs.declared.call.Call.{Call}
use Rattle.sctp_assoc.specs.declared.call.Reply.{Reply}
use Rattle.sctp_assoc.specs.Abstract.{AbstractAssociation, IsRun, IsStep, RunsOn, StepsOn, abstract}
use Rattle.sctp_assoc.specs.Shown.{Shown}

pub run_more : (cs : List Call) (rs : List Reply) (s u t : AbstractAssociation) (p m q : List (List ℕ)) (c : Call)
    (r : Reply) → IsRun cs s p rs u m → IsStep c u m r t q → IsRun (cs ++ c ∷ []) s p (rs ++ r ∷ []) t q
run_more [] [] s u t p m q c r e h = (t, q, rw (← e.0, ← e.1) h, (refl, refl))
run_more (x ∷ xs) (y ∷ ys) s u t p m q c r (v, n, first, more) h =
    (v, n, first, run_more xs ys v u t n m q c r more h)
run_more [] (y ∷ ys) s u t p m q c r h i = absurd h
run_more (x ∷ xs) [] s u t p m q c r h i = absurd h

-- no call leads nowhere
pub no_run : (a : Shown) (packets : List (List ℕ)) → RunsOn [] a packets [] a packets
no_run a packets = record { from = λ h stands. (h, (refl, refl), stands) }

runs_on_more : (cs : List Call) (rs : List Reply) (a b d : Shown) (p m q : List (List ℕ)) (c : Call) (r : Reply)
    → RunsOn cs a p rs b m → StepsOn c b m r d q → RunsOn (cs ++ c ∷ []) a p (rs ++ r ∷ []) d q
runs_on_more cs rs a b d p m q c r run step = record {
  from = λ h stands.
      let one = run.from h stands in
      let two = step.from one.0 one.2 in (
        two.0,
        run_more cs rs (abstract a h) (abstract b one.0) (abstract d two.0) p m q c r one.1 two.1,
        two.2,
      );
}

-- a run goes on by the call at index i of a list
module _ (cs : List Call) (i : ℕ) (c : Call) (rs more : List Reply) (a b d : Shown) (p m q : List (List ℕ))
    (r : Reply) where
  pub run_next : i < length cs → c ≡ get_or cs i c → more ≡ rs ++ r ∷ [] → RunsOn (take i cs) a p rs b m
      → StepsOn c b m r d q → RunsOn (take (i + 1) cs) a p more d q
  run_next within is grown run step =
      rw (grown, take_more cs i c within, ← is) (runs_on_more (take i cs) rs a b d p m q c r run step)
