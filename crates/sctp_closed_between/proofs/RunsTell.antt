-- Steps of a pair, one after another, tell of no end but of streams that were closed before.
use Rattle.std.proofs.Common.{◌≡◌, refl, sym, subst, ◌⊎◌, ⊎_elim, inl, inr, ℕ, ◌<◌, ◌^◌, ◌||◌, Bool, true, false, List}
use Rattle.std.proofs.Common.{[], ◌∷◌, ◌++◌}
use Rattle.std.specs.List.{AllByRecursion}
use Rattle.std.proofs.lemmas.Bool.{eq-eqb, eqb-true, false≢true}
use Rattle.sctp_model.proofs.Lists.{all_join}
use Rattle.sctp_assoc.specs.declared.call.Reply.{Reply}
use Rattle.sctp_sides.specs.Runs.{told_in}
use Rattle.sctp_sides.proofs.PastOnly.{no_reset_is_past_only}
use Rattle.sctp_steps.specs.declared.step.Step.{Step}
use Rattle.sctp_steps.specs.declared.step.Step.TheVariants as steps
use Rattle.sctp_steps.specs.Ends.{Ends}
use Rattle.sctp_steps.specs.Steps.{Runs, Steps}
use Rattle.sctp_boundaries.specs.Between.{Courses, StandBetween}
use Rattle.sctp_boundaries.specs.Laws.{NamesIdentifiers, StepsKeepBoundaries}
use Rattle.sctp_closed.specs.Closed.{EndsOnly}
use Rattle.sctp_closed.proofs.Proved.{begins_silent}
use Rattle.sctp_closed_between.specs.Between.{BeginsUnclosed, OnlyClosedStreamsEndBetween, TellAlong, is_closed_in}
use Rattle.sctp_closed_between.specs.Between.{step_closes}
use Rattle.sctp_closed_between.proofs.Given.{DatagramIsOver}
use Rattle.sctp_closed_between.proofs.StepsOnly.{BothOnly, StepIsOver, step_goes}

-- Tests

left_of : (a b : Bool) → a ≡ true → (a || b) ≡ true
left_of true b e = refl
left_of false b e = absurd (false≢true e)

right_of : (a b : Bool) → b ≡ true → (a || b) ≡ true
right_of true b e = refl
right_of false b e = e

one_of : (a b : Bool) → (a || b) ≡ true → (a ≡ true) ⊎ (b ≡ true)
one_of true b e = inl refl
one_of false b e = inr e

-- Which streams steps close

step_is_over : (over : ℕ → Bool) (step : Step) → ((id : ℕ) → step_closes id step ≡ true → over id ≡ true)
    → StepIsOver over step
step_is_over over (steps.Stop side k) closed = closed k (eq-eqb k k refl)
step_is_over over (steps.CloseStream side k) closed = closed k (eq-eqb k k refl)
step_is_over over step closed = tt

-- they have identifiers of 16 bits
step_is_small : (step : Step) (id : ℕ) → NamesIdentifiers step → step_closes id step ≡ true → id < 2 ^ 16
step_is_small (steps.Stop side k) id named e = subst (λ (n : ℕ). n < 2 ^ 16) (eqb-true k id e) named
step_is_small (steps.CloseStream side k) id named e = subst (λ (n : ℕ). n < 2 ^ 16) (eqb-true k id e) named
step_is_small step id named e = absurd (false≢true e)

steps_are_small : (ss : List Step) → AllByRecursion NamesIdentifiers ss → (id : ℕ) → is_closed_in ss id ≡ true
    → id < 2 ^ 16
steps_are_small [] named id e = absurd (false≢true e)
steps_are_small (s ∷ ss) named id e =
    ⊎_elim (λ (here : step_closes id s ≡ true). step_is_small s id named.0 here)
    (λ (later : is_closed_in ss id ≡ true). steps_are_small ss named.1 id later)
    (one_of (step_closes id s) (is_closed_in ss id) e)

-- behind steps that are done, one more
closed_before : (done : List Step) (s : Step) (id : ℕ) → is_closed_in done id ≡ true
    → is_closed_in (done ++ s ∷ []) id ≡ true
closed_before [] s id e = absurd (false≢true e)
closed_before (d ∷ done) s id e =
    ⊎_elim
    (λ (here : step_closes id d ≡ true). left_of (step_closes id d) (is_closed_in (done ++ s ∷ []) id) here)
    (λ (later : is_closed_in done id ≡ true).
    right_of (step_closes id d) (is_closed_in (done ++ s ∷ []) id) (closed_before done s id later))
    (one_of (step_closes id d) (is_closed_in done id) e)

closed_last : (done : List Step) (s : Step) (id : ℕ) → step_closes id s ≡ true
    → is_closed_in (done ++ s ∷ []) id ≡ true
closed_last [] s id e = left_of (step_closes id s) false e
closed_last (d ∷ done) s id e =
    right_of (step_closes id d) (is_closed_in (done ++ s ∷ []) id) (closed_last done s id e)

-- Resets concern the streams alone that these steps close: any streams, of 16 bits, that these are among.
abbrev pub AreClosedIn : List Step → Ends → Type 0
AreClosedIn done p = (over : ℕ → Bool) → ((id : ℕ) → over id ≡ true → id < 2 ^ 16)
    → ((id : ℕ) → is_closed_in done id ≡ true → over id ≡ true) → BothOnly over p

pub begins : (over : ℕ → Bool) (p : Ends) → BeginsUnclosed p → BothOnly over p
begins over p none = record {
  side_a =
      inr (record {
        past = no_reset_is_past_only over p.a none.quiet_a;
        side = begins_silent over p.a none.silent_a;
      });
  side_b =
      inr (record {
        past = no_reset_is_past_only over p.b none.quiet_b;
        side = begins_silent over p.b none.silent_b;
      });
  packets_a = subst (AllByRecursion (DatagramIsOver over)) (sym none.none_a) tt;
  packets_b = subst (AllByRecursion (DatagramIsOver over)) (sym none.none_b) tt;
}

-- One step
module _ (own_a own_b id : ℕ) (done : List Step) (s : Step) (r : Reply) (p u : Ends) (w : Courses)
    (stand : StandBetween own_a own_b id p w) (step : Steps s p r u) (closed : AreClosedIn done p)
  where
    goes : (over : ℕ → Bool) → ((k : ℕ) → over k ≡ true → k < 2 ^ 16)
        → ((k : ℕ) → is_closed_in (done ++ s ∷ []) k ≡ true → over k ≡ true)
        → BothOnly over u × AllByRecursion (EndsOnly over) (told_in r)
    goes over small within =
        step_goes over small own_a own_b id r p u w stand
        (closed over small (λ k e. within k (closed_before done s k e))) s
        (step_is_over over s (λ k e. within k (closed_last done s k e))) step

    pub closed_on : AreClosedIn (done ++ s ∷ []) u
    closed_on over small within = (goes over small within).0

    pub tells_closed : AllByRecursion NamesIdentifiers (done ++ s ∷ [])
        → AllByRecursion (EndsOnly (is_closed_in (done ++ s ∷ []))) (told_in r)
    tells_closed named =
        (goes (is_closed_in (done ++ s ∷ [])) (steps_are_small (done ++ s ∷ []) named) (λ k e. e)).1

-- two runs, the second from where the first one led
runs_join : (ss : List Step) (rs : List Reply) (p u q : Ends) (more : List Step) (answers : List Reply)
    → Runs ss rs p u → Runs more answers u q → Runs (ss ++ more) (rs ++ answers) p q
runs_join [] [] p u q more answers e h = subst (λ (z : Ends). Runs more answers z q) e h
runs_join (x ∷ xs) (y ∷ ys) p u q more answers (v, first, rest) h =
    (v, first, runs_join xs ys v u q more answers rest h)
runs_join [] (y ∷ ys) p u q more answers h i = absurd h
runs_join (x ∷ xs) [] p u q more answers h i = absurd h

module _ (step_leads : StepsKeepBoundaries) where
  runs_tell : (done ss : List Step) (rs : List Reply) (p q : Ends) → Runs ss rs p q → (own_a own_b id : ℕ)
      (w : Courses) → AllByRecursion NamesIdentifiers done → AllByRecursion NamesIdentifiers ss
      → StandBetween own_a own_b id p w → AreClosedIn done p → TellAlong own_a own_b id done ss rs p w q
  runs_tell done [] [] p q run own_a own_b id w so_far named stand closed = run
  runs_tell done (x ∷ xs) (r ∷ rs) p q (u, step, more) own_a own_b id w so_far (named, all_named) stand closed =
      let l = step_leads x p r u step own_a own_b id w named stand in
      let names : AllByRecursion NamesIdentifiers (done ++ x ∷ []) =
      all_join NamesIdentifiers done (x ∷ []) so_far (named, tt) in (
        u,
        step,
        tells_closed own_a own_b id done x r p u w stand step closed names,
        l,
        λ few.
            runs_tell (done ++ x ∷ []) xs rs u q more own_a own_b id l.after names all_named (l.stand few)
            (closed_on own_a own_b id done x r p u w stand step closed),
      )
  runs_tell done [] (r ∷ rs) p q run own_a own_b id w so_far named stand closed = absurd run
  runs_tell done (x ∷ xs) [] p q run own_a own_b id w so_far named stand closed = absurd run

  pub only_closed_streams_end_between : OnlyClosedStreamsEndBetween
  only_closed_streams_end_between more answers p q run start before first led own_a own_b id w named stand none =
      runs_tell [] (before ++ more) (first ++ answers) start q
      (runs_join before first start p q more answers led run) own_a own_b id w tt named stand
      (λ over small within. begins over start none)
