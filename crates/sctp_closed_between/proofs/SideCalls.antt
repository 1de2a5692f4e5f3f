-- One side of two: a call whose datagrams name none but these streams, and that stops one of these if any, leaves it
-- resetting these alone, and tells of an end of none but these; or it failed.
use Rattle.std.proofs.Common.{◌≡◌, sym, ap, ◌∙◌, subst, ◌⊎◌, ⊎_elim, inl, inr, ℕ, Bool, true, false, List, [], ◌∷◌}
use Rattle.std.specs.List.{AllByRecursion}
use Rattle.std.proofs.lemmas.Bool.{cases_Bool, true≢false}
use Rattle.sctp_streams.specs.declared.event.Event.{Event}
use Rattle.sctp_model.proofs.Lists.{all_join}
use Rattle.sctp_assoc.specs.declared.call.Call.{Call}
use Rattle.sctp_assoc.specs.declared.call.Reply.{Reply}
use Rattle.sctp_assoc.specs.Replies.{Replies}
use Rattle.sctp_assoc.specs.Shown.{Shown}
use Rattle.sctp_sides.specs.OneSide as side
use Rattle.sctp_sides.specs.OneSide.{Calls, carried_out}
use Rattle.sctp_sides.specs.Runs.{side_calls_of, told_in}
use Rattle.sctp_sides.proofs.RunsListed.{listed}
use Rattle.sctp_sides.proofs.TimersOverRuns.{Works, accepted_works}
use Rattle.sctp_closed.specs.Closed.{EndsOnly}
use Rattle.sctp_closed.proofs.InPackets.{IsOnly}
use Rattle.sctp_closed.proofs.OverCalls.{CallIsOver, called_only, worked_before}
use Rattle.sctp_closed.proofs.Told.{TellsOnly, carried_tells, tells_only_is_kept}

-- it failed, or resets concern these streams alone and what waits to be told tells of an end of none but these
abbrev pub SideIsOnly : (ℕ → Bool) → Shown → Type 0
SideIsOnly over a = (a.failed ≡ true) ⊎ IsOnly over (TellsOnly over) a

module _ (over : ℕ → Bool) where
  -- one that works
  pub working_only : (a : Shown) → a.failed ≡ false → SideIsOnly over a → IsOnly over (TellsOnly over) a
  working_only a works (inl failed) = absurd (true≢false (sym failed ∙ works))
  working_only a works (inr only) = only

  called_side : (call : side.Call) (told : List Event) (a b : Shown) → Calls call told a b → CallIsOver over call
      → SideIsOnly over a → SideIsOnly over b
  called_side call told a b called said h =
      ⊎_elim (λ (failed : b.failed ≡ true). inl failed)
      (λ (works : b.failed ≡ false).
      inr (called_only over (TellsOnly over) (tells_only_is_kept over) call told a b called said works
      (working_only a (worked_before call told a b called works) h))) (cases_Bool b.failed)

  carried_side : (call : side.Call) (a : Shown) → Works call a → SideIsOnly over a
      → AllByRecursion (EndsOnly over) (carried_out call a).1
  carried_side call a (inl works) h = carried_tells over call a (working_only a works h).side
  carried_side call a (inr (event, same)) h =
      subst (λ (x : Shown × List Event). AllByRecursion (EndsOnly over) x.1) (sym same) tt

  called_told : (call : side.Call) (told : List Event) (a b : Shown) → Calls call told a b → SideIsOnly over a
      → AllByRecursion (EndsOnly over) told
  called_told call told a b (inl c) h =
      subst (AllByRecursion (EndsOnly over)) (ap (λ (x : Shown × List Event). x.1) c.there)
      (carried_side call a (accepted_works call a c.accepted) h)
  called_told call told a b (inr (inl c)) h = subst (AllByRecursion (EndsOnly over)) (sym c.silent) tt
  called_told call told a b (inr (inr c)) h = subst (AllByRecursion (EndsOnly over)) (sym c.silent) tt

  run_side : (calls : List side.Call) (told : List Event) (a b : Shown) → AllByRecursion (CallIsOver over) calls
      → side.IsRun calls told a b → SideIsOnly over a → SideIsOnly over b × AllByRecursion (EndsOnly over) told
  run_side [] told a b said run h =
      (subst (SideIsOnly over) (sym run.same) h, subst (AllByRecursion (EndsOnly over)) (sym run.silent) tt)
  run_side (call ∷ calls) told a b said run h =
      let m = called_side call run.first a run.middle run.called said.0 h in
      let later = run_side calls run.later run.middle b said.1 run.others m in (
        later.0,
        subst (AllByRecursion (EndsOnly over)) (sym run.in_order)
            (all_join (EndsOnly over) run.first run.later (called_told call run.first a run.middle run.called h)
            later.1),
      )

  -- any call and its reply
  pub side_goes : (call : Call) (r : Reply) (x y : Shown) (packets more : List (List ℕ))
      → Replies call x packets r y more → AllByRecursion (CallIsOver over) (side_calls_of call) → SideIsOnly over x
      → SideIsOnly over y × AllByRecursion (EndsOnly over) (told_in r)
  side_goes call r x y packets more h said only =
      run_side (side_calls_of call) (told_in r) x y said (listed x y call packets more r h) only
