-- The streams that fall to their low mark in a poll are told of in the order in which they fall.
use Rattle.std.proofs.Common.{◌≡◌, ap, sym, ◌∙◌, subst, ⊎_elim, ◌⊎◌, ℕ, ◌<◌, true, false, List, ◌++◌, length}
use Rattle.std.proofs.lemmas.Bool.{cases_Bool, false≢true}
use Rattle.sctp_streams.specs.LowMarks.{AreGathered, FallenView, none_fallen}
use Rattle.sctp_streams.proofs.LowMarks.{gathered_behind}
use Rattle.sctp_assoc.specs.Gather.{fast_fell, fast_polled, fell_in_poll, late_abandoned, late_fell, marks_fell}
use Rattle.sctp_assoc.specs.Gather.{marks_polled, new_fell}
use Rattle.sctp_assoc.specs.Shown.{Shown}

-- those of the steps of a poll, one after another
module _ (a : Shown) (now : ℕ) {late marked again : Shown} (is_late : late ≡ late_abandoned a now)
    (is_marked : marked ≡ marks_polled a now) (is_again : again ≡ fast_polled a now) {f g h i j : FallenView}
  where
    pub poll_gathers : AreGathered (late_fell a now) f g → AreGathered (marks_fell late) g h
        → AreGathered (fast_fell marked) h i → AreGathered (new_fell again now) i j
        → AreGathered (fell_in_poll a now) f j
    poll_gathers first_fell marks_fall fast_fall new_fall =
        let first : List ℕ = late_fell a now in
        let marks : List ℕ = marks_fell (late_abandoned a now) in
        let fast : List ℕ = fast_fell (marks_polled a now) in
        gathered_behind (first ++ marks ++ fast) (new_fell (fast_polled a now) now) f i j
        (gathered_behind (first ++ marks) fast f h i
        (gathered_behind first marks f g h first_fell
        (subst (λ (b : Shown). AreGathered (marks_fell b) g h) is_late marks_fall))
        (subst (λ (b : Shown). AreGathered (fast_fell b) h i) is_marked fast_fall))
        (subst (λ (b : Shown). AreGathered (new_fell b now) i j) is_again new_fall)

-- behind none they are all that is gathered
pub all_told : (ids : List ℕ) (f g : FallenView) → f ≡ none_fallen → AreGathered ids f g → g.refused ≡ false
    → g.ids ≡ ids
all_told ids f g none those whole = (those.whole whole).1 ∙ ap (λ (z : FallenView). z.ids ++ ids) none

-- where telling of them lacks memory there is one
pub some_falls : (ids : List ℕ) (f g : FallenView) → f ≡ none_fallen → AreGathered ids f g
    → (g.refused ≡ true) ⊎ (0 < length g.ids) → 0 < length ids
some_falls ids f g none those lacks =
    ⊎_elim
    (λ (r : g.refused ≡ true). refused r)
    (λ (r : g.refused ≡ false).
    ⊎_elim
    (λ (t : g.refused ≡ true). refused t)
    (λ (l : 0 < length g.ids). subst (λ z. 0 < length z) (all_told ids f g none those r) l)
    lacks)
    (cases_Bool g.refused)
  where
    refused : g.refused ≡ true → 0 < length ids
    refused r =
        ⊎_elim
        (λ (t : f.refused ≡ true). absurd (false≢true (sym (ap (λ (z : FallenView). z.refused) none) ∙ t)))
        (λ (l : 0 < length ids). l)
        (those.some r)
