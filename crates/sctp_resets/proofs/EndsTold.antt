-- What is told where a request of the peer ends resets that this side began, and where a request of this side is given
-- up and goes on; and which streams this side resets in answer.
use Rattle.std.proofs.Common.{◌≡◌, refl, ℕ, Bool, true, false, ◌||◌, not, List, [], ◌∷◌, ◌++◌, filter, is_some}
use Rattle.std.specs.List.{AllByRecursion}
use Rattle.sctp_wire_types.specs.Config.{is_rfc}
use Rattle.sctp_wire_types.specs.declared.event.StreamEvent.TheVariants as told
use Rattle.sctp_wire_types.specs.declared.event.StreamResetError.TheVariants as reasons
use Rattle.sctp_streams.specs.declared.event.Event.{Event}
use Rattle.sctp_streams.specs.declared.event.Event.TheVariants as events
use Rattle.sctp_streams.specs.Streams.{StreamMap, stream_at}
use Rattle.sctp_reset_requests.specs.Debts.{DebtsView, is_owed, paid}
use Rattle.sctp_reset_requests.specs.Own.{OwnView, ends_here, is_reset_here, to_reset}
use Rattle.sctp_resets.specs.Answers.{failure_told, failures_told}
use Rattle.sctp_resets.specs.Performing.{Performing, each_end_told, end_told, ends_told, paid_told}
use Rattle.sctp_resets.proofs.ListsOver.{all_filtered, of_chosen}

-- A law of debts and events that is kept as one end less is owed, and told where it was owed, is kept as several
-- are.
module _ (P : DebtsView → List Event → Type 0)
    (owed : (d : DebtsView) (es : List Event) (id : ℕ) → is_owed d id ≡ true → P d es
    → P (paid d id) (es ++ events.Stream (told.ResetComplete id) ∷ []))
    (owed_not : (d : DebtsView) (es : List Event) (id : ℕ) → is_owed d id ≡ false → P d es
    → P (paid d id) es) where
  abbrev HoldsOf : DebtsView × List Event → Type 0
  HoldsOf t = P t.0 t.1

  after_settling : (d : DebtsView) (es : List Event) (id : ℕ) (pays : Bool) → is_owed d id ≡ pays → P d es
      → HoldsOf (paid_told (paid d id, pays) es id)
  after_settling d es id true is h = owed d es id is h
  after_settling d es id false is h = owed_not d es id is h

  after_end : (o : OwnView) (t : DebtsView × List Event) (id : ℕ) → HoldsOf t → HoldsOf (end_told o t id)
  after_end o (d, es) id h =
      of_chosen HoldsOf (ends_here o id) (paid_told (paid d id, is_owed d id) es id) (d, es)
      (after_settling d es id (is_owed d id) refl h) h

  pub after_each_end : (o : OwnView) (named : List ℕ) (t : DebtsView × List Event) → P t.0 t.1
      → P (each_end_told o named t).0 (each_end_told o named t).1
  after_each_end o [] t h = h
  after_each_end o (id ∷ ids) t h = after_each_end o ids (end_told o t id) (after_end o t id h)

-- a law of events that is kept as one end is told is kept as several are
module _ (P : List Event → Type 0)
    (told_too : (es : List Event) (id : ℕ) → P es → P (es ++ events.Stream (told.ResetComplete id) ∷ [])) where
  pub after_ends : (o : OwnView) (named : List ℕ) (t : DebtsView × List Event) → P t.1
      → P (each_end_told o named t).1
  after_ends o named t h =
      after_each_end (λ d es. P es) (λ d es id is before. told_too es id before) (λ d es id is before. before) o named
      t h

  pub after_ends_told : (o : OwnView) (named : List ℕ) (p : Performing) → P p.events → P (ends_told o named p).events
  after_ends_told o named p h = after_ends o named (p.debts, p.events) h

-- a law of events that is kept as one failure is told is kept where a request of this side is given up and goes on
module _ (P : List Event → Type 0)
    (told_too : (es : List Event) (id : ℕ) → P es
    → P (es ++ events.Stream (told.ResetFailed id reasons.Failed) ∷ []))
    (d : DebtsView) (m : StreamMap) where
  after_failure : (es : List Event) (id : ℕ) → P es → P (failure_told d m es id)
  after_failure es id h =
      of_chosen P (is_some (stream_at m id) || is_owed d id)
      (es ++ events.Stream (told.ResetFailed id reasons.Failed) ∷ []) es (told_too es id h) h

  pub after_failures : (ids : List ℕ) (es : List Event) → P es → P (failures_told d m ids es)
  after_failures [] es h = h
  after_failures (id ∷ ids) es h = after_failures ids (failure_told d m es id) (after_failure es id h)

-- what holds of each stream that a request names, and of each of which a generation ended, holds of each that this side
-- resets in answer
pub each_to_reset : (P : ℕ → Type 0) (o : OwnView) (named retired : List ℕ) → AllByRecursion P named
    → AllByRecursion P retired → AllByRecursion P (to_reset o named retired)
each_to_reset P o named retired each others =
    of_chosen (AllByRecursion P) (is_rfc o.profile) (filter (λ id. not (is_reset_here o id)) named) retired
    (all_filtered P (λ id. not (is_reset_here o id)) named each) others
