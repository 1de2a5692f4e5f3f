-- A run in which the loss of the association was read accepts nothing behind that.
use Rattle.std.proofs.Common.{◌≡◌, refl, sym, ap, ◌∙◌, subst, inl, inr, ℕ, zero, suc, ◌+◌, ◌<◌, ◌≤◌, arith, Bool, true}
use Rattle.std.proofs.Common.{false, if◌then◌else◌, not, List, [], ◌∷◌, ◌++◌, Option, Some, None}
use Rattle.std.specs.Prelude.{is_some, slice_get}
use Rattle.std.proofs.lemmas.Bool.{false≢true, not-false, true≢false}
use Rattle.std.proofs.lemmas.List.Sums.{sum_by-append}
use Rattle.sctp_wire_types.specs.declared.error.Error.{Error}
use Rattle.sctp_parts.specs.declared.state.AssociationState.{AssociationState}
use Rattle.sctp_parts.specs.declared.state.AssociationState.TheVariants as states
use Rattle.sctp_streams.specs.declared.event.AssociationError.{AssociationError}
use Rattle.sctp_streams.specs.declared.event.Event.{Event}
use Rattle.sctp_streams.specs.declared.event.Event.TheVariants.{AssociationLost}
use Rattle.sctp_streams.specs.Stream.{StreamView, is_write_half_open}
use Rattle.sctp_streams.specs.Streams.{stream_at}
use Rattle.sctp_directions.specs.Acts.{History}
use Rattle.sctp_assoc.specs.declared.call.Call.{Call}
use Rattle.sctp_assoc.specs.declared.call.Call.TheVariants as calls
use Rattle.sctp_assoc.specs.declared.call.Reply.{Reply}
use Rattle.sctp_assoc.specs.declared.call.Reply.TheVariants as replies
use Rattle.sctp_assoc.specs.Abstract.{AbstractAssociation, IsRun, RunsOn, StandsOn, abstract}
use Rattle.sctp_assoc.specs.Calls.{first_refusal, is_established, refusal_to_write, state_refusal, stream_refusal}
use Rattle.sctp_assoc.specs.Calls.{write_refusal, write_refusal_at}
use Rattle.sctp_assoc.specs.Closing.{is_closed_state}
use Rattle.sctp_assoc.specs.Replies.{Replies, ShowsOrRefuses}
use Rattle.sctp_assoc.specs.Shown.{Shown}
use Rattle.sctp_sides.specs.Laws.{loss_of, losses}
use Rattle.sctp_sides.specs.OneSide as side
use Rattle.sctp_sides.specs.OneSide.{IsFresh}
use Rattle.sctp_sides.specs.Runs.{side_calls_of, told_in}
use Rattle.sctp_sides.specs.Witnesses.{loss_count}
use Rattle.sctp_sides.proofs.Proved.{listed, losses_are_told_once, lost_sides_wait_for_nothing, runs_joined}
use Rattle.side_callers.specs.Losing.{NothingIsAcceptedBehindALoss}

-- A write is accepted in Established alone

-- what is not refused is not what it would be refused for
unrefused : (b : Bool) (fault : Error) (other : Option Error) → (if b then Some fault else other) ≡ None → b ≡ false
unrefused true fault other e = absurd (true≢false (ap is_some e))
unrefused false fault other e = refl

otherwise_unrefused : (b : Bool) (fault : Error) (other : Option Error) → (if b then Some fault else other) ≡ None
    → other ≡ None
otherwise_unrefused true fault other e = absurd (true≢false (ap is_some e))
otherwise_unrefused false fault other e = e

unrefused_if : (b : Bool) (fault : Error) (other : Option Error) → (if b then other else Some fault) ≡ None
    → other ≡ None
unrefused_if true fault other e = e
unrefused_if false fault other e = absurd (true≢false (ap is_some e))

own_unrefused : (first own : Option Error) → first_refusal first own ≡ None → own ≡ None
own_unrefused None own e = e
own_unrefused (Some fault) own e = absurd (true≢false (ap is_some e))

established_at : (o : Option StreamView) (a : Shown) (id size : ℕ) → write_refusal_at a o id size ≡ None
    → is_established a.state ≡ true
established_at None a id size e = absurd (true≢false (ap is_some e))
established_at (Some s) a id size e =
    not-false (is_established a.state)
    (unrefused (not (is_established a.state)) _ _
    (unrefused_if (is_write_half_open s.halves) _ (state_refusal a id size) e))

written_is_established : (a : Shown) (id size : ℕ) → refusal_to_write a id size ≡ None → is_established a.state ≡ true
written_is_established a id size e =
    established_at (stream_at a.streams id) a id size
    (otherwise_unrefused a.failed _ (write_refusal_at a (stream_at a.streams id) id size)
    (own_unrefused (stream_refusal a id) (write_refusal a id size) e))

established_is_open : (s : AssociationState) → is_established s ≡ true → is_closed_state s ≡ false
established_is_open states.Closed e = absurd (false≢true e)
established_is_open states.CookieWait e = refl
established_is_open states.CookieEchoed e = refl
established_is_open states.Established e = refl
established_is_open states.ShutdownAckSent e = refl
established_is_open states.ShutdownPending e = refl
established_is_open states.ShutdownReceived e = refl
established_is_open states.ShutdownSent e = refl

-- The reply of a write

abbrev pub accepts : Reply → Bool
accepts (replies.Wrote bytes) = true
accepts r = false

no_write : {X : Type 0} (r : Reply) (bytes : ℕ) → accepts r ≡ false → replies.Wrote bytes ≡ r → X
no_write r bytes other e = absurd (false≢true (sym other ∙ ap accepts (sym e)))

module _ (a b : Shown) (packets more : List (List ℕ)) (bytes : ℕ) where
  shows_no_write : {X : Type 0} (id : ℕ) (answer : StreamView → Reply)
      → ((s : StreamView) → accepts (answer s) ≡ false) → ShowsOrRefuses a id answer (replies.Wrote bytes) b → X
  shows_no_write id answer other (inl shown) =
      no_write (answer shown.stream) bytes (other shown.stream) shown.answered
  shows_no_write id answer other (inr refused) = no_write (replies.Refused refused.0) bytes refl refused.1

  -- what is accepted is accepted in Established
  wrote_established : (call : Call) → Replies call a packets (replies.Wrote bytes) b more
      → is_established a.state ≡ true
  wrote_established (calls.Write id message) h = written_is_established a id _ h.0.0
  wrote_established (calls.WriteWithPpi id message kind) h = written_is_established a id _ h.0.0
  wrote_established (calls.WriteSctp id message kind) h = written_is_established a id _ h.0.0
  wrote_established (calls.WriteChunk id message) h = written_is_established a id _ h.0.0
  wrote_established (calls.WriteChunks id buffers) h = written_is_established a id _ h.0.0
  wrote_established (calls.StreamStats id) h = shows_no_write id _ (λ s. refl) h.0
  wrote_established (calls.IsReadable id) h = shows_no_write id _ (λ s. refl) h.0
  wrote_established (calls.IsWritable id) h = shows_no_write id _ (λ s. refl) h.0
  wrote_established (calls.StreamIdentifier id) h = shows_no_write id _ (λ s. refl) h.0
  wrote_established (calls.GetDefaultPayloadType id) h = shows_no_write id _ (λ s. refl) h.0
  wrote_established (calls.BufferedAmountLowThreshold id) h = shows_no_write id _ (λ s. refl) h.0
  wrote_established (calls.BufferedAmountHighThreshold id) h = shows_no_write id _ (λ s. refl) h.0
  wrote_established calls.PollTimeout h = no_write _ bytes refl h.0.0
  wrote_established calls.IsHandshaking h = no_write _ bytes refl h.0.0
  wrote_established calls.IsClosed h = no_write _ bytes refl h.0.0
  wrote_established calls.IsClosing h = no_write _ bytes refl h.0.0
  wrote_established calls.IsDrained h = no_write _ bytes refl h.0.0
  wrote_established calls.IsFailed h = no_write _ bytes refl h.0.0
  wrote_established calls.Stats h = no_write _ bytes refl h.0.0
  wrote_established calls.Side h = no_write _ bytes refl h.0.0
  wrote_established calls.RemoteAddr h = no_write _ bytes refl h.0.0
  wrote_established calls.LocalIp h = no_write _ bytes refl h.0.0
  wrote_established (calls.PollTransmit now) h = absurd h
  wrote_established call h = absurd h.0

-- A side that told of a loss is closed

counted_is_lost : (lost : Bool) (n : ℕ) → 0 < n → n ≤ loss_count lost → lost ≡ true
counted_is_lost true n some most = refl
counted_is_lost false n some most = let none : n ≤ 0 = most in absurd (omega (arith, some, none))

-- From an association as a constructor leaves it.
module _ (a : Shown) (fresh : IsFresh a) where
  told_is_closed : (done : List side.Call) (told : List Event) (b : Shown) → side.IsRun done told a b
      → 0 < losses told → is_closed_state b.state ≡ true
  told_is_closed done told b run some =
      let counted = losses_are_told_once done told a b fresh run in
      (lost_sides_wait_for_nothing done told a b fresh run
      (counted_is_lost b.lost (losses told) some counted.told_at_most)).0

  -- behind one that told of a loss nothing is accepted
  nothing_accepted : (cs : List Call) (rs : List Reply) (s t : AbstractAssociation) (packets more : List (List ℕ))
      → IsRun cs s packets rs t more → (done : List side.Call) (told : List Event) → side.IsRun done told a s.shown
      → 0 < losses told → (later bytes : ℕ) → slice_get rs later ≡ Some (replies.Wrote bytes) → ⊥
  nothing_accepted [] [] s t packets more run done told before some later bytes e = false≢true (ap is_some e)
  nothing_accepted [] (r ∷ rs) s t packets more run done told before some later bytes e = run
  nothing_accepted (c ∷ cs) [] s t packets more run done told before some later bytes e = run
  nothing_accepted (c ∷ cs) (r ∷ rs) s t packets more (u, given, step, others) done told before some zero bytes e =
      let is : r ≡ replies.Wrote bytes = cc in
      let established : is_established s.shown.state ≡ true =
      wrote_established s.shown u.shown packets given bytes c
      (subst (λ (z : Reply). Replies c s.shown packets z u.shown given) is step.replied) in
      true≢false
      (sym (told_is_closed done told s.shown before some) ∙ established_is_open s.shown.state established)
  nothing_accepted (c ∷ cs) (r ∷ rs) s t packets more (u, given, step, others) done told before some (suc later)
      bytes e =
      let sums : losses (told ++ told_in r) ≡ losses told + losses (told_in r) =
      sum_by-append loss_of told (told_in r) in
      nothing_accepted cs rs u t given more others (done ++ side_calls_of c) (told ++ told_in r)
      (runs_joined done (side_calls_of c) told (told_in r) a s.shown u.shown before
      (listed s.shown u.shown c packets given r step.replied))
      (omega (arith, sums, some)) later bytes e

  -- an event that the association was lost is one loss
  loss_told : (r : Reply) (reason : AssociationError) → r ≡ replies.Event (Some (AssociationLost reason))
      → 0 < losses (told_in r)
  loss_told r reason is =
      let one : losses (told_in r) ≡ 1 = ap (λ (z : Reply). losses (told_in z)) is in omega (arith, one)

  run_ends : (cs : List Call) (rs : List Reply) (s t : AbstractAssociation) (packets more : List (List ℕ))
      → IsRun cs s packets rs t more → (done : List side.Call) (told : List Event) → side.IsRun done told a s.shown
      → (index later bytes : ℕ) (reason : AssociationError)
      → slice_get rs index ≡ Some (replies.Event (Some (AssociationLost reason))) → index < later
      → slice_get rs later ≡ Some (replies.Wrote bytes) → ⊥
  run_ends [] [] s t packets more run done told before index later bytes reason e less f = false≢true (ap is_some e)
  run_ends [] (r ∷ rs) s t packets more run done told before index later bytes reason e less f = run
  run_ends (c ∷ cs) [] s t packets more run done told before index later bytes reason e less f = run
  run_ends (c ∷ cs) (r ∷ rs) s t packets more run done told before index zero bytes reason e less f =
      absurd (omega (arith, less))
  run_ends (c ∷ cs) (r ∷ rs) s t packets more (u, given, step, others) done told before zero (suc later) bytes reason
      e less f =
      let is : r ≡ replies.Event (Some (AssociationLost reason)) = cc in
      let one : 0 < losses (told_in r) = loss_told r reason is in
      let sums : losses (told ++ told_in r) ≡ losses told + losses (told_in r) =
      sum_by-append loss_of told (told_in r) in
      nothing_accepted cs rs u t given more others (done ++ side_calls_of c) (told ++ told_in r)
      (runs_joined done (side_calls_of c) told (told_in r) a s.shown u.shown before
      (listed s.shown u.shown c packets given r step.replied))
      (omega (arith, sums, one)) later bytes f
  run_ends (c ∷ cs) (r ∷ rs) s t packets more (u, given, step, others) done told before (suc index) (suc later) bytes
      reason e less f =
      run_ends cs rs u t given more others (done ++ side_calls_of c) (told ++ told_in r)
      (runs_joined done (side_calls_of c) told (told_in r) a s.shown u.shown before
      (listed s.shown u.shown c packets given r step.replied))
      index later bytes reason e (omega (arith, less)) f

pub nothing_behind_a_loss : (cs : List Call) (rs : List Reply) (a b : Shown) (packets more : List (List ℕ))
    → RunsOn cs a packets rs b more → (h : History) → StandsOn a h → IsFresh a → NothingIsAcceptedBehindALoss rs
nothing_behind_a_loss cs rs a b packets more run h stands fresh index later bytes reason e less f =
    let led = run.from h stands in
    run_ends a fresh cs rs (abstract a h) (abstract b led.0) packets more led.1 [] []
    (record { same = refl; silent = refl }) index later bytes reason e less f
