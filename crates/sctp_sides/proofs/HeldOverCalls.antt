-- Whatever the peer sends, what a call leaves to be read was held before or came with it, and what is read was held.
use Rattle.std.proofs.Common.{◌≡◌, refl, sym, ap, ◌∙◌, subst, ⊎_elim, inl, inr, true, false, List, [], ◌∷◌}
use Rattle.std.specs.List.{AllByRecursion}
use Rattle.std.proofs.lemmas.Bool.{cases_Bool, false≢true}
use Rattle.sctp_wire_types.specs.declared.chunk.ChunkPayloadData.{ChunkPayloadData}
use Rattle.sctp_streams.specs.declared.event.AssociationError.TheVariants as reasons
use Rattle.sctp_streams.specs.declared.event.Event.{Event}
use Rattle.sctp_streams.specs.declared.setting.Setting.TheVariants as settings
use Rattle.sctp_assoc.specs.Calls.{adjusted}
use Rattle.sctp_assoc.specs.Shown.{Shown}
use Rattle.sctp_assoc.specs.Shutdown.{endpoint_event_polled, shutdown_begun}
use Rattle.sctp_sides.specs.Brought.{CallBringsOnly, CallsHoldWhatCame, IsAmong, ReadsGiveWhatIsHeld}
use Rattle.sctp_sides.specs.Brought.{SideHoldsOnly}
use Rattle.sctp_sides.specs.OneSide.{Call, Calls, IsRun, carried_out}
use Rattle.sctp_sides.specs.Runs.{ListsHoldWhatCame}
use Rattle.sctp_sides.proofs.FirstBegunRuns.{carried_out_fails}
use Rattle.sctp_sides.proofs.HeldByCalls.{accepted_held, adjusted_held, event_told_held, limited_held, opened_held}
use Rattle.sctp_sides.proofs.HeldByCalls.{read_gives, read_held, stopped_held, written_held}
use Rattle.sctp_sides.proofs.HeldInChunks.{packet_held}
use Rattle.sctp_sides.proofs.HeldInPolls.{polled_held, timeouts_held}
use Rattle.sctp_sides.proofs.HeldSteps.{KeepsHeld, closed_held, same_held, then_held}
use Rattle.sctp_sides.proofs.TimersOverRuns.{accepted_works}

-- The DATA of which something is so.
module _ (P : ChunkPayloadData → Type 0) where
  call_held : (call : Call) (a : Shown) → CallBringsOnly P call → KeepsHeld P a (carried_out call a).0
  call_held (Call.OpenStream id kind) a brings = opened_held P a id kind
  call_held (Call.Write id named bytes) a brings = written_held P a id named bytes
  call_held (Call.Set id setting) a brings = adjusted_held P a id setting
  call_held Call.AcceptStream a brings = accepted_held P a
  call_held (Call.SetMaxSendMessageSize size) a brings = limited_held P a size
  call_held Call.Shutdown a brings = same_held P a (shutdown_begun a) refl refl
  call_held Call.Close a brings = closed_held P a reasons.AssociationClosed
  call_held (Call.Read id) a brings = read_held P a id
  call_held Call.Poll a brings = event_told_held P a
  call_held Call.PollEndpointEvent a brings = same_held P a (endpoint_event_polled a).0 refl refl
  call_held (Call.PollTransmit now) a brings = polled_held P a now
  call_held (Call.HandleTimeout now) a brings = timeouts_held P a now
  call_held (Call.HandleEvent packet now) a brings = packet_held P a packet now brings
  call_held (Call.Stop id) a brings = stopped_held P a id
  call_held (Call.CloseStream id) a brings =
      then_held P (adjusted_held P a id settings.WriteHalfClosed)
      (stopped_held P (adjusted a id settings.WriteHalfClosed) id)

  call_holds : (call : Call) (a b : Shown) (told : List Event) → carried_out call a ≡ (b, told)
      → CallBringsOnly P call → SideHoldsOnly P a → SideHoldsOnly P b
  call_holds call a b told e brings h =
      subst (λ (x : Shown × List Event). SideHoldsOnly P x.0) e ((call_held call a brings).holds h)

pub calls_hold_what_came : CallsHoldWhatCame
calls_hold_what_came came = call_holds (IsAmong came)

pub reads_give_what_is_held : ReadsGiveWhatIsHeld
reads_give_what_is_held came = read_gives (IsAmong came)

-- Lists of calls

-- an association that failed stays so
stays_failed : (call : Call) (told : List Event) (a b : Shown) → Calls call told a b → a.failed ≡ true
    → b.failed ≡ true
stays_failed call told a b (inl c) failed =
    carried_out_fails call told a b c.there (accepted_works call a c.accepted) failed
stays_failed call told a b (inr (inl c)) failed = ap (λ (x : Shown). x.failed) c.same ∙ failed
stays_failed call told a b (inr (inr c)) failed = c.failed.marked

-- What a side holds is made of DATA among these, where it works.
module _ (came : List ChunkPayloadData) where
  abbrev HoldsWhereItWorks : Shown → Type 0
  HoldsWhereItWorks a = a.failed ≡ false → SideHoldsOnly (IsAmong came) a

  called_holds : (call : Call) (told : List Event) (a b : Shown) → Calls call told a b → a.failed ≡ false
      → b.failed ≡ false → CallBringsOnly (IsAmong came) call → HoldsWhereItWorks a → SideHoldsOnly (IsAmong came) b
  called_holds call told a b (inl c) before works brings held =
      calls_hold_what_came came call a b told c.there brings (held before)
  called_holds call told a b (inr (inl c)) before works brings held =
      subst (SideHoldsOnly (IsAmong came)) (sym c.same) (held before)
  called_holds call told a b (inr (inr c)) before works brings held =
      absurd (false≢true (sym works ∙ c.failed.marked))

  worked_before : (call : Call) (told : List Event) (a b : Shown) → Calls call told a b → b.failed ≡ false
      → a.failed ≡ false
  worked_before call told a b called works =
      ⊎_elim
      (λ (failed : a.failed ≡ true).
      absurd (false≢true (sym works ∙ stays_failed call told a b called failed)))
      (λ (working : a.failed ≡ false). working) (cases_Bool a.failed)

  list_holds : (calls : List Call) (told : List Event) (a b : Shown) → IsRun calls told a b
      → AllByRecursion (λ (call : Call). CallBringsOnly (IsAmong came) call) calls → HoldsWhereItWorks a
      → HoldsWhereItWorks b
  list_holds [] told a b run brings held works =
      subst (SideHoldsOnly (IsAmong came)) (sym run.same) (held (ap (λ (x : Shown). x.failed) (sym run.same) ∙ works))
  list_holds (call ∷ calls) told a b run brings held works =
      list_holds calls run.later run.middle b run.others brings.1
      (λ (on : run.middle.failed ≡ false).
      called_holds call run.first a run.middle run.called
      (worked_before call run.first a run.middle run.called on) on brings.0 held)
      works

pub lists_hold_what_came : ListsHoldWhatCame
lists_hold_what_came came calls told a b run brings held works = list_holds came calls told a b run brings held works
