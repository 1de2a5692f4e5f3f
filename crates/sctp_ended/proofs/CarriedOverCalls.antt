-- What each of the rules carries is carried by every list of calls, whatever the peer sends.
use Rattle.std.proofs.Common.{◌≡◌, refl, sym, ap, ◌∙◌, subst, ⊎_elim, inl, inr, true, false, List, [], ◌∷◌}
use Rattle.std.proofs.Common.{None}
use Rattle.std.proofs.lemmas.Bool.{cases_Bool, false≢true}
use Rattle.sctp_streams.specs.declared.event.AssociationError.TheVariants as reasons
use Rattle.sctp_streams.specs.declared.event.Event.{Event}
use Rattle.sctp_streams.specs.declared.setting.Setting.TheVariants as settings
use Rattle.sctp_streams.specs.Streams.{StreamMap}
use Rattle.sctp_generations.specs.Generations.{GenerationsView}
use Rattle.sctp_reset_requests.specs.Peer.{PeerView}
use Rattle.sctp_assoc.specs.Calls.{adjusted}
use Rattle.sctp_assoc.specs.Shown.{Shown}
use Rattle.sctp_assoc.specs.Shutdown.{endpoint_event_polled, shutdown_begun}
use Rattle.sctp_sides.specs.OneSide.{Call, Calls, call_refusal, carried_out}
use Rattle.sctp_sides.proofs.FirstBegunRuns.{carried_out_fails}
use Rattle.sctp_sides.proofs.LiveStreams.{opened_streams_were_not_live}
use Rattle.sctp_sides.proofs.TimersOverRuns.{accepted_works}
use Rattle.sctp_ended.specs.Boundaries.{HoldsThroughCall, IsRunThrough}
use Rattle.sctp_ended.proofs.Carried.{Carries, IsCarried, SideIs, closed_carries, same_carries, then_carries}
use Rattle.sctp_ended.proofs.CarriedByCalls.{accepted_carries, adjusted_carries, event_told_carries, limited_carries}
use Rattle.sctp_ended.proofs.CarriedByCalls.{opened_carries, read_carries, stopped_carries, written_carries}
use Rattle.sctp_ended.proofs.CarriedInChunks.{packet_carries}
use Rattle.sctp_ended.proofs.CarriedInPolls.{polled_carries, timeouts_carry}

-- an association that failed stays so
stays_failed : (call : Call) (told : List Event) (a b : Shown) → Calls call told a b → a.failed ≡ true
    → b.failed ≡ true
stays_failed call told a b (inl c) failed =
    carried_out_fails call told a b c.there (accepted_works call a c.accepted) failed
stays_failed call told a b (inr (inl c)) failed = ap (λ (x : Shown). x.failed) c.same ∙ failed
stays_failed call told a b (inr (inr c)) failed = c.failed.marked

worked_before : (call : Call) (told : List Event) (a b : Shown) → Calls call told a b → b.failed ≡ false
    → a.failed ≡ false
worked_before call told a b called works =
    ⊎_elim
    (λ (failed : a.failed ≡ true).
    absurd (false≢true (sym works ∙ stays_failed call told a b called failed)))
    (λ (working : a.failed ≡ false). working) (cases_Bool a.failed)

module _ {Open : GenerationsView → PeerView → Type 0} {T : GenerationsView → PeerView → StreamMap → Type 0}
    (rules : IsCarried Open T) where
  abbrev IsOpen : Shown → Type 0
  IsOpen a = Open a.resets.generations a.resets.peer

  call_carries : (call : Call) (a : Shown) → call_refusal call a ≡ None → IsOpen a → HoldsThroughCall IsOpen call a
      → Carries T a (carried_out call a).0
  call_carries (Call.OpenStream id kind) a accepted opens so =
      opened_carries rules a id kind (opened_streams_were_not_live a id accepted).1
  call_carries (Call.Write id named bytes) a accepted opens so = written_carries rules a id named bytes
  call_carries (Call.Set id setting) a accepted opens so = adjusted_carries rules a id setting
  call_carries Call.AcceptStream a accepted opens so = accepted_carries rules a
  call_carries (Call.SetMaxSendMessageSize size) a accepted opens so = limited_carries rules a size
  call_carries Call.Shutdown a accepted opens so = same_carries a (shutdown_begun a) refl refl refl
  call_carries Call.Close a accepted opens so = closed_carries rules a reasons.AssociationClosed
  call_carries (Call.Read id) a accepted opens so = read_carries rules a id
  call_carries Call.Poll a accepted opens so = event_told_carries rules a
  call_carries Call.PollEndpointEvent a accepted opens so =
      same_carries a (endpoint_event_polled a).0 refl refl refl
  call_carries (Call.PollTransmit now) a accepted opens so = polled_carries rules a now
  call_carries (Call.HandleTimeout now) a accepted opens so = timeouts_carry rules a now
  call_carries (Call.HandleEvent packet now) a accepted opens so = packet_carries rules a packet now opens so
  call_carries (Call.Stop id) a accepted opens so = stopped_carries rules a id
  call_carries (Call.CloseStream id) a accepted opens so =
      then_carries (adjusted_carries rules a id settings.WriteHalfClosed)
      (stopped_carries rules (adjusted a id settings.WriteHalfClosed) id)

  -- Lists of calls

  -- it is so where the association works
  abbrev IsWhereItWorks : Shown → Type 0
  IsWhereItWorks a = a.failed ≡ false → SideIs T a

  called_carries : (call : Call) (told : List Event) (a b : Shown) → Calls call told a b → IsOpen a
      → ((carried_out call a).0 ≡ b → HoldsThroughCall IsOpen call a) → IsWhereItWorks a → IsWhereItWorks b
  called_carries call told a b (inl c) opens so kept works =
      let left : (carried_out call a).0 ≡ b = ap (λ (x : Shown × List Event). x.0) c.there in
      subst (SideIs T) left
      ((call_carries call a c.accepted opens (so left)).carries (kept (worked_before call told a b (inl c) works)))
  called_carries call told a b (inr (inl c)) opens so kept works =
      subst (SideIs T) (sym c.same) (kept (worked_before call told a b (inr (inl c)) works))
  called_carries call told a b (inr (inr c)) opens so kept works = absurd (false≢true (sym works ∙ c.failed.marked))

  pub list_carries : (calls : List Call) (told : List Event) (a b : Shown) → IsOpen a
      → IsRunThrough IsOpen calls told a b → IsWhereItWorks a → IsWhereItWorks b
  list_carries [] told a b opens run kept works =
      subst (SideIs T) (sym run.same) (kept (ap (λ (x : Shown). x.failed) (sym run.same) ∙ works))
  list_carries (call ∷ calls) told a b opens run kept works =
      let others = run.others in
      list_carries calls run.later run.middle b others.1 others.2
      (called_carries call run.first a run.middle run.called opens others.0 kept) works
