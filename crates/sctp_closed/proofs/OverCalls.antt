-- Over every list of calls that stop some streams alone, and hand over requests of the peer that name these alone,
-- resets concern these alone, and what the rules keep stays so.
use Rattle.std.proofs.Common.{◌≡◌, sym, ap, ◌∙◌, subst, ⊎_elim, inl, inr, ℕ, Bool, true, false, List, [], ◌∷◌, None}
use Rattle.std.specs.Prelude.{⊤}
use Rattle.std.specs.List.{AllByRecursion}
use Rattle.std.proofs.lemmas.Bool.{cases_Bool, false≢true}
use Rattle.sctp_streams.specs.declared.event.AssociationError.TheVariants as reasons
use Rattle.sctp_streams.specs.declared.event.Event.{Event}
use Rattle.sctp_streams.specs.declared.setting.Setting.TheVariants as settings
use Rattle.sctp_streams.specs.Streams.{StreamMap}
use Rattle.sctp_assoc.specs.Calls.{adjusted}
use Rattle.sctp_assoc.specs.Shown.{Shown}
use Rattle.sctp_sides.specs.OneSide.{Call, Calls, IsRun, call_refusal, carried_out}
use Rattle.sctp_sides.specs.PastSpan.{ResetsPastOnly}
use Rattle.sctp_sides.proofs.FirstBegunRuns.{carried_out_fails}
use Rattle.sctp_sides.proofs.LiveStreams.{opened_streams_were_not_live}
use Rattle.sctp_sides.proofs.ResetsNoMore.{accepted_streams_reset_no_more, closes_reset_no_more, limits_reset_no_more}
use Rattle.sctp_sides.proofs.ResetsNoMore.{opened_streams_reset_no_more, polls_reset_no_more, reads_reset_no_more}
use Rattle.sctp_sides.proofs.ResetsNoMore.{settings_reset_no_more, stops_reset_that_stream, timers_reset_no_more}
use Rattle.sctp_sides.proofs.ResetsNoMore.{told_events_reset_no_more, writes_reset_no_more}
use Rattle.sctp_sides.proofs.ShutdownCalls.{endpoint_events_reset_no_more, shutdowns_reset_no_more}
use Rattle.sctp_sides.proofs.TimersOverRuns.{accepted_works}
use Rattle.sctp_closed.proofs.InCalls.{accepted_keeps, adjusted_keeps, event_told_holds, limited_keeps, opened_keeps}
use Rattle.sctp_closed.proofs.InCalls.{polled_holds, read_holds, stopped_keeps, timeouts_keep, written_keeps}
use Rattle.sctp_closed.proofs.InPackets.{IsOnly, PacketIsOver, packet_only}
use Rattle.sctp_closed.proofs.Rules.{IsUnended}
use Rattle.sctp_closed.proofs.Steps.{closed_keeps}

-- a call stops one of these streams, if it stops one, and hands over a packet whose requests name these alone
abbrev pub CallIsOver : (ℕ → Bool) → Call → Type 0
CallIsOver over (Call.Stop id) = over id ≡ true
CallIsOver over (Call.CloseStream id) = over id ≡ true
CallIsOver over (Call.HandleEvent packet now) = PacketIsOver over packet
CallIsOver over call = ⊤

-- an association that failed stays so

stays_failed : (call : Call) (told : List Event) (a b : Shown) → Calls call told a b → a.failed ≡ true
    → b.failed ≡ true
stays_failed call told a b (inl c) failed =
    carried_out_fails call told a b c.there (accepted_works call a c.accepted) failed
stays_failed call told a b (inr (inl c)) failed = ap (λ (x : Shown). x.failed) c.same ∙ failed
stays_failed call told a b (inr (inr c)) failed = c.failed.marked

pub worked_before : (call : Call) (told : List Event) (a b : Shown) → Calls call told a b → b.failed ≡ false
    → a.failed ≡ false
worked_before call told a b called works =
    ⊎_elim
    (λ (failed : a.failed ≡ true).
    absurd (false≢true (sym works ∙ stays_failed call told a b called failed)))
    (λ (working : a.failed ≡ false). working) (cases_Bool a.failed)

pub run_worked : (calls : List Call) (told : List Event) (a b : Shown) → IsRun calls told a b → b.failed ≡ false
    → a.failed ≡ false
run_worked [] told a b run works = ap (λ (x : Shown). x.failed) (sym run.same) ∙ works
run_worked (call ∷ calls) told a b run works =
    worked_before call run.first a run.middle run.called
    (run_worked calls run.later run.middle b run.others works)

module _ (over : ℕ → Bool) (P : Bool → StreamMap → List Event → Type 0) (law : IsUnended over P) where
  closing_only : (a : Shown) (id : ℕ) → over id ≡ true → IsOnly over P a
      → IsOnly over P (carried_out (Call.CloseStream id) a).0
  closing_only a id one h =
      let b : Shown = adjusted a id settings.WriteHalfClosed in
      let past : ResetsPastOnly over b = settings_reset_no_more a id settings.WriteHalfClosed over h.past in
      record {
        past = stops_reset_that_stream over b id one past;
        side =
            (stopped_keeps over P law b id one).keeps past.resets
            ((adjusted_keeps over P law a id settings.WriteHalfClosed).keeps h.past.resets h.side);
      }

  call_only : (call : Call) (a : Shown) → call_refusal call a ≡ None → CallIsOver over call → IsOnly over P a
      → IsOnly over P (carried_out call a).0
  call_only (Call.OpenStream id kind) a accepted said h = record {
    past = opened_streams_reset_no_more a id kind over h.past;
    side =
        (opened_keeps over P law a id kind (opened_streams_were_not_live a id accepted).1).keeps h.past.resets h.side;
  }
  call_only (Call.Write id named bytes) a accepted said h = record {
    past = writes_reset_no_more a id named bytes over h.past;
    side = (written_keeps over P law a id named bytes).keeps h.past.resets h.side;
  }
  call_only (Call.Set id setting) a accepted said h = record {
    past = settings_reset_no_more a id setting over h.past;
    side = (adjusted_keeps over P law a id setting).keeps h.past.resets h.side;
  }
  call_only Call.AcceptStream a accepted said h = record {
    past = accepted_streams_reset_no_more a over h.past;
    side = (accepted_keeps over P law a).keeps h.past.resets h.side;
  }
  call_only (Call.SetMaxSendMessageSize size) a accepted said h = record {
    past = limits_reset_no_more a size over h.past;
    side = (limited_keeps over P law a size).keeps h.past.resets h.side;
  }
  call_only Call.Shutdown a accepted said h =
      record { past = shutdowns_reset_no_more a over h.past; side = h.side }
  call_only Call.Close a accepted said h = record {
    past = closes_reset_no_more a reasons.AssociationClosed over h.past;
    side = (closed_keeps over P law a reasons.AssociationClosed).keeps h.past.resets h.side;
  }
  call_only (Call.Read id) a accepted said h = record {
    past = reads_reset_no_more a id over h.past;
    side = read_holds over P law a id h.past.resets h.side;
  }
  call_only Call.Poll a accepted said h = record {
    past = told_events_reset_no_more a over h.past;
    side = event_told_holds over P law a h.side;
  }
  call_only Call.PollEndpointEvent a accepted said h =
      record { past = endpoint_events_reset_no_more a over h.past; side = h.side }
  call_only (Call.PollTransmit now) a accepted said h = record {
    past = polls_reset_no_more a now over h.past;
    side = polled_holds over P law a now h.side;
  }
  call_only (Call.HandleTimeout now) a accepted said h = record {
    past = timers_reset_no_more a now over h.past;
    side = (timeouts_keep over P law a now).keeps h.past.resets h.side;
  }
  call_only (Call.HandleEvent packet now) a accepted said h = packet_only over P law a packet now said h
  call_only (Call.Stop id) a accepted said h = record {
    past = stops_reset_that_stream over a id said h.past;
    side = (stopped_keeps over P law a id said).keeps h.past.resets h.side;
  }
  call_only (Call.CloseStream id) a accepted said h = closing_only a id said h

  pub called_only : (call : Call) (told : List Event) (a b : Shown) → Calls call told a b → CallIsOver over call
      → b.failed ≡ false → IsOnly over P a → IsOnly over P b
  called_only call told a b (inl c) said works h =
      subst (IsOnly over P) (ap (λ (x : Shown × List Event). x.0) c.there) (call_only call a c.accepted said h)
  called_only call told a b (inr (inl c)) said works h = subst (IsOnly over P) (sym c.same) h
  called_only call told a b (inr (inr c)) said works h = absurd (false≢true (sym works ∙ c.failed.marked))

  pub list_only : (calls : List Call) (told : List Event) (a b : Shown) → AllByRecursion (CallIsOver over) calls
      → IsRun calls told a b → b.failed ≡ false → IsOnly over P a → IsOnly over P b
  list_only [] told a b said run works h = subst (IsOnly over P) (sym run.same) h
  list_only (call ∷ calls) told a b said run works h =
      list_only calls run.later run.middle b said.1 run.others works
      (called_only call run.first a run.middle run.called said.0
      (run_worked calls run.later run.middle b run.others works) h)
