-- Each call leaves a shutdown in order, unless the side was lost, and it stays lost then. SHUTDOWN COMPLETE goes out
-- where it was due before the poll.
use Rattle.std.proofs.Common.{◌≡◌, refl, sym, ap, ◌∙◌, ◌⊎◌, ⊎_elim, inl, inr, ℕ, Bool, true, false, ◌||◌}
use Rattle.std.proofs.Common.{if◌then◌else◌}
use Rattle.std.proofs.lemmas.Bool.{false≢true, true≢false}
use Rattle.sctp_parts.specs.declared.state.AssociationState.{AssociationState}
use Rattle.sctp_parts.specs.declared.state.AssociationState.TheVariants as states
use Rattle.sctp_parts.specs.State.{is_closing}
use Rattle.std.specs.Prelude.{not, ◌&&◌}
use Rattle.sctp_streams.specs.declared.event.AssociationError.TheVariants as reasons
use Rattle.sctp_streams.specs.declared.setting.Setting.TheVariants as settings
use Rattle.sctp_assoc.specs.declared.shutdown.ShutdownDue.{ShutdownDue}
use Rattle.sctp_assoc.specs.Calls.{adjusted, event_polled, exchanges_data}
use Rattle.sctp_assoc.specs.Gather.{control_polled, data_after, data_polled, open_polled}
use Rattle.sctp_assoc.specs.Shown.{Shown}
use Rattle.sctp_assoc.specs.Shutdown.{all_acknowledged, due_behind_data}
use Rattle.sctp_sides.specs.Ending.{IsInOrderOrLost, PollsCompleteWhatIsDue, ShutdownsStayInOrder}
use Rattle.sctp_sides.specs.Laws.{IsClosedIf}
use Rattle.sctp_sides.specs.OneSide.{Call, carried_out}
use Rattle.sctp_sides.proofs.ClosingCalls.{accepted_streams_do_not_close, closes_close, limits_do_not_close}
use Rattle.sctp_sides.proofs.ClosingCalls.{writes_do_not_close}
use Rattle.sctp_sides.proofs.ClosingPackets.{exhausting_reads_alone_close, exhausting_stops_alone_close}
use Rattle.sctp_sides.proofs.ClosingPackets.{faults_alone_close}
use Rattle.sctp_sides.proofs.ClosingPolls.{ended_shutdowns_alone_close, timers_do_not_close}
use Rattle.sctp_sides.proofs.PollsLeave.{after_requests, control_leaves, polled_from, silent_is}
use Rattle.sctp_sides.proofs.ResetsBeside.{run_changes}
use Rattle.sctp_sides.proofs.ShutdownOrder.{IsOrderedOrRests, data_leaves_due}
use Rattle.sctp_sides.proofs.ShutdownsOverRuns.{carried_order}
use Rattle.sctp_sides.proofs.Status.{told_events_keep_the_status}

-- A side that was lost stays so

either_lost : (closing lost : Bool) → lost ≡ true → (closing || lost) ≡ true
either_lost true lost e = refl
either_lost false lost e = e

closed_stays_lost : (closing : Bool) (a b : Shown) → IsClosedIf closing a b → a.lost ≡ true → b.lost ≡ true
closed_stays_lost closing a b h e = h.lost ∙ either_lost closing a.lost e

stays_lost : (call : Call) (a : Shown) → a.lost ≡ true → (carried_out call a).0.lost ≡ true
stays_lost (Call.OpenStream id kind) a e = e
stays_lost (Call.Write id named bytes) a e = (writes_do_not_close a id named bytes).lost ∙ e
stays_lost (Call.Set id setting) a e = e
stays_lost Call.AcceptStream a e = (accepted_streams_do_not_close a).lost ∙ e
stays_lost (Call.SetMaxSendMessageSize size) a e = (limits_do_not_close a size).lost ∙ e
stays_lost Call.Shutdown a e = e
stays_lost Call.Close a e = closed_stays_lost _ a _ (closes_close a reasons.AssociationClosed) e
stays_lost (Call.Read id) a e = closed_stays_lost _ a _ (exhausting_reads_alone_close a id) e
stays_lost Call.Poll a e = (told_events_keep_the_status a (event_polled a).0 (event_polled a).1 refl).0.lost ∙ e
stays_lost Call.PollEndpointEvent a e = e
stays_lost (Call.PollTransmit now) a e = closed_stays_lost _ a _ (ended_shutdowns_alone_close a now) e
stays_lost (Call.HandleTimeout now) a e = (timers_do_not_close a now).lost ∙ e
stays_lost (Call.HandleEvent packet now) a e = closed_stays_lost _ a _ (faults_alone_close a packet now) e
stays_lost (Call.Stop id) a e = closed_stays_lost _ a _ (exhausting_stops_alone_close a id) e
stays_lost (Call.CloseStream id) a e =
    closed_stays_lost _ (adjusted a id settings.WriteHalfClosed) _
    (exhausting_stops_alone_close (adjusted a id settings.WriteHalfClosed) id) e

-- what is at rest and works was lost
in_order_or_lost : (b : Shown) → b.failed ≡ false → IsOrderedOrRests b → IsInOrderOrLost b
in_order_or_lost b works (inl h) = inl h
in_order_or_lost b works (inr h) = ⊎_elim
    (λ (failed : b.failed ≡ true). absurd (true≢false (sym failed ∙ works)))
    (λ (lost : b.lost ≡ true). inr lost)
    h.over

pub shutdowns_stay_in_order : ShutdownsStayInOrder
shutdowns_stay_in_order call a made works (inl h) =
    in_order_or_lost (carried_out call a).0 works (carried_order call a made h)
shutdowns_stay_in_order call a made works (inr lost) = inr (stays_lost call a lost)

-- SHUTDOWN COMPLETE in a poll

-- whether SHUTDOWN COMPLETE is due
abbrev completes : Shown → Bool
completes a = a.shutdown_due.shutdown_complete

completes_behind_data : (s : AssociationState) (due : ShutdownDue)
    → (due_behind_data s due).shutdown_complete ≡ due.shutdown_complete
completes_behind_data states.Closed due = refl
completes_behind_data states.CookieWait due = refl
completes_behind_data states.CookieEchoed due = refl
completes_behind_data states.Established due = refl
completes_behind_data states.ShutdownAckSent due = refl
completes_behind_data states.ShutdownPending due = refl
completes_behind_data states.ShutdownReceived due = refl
completes_behind_data states.ShutdownSent due = refl

completes_if : (acknowledged : Bool) (s : AssociationState) (due : ShutdownDue)
    → (if acknowledged then due_behind_data s due else due).shutdown_complete ≡ due.shutdown_complete
completes_if true s due = completes_behind_data s due
completes_if false s due = refl

completes_after_data : (a : Shown) (now : ℕ) → completes (data_after a now).0 ≡ completes a
completes_after_data a now =
    let b : Shown = (data_polled a now).0 in
    completes_if (all_acknowledged b) b.state b.shutdown_due
    ∙ ap (λ (d : ShutdownDue). d.shutdown_complete) (data_leaves_due a now)

-- what a poll does in front leaves it
front_completes : (exchanges : Bool) (a : Shown) (now : ℕ) → exchanges_data a.state ≡ exchanges
    → completes (open_polled a now).0 ≡ completes a
front_completes true a now e =
    let p = polled_from a now e in
    let b : Shown = after_requests p.asked in
    ap completes p.there ∙ ap completes (run_changes b now) ∙ ap completes p.requests ∙ completes_after_data a now
front_completes false a now e =
    let b : Shown = (control_polled a).0 in
    ap completes (silent_is a now e) ∙ ap completes (run_changes b now) ∙ ap completes (control_leaves a)

-- what completes a shutdown is SHUTDOWN COMPLETE
is_due_there : (closing shutdown shutdown_ack complete : Bool)
    → (closing && not shutdown && not shutdown_ack && complete) ≡ true → complete ≡ true
is_due_there true false false complete e = e
is_due_there true false true complete e = absurd (false≢true e)
is_due_there true true shutdown_ack complete e = absurd (false≢true e)
is_due_there false shutdown shutdown_ack complete e = absurd (false≢true e)

pub polls_complete_what_is_due : PollsCompleteWhatIsDue
polls_complete_what_is_due a now e =
    let m : Shown = (open_polled a now).0 in
    sym (front_completes (exchanges_data a.state) a now refl)
    ∙ is_due_there (is_closing m.state) m.shutdown_due.shutdown m.shutdown_due.shutdown_ack
    m.shutdown_due.shutdown_complete e
