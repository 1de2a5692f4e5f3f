-- Over every list of calls a side tells of at most one loss.
use Rattle.std.proofs.Common.{◌≡◌, refl, sym, ap, ◌∙◌, subst, inl, inr, ℕ, zero, suc, ◌+◌, ◌≤◌, arith, Bool, true}
use Rattle.std.proofs.Common.{false, ◌&&◌}
use Rattle.std.proofs.Common.{◌||◌, not, if◌then◌else◌, List, [], ◌∷◌, Option, Some, None}
use Rattle.std.specs.Prelude.{remove, slice_get}
use Rattle.std.proofs.lemmas.Bool.{and_parts, false≢true, not-true, true≢false}
use Rattle.std.proofs.lemmas.List.Sums.{sum_by-append, sum_by-cons}
use Rattle.sctp_wire_types.specs.declared.error.Error.{Error}
use Rattle.sctp_streams.specs.declared.event.AssociationError.TheVariants as reasons
use Rattle.sctp_streams.specs.declared.event.Event.{Event}
use Rattle.sctp_resets.specs.Resets.{ResetsView, event_told, event_told_at, with_event}
use Rattle.sctp_resets.specs.Telling.{next_told}
use Rattle.sctp_assoc.specs.Calls.{accepted_stream, event_from, event_polled, fault_told, with_max_send_message_size}
use Rattle.sctp_assoc.specs.Calls.{written}
use Rattle.sctp_assoc.specs.Closing.{closed_by, is_closed_state, is_exhausted}
use Rattle.sctp_assoc.specs.Chunks.{after_packet}
use Rattle.sctp_sides.specs.Laws.{IsClosedIf, TellsNothing, DoesNotClose, closes, is_faulted_packet, loss_of, losses}
use Rattle.sctp_sides.specs.OneSide.{Call, Calls, IsFresh, IsUnchanged, IsRun, carried_out, told_by, with_told}
use Rattle.sctp_assoc.specs.Gather.{open_polled, polled}
use Rattle.sctp_assoc.specs.Shown.{Shown}
use Rattle.sctp_assoc.specs.Shutdown.{completes_shutdown}
use Rattle.sctp_assoc.specs.Timeouts.{after_timeouts}
use Rattle.sctp_sides.specs.Witnesses.{LossesAreToldOnce, loss_count}
use Rattle.sctp_sides.proofs.ClosingPackets.{faults_alone_close}
use Rattle.sctp_sides.proofs.ClosingPolls.{ended_shutdowns_alone_close, timers_do_not_close}
use Rattle.sctp_sides.proofs.EndedPolls.{closing_is_open}
use Rattle.sctp_sides.proofs.StatusOfPolls.{polls_keep_the_stage}
use Rattle.sctp_sides.proofs.ClosingCalls.{accepted_streams_do_not_close, closes_close, limits_do_not_close}
use Rattle.sctp_sides.proofs.ClosingCalls.{writes_do_not_close}
use Rattle.sctp_sides.proofs.TimersOverChunks.{IsSound}
use Rattle.sctp_sides.proofs.TimersOverRuns.{Fell, Works, accepted_works, call_sound, fell, fresh_ticks, sound_closed}
use Rattle.sctp_assoc.specs.Calls.{adjusted, holds_of, is_beginning, read_exhausts, read_from_stream, stopped}
use Rattle.sctp_assoc.specs.Calls.{stopped_open}
use Rattle.sctp_sides.specs.Laws.{poll_closes, read_closes, stop_closes}
use Rattle.sctp_sides.specs.Meeting.{IsAsFarOn}
use Rattle.sctp_parts.specs.State.{is_closing}
use Rattle.sctp_parts.specs.declared.state.AssociationState.{AssociationState}
use Rattle.sctp_parts.specs.declared.state.AssociationState.TheVariants as states
use Rattle.sctp_sides.proofs.ClosingPackets.{exhausting_reads_alone_close, exhausting_stops_alone_close}
use Rattle.sctp_streams.specs.declared.setting.Setting.TheVariants as settings
use Rattle.sctp_streams.specs.Stream.{is_read_half_open}

-- Of these losses that were told, and those that wait, there is one where it was lost.
record CountsLosses (n : ℕ) (a : Shown) : Type 0 where
  at_most : n ≤ loss_count a.lost
  in_all : a.failed ≡ false → n + losses a.events ≡ loss_count a.lost

-- What a call that is carried out told and left: one loss more where it closed the association, which was not lost.
record TellsLosses (closing : Bool) (a : Shown) (x : Shown × List Event) : Type 0 where
  lost : x.0.lost ≡ (closing || a.lost)
  count : losses x.1 + losses x.0.events ≡ losses a.events + (if closing then 1 else 0)
  once : closing ≡ true → a.lost ≡ false

tells_nothing : (a b : Shown) → b.lost ≡ a.lost → b.events ≡ a.events → TellsLosses false a (b, [])
tells_nothing a b lost events =
    let n : losses b.events ≡ losses a.events = ap losses events in
    record { lost = lost; count = omega (arith, n); once = λ e. absurd (false≢true e) }

unclosed_tells : (a b : Shown) → DoesNotClose a b → TellsLosses false a (b, [])
unclosed_tells a b h =
    record { lost = h.lost; count = omega (arith, h.told); once = λ e. absurd (false≢true e) }

fault_counts : (o : Option Error) → losses (told_by (fault_told o)) ≡ 0
fault_counts None = refl
fault_counts (Some fault) = refl

-- an event that is told was among those that waited
removed_tells : (es : List Event) (index : ℕ)
    → losses (remove es index) + losses (told_by (slice_get es index)) ≡ losses es
removed_tells [] zero = refl
removed_tells [] (suc index) = refl
removed_tells (e ∷ es) zero =
    let one : losses (e ∷ []) ≡ loss_of e + losses [] = sum_by-cons loss_of e [] in
    let all : losses (e ∷ es) ≡ loss_of e + losses es = sum_by-cons loss_of e es in
    omega (arith, one, all)
removed_tells (e ∷ es) (suc index) =
    let left : losses (e ∷ remove es index) ≡ loss_of e + losses (remove es index) =
    sum_by-cons loss_of e (remove es index) in
    let all : losses (e ∷ es) ≡ loss_of e + losses es = sum_by-cons loss_of e es in
    let on : losses (remove es index) + losses (told_by (slice_get es index)) ≡ losses es = removed_tells es index in
    omega (arith, left, all, on)

poll_counts : (x : ResetsView × List Event × Option Event) (a : Shown)
    → losses x.1 + losses (told_by x.2) ≡ losses a.events → TellsLosses false a (with_told (event_from x a))
poll_counts (r, left, None) a e =
    let n : losses (told_by (fault_told a.handshake_fault)) ≡ 0 = fault_counts a.handshake_fault in
    record { lost = refl; count = omega (arith, n, e); once = λ c. absurd (false≢true c) }
poll_counts (r, left, Some event) a e =
    record { lost = refl; count = omega (arith, e); once = λ c. absurd (false≢true c) }

with_event_counts : (o : Option Event) (r : ResetsView) (rest : List Event)
    → losses (with_event o r rest).1 + losses (told_by (with_event o r rest).2) ≡ losses rest + losses (told_by o)
with_event_counts None r rest = refl
with_event_counts (Some event) r rest = refl

told_counts : (o : Option ℕ) (r : ResetsView) (queued : List Event)
    → losses (event_told_at o r queued).1 + losses (told_by (event_told_at o r queued).2) ≡ losses queued
told_counts None r queued = omega arith
told_counts (Some index) r queued =
    with_event_counts (slice_get queued index) r (remove queued index) ∙ removed_tells queued index

poll_tells : (a : Shown) → TellsLosses false a (with_told (event_polled a))
poll_tells a =
    poll_counts (event_told a.resets a.events) a
    (told_counts (next_told a.resets.generations a.resets.debts a.events) a.resets a.events)

closes_once : (lost faulted : Bool) → (not lost && faulted) ≡ true → lost ≡ false
closes_once lost faulted e = not-true lost (and_parts (not lost) faulted e).0

closing_tells : (closing : Bool) (a b : Shown) → IsClosedIf closing a b → (closing ≡ true → a.lost ≡ false)
    → TellsLosses closing a (b, [])
closing_tells closing a b h once = record { lost = h.lost; count = omega (arith, h.told); once = once }

-- how a call that is carried out closes the association
abbrev closes_by : Call → Shown → Bool
closes_by (Call.OpenStream id kind) a = false
closes_by (Call.Write id named bytes) a = false
closes_by (Call.Set id setting) a = false
closes_by Call.AcceptStream a = false
closes_by (Call.SetMaxSendMessageSize size) a = false
closes_by Call.Shutdown a = false
closes_by Call.PollEndpointEvent a = false
closes_by Call.Close a = not (is_closed_state a.state)
closes_by (Call.Read id) a = read_closes a id
closes_by Call.Poll a = false
closes_by (Call.PollTransmit now) a = poll_closes a now
closes_by (Call.HandleTimeout now) a = false
closes_by (Call.HandleEvent packet now) a = closes a packet now
closes_by (Call.Stop id) a = stop_closes a id
closes_by (Call.CloseStream id) a = stop_closes (adjusted a id settings.WriteHalfClosed) id

open_tells : (a b : Shown) → TellsNothing a b → TellsLosses false a (b, [])
open_tells a b h = tells_nothing a b h.lost h.events

-- what is not closed was not lost, where each association that was lost is closed
open_is_kept : (closed lost : Bool) → (lost ≡ true → closed ≡ true) → not closed ≡ true → lost ≡ false
open_is_kept closed false ends e = refl
open_is_kept true true ends e = absurd (false≢true e)
open_is_kept false true ends e = absurd (false≢true (ends refl))

-- nor was one that is left exhausted, and is closed by that
exhausted_is_kept : (exhausts closed lost : Bool) → (lost ≡ true → closed ≡ true) → (exhausts && not closed) ≡ true
    → lost ≡ false
exhausted_is_kept true closed lost ends e = open_is_kept closed lost ends e
exhausted_is_kept false closed lost ends e = absurd (false≢true e)

-- an association that was lost is closed
abbrev EndsClosed : Shown → Type 0
EndsClosed a = a.lost ≡ true → is_closed_state a.state ≡ true

-- An association in which a poll ends a shutdown was open before the poll: its front leads no closed one on.
begun_is_open : (s : AssociationState) → is_beginning s ≡ false → is_closed_state s ≡ false
begun_is_open states.Closed e = absurd (true≢false e)
begun_is_open states.CookieWait e = refl
begun_is_open states.CookieEchoed e = refl
begun_is_open states.Established e = refl
begun_is_open states.ShutdownAckSent e = refl
begun_is_open states.ShutdownPending e = refl
begun_is_open states.ShutdownReceived e = refl
begun_is_open states.ShutdownSent e = refl

closing_if : (closing shutdown shutdown_ack complete : Bool)
    → (closing && not shutdown && not shutdown_ack && complete) ≡ true → closing ≡ true
closing_if true shutdown shutdown_ack complete e = refl
closing_if false shutdown shutdown_ack complete e = absurd (false≢true e)

completing_is_closing : (m : Shown) → completes_shutdown m ≡ true → is_closing m.state ≡ true
completing_is_closing m e =
    let due = m.shutdown_due in
    closing_if (is_closing m.state) due.shutdown due.shutdown_ack due.shutdown_complete e

was_open : (s t : AssociationState) → IsAsFarOn s t → is_closing t ≡ true → is_closed_state s ≡ false
was_open s t (inl same) e = closing_is_open s (ap is_closing (sym same) ∙ e)
was_open s t (inr (begun, later)) e = begun_is_open s begun

open_was_kept : (lost : Bool) (a : Shown) → (lost ≡ true → is_closed_state a.state ≡ true)
    → is_closed_state a.state ≡ false → lost ≡ false
open_was_kept false a ends e = refl
open_was_kept true a ends e = absurd (false≢true (sym e ∙ ends refl))

stop_tells : (a : Shown) (id : ℕ) → EndsClosed a → TellsLosses (stop_closes a id) a (stopped a id, [])
stop_tells a id ends =
    closing_tells (stop_closes a id) a (stopped a id) (exhausting_stops_alone_close a id)
    (exhausted_is_kept (holds_of (λ s. is_read_half_open s.halves) a id && is_exhausted (stopped_open a id))
    (is_closed_state a.state) a.lost ends)

-- the same is told from before a setting on, which neither loses nor tells
tells_behind : (closing : Bool) (a b : Shown) (x : Shown × List Event) → b.lost ≡ a.lost → b.events ≡ a.events
    → TellsLosses closing b x → TellsLosses closing a x
tells_behind closing a b x lost events t = record {
  lost = t.lost ∙ ap (λ (z : Bool). closing || z) lost;
  count = t.count ∙ ap (λ (z : List Event). losses z + (if closing then 1 else 0)) events;
  once = λ e. sym lost ∙ t.once e;
}

carried_tells : (call : Call) (a : Shown) → EndsClosed a → TellsLosses (closes_by call a) a (carried_out call a)
carried_tells (Call.OpenStream id kind) a ends = tells_nothing a _ refl refl
carried_tells (Call.Write id named bytes) a ends =
    unclosed_tells a (written a id named bytes) (writes_do_not_close a id named bytes)
carried_tells (Call.Set id setting) a ends = tells_nothing a _ refl refl
carried_tells Call.AcceptStream a ends = open_tells a (accepted_stream a).0 (accepted_streams_do_not_close a)
carried_tells (Call.SetMaxSendMessageSize size) a ends =
    open_tells a (with_max_send_message_size a size) (limits_do_not_close a size)
carried_tells Call.Shutdown a ends = tells_nothing a _ refl refl
carried_tells Call.PollEndpointEvent a ends = tells_nothing a _ refl refl
carried_tells Call.Close a ends =
    closing_tells (not (is_closed_state a.state)) a (closed_by a reasons.AssociationClosed)
    (closes_close a reasons.AssociationClosed) (open_is_kept (is_closed_state a.state) a.lost ends)
carried_tells (Call.Read id) a ends =
    closing_tells (read_closes a id) a (read_from_stream a id).0 (exhausting_reads_alone_close a id)
    (exhausted_is_kept (read_exhausts a id) (is_closed_state a.state) a.lost ends)
carried_tells Call.Poll a ends = poll_tells a
carried_tells (Call.PollTransmit now) a ends =
    closing_tells (poll_closes a now) a (polled a now).0 (ended_shutdowns_alone_close a now)
    (λ e. open_was_kept a.lost a ends
    (was_open a.state (open_polled a now).0.state (polls_keep_the_stage a now).front.state
    (completing_is_closing (open_polled a now).0 e)))
carried_tells (Call.HandleTimeout now) a ends = unclosed_tells a (after_timeouts a now) (timers_do_not_close a now)
carried_tells (Call.HandleEvent packet now) a ends =
    closing_tells (closes a packet now) a (after_packet a packet now) (faults_alone_close a packet now)
    (closes_once a.lost (is_faulted_packet a packet now))
carried_tells (Call.Stop id) a ends = stop_tells a id ends
carried_tells (Call.CloseStream id) a ends =
    let b : Shown = adjusted a id settings.WriteHalfClosed in
    tells_behind (stop_closes b id) a b (stopped b id, []) refl refl (stop_tells b id ends)

counts_all : (n : ℕ) (x : Shown × List Event) → n + losses x.1 + losses x.0.events ≡ loss_count x.0.lost
    → CountsLosses (n + losses x.1) x.0
counts_all n x e = record { at_most = omega (arith, e); in_all = λ _. e }

counts_on : (closing : Bool) (n : ℕ) (a : Shown) (x : Shown × List Event) → a.failed ≡ false → CountsLosses n a
    → TellsLosses closing a x → CountsLosses (n + losses x.1) x.0
counts_on false n a x works h t =
    let before : n + losses a.events ≡ loss_count a.lost = h.in_all works in
    let after : loss_count x.0.lost ≡ loss_count a.lost = ap loss_count t.lost in
    counts_all n x (omega (arith, before, after, t.count))
counts_on true n a x works h t =
    let before : n + losses a.events ≡ loss_count a.lost = h.in_all works in
    let none : loss_count a.lost ≡ 0 = ap loss_count (t.once refl) in
    let after : loss_count x.0.lost ≡ 1 = ap loss_count t.lost in
    counts_all n x (omega (arith, before, none, after, t.count))

counts_still : (n : ℕ) (a : Shown) → CountsLosses n a → CountsLosses (n + losses []) a
counts_still n a h = record { at_most = omega (arith, h.at_most); in_all = λ e. omega (arith, h.in_all e) }

counts_unchanged : (n : ℕ) (told : List Event) (a b : Shown) → CountsLosses n a → IsUnchanged told a b
    → CountsLosses (n + losses told) b
counts_unchanged n told a b h r =
    subst (λ (z : List Event). CountsLosses (n + losses z) b) (sym r.silent)
    (counts_still n b (subst (λ (z : Shown). CountsLosses n z) (sym r.same) h))

counts_fell : (n : ℕ) (a b : Shown) → CountsLosses n a → Fell a b → CountsLosses (n + losses []) b
counts_fell n a b h f =
    let same : loss_count b.lost ≡ loss_count a.lost = ap loss_count f.lost in
    record { at_most = omega (arith, h.at_most, same); in_all = λ e. absurd (true≢false (sym f.failed ∙ e)) }

carried_counts : (call : Call) (n : ℕ) (a : Shown) → EndsClosed a → CountsLosses n a → Works call a
    → CountsLosses (n + losses (carried_out call a).1) (carried_out call a).0
carried_counts call n a ends h (inl works) =
    counts_on (closes_by call a) n a (carried_out call a) works h (carried_tells call a ends)
carried_counts call n a ends h (inr (event, same)) =
    subst (λ (x : Shown × List Event). CountsLosses (n + losses x.1) x.0) (sym same)
    (counts_still n (record a { endpoint_event = event }) (record { at_most = h.at_most; in_all = h.in_all }))

call_counts : (call : Call) (n : ℕ) (told : List Event) (a b : Shown) → EndsClosed a → CountsLosses n a
    → Calls call told a b → CountsLosses (n + losses told) b
call_counts call n told a b ends h (inl c) =
    subst (λ (x : Shown × List Event). CountsLosses (n + losses x.1) x.0) c.there
    (carried_counts call n a ends h (accepted_works call a c.accepted))
call_counts call n told a b ends h (inr (inl c)) = counts_unchanged n told a b h c
call_counts call n told a b ends h (inr (inr c)) =
    subst (λ (z : List Event). CountsLosses (n + losses z) b) (sym c.silent) (counts_fell n a b h (fell a b c.failed))

run_counts : (calls : List Call) (n : ℕ) (told : List Event) (a b : Shown) → IsSound a → CountsLosses n a
    → IsRun calls told a b → CountsLosses (n + losses told) b
run_counts [] n told a b sound h r = counts_unchanged n told a b h r
run_counts (c ∷ cs) n told a b sound h r =
    let all : losses told ≡ losses r.first + losses r.later = ap losses r.in_order
    ∙ sum_by-append loss_of r.first r.later in
    let sums : n + losses r.first + losses r.later ≡ n + losses told = omega (arith, all) in
    subst (λ (z : ℕ). CountsLosses z b) sums (run_counts cs (n + losses r.first) r.later r.middle b
    (call_sound c r.first a r.middle sound r.called)
    (call_counts c n r.first a r.middle (sound_closed a sound) h r.called) r.others)

fresh_counts : (a : Shown) → IsFresh a → CountsLosses 0 a
fresh_counts a h =
    let none : loss_count a.lost ≡ 0 = ap loss_count h.not_lost in
    record { at_most = omega arith; in_all = λ e. omega (arith, h.untold, none) }

pub losses_are_told_once : LossesAreToldOnce
losses_are_told_once calls told a b h r =
    let all = run_counts calls 0 told a b (inl (fresh_ticks a h)) (fresh_counts a h) r in
    record { told_at_most = omega (arith, all.at_most); in_all = λ e. omega (arith, all.in_all e) }
