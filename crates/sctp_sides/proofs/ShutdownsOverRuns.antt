-- Over every list of calls a shutdown waits for all DATA of its side and no longer, and the timer of the answer to
-- SHUTDOWN or SHUTDOWN ACK runs where one of them waits for its answer alone (RFC 4960 section 9.2).
use Rattle.std.proofs.Common.{◌≡◌, refl, sym, ap, ◌∙◌, subst, ◌⊎◌, inl, inr, ℕ, Bool, true, false, if◌then◌else◌, List}
use Rattle.std.proofs.Common.{[], ◌∷◌, Option, Some, None}
use Rattle.std.proofs.lemmas.Bool.{false≢true}
use Rattle.sctp_wire_types.specs.declared.ids.PayloadProtocolIdentifier.{PayloadProtocolIdentifier}
use Rattle.sctp_parts.specs.declared.timer.Timer.TheVariants as names
use Rattle.sctp_parts.specs.State.{is_closing}
use Rattle.sctp_streams.specs.declared.event.AssociationError.TheVariants as reasons
use Rattle.sctp_streams.specs.declared.event.Event.{Event}
use Rattle.sctp_streams.specs.declared.setting.Setting.TheVariants as settings
use Rattle.sctp_streams.specs.Stream.{StreamView, is_read_half_open}
use Rattle.sctp_streams.specs.Streams.{StreamMap, read_in, stream_at}
use Rattle.sctp_receive_queues.specs.Messages.{ReceivedMessage}
use Rattle.sctp_resets.specs.Resets.{ResetsView, event_told}
use Rattle.sctp_assoc.specs.declared.shutdown.ShutdownDue.{ShutdownDue}
use Rattle.sctp_assoc.specs.Calls.{accepted_from, adjusted, after_read, credit_in, drained_behind, eased, event_from}
use Rattle.sctp_assoc.specs.Calls.{holds_of, is_established, stopped_open, tells_window, told_if, written_at}
use Rattle.sctp_assoc.specs.Closing.{is_closed_state, is_exhausted}
use Rattle.sctp_assoc.specs.Shown.{Shown}
use Rattle.sctp_assoc.specs.Shutdown.{all_acknowledged, awaits_answer}
use Rattle.sctp_sides.specs.Ending.{IsInOrder, IsMade, is_any_due}
use Rattle.sctp_sides.specs.OneSide.{Call, Calls, IsFresh, IsRun, call_refusal, carried_out, is_armed, with_told}
use Rattle.sctp_sides.specs.Witnesses.{ShutdownsAreTimedInTheirStatesAlone, ShutdownsFollowAllData}
use Rattle.sctp_sides.specs.Witnesses.{ShutdownsGoOnBehindData, is_waiting_for_data}
use Rattle.sctp_sides.proofs.LiveStreams.{accepted_writes_fit}
use Rattle.sctp_sides.proofs.ResetsBeside.{draining_changes, stop_changes}
use Rattle.sctp_sides.proofs.ShutdownOrder.{IsOrderedOrRests, begun_order}
use Rattle.sctp_sides.proofs.ShutdownOrder.{established_is_not_closing, in_use, nothing_awaited, order_beside, order_by}
use Rattle.sctp_sides.proofs.ShutdownOrder.{poll_order, timeouts_order}
use Rattle.sctp_sides.proofs.ShutdownsOverChunks.{closed_order, exhausted_order, packets_order}
use Rattle.sctp_sides.proofs.TimersOverChunks.{IsSound}
use Rattle.sctp_sides.proofs.TimersOverRuns.{call_rests, call_sound, fresh_ticks, is_lost}
use Rattle.sctp_sides.proofs.TimersRun.{AtRest, Ticks, begins_established, closed_gives_nothing, unarmed}
use Rattle.sctp_sides.proofs.WindowsTold.{eased_exhausted, eased_plainly}

-- One call

-- a write is accepted in Established alone, where no shutdown goes on
write_order : (o : Option StreamView) (a : Shown) (id : ℕ) (named : Option PayloadProtocolIdentifier) (bytes : List ℕ)
    → is_closing a.state ≡ false → IsInOrder a → IsInOrder (written_at o a id named bytes)
write_order None a id named bytes e h = h
write_order (Some s) a id named bytes e h = record {
  order = in_use _ _ a.state a.state a.shutdown_due (is_armed names.T2Shutdown a.timers) h.order e e;
}

accepted_order : (ids : List ℕ) (a : Shown) → IsInOrder a → IsInOrder (accepted_from ids a).0
accepted_order [] a h = h
accepted_order (id ∷ ids) a h = order_by a _ refl refl refl refl h

accept_order : (failed : Bool) (a : Shown) → IsInOrder a
    → IsInOrder (if failed then (a, None) else accepted_from a.to_accept a).0
accept_order true a h = h
accept_order false a h = accepted_order a.to_accept a h

limit_order : (failed : Bool) (a : Shown) (size : ℕ) → IsInOrder a
    → IsInOrder (if failed then a else record a { max_send_message_size = size })
limit_order true a size h = h
limit_order false a size h = order_by a _ refl refl refl refl h

event_order : (x : ResetsView × List Event × Option Event) (a : Shown) → IsInOrder a
    → IsInOrder (with_told (event_from x a)).0
event_order (r, left, None) a h = order_by a _ refl refl refl refl h
event_order (r, left, Some e) a h = order_by a _ refl refl refl refl h

-- a window that is told changes nothing of that
told_window_order : (tells : Bool) (b : Shown) → IsInOrder b → IsInOrder (told_if tells b)
told_window_order true b h = order_by b _ refl refl refl refl h
told_window_order false b h = h

eased_order : (exhausts : Bool) (before : ℕ) (b : Shown) → is_exhausted b ≡ exhausts → IsInOrder b
    → IsOrderedOrRests (eased before b)
eased_order true before b e h =
    subst IsOrderedOrRests (sym (eased_exhausted before b e)) (exhausted_order (is_closed_state b.state) b h)
eased_order false before b e h =
    subst IsOrderedOrRests (sym (eased_plainly before b e)) (inl (told_window_order (tells_window before b) b h))

read_order : (x : StreamMap × Option ReceivedMessage) (a : Shown) (id : ℕ) → IsInOrder a
    → IsOrderedOrRests (after_read a id x).0
read_order (streams, None) a id h = inl (order_beside a _ (draining_changes a id streams) h)
read_order (streams, Some message) a id h =
    let b : Shown = drained_behind a id streams in
    eased_order (is_exhausted b) (credit_in a) b refl (order_beside a b (draining_changes a id streams) h)

stop_order : (opened : Bool) (before : ℕ) (a : Shown) (id : ℕ) → IsInOrder a
    → IsOrderedOrRests (if opened then eased before (stopped_open a id) else a)
stop_order true before a id h =
    let b : Shown = stopped_open a id in
    eased_order (is_exhausted b) before b refl (order_beside a b (stop_changes a id) h)
stop_order false before a id h = inl h

pub carried_order : (call : Call) (a : Shown) → IsMade call a → IsInOrder a
    → IsOrderedOrRests (carried_out call a).0
carried_order (Call.OpenStream id kind) a e h = inl (order_by a _ refl refl refl refl h)
carried_order (Call.Write id named bytes) a e h =
    inl (write_order (stream_at a.streams id) a id named bytes
    (established_is_not_closing a.state (accepted_writes_fit a id _ e).established) h)
carried_order (Call.Set id setting) a e h = inl (order_by a _ refl refl refl refl h)
carried_order Call.AcceptStream a e h = inl (accept_order a.failed a h)
carried_order (Call.SetMaxSendMessageSize size) a e h = inl (limit_order a.failed a size h)
carried_order Call.Shutdown a e h =
    inl (begun_order a (begins_established a.failed (is_established a.state) _ _ e) h)
carried_order Call.Close a e h = closed_order (is_closed_state a.state) a reasons.AssociationClosed h
carried_order (Call.Read id) a e h = read_order (read_in a.streams id) a id h
carried_order Call.Poll a e h = inl (event_order (event_told a.resets a.events) a h)
carried_order Call.PollEndpointEvent a e h = inl (order_by a _ refl refl refl refl h)
carried_order (Call.PollTransmit now) a e h = poll_order a now h
carried_order (Call.HandleTimeout now) a e h = inl (timeouts_order a now h)
carried_order (Call.HandleEvent packet now) a e h = packets_order packet a now h
carried_order (Call.Stop id) a e h =
    stop_order (holds_of (λ s. is_read_half_open s.halves) a id) (credit_in a) a id h
carried_order (Call.CloseStream id) a e h =
    let b : Shown = adjusted a id settings.WriteHalfClosed in
    stop_order (holds_of (λ s. is_read_half_open s.halves) b id) (credit_in b) b id (order_by a b refl refl refl refl h)

is_made : (call : Call) (a : Shown) → call_refusal call a ≡ None → IsMade call a
is_made (Call.Write id named bytes) a e = e
is_made Call.Shutdown a e = e
is_made call a e = tt

-- it works in order, or is at rest
abbrev Stands : Shown → Type 0
Stands a = (Ticks a × IsInOrder a) ⊎ AtRest a

both_stand : (b : Shown) → IsSound b → IsOrderedOrRests b → Stands b
both_stand b (inl t) (inl o) = inl (t, o)
both_stand b (inl t) (inr r) = inr r
both_stand b (inr r) o = inr r

call_stands : (call : Call) (told : List Event) (a b : Shown) → Stands a → Calls call told a b → Stands b
call_stands call told a b (inr h) c = inr (call_rests call told a b h c)
call_stands call told a b (inl (t, o)) (inl c) =
    both_stand b (call_sound call told a b (inl t) (inl c))
    (subst (λ (x : Shown × List Event). IsOrderedOrRests x.0) c.there
    (carried_order call a (is_made call a c.accepted) o))
call_stands call told a b (inl (t, o)) (inr (inl c)) = subst Stands (sym c.same) (inl (t, o))
call_stands call told a b (inl (t, o)) (inr (inr c)) = fails (call_sound call told a b (inl t) (inr (inr c)))
  where
    fails : IsSound b → Stands b
    fails (inl u) = absurd (false≢true (sym u.working ∙ c.failed.marked))
    fails (inr r) = inr r

-- All calls

run_stands : (calls : List Call) (told : List Event) (a b : Shown) → Stands a → IsRun calls told a b → Stands b
run_stands [] told a b h r = subst Stands (sym r.same) h
run_stands (c ∷ cs) told a b h r =
    run_stands cs r.later r.middle b (call_stands c r.first a r.middle h r.called) r.others

fresh_order : (a : Shown) → IsFresh a → IsInOrder a
fresh_order a f =
    let none = nothing_awaited a.state f.in_use in
    let undue : is_any_due a.shutdown_due ≡ false =
    ap is_any_due f.no_shutdown in
    record {
      order = record {
        behind_data = λ e. absurd (false≢true (sym none.0 ∙ e));
        before_data = λ e. absurd (false≢true (sym none.1 ∙ e));
        asked = λ e. absurd (false≢true (sym undue ∙ e));
        agreed = λ e. absurd (false≢true (sym (ap (λ (d : ShutdownDue). d.shutdown_ack) f.no_shutdown) ∙ e));
        answered = λ e. absurd (false≢true (sym f.answer ∙ e));
        lives = λ e. absurd (false≢true (sym none.0 ∙ e));
      };
    }

after_run : (calls : List Call) (told : List Event) (a b : Shown) → IsFresh a → IsRun calls told a b → Stands b
after_run calls told a b f r = run_stands calls told a b (inl (fresh_ticks a f, fresh_order a f)) r

-- The laws

timed_alone : (b : Shown) → Stands b → is_armed names.T2Shutdown b.timers ≡ true → awaits_answer b.state ≡ true
timed_alone b (inl (t, o)) e = o.order.answered e
timed_alone b (inr h) e = absurd (false≢true (sym (unarmed names.T2Shutdown b.timers h.stopped) ∙ e))

pub shutdowns_are_timed_in_their_states_alone : ShutdownsAreTimedInTheirStatesAlone
shutdowns_are_timed_in_their_states_alone calls told a b f r = timed_alone b (after_run calls told a b f r)

-- in Closed no shutdown goes on
rests_closed : (b : Shown) → b.failed ≡ false → AtRest b → is_closing b.state ≡ false
rests_closed b works h = (closed_gives_nothing b.state (h.closed (is_lost b works h))).1

follows : (b : Shown) → Stands b → b.failed ≡ false → awaits_answer b.state ≡ true → all_acknowledged b ≡ true
follows b (inl (t, o)) works e = o.order.behind_data e
follows b (inr h) works e =
    absurd (false≢true (sym (nothing_awaited b.state (rests_closed b works h)).0 ∙ e))

pub shutdowns_follow_all_data : ShutdownsFollowAllData
shutdowns_follow_all_data calls told a b f r = follows b (after_run calls told a b f r)

goes_on : (b : Shown) → Stands b → b.failed ≡ false → is_waiting_for_data b.state ≡ true
    → all_acknowledged b ≡ false
goes_on b (inl (t, o)) works e = o.order.before_data e
goes_on b (inr h) works e =
    absurd (false≢true (sym (nothing_awaited b.state (rests_closed b works h)).1 ∙ e))

pub shutdowns_go_on_behind_data : ShutdownsGoOnBehindData
shutdowns_go_on_behind_data calls told a b f r = goes_on b (after_run calls told a b f r)
