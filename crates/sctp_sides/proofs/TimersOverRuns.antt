-- Over every list of calls a side works with its timers where they should run, or is at rest.
use Rattle.std.proofs.Common.{◌≡◌, refl, sym, ap, ◌∙◌, subst, ◌⊎◌, ⊎_elim, inl, inr, ℕ, ◌<◌, Bool, true, false}
use Rattle.std.proofs.Common.{if◌then◌else◌, List, [], ◌∷◌, length, Option, Some, None, is_some}
use Rattle.std.proofs.lemmas.Bool.{false≢true, true≢false}
use Rattle.sctp_wire_types.specs.Config.{is_rfc}
use Rattle.sctp_wire_types.specs.declared.error.Error.{Error}
use Rattle.sctp_wire_types.specs.declared.ids.PayloadProtocolIdentifier.{PayloadProtocolIdentifier}
use Rattle.sctp_parts.specs.declared.shared.EndpointEvent.{EndpointEvent}
use Rattle.sctp_parts.specs.declared.state.AssociationState.{AssociationState}
use Rattle.sctp_parts.specs.declared.state.AssociationState.TheVariants as states
use Rattle.sctp_parts.specs.declared.timer.Timer.TheVariants as names
use Rattle.sctp_parts.specs.Shared.{drained_event}
use Rattle.sctp_parts.specs.Timers.{IsNoneArmed, Timers, earlier, least_moment, moment_of, with_stopped}
use Rattle.sctp_streams.specs.declared.event.AssociationError.{AssociationError}
use Rattle.sctp_streams.specs.declared.event.AssociationError.TheVariants as reasons
use Rattle.sctp_streams.specs.declared.event.Event.{Event}
use Rattle.sctp_streams.specs.Stream.{StreamView}
use Rattle.sctp_streams.specs.Streams.{stream_at}
use Rattle.sctp_assoc.specs.Calls.{event_from, is_beginning, is_cookie_echoed, is_cookie_wait}
use Rattle.sctp_assoc.specs.Calls.{is_established, sends_data}
use Rattle.sctp_assoc.specs.Closing.{closed_open, is_closed_state}
use Rattle.sctp_assoc.specs.Calls.{accepted_from, written_at}
use Rattle.sctp_assoc.specs.Handshake.{sends_init}
use Rattle.sctp_sides.specs.OneSide.{Call, Calls, FailsFrom, IsFresh, IsRun, call_refusal, carried_out, is_armed}
use Rattle.sctp_sides.specs.OneSide.{is_delayed, with_told}
use Rattle.sctp_assoc.specs.Shutdown.{shutdown_begun}
use Rattle.sctp_assoc.specs.Gather.{control_polled, polled, with_control_given, with_request_placed, without_control}
use Rattle.sctp_assoc.specs.Shown.{Shown, all_stopped}
use Rattle.sctp_sides.specs.Witnesses.{CookiesAreTimedInCookieEchoedAlone, CreatedSidesAreFresh, DelayedSacksAreTimed}
use Rattle.sctp_sides.specs.Witnesses.{EchoedCookiesAreTimed, FailedSidesWaitForNothing, FailuresStopTheTimers}
use Rattle.sctp_sides.specs.Witnesses.{InitsAreTimedInCookieWaitAlone, IsHandshakeUntimed, IsTimed, JoinedSidesAreFresh}
use Rattle.sctp_sides.specs.Witnesses.{LossesStopTheTimers, LostSidesWaitForNothing}
use Rattle.sctp_sides.specs.Witnesses.{NoHandshakeTimerRunsOnceEstablished, NothingInFlightIsNotTimed}
use Rattle.sctp_sides.specs.Witnesses.{OutstandingDataIsTimed, SentInitsAreTimed, WaitsForNothing}
use Rattle.sctp_sides.proofs.PollsLeave.{control_leaves, silent_poll}
use Rattle.sctp_sides.proofs.RequestsLeft.{stopped_reading_leaves}
use Rattle.sctp_sides.proofs.ResetsBeside.{draining_changes, stop_changes}
use Rattle.sctp_sides.proofs.TimersRun.{AtRest, IsQuiet, IsSameTime, Ticks, closed_waits_for_nothing, ticks_beside}
use Rattle.sctp_sides.proofs.TimersRun.{begun_shakes_no_hands, closed_gives_nothing, closed_is_not_established}
use Rattle.sctp_sides.proofs.TimersRun.{IsOnward, begins_established, continued_ticks, onward_fits}
use Rattle.sctp_sides.proofs.TimersRun.{none_armed, nothing_is_not_something, rest_by, rest_quietly, same_time}
use Rattle.sctp_sides.proofs.TimersRun.{ticks_by, time_by, unarmed}
use Rattle.sctp_sides.proofs.TimersOverChunks.{IsSound, closed_rests, packets_sound}
use Rattle.sctp_sides.proofs.TimersOverPolls.{polls_sound}
use Rattle.sctp_sides.proofs.TimersOverTimeouts.{timeouts_tick, unarmed_timeouts_do_nothing}
use Rattle.sctp_sides.proofs.TimersOverChunks.{exhausted_sound}
use Rattle.sctp_assoc.specs.Calls.{adjusted, after_read, credit_in, drained_behind, eased, holds_of, stopped_open}
use Rattle.sctp_assoc.specs.Calls.{tells_window, told_if, unread_dropped, without_read_half_of}
use Rattle.sctp_assoc.specs.Chunks.{after_packet_of}
use Rattle.sctp_assoc.specs.Resets.{with_beside, with_resetting}
use Rattle.sctp_assoc.specs.declared.control.Control.{Control}
use Rattle.sctp_assoc.specs.declared.control.Control.TheVariants as controls
use Rattle.sctp_assoc.proofs.GivenApart.{with_own_control}
use Rattle.sctp_wire_types.specs.declared.param.ParamOutgoingResetRequest.{ParamOutgoingResetRequest}
use Rattle.sctp_outbound_queue.specs.Outbound.{Outbound}
use Rattle.sctp_reset_requests.specs.declared.own_request.OwnRequest.{OwnRequest}
use Rattle.sctp_reset_requests.specs.declared.own_request.SentRequest.{SentRequest}
use Rattle.sctp_reset_requests.specs.Own.{OwnView, sent_first, sent_from}
use Rattle.sctp_reset_requests.specs.Peer.{boundary_of}
use Rattle.sctp_resets.specs.Channels.{channels}
use Rattle.sctp_resets.specs.Draining.{Reading, drained_out}
use Rattle.sctp_resets.specs.Resets.{Beside, Resetting, ResetsView, event_told, event_told_at, is_retiring, read_out}
use Rattle.sctp_resets.specs.Resets.{stopped_reading, waiting_for, with_event, with_own, with_read}
use Rattle.sctp_resets.specs.Telling.{next_told}
use Rattle.std.specs.Prelude.{remove}
use Rattle.std.proofs.Common.{◌&&◌, fold, slice_get}
use Rattle.std.proofs.lemmas.Bool.{cond-true}
use Rattle.sctp_assoc.specs.Closing.{exhausted, is_exhausted, out_of_resource, relieved}
use Rattle.sctp_assoc.specs.Control.{queued}
use Rattle.sctp_receive_queues.specs.Messages.{ReceivedMessage}
use Rattle.sctp_streams.specs.declared.setting.Setting.TheVariants as settings
use Rattle.sctp_streams.specs.Stream.{is_read_half_open}
use Rattle.sctp_streams.specs.Streams.{StreamMap, read_in}

-- What is used of a failure.
pub record Fell (a b : Shown) : Type 0 where
  pub failed : b.failed ≡ true
  pub lost : b.lost ≡ a.lost
  pub state : b.state ≡ a.state
  pub timers : b.timers ≡ all_stopped b.timers

pub fell : (a b : Shown) → FailsFrom a b → Fell a b
fell a b h = record {
  failed = h.marked;
  lost = ap (λ z. z.lost) h.answers;
  state = ap (λ z. z.state) h.answers;
  timers = h.disarmed;
}

fell_stopped : (a b : Shown) → Fell a b → IsNoneArmed b.timers
fell_stopped a b h timer = ap (λ (t : Timers). moment_of timer t) h.timers ∙ none_armed b.timers timer

-- One call

unrefused : (failed : Bool) (fault : Error) (more : Option Error) → (if failed then Some fault else more) ≡ None
    → failed ≡ false
unrefused true fault more e = absurd (true≢false (ap (λ (o : Option Error). is_some o) e))
unrefused false fault more e = refl

-- This leaves all but what the endpoint is to be told, and tells nothing.
abbrev pub IsUntouched : Shown → Shown × List Event → Type 0
IsUntouched a x = (event : Option EndpointEvent) × (x ≡ (record a { endpoint_event = event }, []))

-- It works, or the call did nothing but ask what the endpoint is to be told.
abbrev pub Works : Call → Shown → Type 0
Works call a = (a.failed ≡ false) ⊎ IsUntouched a (carried_out call a)

accept_works : (failed : Bool) (a : Shown) → a.failed ≡ failed
    → (a.failed ≡ false) ⊎ IsUntouched a ((if failed then (a, None) else accepted_from a.to_accept a).0, [])
accept_works true a e = inr (a.endpoint_event, refl)
accept_works false a e = inl e

limit_works : (failed : Bool) (a : Shown) (size : ℕ) → a.failed ≡ failed
    → (a.failed ≡ false) ⊎ IsUntouched a (if failed then a else record a { max_send_message_size = size }, [])
limit_works true a size e = inr (a.endpoint_event, refl)
limit_works false a size e = inl e

pub accepted_works : (call : Call) (a : Shown) → call_refusal call a ≡ None → Works call a
accepted_works (Call.OpenStream id kind) a e = inl (unrefused a.failed _ _ e)
accepted_works (Call.Write id named bytes) a e = inl (unrefused a.failed _ _ e)
accepted_works (Call.Set id setting) a e = inl (unrefused a.failed _ _ e)
accepted_works Call.AcceptStream a e = accept_works a.failed a refl
accepted_works (Call.SetMaxSendMessageSize size) a e = limit_works a.failed a size refl
accepted_works Call.Shutdown a e = inl (unrefused a.failed _ _ e)
accepted_works Call.PollEndpointEvent a e = inr (None, refl)
accepted_works Call.Close a e = inl (unrefused a.failed _ _ e)
accepted_works (Call.Read id) a e = inl (unrefused a.failed _ _ e)
accepted_works Call.Poll a e = inl (unrefused a.failed _ _ e)
accepted_works (Call.PollTransmit now) a e = inl (unrefused a.failed _ _ e)
accepted_works (Call.HandleTimeout now) a e = inl (unrefused a.failed _ _ e)
accepted_works (Call.HandleEvent packet now) a e = inl (unrefused a.failed _ _ e)
accepted_works (Call.Stop id) a e = inl (unrefused a.failed _ _ e)
accepted_works (Call.CloseStream id) a e = inl (unrefused a.failed _ _ e)

write_ticks : (o : Option StreamView) (a : Shown) (id : ℕ) (named : Option PayloadProtocolIdentifier) (bytes : List ℕ)
    → Ticks a → Ticks (written_at o a id named bytes)
write_ticks None a id named bytes h = h
write_ticks (Some s) a id named bytes h = ticks_by a _ (time_by a _ refl refl refl refl refl refl) h

write_rests : (o : Option StreamView) (a : Shown) (id : ℕ) (named : Option PayloadProtocolIdentifier) (bytes : List ℕ)
    → AtRest a → AtRest (written_at o a id named bytes)
write_rests None a id named bytes h = h
write_rests (Some s) a id named bytes h = rest_by a _ refl refl refl refl refl h

-- a limit is set
limit_ticks : (failed : Bool) (a : Shown) (size : ℕ) → Ticks a
    → Ticks (if failed then a else record a { max_send_message_size = size })
limit_ticks true a size h = h
limit_ticks false a size h = ticks_by a _ (time_by a _ refl refl refl refl refl refl) h

limit_rests : (failed : Bool) (a : Shown) (size : ℕ) → AtRest a
    → AtRest (if failed then a else record a { max_send_message_size = size })
limit_rests true a size h = h
limit_rests false a size h = rest_by a _ refl refl refl refl refl h

-- a stream is accepted
accepted_time : (ids : List ℕ) (a : Shown) → IsSameTime a (accepted_from ids a).0
accepted_time [] a = same_time a
accepted_time (id ∷ ids) a = time_by a _ refl refl refl refl refl refl

accept_time : (failed : Bool) (a : Shown)
    → IsSameTime a (if failed then (a, None) else accepted_from a.to_accept a).0
accept_time true a = same_time a
accept_time false a = accepted_time a.to_accept a

accept_ticks : (failed : Bool) (a : Shown) → Ticks a
    → Ticks (if failed then (a, None) else accepted_from a.to_accept a).0
accept_ticks failed a h = ticks_by a _ (accept_time failed a) h

accepted_rests : (ids : List ℕ) (a : Shown) → AtRest a → AtRest (accepted_from ids a).0
accepted_rests [] a h = h
accepted_rests (id ∷ ids) a h = rest_by a _ refl refl refl refl refl h

accept_rests : (failed : Bool) (a : Shown) → AtRest a
    → AtRest (if failed then (a, None) else accepted_from a.to_accept a).0
accept_rests true a h = h
accept_rests false a h = accepted_rests a.to_accept a h

-- the association is closed
close_sound : (closed : Bool) (a : Shown) (reason : AssociationError) → Ticks a
    → IsSound (if closed then a else closed_open a reason)
close_sound true a reason h = inl h
close_sound false a reason h = inr (closed_rests a reason)

close_rests : (closed : Bool) (a : Shown) (reason : AssociationError) → AtRest a
    → AtRest (if closed then a else closed_open a reason)
close_rests true a reason h = h
close_rests false a reason h = closed_rests a reason

-- an event is told
poll_ticks : (x : ResetsView × List Event × Option Event) (a : Shown) → Ticks a → Ticks (with_told (event_from x a)).0
poll_ticks (r, left, None) a h = ticks_by a _ (time_by a _ refl refl refl refl refl refl) h
poll_ticks (r, left, Some e) a h = ticks_by a _ (time_by a _ refl refl refl refl refl refl) h

poll_rests : (x : ResetsView × List Event × Option Event) (a : Shown) → x.0.own ≡ a.resets.own → AtRest a
    → AtRest (with_told (event_from x a)).0
poll_rests (r, left, None) a own h = rest_by a _ refl refl refl refl own h
poll_rests (r, left, Some e) a own h = rest_by a _ refl refl refl refl own h

event_keeps_requests : (o : Option Event) (r : ResetsView) (left : List Event) → (with_event o r left).0.own ≡ r.own
event_keeps_requests None r left = refl
event_keeps_requests (Some e) r left = refl

told_keeps_requests : (o : Option ℕ) (r : ResetsView) (told : List Event) → (event_told_at o r told).0.own ≡ r.own
told_keeps_requests None r told = refl
told_keeps_requests (Some index) r told = event_keeps_requests (slice_get told index) r (remove told index)

-- a read, which may leave the receive buffer exhausted
relieved_sound : (e : Bool) (b : Shown) → Ticks b → IsSound (if e then exhausted b else b)
relieved_sound true b h = exhausted_sound (is_closed_state b.state) b h
relieved_sound false b h = inl h

-- a window that opened is told with the next poll, and the delay of an acknowledgement is over
told_ticks : (c : Bool) (b : Shown) → Ticks b → Ticks (told_if c b)
told_ticks true b h = record {
  working = h.working;
  not_lost = h.not_lost;
  fits = record {
    flies = h.fits.flies;
    inits = h.fits.inits;
    cookies = h.fits.cookies;
    unsent = h.fits.unsent;
  };
  acks = refl;
}
told_ticks false b h = h

ack_stopped : (t : Timers) → IsNoneArmed t → IsNoneArmed (with_stopped names.Ack t)
ack_stopped t h names.T1Init = h names.T1Init
ack_stopped t h names.T1Cookie = h names.T1Cookie
ack_stopped t h names.T2Shutdown = h names.T2Shutdown
ack_stopped t h names.T3RTX = h names.T3RTX
ack_stopped t h names.Reconfig = h names.Reconfig
ack_stopped t h names.Ack = refl

told_rests : (c : Bool) (b : Shown) → AtRest b → AtRest (told_if c b)
told_rests true b h =
    record { over = h.over; closed = h.closed; stopped = ack_stopped b.timers h.stopped; quiet = h.quiet }
told_rests false b h = h

told_sound : (c : Bool) (b : Shown) → IsSound b → IsSound (told_if c b)
told_sound c b (inl h) = inl (told_ticks c b h)
told_sound c b (inr h) = inr (told_rests c b h)

eased_sound : (before : ℕ) (b : Shown) → Ticks b → IsSound (eased before b)
eased_sound before b h =
    let c : Shown = relieved b in told_sound (tells_window before c) c (relieved_sound (is_exhausted b) b h)

read_sound : (x : StreamMap × Option ReceivedMessage) (a : Shown) (id : ℕ) → Ticks a → IsSound (after_read a id x).0
read_sound (streams, None) a id h = inl (ticks_beside a _ (draining_changes a id streams) h)
read_sound (streams, Some message) a id h =
    let b : Shown = drained_behind a id streams in
    eased_sound (credit_in a) b (ticks_beside a b (draining_changes a id streams) h)

exhausted_rests : (closed : Bool) (b : Shown) → AtRest b
    → AtRest (queued (if closed then b else closed_open b reasons.ReceiveBufferExhausted) out_of_resource)
exhausted_rests true b h = rest_by b _ refl refl refl refl refl h
exhausted_rests false b h =
    rest_by (closed_open b reasons.ReceiveBufferExhausted) _ refl refl refl refl refl
    (closed_rests b reasons.ReceiveBufferExhausted)

relieved_rests : (e : Bool) (b : Shown) → AtRest b → AtRest (if e then exhausted b else b)
relieved_rests true b h = exhausted_rests (is_closed_state b.state) b h
relieved_rests false b h = h

eased_rests : (before : ℕ) (b : Shown) → AtRest b → AtRest (eased before b)
eased_rests before b h =
    let c : Shown = relieved b in told_rests (tells_window before c) c (relieved_rests (is_exhausted b) b h)

read_keeps_requests : (r : ResetsView) (x : Reading) → (with_read r x).0.own ≡ r.own
read_keeps_requests r (g, c) = refl

resetting_rests : (a : Shown) (x : Resetting) → x.0.own ≡ a.resets.own → AtRest a → AtRest (with_resetting a x)
resetting_rests a (r, c) own h = rest_by a _ refl refl refl refl own h

drained_rests : (a : Shown) (id : ℕ) (streams : StreamMap) → AtRest a → AtRest (drained_behind a id streams)
drained_rests a id streams h =
    let first = a.sender.queue.next_message_id in
    let limit = a.receiver.max_receive_message_size in
    let all = channels streams a.events a.to_accept in
    resetting_rests a (read_out first limit id a.resets all)
    (read_keeps_requests a.resets
    (drained_out first limit id (boundary_of a.resets.peer id) (a.resets.generations, all))) h

read_rests : (x : StreamMap × Option ReceivedMessage) (a : Shown) (id : ℕ) → AtRest a → AtRest (after_read a id x).0
read_rests (streams, None) a id h = drained_rests a id streams h
read_rests (streams, Some message) a id h =
    eased_rests (credit_in a) (drained_behind a id streams) (drained_rests a id streams h)

-- a stop of a stream where its read half is open, which may leave the receive buffer exhausted

stop_sound : (opened : Bool) (before : ℕ) (a : Shown) (id : ℕ) → Ticks a
    → IsSound (if opened then eased before (stopped_open a id) else a)
stop_sound true before a id h =
    let b : Shown = stopped_open a id in
    eased_sound before b (ticks_beside a b (stop_changes a id) h)
stop_sound false before a id h = inl h

beside_rests : (a : Shown) (x : Beside) → (IsQuiet a.resets.own → IsQuiet x.0.own) → AtRest a
    → AtRest (with_beside a x)
beside_rests a (r, m, told) quiet h = rest_quietly a _ refl refl refl refl quiet h

-- a stream that waits to be reset is in no request yet
unread_is_quiet : (id : ℕ) (r : ResetsView) (m : StreamMap) (told : List Event) → IsQuiet r.own
    → IsQuiet (stopped_reading id r m told).0.own
unread_is_quiet id r m told quiet =
    stopped_reading_leaves (λ (z : ResetsView). IsQuiet z.own) id r m told quiet (quiet.0, quiet.1)

open_stop_rests : (retires : Bool) (x : Beside) (a : Shown) (id : ℕ) → (IsQuiet a.resets.own → IsQuiet x.0.own)
    → AtRest a
    → AtRest
    (if retires then with_beside a x else
    record a { streams = unread_dropped (is_rfc a.profile) a.streams id; resets = waiting_for a.resets id })
open_stop_rests true x a id quiet h = beside_rests a x quiet h
open_stop_rests false x a id quiet h = rest_quietly a _ refl refl refl refl (λ q. (q.0, q.1)) h

stop_rests : (opened : Bool) (before : ℕ) (a : Shown) (id : ℕ) → AtRest a
    → AtRest (if opened then eased before (stopped_open a id) else a)
stop_rests true before a id h =
    let b : Shown = without_read_half_of a id in
    eased_rests before (stopped_open a id)
    (open_stop_rests (is_retiring a.resets id) (stopped_reading id b.resets b.streams b.events) b id
    (unread_is_quiet id b.resets b.streams b.events)
    (rest_by a b refl refl refl refl refl h))
stop_rests false before a id h = h

-- a poll of one that is closed, which asks for no reset

none_sent : (active : Option SentRequest) (queued : List OwnRequest) (o : OwnView) (q : Outbound) → active ≡ None
    → queued ≡ []
    → (if is_some active then (o, None) else sent_from queued o q) ≡ (o, None)
none_sent None [] o q e f = refl
none_sent None (x ∷ xs) o q e f = absurd cc
none_sent (Some s) queued o q e f = absurd (true≢false (ap (λ (z : Option SentRequest). is_some z) e))

placed_requests : (b : Shown) (packets : List (List ℕ)) (x : OwnView × Option ParamOutgoingResetRequest)
    → x ≡ (b.resets.own, None) → (with_request_placed (b, packets) (with_own b.resets x)).0.resets.own ≡ b.resets.own
placed_requests b packets x e =
    ap (λ (z : OwnView × Option ParamOutgoingResetRequest).
    (with_request_placed (b, packets) (with_own b.resets z)).0.resets.own) e

given_requests : (o : OwnView) (x : Shown × List (List ℕ)) (c : Control) → IsQuiet o → x.0.resets.own ≡ o
    → (with_control_given x c).0.resets.own ≡ o
given_requests o (b, packets) (controls.Packet c) quiet e = e
given_requests o (b, packets) controls.OwnRequest quiet e =
    let q = b.sender.queue in
    placed_requests b packets (sent_first b.resets.own q)
    (none_sent b.resets.own.active b.resets.own.queued b.resets.own q
    (ap (λ (z : OwnView). z.active) e ∙ quiet.0) (ap (λ (z : OwnView). z.queued) e ∙ quiet.1)) ∙ e

all_given_requests : (o : OwnView) (cs : List Control) (x : Shown × List (List ℕ)) → IsQuiet o → x.0.resets.own ≡ o
    → (fold with_control_given x cs).0.resets.own ≡ o
all_given_requests o [] x quiet e = e
all_given_requests o (c ∷ cs) x quiet e =
    all_given_requests o cs (with_control_given x c) quiet (given_requests o x c quiet e)

control_rests : (a : Shown) → a.failed ≡ false → AtRest a
    → AtRest (control_polled a).0 × ((control_polled a).0.resets.own.active ≡ None)
control_rests a works h =
    let b = (control_polled a).0 in
    let c : Shown = with_own_control a b.resets.own b.control in
    let quiet = h.quiet works in
    let own : b.resets.own ≡ a.resets.own =
    all_given_requests a.resets.own a.control (without_control a, []) quiet refl in (
      subst AtRest (sym (control_leaves a)) (rest_by a c refl refl refl refl own h),
      ap (λ (z : OwnView). z.active) own ∙ quiet.0,
    )

no_run_if : (active runs : Bool) (b c : Shown) → active ≡ false → (if active && runs then c else b) ≡ b
no_run_if true runs b c e = absurd (true≢false e)
no_run_if false runs b c e = refl

poll_transmit_rests : (a : Shown) (now : ℕ) → a.failed ≡ false → a.lost ≡ true → AtRest a → AtRest (polled a now).0
poll_transmit_rests a now works lost h =
    let b = (control_polled a).0 in
    let there = control_rests a works h in
    let nothing = closed_gives_nothing a.state (h.closed lost) in
    subst AtRest
    (sym (silent_poll a now nothing.0 nothing.1
    ∙ no_run_if (is_some b.resets.own.active) _ b _ (ap (λ (z : Option SentRequest). is_some z) there.1)))
    there.0

-- a shutdown begins, in Established alone

pending_onward : (s : AssociationState) → is_established s ≡ true → IsOnward s states.ShutdownPending
pending_onward states.Closed e = absurd (false≢true e)
pending_onward states.CookieWait e = absurd (false≢true e)
pending_onward states.CookieEchoed e = absurd (false≢true e)
pending_onward states.Established e = record { sends = λ _. refl; waits = refl; echoed = refl; begins = refl }
pending_onward states.ShutdownAckSent e = absurd (false≢true e)
pending_onward states.ShutdownPending e = absurd (false≢true e)
pending_onward states.ShutdownReceived e = absurd (false≢true e)
pending_onward states.ShutdownSent e = absurd (false≢true e)

shutdown_ticks : (a : Shown) → is_established a.state ≡ true → Ticks a → Ticks (shutdown_begun a)
shutdown_ticks a e h =
    let b : Shown = record a { state = states.ShutdownPending; endpoint_event = Some drained_event } in
    continued_ticks b (record {
      working = h.working;
      not_lost = h.not_lost;
      fits = onward_fits a.state states.ShutdownPending a.sender.queue.in_flight a.timers (pending_onward a.state e)
          h.fits;
      acks = h.acks;
    })

pub ticks_carried : (call : Call) (a : Shown) → call_refusal call a ≡ None → Ticks a
    → IsSound (carried_out call a).0
ticks_carried (Call.OpenStream id kind) a e h = inl (ticks_by a _ (time_by a _ refl refl refl refl refl refl) h)
ticks_carried (Call.Write id named bytes) a e h = inl (write_ticks (stream_at a.streams id) a id named bytes h)
ticks_carried (Call.Set id setting) a e h = inl (ticks_by a _ (time_by a _ refl refl refl refl refl refl) h)
ticks_carried Call.AcceptStream a e h = inl (accept_ticks a.failed a h)
ticks_carried (Call.SetMaxSendMessageSize size) a e h = inl (limit_ticks a.failed a size h)
ticks_carried Call.Shutdown a e h =
    inl (shutdown_ticks a (begins_established a.failed (is_established a.state) _ _ e) h)
ticks_carried Call.PollEndpointEvent a e h = inl (ticks_by a _ (time_by a _ refl refl refl refl refl refl) h)
ticks_carried Call.Close a e h = close_sound (is_closed_state a.state) a reasons.AssociationClosed h
ticks_carried (Call.Read id) a e h = read_sound (read_in a.streams id) a id h
ticks_carried Call.Poll a e h = inl (poll_ticks (event_told a.resets a.events) a h)
ticks_carried (Call.PollTransmit now) a e h = polls_sound a now h
ticks_carried (Call.HandleTimeout now) a e h = inl (timeouts_tick a now h)
ticks_carried (Call.HandleEvent packet now) a e h = packets_sound packet a now h
ticks_carried (Call.Stop id) a e h =
    stop_sound (holds_of (λ s. is_read_half_open s.halves) a id) (credit_in a) a id h
ticks_carried (Call.CloseStream id) a e h =
    let b : Shown = adjusted a id settings.WriteHalfClosed in
    stop_sound (holds_of (λ s. is_read_half_open s.halves) b id) (credit_in b) b id
    (ticks_by a b (time_by a b refl refl refl refl refl refl) h)

rest_carried : (call : Call) (a : Shown) → call_refusal call a ≡ None → a.failed ≡ false → a.lost ≡ true → AtRest a
    → AtRest (carried_out call a).0
rest_carried (Call.OpenStream id kind) a e works lost h = rest_by a _ refl refl refl refl refl h
rest_carried (Call.Write id named bytes) a e works lost h = write_rests (stream_at a.streams id) a id named bytes h
rest_carried (Call.Set id setting) a e works lost h = rest_by a _ refl refl refl refl refl h
rest_carried Call.AcceptStream a e works lost h = accept_rests a.failed a h
rest_carried (Call.SetMaxSendMessageSize size) a e works lost h = limit_rests a.failed a size h
rest_carried Call.Shutdown a e works lost h =
    absurd (false≢true (sym (closed_is_not_established a.state (h.closed lost))
    ∙ begins_established a.failed (is_established a.state) _ _ e))
rest_carried Call.PollEndpointEvent a e works lost h = rest_by a _ refl refl refl refl refl h
rest_carried Call.Close a e works lost h = close_rests (is_closed_state a.state) a reasons.AssociationClosed h
rest_carried (Call.Read id) a e works lost h = read_rests (read_in a.streams id) a id h
rest_carried Call.Poll a e works lost h =
    poll_rests (event_told a.resets a.events) a
    (told_keeps_requests (next_told a.resets.generations a.resets.debts a.events) a.resets a.events) h
rest_carried (Call.PollTransmit now) a e works lost h = poll_transmit_rests a now works lost h
rest_carried (Call.HandleTimeout now) a e works lost h =
    subst AtRest (sym (unarmed_timeouts_do_nothing a now h.stopped)) h
rest_carried (Call.HandleEvent packet now) a e works lost h =
    subst AtRest (sym (cond-true a.lost a (after_packet_of a packet now) lost)) h
rest_carried (Call.Stop id) a e works lost h =
    stop_rests (holds_of (λ s. is_read_half_open s.halves) a id) (credit_in a) a id h
rest_carried (Call.CloseStream id) a e works lost h =
    let b : Shown = adjusted a id settings.WriteHalfClosed in
    stop_rests (holds_of (λ s. is_read_half_open s.halves) b id) (credit_in b) b id
    (rest_by a b refl refl refl refl refl h)

pub is_lost : (a : Shown) → a.failed ≡ false → AtRest a → a.lost ≡ true
is_lost a e h = ⊎_elim (λ (f : a.failed ≡ true). absurd (false≢true (sym e ∙ f))) (λ (l : a.lost ≡ true). l) h.over

carried_rests : (call : Call) (a : Shown) → call_refusal call a ≡ None → Works call a → AtRest a
    → AtRest (carried_out call a).0
carried_rests call a e (inl works) h = rest_carried call a e works (is_lost a works h) h
carried_rests call a e (inr (event, same)) h =
    subst (λ (x : Shown × List Event). AtRest x.0) (sym same) (rest_by a _ refl refl refl refl refl h)

pub fell_rests : (a b : Shown) → (a.lost ≡ true → is_closed_state a.state ≡ true) → Fell a b → AtRest b
fell_rests a b closed f = record {
  over = inl f.failed;
  closed = λ e. ap is_closed_state f.state ∙ closed (sym f.lost ∙ e);
  stopped = fell_stopped a b f;
  quiet = λ e. absurd (false≢true (sym e ∙ f.failed));
}

pub sound_closed : (a : Shown) → IsSound a → a.lost ≡ true → is_closed_state a.state ≡ true
sound_closed a (inl h) e = absurd (false≢true (sym h.not_lost ∙ e))
sound_closed a (inr h) e = h.closed e

-- at rest it stays so
pub call_rests : (call : Call) (told : List Event) (a b : Shown) → AtRest a → Calls call told a b → AtRest b
call_rests call told a b h (inl c) =
    subst (λ (x : Shown × List Event). AtRest x.0) c.there
    (carried_rests call a c.accepted (accepted_works call a c.accepted) h)
call_rests call told a b h (inr (inl c)) = subst AtRest (sym c.same) h
call_rests call told a b h (inr (inr c)) = fell_rests a b h.closed (fell a b c.failed)

works_sound : (call : Call) (a : Shown) → call_refusal call a ≡ None → a.failed ≡ false → IsSound a
    → IsSound (carried_out call a).0
works_sound call a e works (inl h) = ticks_carried call a e h
works_sound call a e works (inr h) = inr (carried_rests call a e (inl works) h)

untouched_sound : (a : Shown) (event : Option EndpointEvent) → IsSound a
    → IsSound (record a { endpoint_event = event })
untouched_sound a event (inl h) = inl (ticks_by a _ (time_by a _ refl refl refl refl refl refl) h)
untouched_sound a event (inr h) = inr (rest_by a _ refl refl refl refl refl h)

carried_sound : (call : Call) (a : Shown) → call_refusal call a ≡ None → Works call a → IsSound a
    → IsSound (carried_out call a).0
carried_sound call a e (inl works) h = works_sound call a e works h
carried_sound call a e (inr (event, same)) h =
    subst (λ (x : Shown × List Event). IsSound x.0) (sym same) (untouched_sound a event h)

pub call_sound : (call : Call) (told : List Event) (a b : Shown) → IsSound a → Calls call told a b → IsSound b
call_sound call told a b h (inl c) =
    subst (λ (x : Shown × List Event). IsSound x.0) c.there
    (carried_sound call a c.accepted (accepted_works call a c.accepted) h)
call_sound call told a b h (inr (inl c)) = subst IsSound (sym c.same) h
call_sound call told a b h (inr (inr c)) = inr (fell_rests a b (sound_closed a h) (fell a b c.failed))

-- All calls

run_sound : (calls : List Call) (told : List Event) (a b : Shown) → IsSound a → IsRun calls told a b → IsSound b
run_sound [] told a b h r = subst IsSound (sym r.same) h
run_sound (c ∷ cs) told a b h r = run_sound cs r.later r.middle b (call_sound c r.first a r.middle h r.called) r.others

pub fresh_ticks : (a : Shown) → IsFresh a → Ticks a
fresh_ticks a h = record {
  working = h.working;
  not_lost = h.not_lost;
  fits = record {
    flies = record {
      timed = λ _ p. absurd (nothing_is_not_something a.sender.queue.in_flight p
          h.unsent);
      none = λ _. h.retransmission;
    };
    inits = record { alone = λ e. h.init ∙ e; timed = λ e. inl (h.init ∙ e) };
    cookies = record { alone = λ e. h.cookie ∙ e; timed = λ e. inl (h.cookie ∙ e) };
    unsent = λ _. h.unsent;
  };
  acks = h.acknowledgement;
}

after_run : (calls : List Call) (told : List Event) (a b : Shown) → IsFresh a → IsRun calls told a b → IsSound b
after_run calls told a b h r = run_sound calls told a b (inl (fresh_ticks a h)) r

-- Beginning

pub created_sides_are_fresh : CreatedSidesAreFresh
unfolding sends_init
created_sides_are_fresh None config size tag initial_tsn cookie remote_addr local_ip now =
    record {
      working = refl;
      not_lost = refl;
      untold = refl;
      unsent = refl;
      retransmission = refl;
      init = refl;
      cookie = refl;
      acknowledgement = refl;
      in_use = refl;
      no_shutdown = refl;
      answer = refl;
    }
created_sides_are_fresh (Some of_server) config size tag initial_tsn cookie remote_addr local_ip now =
    record {
      working = refl;
      not_lost = refl;
      untold = refl;
      unsent = refl;
      retransmission = refl;
      init = refl;
      cookie = refl;
      acknowledgement = refl;
      in_use = refl;
      no_shutdown = refl;
      answer = refl;
    }

pub joined_sides_are_fresh : JoinedSidesAreFresh
joined_sides_are_fresh config size remote_addr local_ip own peer =
    record {
      working = refl;
      not_lost = refl;
      untold = refl;
      unsent = refl;
      retransmission = refl;
      init = refl;
      cookie = refl;
      acknowledgement = refl;
      in_use = refl;
      no_shutdown = refl;
      answer = refl;
    }

-- Timers

data_timed : (b : Shown) → IsSound b → b.failed ≡ false → sends_data b.state ≡ true
    → 0 < length b.sender.queue.in_flight → IsTimed names.T3RTX b.timers
data_timed b (inl h) works e p = h.fits.flies.timed e p
data_timed b (inr h) works e p = absurd (false≢true
    (sym (closed_waits_for_nothing b.state (h.closed (is_lost b works h))).0 ∙ e))

pub outstanding_data_is_timed : OutstandingDataIsTimed
outstanding_data_is_timed calls told a b h r = data_timed b (after_run calls told a b h r)

nothing_timed : (b : Shown) → IsSound b → b.sender.queue.in_flight ≡ [] → is_armed names.T3RTX b.timers ≡ false
nothing_timed b (inl h) e = h.fits.flies.none e
nothing_timed b (inr h) e = unarmed names.T3RTX b.timers h.stopped

pub nothing_in_flight_is_not_timed : NothingInFlightIsNotTimed
nothing_in_flight_is_not_timed calls told a b h r = nothing_timed b (after_run calls told a b h r)

inits_timed : (b : Shown) → IsSound b → b.failed ≡ false → is_cookie_wait b.state ≡ true → IsTimed names.T1Init b.timers
inits_timed b (inl h) works e = h.fits.inits.timed e
inits_timed b (inr h) works e =
    absurd (false≢true (sym (closed_waits_for_nothing b.state (h.closed (is_lost b works h))).1 ∙ e))

pub sent_inits_are_timed : SentInitsAreTimed
sent_inits_are_timed calls told a b h r = inits_timed b (after_run calls told a b h r)

cookies_timed : (b : Shown) → IsSound b → b.failed ≡ false → is_cookie_echoed b.state ≡ true
    → IsTimed names.T1Cookie b.timers
cookies_timed b (inl h) works e = h.fits.cookies.timed e
cookies_timed b (inr h) works e =
    absurd (false≢true
    (sym (closed_waits_for_nothing b.state (h.closed (is_lost b works h))).2 ∙ e))

pub echoed_cookies_are_timed : EchoedCookiesAreTimed
echoed_cookies_are_timed calls told a b h r = cookies_timed b (after_run calls told a b h r)

-- what is not armed elsewhere is armed there alone
there_alone : (there armed : Bool) → (there ≡ false → armed ≡ false) → armed ≡ true → there ≡ true
there_alone true armed alone e = refl
there_alone false armed alone e = absurd (false≢true (sym (alone refl) ∙ e))

init_alone : (b : Shown) → IsSound b → is_armed names.T1Init b.timers ≡ true → is_cookie_wait b.state ≡ true
init_alone b (inl h) e = there_alone (is_cookie_wait b.state) (is_armed names.T1Init b.timers) h.fits.inits.alone e
init_alone b (inr h) e = absurd (false≢true (sym (unarmed names.T1Init b.timers h.stopped) ∙ e))

pub inits_are_timed_in_cookie_wait_alone : InitsAreTimedInCookieWaitAlone
inits_are_timed_in_cookie_wait_alone calls told a b h r = init_alone b (after_run calls told a b h r)

cookie_alone : (b : Shown) → IsSound b → is_armed names.T1Cookie b.timers ≡ true → is_cookie_echoed b.state ≡ true
cookie_alone b (inl h) e = there_alone (is_cookie_echoed b.state) (is_armed names.T1Cookie b.timers)
    h.fits.cookies.alone e
cookie_alone b (inr h) e = absurd (false≢true (sym (unarmed names.T1Cookie b.timers h.stopped) ∙ e))

pub cookies_are_timed_in_cookie_echoed_alone : CookiesAreTimedInCookieEchoedAlone
cookies_are_timed_in_cookie_echoed_alone calls told a b h r = cookie_alone b (after_run calls told a b h r)

handshake_untimed : (b : Shown) → IsSound b → is_beginning b.state ≡ false → IsHandshakeUntimed b.timers
handshake_untimed b (inl h) e =
    let none = begun_shakes_no_hands b.state e in
    (h.fits.inits.alone none.0, h.fits.cookies.alone none.1)
handshake_untimed b (inr h) e = (unarmed names.T1Init b.timers h.stopped, unarmed names.T1Cookie b.timers h.stopped)

pub no_handshake_timer_runs_once_established : NoHandshakeTimerRunsOnceEstablished
no_handshake_timer_runs_once_established calls told a b h r = handshake_untimed b (after_run calls told a b h r)

acks_timed : (b : Shown) → IsSound b → b.failed ≡ false → b.lost ≡ false
    → is_armed names.Ack b.timers ≡ is_delayed b.receiver.ack_state
acks_timed b (inl h) works stays = h.acks
acks_timed b (inr h) works stays = absurd (false≢true (sym stays ∙ is_lost b works h))

pub delayed_sacks_are_timed : DelayedSacksAreTimed
delayed_sacks_are_timed calls told a b h r = acks_timed b (after_run calls told a b h r)

-- Ending

earlier_none : (x y : Option ℕ) → x ≡ None → y ≡ None → earlier x y ≡ None
earlier_none None y e f = f
earlier_none (Some moment) y e f = absurd (true≢false (ap (λ (o : Option ℕ). is_some o) e))

least_none : (t : Timers) → IsNoneArmed t → least_moment t ≡ None
least_none t h =
    earlier_none _ t.ack.moment (earlier_none _ t.reconfig.moment
    (earlier_none _ t.t3_rtx.moment (earlier_none _ t.t2_shutdown.moment
    (earlier_none t.t1_init.moment t.t1_cookie.moment (h names.T1Init) (h names.T1Cookie)) (h names.T2Shutdown))
    (h names.T3RTX)) (h names.Reconfig)) (h names.Ack)

pub failures_stop_the_timers : FailuresStopTheTimers
failures_stop_the_timers a b h = least_none b.timers (fell_stopped a b (fell a b h))

pub losses_stop_the_timers : LossesStopTheTimers
losses_stop_the_timers a reason e = rw e (least_none (all_stopped a.timers) (none_armed a.timers))

failed_waits : (b : Shown) → IsSound b → b.failed ≡ true → WaitsForNothing b
failed_waits b (inl h) e = absurd (false≢true (sym h.working ∙ e))
failed_waits b (inr h) e = least_none b.timers h.stopped

pub failed_sides_wait_for_nothing : FailedSidesWaitForNothing
failed_sides_wait_for_nothing calls told a b h r = failed_waits b (after_run calls told a b h r)

lost_waits : (b : Shown) → IsSound b → b.lost ≡ true → (is_closed_state b.state ≡ true) × WaitsForNothing b
lost_waits b (inl h) e = absurd (false≢true (sym h.not_lost ∙ e))
lost_waits b (inr h) e = (h.closed e, least_none b.timers h.stopped)

pub lost_sides_wait_for_nothing : LostSidesWaitForNothing
lost_sides_wait_for_nothing calls told a b h r = lost_waits b (after_run calls told a b h r)
