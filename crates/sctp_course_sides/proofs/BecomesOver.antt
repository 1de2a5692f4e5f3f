-- A call either closes an open side, and then nothing is left of it, or leaves it open and not lost.
use Rattle.std.proofs.Common.{◌≡◌, refl, sym, ap, ◌∙◌, subst, ◌⊎◌, ⊎_elim, inl, inr, ℕ, Bool, true, false, ◌&&◌}
use Rattle.std.proofs.Common.{if◌then◌else◌, not, List, [], ◌∷◌, Option, Some, None}
use Rattle.std.specs.List.{AllByRecursion}
use Rattle.std.proofs.lemmas.Bool.{cases_Bool, false≢true, true≢false}
use Rattle.sctp_wire_types.specs.declared.chunk.Chunk.{Chunk}
use Rattle.sctp_wire_types.specs.declared.error.Error.TheVariants as errors
use Rattle.sctp_wire_types.specs.declared.packet.CommonHeader.{CommonHeader}
use Rattle.sctp_wire.specs.declared.packet.Packet.{Packet}
use Rattle.sctp_parts.specs.declared.state.AssociationState.{AssociationState}
use Rattle.sctp_parts.specs.declared.state.AssociationState.TheVariants as states
use Rattle.sctp_parts.specs.Timers.{IsNoneArmed}
use Rattle.sctp_receive_queues.specs.Messages.{ReceivedMessage}
use Rattle.sctp_streams.specs.declared.event.AssociationError.{AssociationError}
use Rattle.sctp_streams.specs.declared.event.AssociationError.TheVariants as reasons
use Rattle.sctp_streams.specs.declared.event.Event.{Event}
use Rattle.sctp_streams.specs.declared.setting.Setting.TheVariants as settings
use Rattle.sctp_streams.specs.Stream.{is_read_half_open}
use Rattle.sctp_streams.specs.Streams.{StreamMap, read_in}
use Rattle.sctp_inbound.specs.declared.receiver.AckTrigger.{AckTrigger}
use Rattle.sctp_inbound.specs.declared.receiver.AckTrigger.TheVariants as triggers
use Rattle.sctp_inbound.specs.Handshake.{header_of}
use Rattle.sctp_model.proofs.Lists.{all_join}
use Rattle.sctp_assoc.specs.declared.control.Control.{Control}
use Rattle.sctp_assoc.specs.declared.control.Control.TheVariants as controls
use Rattle.sctp_assoc.specs.declared.inbound.Flow.{Flow}
use Rattle.sctp_assoc.specs.declared.inbound.Flow.TheVariants as flows
use Rattle.sctp_assoc.specs.Calls.{adjusted, after_read, credit_in, drained_behind, eased, event_polled, holds_of}
use Rattle.sctp_assoc.specs.Calls.{is_beginning, is_established, read_from_stream, stopped, stopped_open}
use Rattle.sctp_assoc.specs.Calls.{tells_window, told_if}
use Rattle.sctp_assoc.specs.Chunks.{after_chunks, after_packet, after_packet_of, goes_on, on_chunk}
use Rattle.sctp_assoc.specs.Closing.{closed_by, exhausted, is_closed_state, is_exhausted, out_of_resource}
use Rattle.sctp_assoc.specs.Gather.{IsPlainControl, open_polled, polled}
use Rattle.sctp_assoc.specs.Shown.{Shown}
use Rattle.sctp_assoc.specs.Shutdown.{completes_shutdown}
use Rattle.sctp_assoc.specs.Timeouts.{after_timeouts}
use Rattle.sctp_sides.specs.Laws.{IsClosedIf, closes, faults_or, is_faulted, is_faulted_packet}
use Rattle.sctp_sides.specs.Meeting.{IsAsFarOn}
use Rattle.sctp_sides.specs.OneSide.{Call, IsCarriedOut, call_refusal, carried_out}
use Rattle.sctp_sides.proofs.ClosingPackets.{faults_alone_close}
use Rattle.sctp_sides.proofs.ClosingCalls.{accepted_streams_do_not_close, limits_do_not_close}
use Rattle.sctp_sides.proofs.ClosingCalls.{writes_do_not_close}
use Rattle.sctp_sides.proofs.ClosingPolls.{timers_do_not_close}
use Rattle.sctp_sides.proofs.EndedPolls.{by_poll_end, complete_given, ended_is_closed, ended_shutdown}
use Rattle.sctp_sides.proofs.Proved.{closes_end_resets, exhaustion_ends_resets, faults_close}
use Rattle.sctp_sides.proofs.Proved.{polls_keep_the_stage, reads_keep_the_status, stops_keep_the_status}
use Rattle.sctp_sides.proofs.Proved.{told_events_keep_the_status}
use Rattle.sctp_sides.proofs.ShutdownCalls.{shutdowns_do_not_close}
use Rattle.sctp_sides.proofs.TimersRun.{begins_established, none_armed}
use Rattle.sctp_course_sides.specs.Over.{ControlSaysNothing, IsOver}
use Rattle.sctp_course_sides.proofs.OverSides.{closed_tells_nothing, told_left}

-- Closes

-- the timers are stopped
closed_timers : (a : Shown) (reason : AssociationError) → is_closed_state a.state ≡ false
    → IsNoneArmed (closed_by a reason).timers
closed_timers a reason e = rw e (none_armed a.timers)

-- A close of an open side leaves nothing of it.
pub closed_over : (a : Shown) (reason : AssociationError) → is_closed_state a.state ≡ false
    → IsOver (closed_by a reason)
closed_over a reason e =
    let ended = (faults_close a reason).ends e in
    record {
      lost = ended.lost;
      closed = ended.closed;
      nothing = ended.holds_nothing;
      no_reset = closes_end_resets a reason e;
      says = subst (AllByRecursion ControlSaysNothing) (sym ended.silent) tt;
      plain = subst (AllByRecursion IsPlainControl) (sym ended.silent) tt;
      stopped = closed_timers a reason e;
    }

-- So does that of an exhausted receive buffer, but for an ABORT.
pub exhausted_over : (a : Shown) → is_closed_state a.state ≡ false → IsOver (exhausted a)
exhausted_over a e =
    let c : Shown = closed_by a reasons.ReceiveBufferExhausted in
    let over : IsOver c = closed_over a reasons.ReceiveBufferExhausted e in
    let last : List Control =
    controls.Packet (record { header = header_of c.handshake; chunk = out_of_resource }) ∷ [] in
    record {
      lost = over.lost;
      closed = over.closed;
      nothing = over.nothing;
      no_reset = exhaustion_ends_resets a e;
      says = all_join ControlSaysNothing c.control last over.says (tt, tt);
      plain = all_join IsPlainControl c.control last over.plain (refl, tt);
      stopped = over.stopped;
    }

-- Either way

-- whether it was lost is as before, and it is open
abbrev StaysOpen : Shown → Shown → Type 0
StaysOpen a b = (b.lost ≡ a.lost) × (is_closed_state b.state ≡ false)

abbrev Ends : Shown → Shown → Type 0
Ends a b = IsOver b ⊎ StaysOpen a b

stays_by : (a b : Shown) → b.lost ≡ a.lost → b.state ≡ a.state → is_closed_state a.state ≡ false → Ends a b
stays_by a b lost state e = inr (lost, ap is_closed_state state ∙ e)

still_open : (x y : Bool) → (x ≡ true → y ≡ true) → y ≡ false → x ≡ false
still_open true y on e = absurd (true≢false (sym (on refl) ∙ e))
still_open false y on e = refl

by_closing : (closing : Bool) (a b : Shown) → is_closed_state a.state ≡ false → IsClosedIf closing a b
    → (closing ≡ true → IsOver b) → Ends a b
by_closing true a b e h over = inl (over refl)
by_closing false a b e h over =
    inr (h.lost, still_open (is_closed_state b.state) (is_closed_state a.state) (h.still_open refl) e)

-- A packet

not_true : (x : Bool) → not x ≡ true → x ≡ false
not_true true e = absurd (false≢true e)
not_true false e = refl

flow_over : (x : Shown × Flow) (more : Shown → AckTrigger → Shown) (faults : Shown → AckTrigger → Bool)
    → ((b : Shown) (next : AckTrigger) → faults b next ≡ true → IsOver (more b next)) → faults_or x faults ≡ true
    → IsOver (goes_on x more)
flow_over (a, flows.Next trigger) more faults on e = on a trigger e
flow_over (a, flows.Fault fault) more faults on e =
    closed_over a reasons.AssociationClosed (not_true (is_closed_state a.state) e)
flow_over (a, flows.Closed) more faults on e =
    closed_over a reasons.AssociationClosed (not_true (is_closed_state a.state) e)
flow_over (a, flows.Exhausted) more faults on e = exhausted_over a (not_true (is_closed_state a.state) e)

chunks_over : (header : CommonHeader) (cs : List Chunk) (a : Shown) (trigger : AckTrigger) (now : ℕ)
    → is_faulted header cs a trigger now ≡ true → IsOver (after_chunks header cs a trigger now)
chunks_over header [] a trigger now e = absurd (false≢true e)
chunks_over header (c ∷ cs) a trigger now e =
    flow_over (on_chunk a header c trigger now) (λ b next. after_chunks header cs b next now)
    (λ b next. is_faulted header cs b next now) (λ b next f. chunks_over header cs b next now f) e

pub packet_over : (lost : Bool) (packet : Option Packet) (a : Shown) (now : ℕ)
    → (not lost && is_faulted_packet a packet now) ≡ true → IsOver (if lost then a else after_packet_of a packet now)
packet_over true packet a now e = absurd (false≢true e)
packet_over false None a now e = absurd (false≢true e)
packet_over false (Some packet) a now e =
    chunks_over packet.common_header packet.chunks a triggers.None now e

-- A poll

open_begun : (s : AssociationState) → is_beginning s ≡ false → is_closed_state s ≡ false
open_begun states.Closed e = absurd (true≢false e)
open_begun states.CookieWait e = refl
open_begun states.CookieEchoed e = refl
open_begun states.Established e = refl
open_begun states.ShutdownAckSent e = refl
open_begun states.ShutdownPending e = refl
open_begun states.ShutdownReceived e = refl
open_begun states.ShutdownSent e = refl

open_as_far : (s t : AssociationState) → IsAsFarOn s t → is_closed_state s ≡ false → is_closed_state t ≡ false
open_as_far s t (inl same) e = ap is_closed_state same ∙ e
open_as_far s t (inr (past, later)) e = open_begun t later

pub ended_over : (m : Shown) → is_closed_state m.state ≡ false → IsOver (ended_shutdown m)
ended_over m e =
    subst IsOver (ended_is_closed m e) (closed_over (complete_given m) reasons.AssociationClosed e)

poll_ends : (a : Shown) (now : ℕ) → is_closed_state a.state ≡ false → Ends a (polled a now).0
poll_ends a now e = ⊎_elim
    (λ (t : completes_shutdown (open_polled a now).0 ≡ true).
    inl (by_poll_end IsOver a now (λ f due timer. absurd (true≢false (sym t ∙ f)))
    (λ f open_still. ended_over (open_polled a now).0 open_still)))
    (λ (f : completes_shutdown (open_polled a now).0 ≡ false).
    let keeps = (polls_keep_the_stage a now).same f in
    inr (keeps.lost, open_as_far a.state (polled a now).0.state keeps.state e))
    (cases_Bool (completes_shutdown (open_polled a now).0))

-- Reads and stops

-- a window that opened may be told
window_stays_open : (tells : Bool) (a b : Shown) → StaysOpen a b → StaysOpen a (told_if tells b)
window_stays_open true a b stays = stays
window_stays_open false a b stays = stays

eased_ends_if : (exhausts : Bool) (before : ℕ) (a b : Shown) → StaysOpen a b
    → Ends a
    (told_if (tells_window before (if exhausts then exhausted b else b)) (if exhausts then exhausted b else b))
eased_ends_if true before a b stays =
    let over : IsOver (exhausted b) = exhausted_over b stays.1 in
    inl (subst IsOver (sym (closed_tells_nothing before (exhausted b) over.closed)) over)
eased_ends_if false before a b stays = inr (window_stays_open (tells_window before b) a b stays)

-- an exhausted receive buffer closes, or a window that opened is told
eased_ends : (before : ℕ) (a b : Shown) → StaysOpen a b → Ends a (eased before b)
eased_ends before a b stays = eased_ends_if (is_exhausted b) before a b stays

after_read_ends : (x : StreamMap × Option ReceivedMessage) (a : Shown) (id : ℕ)
    → StaysOpen a (drained_behind a id x.0) → Ends a (after_read a id x).0
after_read_ends (streams, None) a id stays = inr stays
after_read_ends (streams, Some message) a id stays = eased_ends (credit_in a) a (drained_behind a id streams) stays

read_ends : (a : Shown) (id : ℕ) → is_closed_state a.state ≡ false → Ends a (read_from_stream a id).0
read_ends a id e =
    let same = (reads_keep_the_status a id).same in
    after_read_ends (read_in a.streams id) a id (same.lost, ap is_closed_state same.state ∙ e)

stop_ends_if : (reads : Bool) (before : ℕ) (a b : Shown) → is_closed_state a.state ≡ false → StaysOpen a b
    → Ends a (if reads then eased before b else a)
stop_ends_if true before a b e stays = eased_ends before a b stays
stop_ends_if false before a b e stays = inr (refl, e)

stop_ends : (a : Shown) (id : ℕ) → is_closed_state a.state ≡ false → Ends a (stopped a id)
stop_ends a id e =
    let same = (stops_keep_the_status a id).same in
    stop_ends_if (holds_of (λ s. is_read_half_open s.halves) a id) (credit_in a) a (stopped_open a id) e
    (same.lost, ap is_closed_state same.state ∙ e)

-- Events

both_parts : {A B : Type 0} (x : A × B) → x ≡ (x.0, x.1)
both_parts (a, b) = refl

told_ends : (a : Shown) → is_closed_state a.state ≡ false → Ends a (event_polled a).0
told_ends a e =
    let b : Shown = (event_polled a).0 in
    let keeps = (told_events_keep_the_status a b (event_polled a).1 (both_parts (event_polled a))).0 in
    stays_by a b keeps.lost keeps.state e

-- Whatever is called of an open side, either nothing is left of it, or it stays open.
call_ends : (call : Call) (a : Shown) → is_closed_state a.state ≡ false → call_refusal call a ≡ None
    → Ends a (carried_out call a).0
call_ends (Call.OpenStream id kind) a e unrefused = inr (refl, e)
call_ends (Call.Write id named bytes) a e unrefused =
    let h = writes_do_not_close a id named bytes in
    stays_by a (carried_out (Call.Write id named bytes) a).0 h.lost h.state e
call_ends (Call.Set id setting) a e unrefused = inr (refl, e)
call_ends Call.AcceptStream a e unrefused =
    let h = accepted_streams_do_not_close a in stays_by a (carried_out Call.AcceptStream a).0 h.lost h.state e
call_ends (Call.SetMaxSendMessageSize size) a e unrefused =
    let h = limits_do_not_close a size in
    stays_by a (carried_out (Call.SetMaxSendMessageSize size) a).0 h.lost h.state e
call_ends Call.Shutdown a e unrefused =
    let h = shutdowns_do_not_close a (begins_established a.failed (is_established a.state)
    errors.ErrAssociationFailed errors.ErrShutdownNonEstablished unrefused) in
    inr (h.lost, h.still_open)
call_ends Call.Close a e unrefused = inl (closed_over a reasons.AssociationClosed e)
call_ends (Call.Read id) a e unrefused = read_ends a id e
call_ends Call.Poll a e unrefused = subst (Ends a) (sym (told_left (event_polled a))) (told_ends a e)
call_ends Call.PollEndpointEvent a e unrefused = inr (refl, e)
call_ends (Call.PollTransmit now) a e unrefused = poll_ends a now e
call_ends (Call.HandleTimeout now) a e unrefused =
    let h = timers_do_not_close a now in stays_by a (after_timeouts a now) h.lost h.state e
call_ends (Call.HandleEvent packet now) a e unrefused =
    by_closing (closes a packet now) a (after_packet a packet now) e (faults_alone_close a packet now)
    (λ c. packet_over a.lost packet a now c)
call_ends (Call.Stop id) a e unrefused = stop_ends a id e
call_ends (Call.CloseStream id) a e unrefused = stop_ends (adjusted a id settings.WriteHalfClosed) id e

-- what the call left
left_is : (call : Call) (told : List Event) (a b : Shown) → IsCarriedOut call told a b → (carried_out call a).0 ≡ b
left_is call told a b done = ap (λ (x : Shown × List Event). x.0) done.there

-- Of an open side that a call closes nothing is left.
pub becomes_over : (call : Call) (told : List Event) (a b : Shown) → a.lost ≡ false → is_closed_state a.state ≡ false
    → IsCarriedOut call told a b → b.lost ≡ true → IsOver b
becomes_over call told a b unlost e done lost =
    let is = left_is call told a b done in
    ⊎_elim
    (λ (over : IsOver (carried_out call a).0). subst IsOver is over)
    (λ (stays : StaysOpen a (carried_out call a).0).
    absurd (true≢false (sym lost ∙ sym (ap (λ (z : Shown). z.lost) is) ∙ stays.0 ∙ unlost)))
    (call_ends call a e done.accepted)

-- One that it leaves not lost is open still.
pub stays_open : (call : Call) (told : List Event) (a b : Shown) → a.lost ≡ false → is_closed_state a.state ≡ false
    → IsCarriedOut call told a b → b.lost ≡ false → is_closed_state b.state ≡ false
stays_open call told a b unlost e done unlost_still =
    let is = left_is call told a b done in
    ⊎_elim
    (λ (over : IsOver (carried_out call a).0).
    absurd (true≢false (sym over.lost ∙ ap (λ (z : Shown). z.lost) is ∙ unlost_still)))
    (λ (stays : StaysOpen a (carried_out call a).0). ap (λ (z : Shown). is_closed_state z.state) (sym is) ∙ stays.1)
    (call_ends call a e done.accepted)
