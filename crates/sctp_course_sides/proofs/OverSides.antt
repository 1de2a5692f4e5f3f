-- A side that was lost: whatever is called, nothing is left of it, it reads nothing, and its packets say nothing of a
-- stream.
use Rattle.std.proofs.Common.{◌≡◌, refl, sym, ap, ◌∙◌, subst, ◌⊎◌, ⊎_elim, ℕ, ◌*◌, Bool, true, false, ◌&&◌}
use Rattle.std.proofs.Common.{if◌then◌else◌, is_some, length, nat_le, nat_lt, List, [], ◌∷◌, Option, Some, None}
use Rattle.std.specs.List.{AllByRecursion}
use Rattle.std.proofs.lemmas.Bool.{true≢false}
use Rattle.sctp_wire_types.specs.declared.chunk.Chunk.{Chunk}
use Rattle.sctp_wire_types.specs.declared.chunk.Chunk.TheVariants as chunks
use Rattle.sctp_wire_types.specs.declared.error.Error.TheVariants as errors
use Rattle.sctp_wire_types.specs.Config.{is_rfc}
use Rattle.sctp_wire.specs.declared.packet.Packet.{Packet}
use Rattle.sctp_wire.specs.Packets.{packet_at}
use Rattle.sctp_parts.specs.Timers.{IsNoneArmed}
use Rattle.sctp_receive_queues.specs.Messages.{ReceivedMessage}
use Rattle.sctp_streams.specs.declared.event.AssociationError.TheVariants as reasons
use Rattle.sctp_streams.specs.declared.event.Event.{Event}
use Rattle.sctp_streams.specs.declared.setting.Setting.{Setting}
use Rattle.sctp_streams.specs.declared.setting.Setting.TheVariants as settings
use Rattle.sctp_streams.specs.Stream.{StreamView}
use Rattle.sctp_streams.specs.Streams.{StreamMap, read_at, read_in, stream_at}
use Rattle.sctp_resets.specs.Resets.{ResetsView, event_told}
use Rattle.sctp_model.proofs.Lists.{all_get, all_weaker}
use Rattle.sctp_courses.specs.Course.{Course}
use Rattle.sctp_assoc.specs.declared.control.Control.TheVariants as controls
use Rattle.sctp_assoc.specs.Calls.{accepted_from, adjusted, after_read, credit_in, drained_behind, event_from}
use Rattle.sctp_assoc.specs.Calls.{event_polled, exchanges_data, is_established, opened, read_from_stream}
use Rattle.sctp_assoc.specs.Calls.{read_refusal, read_refusal_at, stop_refusal, stopped, tells_window, told_if}
use Rattle.sctp_assoc.specs.Calls.{twice_open}
use Rattle.sctp_assoc.specs.Closing.{is_closed_state}
use Rattle.sctp_assoc.specs.Gather.{IsPlainControl, polled, without_control}
use Rattle.sctp_assoc.specs.Happened.{PollsOn, acts_of_poll, forwards_of_poll}
use Rattle.sctp_assoc.specs.Inbound.{taken_packet}
use Rattle.sctp_assoc.specs.Replies.{packet_in}
use Rattle.sctp_assoc.specs.Shown.{Shown}
use Rattle.sctp_assoc.specs.Shutdown.{endpoint_event_polled}
use Rattle.sctp_assoc.proofs.Stopping.{stop_refusal_stays}
use Rattle.sctp_sides.specs.Meeting.{Greets, Stage}
use Rattle.sctp_sides.specs.NoReset.{HasNoReset, control_packets}
use Rattle.sctp_sides.specs.OneSide.{Call, IsCarriedOut, call_refusal, carried_out, with_told}
use Rattle.sctp_sides.specs.SideLaws.{HoldsNothing, IsLive, IsWaitingToGo, OfEachChunk}
use Rattle.sctp_sides.proofs.BeginsNoReset.{same_resets}
use Rattle.sctp_sides.proofs.Proved.{accepted_writes_fit, closed_sides_exchange_nothing, established_is_not_closed}
use Rattle.sctp_sides.proofs.Proved.{faults_close, lost_associations_take_nothing, opened_streams_begin_no_reset}
use Rattle.sctp_sides.proofs.Proved.{opened_streams_hold_nothing, opened_streams_were_not_live}
use Rattle.sctp_sides.proofs.Proved.{polls_outside_an_exchange_give_what_waits, reads_change_streams_alone}
use Rattle.sctp_sides.proofs.Proved.{reads_keep_the_status, settings_begin_no_reset, settings_hold_nothing}
use Rattle.sctp_sides.proofs.Proved.{stops_are_in_established, told_events_begin_no_reset}
use Rattle.sctp_sides.proofs.Proved.{what_holds_nothing_gives_nothing, what_waits_goes_out_as_it_is}
use Rattle.sctp_sides.proofs.TimersOverTimeouts.{unarmed_timeouts_do_nothing}
use Rattle.sctp_sides.proofs.TimersRun.{begins_established}
use Rattle.sctp_course_sides.specs.Follows.{ChunkComes}
use Rattle.sctp_course_sides.specs.Honest.{IsHonest}
use Rattle.sctp_course_sides.specs.Over.{ControlSaysNothing, IsOver, SaysNothing}

-- where nothing of these changed, nothing is left still
pub over_on : (a b : Shown) → b.lost ≡ a.lost → b.state ≡ a.state → b.control ≡ a.control → b.timers ≡ a.timers
    → HasNoReset b → HoldsNothing b → IsOver a → IsOver b
over_on a b lost state control timers none empty over = record {
  lost = lost ∙ over.lost;
  closed = ap is_closed_state state ∙ over.closed;
  nothing = empty;
  no_reset = none;
  says = subst (AllByRecursion ControlSaysNothing) (sym control) over.says;
  plain = subst (AllByRecursion IsPlainControl) (sym control) over.plain;
  stopped = subst IsNoneArmed (sym timers) over.stopped;
}

-- an established side is not over
not_over : (a : Shown) → IsOver a → is_established a.state ≡ true → ⊥
not_over a over e = true≢false (sym over.closed ∙ established_is_not_closed a e)

-- A closed side tells of no window that opened

none_tells : (rules shut opens exchanges : Bool) → exchanges ≡ false → (rules && shut && opens && exchanges) ≡ false
none_tells true true true exchanges e = e
none_tells true true false exchanges e = refl
none_tells true false opens exchanges e = refl
none_tells false shut opens exchanges e = refl

pub closed_tells_nothing : (before : ℕ) (a : Shown) → is_closed_state a.state ≡ true
    → told_if (tells_window before a) a ≡ a
unfolding tells_window
closed_tells_nothing before a closed =
    ap (λ (tells : Bool). told_if tells a)
    (none_tells (is_rfc a.profile) (nat_lt (2 * before) (twice_open a)) (nat_le (twice_open a) (2 * credit_in a))
    (exchanges_data a.state) (closed_sides_exchange_nothing a closed).0)

-- Reads

-- one that gives nothing leaves what resets leave of it
silent_read : (x : StreamMap × Option ReceivedMessage) (a : Shown) (id : ℕ) → x.1 ≡ None
    → (after_read a id x).0 ≡ drained_behind a id x.0
silent_read (streams, None) a id none = refl
silent_read (streams, Some message) a id none = absurd (true≢false (ap is_some none))

-- A side that was lost reads nothing.

module _ (a : Shown) (id : ℕ) (over : IsOver a) where
  nothing_in : (o : Option StreamView) → stream_at a.streams id ≡ o → (read_in a.streams id).1 ≡ None
  nothing_in None there =
      ap (λ (o : Option StreamView). (read_at o a.streams id).1) there
  nothing_in (Some t) there =
      let b : Shown = record a { failed = false } in
      let live : IsLive b id = record { working = refl; stream = t; there = there } in
      let none : HasNoReset b = same_resets a b refl refl over.no_reset in
      sym (reads_keep_the_status b id).given ∙ (what_holds_nothing_gives_nothing b id none live over.nothing).0

  nothing_read : (read_in a.streams id).1 ≡ None
  nothing_read = nothing_in (stream_at a.streams id) refl

  read_leaves : (read_from_stream a id).0 ≡ record a { streams = (read_in a.streams id).0 }
  read_leaves =
      silent_read (read_in a.streams id) a id nothing_read ∙ reads_change_streams_alone a id over.no_reset

pub over_reads_nothing : (a : Shown) (k : ℕ) → IsOver a → (read_from_stream a k).1 ≡ None
over_reads_nothing a k over = (reads_keep_the_status a k).given ∙ nothing_read a k over

read_is_of_live : (failed : Bool) (o : Option StreamView) (a : Shown) (id : ℕ) → a.failed ≡ failed
    → stream_at a.streams id ≡ o
    → (if failed then Some errors.ErrAssociationFailed else read_refusal_at o) ≡ None → IsLive a id
read_is_of_live true o a id f there e = absurd (true≢false (ap is_some e))
read_is_of_live false None a id f there e = absurd (true≢false (ap is_some e))
read_is_of_live false (Some t) a id f there e = record { working = f; stream = t; there = there }

read_over : (a : Shown) (id : ℕ) → IsOver a → read_refusal a id ≡ None → IsOver (read_from_stream a id).0
read_over a id over e =
    let c : Shown = record a { streams = (read_in a.streams id).0 } in
    let live = read_is_of_live a.failed (stream_at a.streams id) a id refl refl e in
    let empty : HoldsNothing (read_from_stream a id).0 =
    (what_holds_nothing_gives_nothing a id over.no_reset live over.nothing).1 in
    subst IsOver (sym (read_leaves a id over))
    (over_on a c refl refl refl refl (same_resets a c refl refl over.no_reset)
    (subst HoldsNothing (read_leaves a id over) empty) over)

-- Other calls

accepted_over : (ids : List ℕ) (a : Shown) → IsOver a → IsOver (accepted_from ids a).0
accepted_over [] a over = over
accepted_over (id ∷ ids) a over =
    let b : Shown = record a { to_accept = ids } in
    over_on a b refl refl refl refl (same_resets a b refl refl over.no_reset) over.nothing over

accepted_over_if : (failed : Bool) (a : Shown) → IsOver a
    → IsOver (if failed then (a, None) else accepted_from a.to_accept a).0
accepted_over_if true a over = over
accepted_over_if false a over = accepted_over a.to_accept a over

limit_over : (failed : Bool) (a : Shown) (size : ℕ) → IsOver a
    → IsOver (if failed then a else record a { max_send_message_size = size })
limit_over true a size over = over
limit_over false a size over =
    let b : Shown = record a { max_send_message_size = size } in
    over_on a b refl refl refl refl (same_resets a b refl refl over.no_reset) over.nothing over

event_over : (x : ResetsView × List Event × Option Event) (a : Shown) → HasNoReset (event_from x a).0 → IsOver a
    → IsOver (event_from x a).0
event_over (r, left, None) a none over =
    over_on a (event_from (r, left, None) a).0 refl refl refl refl none over.nothing over
event_over (r, left, Some event) a none over =
    over_on a (event_from (r, left, Some event) a).0 refl refl refl refl none over.nothing over

pub told_left : (x : Shown × Option Event) → (with_told x).0 ≡ x.0
told_left (a, event) = refl

-- what waited went out
silent_over : (a : Shown) → IsOver a → IsOver (without_control a)
silent_over a over =
    let n = over.no_reset in
    record {
      lost = over.lost;
      closed = over.closed;
      nothing = over.nothing;
      no_reset = record {
        waiting = n.waiting;
        queued = n.queued;
        active = n.active;
        ahead = n.ahead;
        in_progress = n.in_progress;
        owed = n.owed;
        kept = n.kept;
        control = tt;
      };
      says = tt;
      plain = tt;
      stopped = over.stopped;
    }

set_over : (a : Shown) (id : ℕ) (setting : Setting) → IsOver a → IsOver (adjusted a id setting)
set_over a id setting over =
    over_on a (adjusted a id setting) refl refl refl refl (settings_begin_no_reset a id setting over.no_reset)
    (settings_hold_nothing a id setting over.nothing) over

stop_over : (a : Shown) (id : ℕ) → IsOver a → stop_refusal a id ≡ None → IsOver (stopped a id)
stop_over a id over e = ⊎_elim
    (λ (same : stopped a id ≡ a). subst IsOver (sym same) over)
    (λ (established : is_established a.state ≡ true). absurd (not_over a over established))
    (stops_are_in_established a id over.no_reset e)

over_kept : (call : Call) (a : Shown) → IsOver a → call_refusal call a ≡ None → IsOver (carried_out call a).0
over_kept (Call.OpenStream id kind) a over e =
    let free = opened_streams_were_not_live a id e in
    over_on a (opened a id kind) refl refl refl refl (opened_streams_begin_no_reset a id kind over.no_reset)
    (opened_streams_hold_nothing a id kind free.1 over.nothing) over
over_kept (Call.Write id named bytes) a over e =
    absurd (not_over a over (accepted_writes_fit a id (length bytes) e).established)
over_kept (Call.Set id setting) a over e = set_over a id setting over
over_kept Call.AcceptStream a over e = accepted_over_if a.failed a over
over_kept (Call.SetMaxSendMessageSize size) a over e = limit_over a.failed a size over
over_kept Call.Shutdown a over e =
    absurd (not_over a over (begins_established a.failed (is_established a.state) errors.ErrAssociationFailed
    errors.ErrShutdownNonEstablished e))
over_kept Call.Close a over e =
    subst IsOver (sym ((faults_close a reasons.AssociationClosed).stays over.closed)) over
over_kept (Call.Read id) a over e = read_over a id over e
over_kept Call.Poll a over e =
    subst IsOver (sym (told_left (event_polled a)))
    (event_over (event_told a.resets a.events) a (told_events_begin_no_reset a over.no_reset) over)
over_kept Call.PollEndpointEvent a over e =
    let b : Shown = (endpoint_event_polled a).0 in
    over_on a b refl refl refl refl (same_resets a b refl refl over.no_reset) over.nothing over
over_kept (Call.PollTransmit now) a over e =
    let quiet = closed_sides_exchange_nothing a over.closed in
    let whole = polls_outside_an_exchange_give_what_waits a now over.no_reset quiet.0 quiet.1 in
    subst IsOver (sym (ap (λ (x : Shown × List (List ℕ)). x.0) whole)) (silent_over a over)
over_kept (Call.HandleTimeout now) a over e = subst IsOver (sym (unarmed_timeouts_do_nothing a now over.stopped)) over
over_kept (Call.HandleEvent packet now) a over e =
    subst IsOver (sym (lost_associations_take_nothing a packet now over.lost)) over
over_kept (Call.Stop id) a over e = stop_over a id over e
over_kept (Call.CloseStream id) a over e =
    stop_over (adjusted a id settings.WriteHalfClosed) id (set_over a id settings.WriteHalfClosed over)
    (stop_refusal_stays a id ∙ e)

-- Of a side that was lost nothing is left, whatever is called.
pub over_stays : (call : Call) (told : List Event) (a b : Shown) → IsOver a → IsCarriedOut call told a b → IsOver b
over_stays call told a b over done =
    subst IsOver (ap (λ (x : Shown × List Event). x.0) done.there) (over_kept call a over done.accepted)

-- What it says

waiting_says_nothing : (a : Shown) → IsOver a → (chunk : Chunk) → IsWaitingToGo a chunk → SaysNothing chunk
waiting_says_nothing a over chunk (k, c, there, same) =
    subst SaysNothing same (all_get ControlSaysNothing a.control k (controls.Packet c) there over.says)

each_weaker : (P Q : Chunk → Type 0) → ((chunk : Chunk) → P chunk → Q chunk) → (o : Option Packet) → OfEachChunk P o
    → OfEachChunk Q o
each_weaker P Q f None all = tt
each_weaker P Q f (Some packet) all = all_weaker P Q packet.chunks f all

-- Each chunk that the packets of its polls spell says nothing of a stream.
pub over_says : (a b : Shown) (now : ℕ) → IsOver a
    → PollsOn (acts_of_poll a now) (forwards_of_poll a now) a b (polled a now).1
    → AllByRecursion (λ (bytes : List ℕ). OfEachChunk SaysNothing (packet_in bytes)) (polled a now).1
over_says a b now over on =
    let quiet = closed_sides_exchange_nothing a over.closed in
    let whole = polls_outside_an_exchange_give_what_waits a now over.no_reset quiet.0 quiet.1 in
    let packets : List (List ℕ) = control_packets a.control in
    let Says : List ℕ → Type 0 = λ (bytes : List ℕ). OfEachChunk SaysNothing (packet_in bytes) in
    subst (AllByRecursion Says) (sym (ap (λ (x : Shown × List (List ℕ)). x.1) whole))
    (all_weaker (λ (bytes : List ℕ). OfEachChunk (IsWaitingToGo a) (taken_packet (packet_at bytes))) Says packets
    (λ bytes all. each_weaker (IsWaitingToGo a) SaysNothing (waiting_says_nothing a over) (packet_in bytes) all)
    (what_waits_goes_out_as_it_is a over.plain on.control_again))

-- Such a chunk is of every course,
pub nothing_comes : (initial id : ℕ) (c : Course) (chunk : Chunk) → SaysNothing chunk → ChunkComes initial id c chunk
nothing_comes initial id c (chunks.Abort abort) says = tt
nothing_comes initial id c (chunks.Error error) says = tt
nothing_comes initial id c (chunks.Shutdown cumulative_tsn_ack) says = tt
nothing_comes initial id c chunks.ShutdownAck says = tt
nothing_comes initial id c chunks.ShutdownComplete says = tt
nothing_comes initial id c chunk says = absurd says

-- and honest
pub nothing_is_honest : (initial : ℕ) (c : Course) (chunk : Chunk) → SaysNothing chunk → IsHonest initial c chunk
nothing_is_honest initial c (chunks.Abort abort) says = (tt, tt)
nothing_is_honest initial c (chunks.Error error) says = (tt, tt)
nothing_is_honest initial c (chunks.Shutdown cumulative_tsn_ack) says = (tt, tt)
nothing_is_honest initial c chunks.ShutdownAck says = (tt, tt)
nothing_is_honest initial c chunks.ShutdownComplete says = (tt, tt)
nothing_is_honest initial c chunk says = absurd says

-- so does it of the side's handshake, whatever the stage of that
pub nothing_greets : (own : ℕ) (s : Stage) (chunk : Chunk) → SaysNothing chunk → Greets own s chunk
nothing_greets own s (chunks.Abort abort) says = tt
nothing_greets own s (chunks.Error error) says = tt
nothing_greets own s (chunks.Shutdown cumulative_tsn_ack) says = tt
nothing_greets own s chunks.ShutdownAck says = tt
nothing_greets own s chunks.ShutdownComplete says = tt
nothing_greets own s chunk says = absurd says
