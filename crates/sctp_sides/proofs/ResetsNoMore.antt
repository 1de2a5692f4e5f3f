-- Resets that concern streams past their span alone still do after each call, where no other stream is stopped.
use Rattle.std.proofs.Common.{◌≡◌, refl, ℕ, Bool, true, false, if◌then◌else◌, List, [], ◌∷◌, ◌-◌, ◌==◌, length, fold}
use Rattle.std.proofs.Common.{Option, Some, None, is_some}
use Rattle.std.specs.List.{AllByRecursion}
use Rattle.sctp_wire_types.specs.Config.{is_rfc}
use Rattle.sctp_wire_types.specs.declared.chunk.ChunkPayloadData.{ChunkPayloadData}
use Rattle.sctp_wire_types.specs.declared.error.Error.TheVariants as errors
use Rattle.sctp_wire_types.specs.declared.ids.PayloadProtocolIdentifier.{PayloadProtocolIdentifier}
use Rattle.sctp_wire_types.specs.declared.param.ParamOutgoingResetRequest.{ParamOutgoingResetRequest}
use Rattle.sctp_wire.specs.DataPackets.{datagrams_of}
use Rattle.sctp_parts.specs.declared.timer.Timer.TheVariants as names
use Rattle.sctp_parts.specs.Timers.{expiry_of, started, with_stopped}
use Rattle.sctp_receive_queues.specs.Messages.{ReceivedMessage}
use Rattle.sctp_streams.specs.declared.event.AssociationError.{AssociationError}
use Rattle.sctp_streams.specs.declared.event.AssociationError.TheVariants as reasons
use Rattle.sctp_streams.specs.declared.event.Event.{Event}
use Rattle.sctp_streams.specs.Stream.{StreamView, is_read_half_open}
use Rattle.sctp_streams.specs.Streams.{StreamMap, read_in, stream_at}
use Rattle.sctp_inbound.specs.declared.handshake.Offer.{Offer}
use Rattle.sctp_inbound.specs.Handshake.{header_of}
use Rattle.sctp_resets.specs.Channels.{channels}
use Rattle.sctp_resets.specs.Resets.{Beside, ResetsView, event_told, given_up, is_retiring, read_out, request_again}
use Rattle.sctp_resets.specs.Resets.{request_asked, request_sent, stopped_reading, waiting_for}
use Rattle.sctp_resets.specs.Within.{ResetsOver}
use Rattle.sctp_resets.proofs.KeptOver.{again_over, asked_over, closed_over, expired_over, given_up_over, read_out_over}
use Rattle.sctp_resets.proofs.KeptOver.{retiring_is_over, sent_over, stopped_reading_over, told_over, waiting_over}
use Rattle.sctp_resets.proofs.ListsOver.{all_taken}
use Rattle.sctp_assoc.specs.declared.control.Control.{Control}
use Rattle.sctp_assoc.specs.declared.control.Control.TheVariants as controls
use Rattle.sctp_assoc.specs.Calls.{accepted_from, after_ack_delay, after_read, after_t3, credit_in, drained_behind}
use Rattle.sctp_assoc.specs.Calls.{eased, event_from, exchanges_data, holds_of, is_established, retransmits}
use Rattle.sctp_assoc.specs.Calls.{stopped_open, t3_expired, tells_window, told_if, unread_dropped}
use Rattle.sctp_assoc.specs.Calls.{without_read_half_of, written_at}
use Rattle.sctp_assoc.specs.Closing.{closed_by, closed_open, exhausted, is_closed_state, is_exhausted, out_of_resource}
use Rattle.sctp_assoc.specs.Closing.{relieved}
use Rattle.sctp_assoc.specs.Gather.{ack_after, ack_polled, after_both, control_polled, data_after, data_polled}
use Rattle.sctp_assoc.specs.Gather.{exchange_after, open_polled}
use Rattle.sctp_assoc.specs.Gather.{exchange_polled, first_request_behind, first_request_polled, forward_after}
use Rattle.sctp_assoc.specs.Gather.{forward_polled, is_due, reconfig_run_after, repeat_polled, request_made}
use Rattle.sctp_assoc.specs.Gather.{requests_after, requests_polled, with_control_given, with_request_again}
use Rattle.sctp_assoc.specs.Gather.{with_request_asked, with_request_placed, with_request_sent, without_control}
use Rattle.sctp_assoc.specs.Handshake.{after_t1_cookie, after_t1_init, cookie_queued, init_queued, sends_cookie}
use Rattle.sctp_assoc.specs.Handshake.{sends_init, t1_cookie_expired, t1_init_expired}
use Rattle.sctp_assoc.specs.ResetActs.{spans_end_if}
use Rattle.sctp_assoc.specs.Resets.{after_reconfig_timer, asks_again, gives_up, reconfig_expired, with_beside}
use Rattle.sctp_assoc.specs.Resets.{with_reconfig_run}
use Rattle.sctp_assoc.specs.Shown.{Shown}
use Rattle.sctp_assoc.specs.Shutdown.{after_t2_shutdown}
use Rattle.sctp_sides.specs.NoReset.{HasNoReset}
use Rattle.sctp_sides.specs.PastSpan.{AcceptedStreamsResetNoMore, ClosesEndResets, ClosesResetNoMore, EndsPast}
use Rattle.sctp_sides.specs.PastSpan.{ExhaustionEndsResets, ExhaustionResetsNoMore, LimitsResetNoMore}
use Rattle.sctp_sides.specs.PastSpan.{OpenedStreamsResetNoMore, PacketEndsResetNoMore, PollsResetNoMore}
use Rattle.sctp_sides.specs.PastSpan.{ReadsResetNoMore, ResetsNoMore, ResetsPastOnly, SettingsResetNoMore}
use Rattle.sctp_sides.specs.PastSpan.{StopsResetThatStream, TimersResetNoMore, ToldEventsResetNoMore, WaitsPast}
use Rattle.sctp_sides.specs.PastSpan.{WritesResetNoMore}
use Rattle.sctp_sides.specs.SideLaws.{OpenStopsResetThatStream, ReadsEndPast, with_read}
use Rattle.sctp_sides.proofs.EndedPolls.{by_poll_end, complete_given, with_answer_timed}
use Rattle.sctp_sides.proofs.BeginsNoReset.{one_more_waits}
use Rattle.sctp_sides.proofs.PastOnly.{asking_if_is_past, asking_is_past, beside_is_past, others_are_past}
use Rattle.sctp_sides.proofs.PastOnly.{queued_is_past, queued_under_is_past, resetting_is_past, same_stays_past}

-- Calls of the application

pub opened_streams_reset_no_more : OpenedStreamsResetNoMore
opened_streams_reset_no_more a id kind = same_stays_past a _ refl refl

written_past : (o : Option StreamView) (a : Shown) (id : ℕ) (named : Option PayloadProtocolIdentifier) (bytes : List ℕ)
    → ResetsNoMore a (written_at o a id named bytes)
written_past None a id named bytes over h = h
written_past (Some t) a id named bytes over h = same_stays_past a _ refl refl over h

pub writes_reset_no_more : WritesResetNoMore
writes_reset_no_more a id named bytes = written_past (stream_at a.streams id) a id named bytes

pub settings_reset_no_more : SettingsResetNoMore
settings_reset_no_more a id setting = same_stays_past a _ refl refl

limit_past : (failed : Bool) (a : Shown) (size : ℕ)
    → ResetsNoMore a (if failed then a else record a { max_send_message_size = size })
limit_past true a size over h = h
limit_past false a size over h = same_stays_past a _ refl refl over h

pub limits_reset_no_more : LimitsResetNoMore
limits_reset_no_more a size = limit_past a.failed a size

accepted_past : (ids : List ℕ) (a : Shown) → ResetsNoMore a (accepted_from ids a).0
accepted_past [] a over h = h
accepted_past (id ∷ ids) a over h = same_stays_past a _ refl refl over h

accepted_past_if : (failed : Bool) (a : Shown)
    → ResetsNoMore a (if failed then (a, None) else accepted_from a.to_accept a).0
accepted_past_if true a over h = h
accepted_past_if false a over h = accepted_past a.to_accept a over h

pub accepted_streams_reset_no_more : AcceptedStreamsResetNoMore
accepted_streams_reset_no_more a = accepted_past_if a.failed a

-- Closes

closed_past : (closed : Bool) (a : Shown) (reason : AssociationError)
    → ResetsNoMore a (if closed then a else closed_open a reason)
closed_past true a reason over h = h
closed_past false a reason over h = record { resets = closed_over over a.resets h.resets; control = tt }

pub closes_reset_no_more : ClosesResetNoMore
closes_reset_no_more a reason = closed_past (is_closed_state a.state) a reason

pub exhaustion_resets_no_more : ExhaustionResetsNoMore
exhaustion_resets_no_more a over h =
    queued_is_past over (closed_by a reasons.ReceiveBufferExhausted) out_of_resource tt
    (closes_reset_no_more a reasons.ReceiveBufferExhausted over h)

closed_ends : (closed : Bool) (a : Shown) (reason : AssociationError) → closed ≡ false
    → HasNoReset (if closed then a else closed_open a reason)
closed_ends true a reason e = absurd (cc)
closed_ends false a reason e = record {
  waiting = refl;
  queued = refl;
  active = refl;
  ahead = refl;
  in_progress = refl;
  owed = refl;
  kept = refl;
  control = tt;
}

pub closes_end_resets : ClosesEndResets
closes_end_resets a reason = closed_ends (is_closed_state a.state) a reason

pub exhaustion_ends_resets : ExhaustionEndsResets
exhaustion_ends_resets a e =
    one_more_waits (closed_by a reasons.ReceiveBufferExhausted) out_of_resource tt
    (closes_end_resets a reasons.ReceiveBufferExhausted e)

relieved_past_if : (e : Bool) (a : Shown) → ResetsNoMore a (if e then exhausted a else a)
relieved_past_if true a over h = exhaustion_resets_no_more a over h
relieved_past_if false a over h = h

-- an exhausted receive buffer closes, or nothing changes
pub relieved_past : (a : Shown) → ResetsNoMore a (relieved a)
relieved_past a = relieved_past_if (is_exhausted a) a

-- a window that opened is told, and no reset changes
pub told_windows_reset_no_more : (c : Bool) (a : Shown) → ResetsNoMore a (told_if c a)
told_windows_reset_no_more true a over h = same_stays_past a (told_if true a) refl refl over h
told_windows_reset_no_more false a over h = h

pub eased_past : (before : ℕ) (a : Shown) → ResetsNoMore a (eased before a)
eased_past before a over h =
    let b : Shown = relieved a in
    told_windows_reset_no_more (tells_window before b) b over (relieved_past a over h)

-- Reads and stops

drained_past : (a : Shown) (id : ℕ) (streams : StreamMap) → ResetsNoMore a (drained_behind a id streams)
drained_past a id streams over h =
    resetting_is_past over a
    (read_out a.sender.queue.next_message_id a.receiver.max_receive_message_size id a.resets
    (channels streams a.events a.to_accept))
    (read_out_over over a.sender.queue.next_message_id a.receiver.max_receive_message_size id a.resets
    (channels streams a.events a.to_accept) h.resets)
    h

read_past : (a : Shown) (id : ℕ) (x : StreamMap × Option ReceivedMessage) → ResetsNoMore a (after_read a id x).0
read_past a id (streams, None) over h = drained_past a id streams over h
read_past a id (streams, Some message) over h =
    eased_past (credit_in a) (drained_behind a id streams) over (drained_past a id streams over h)

pub reads_reset_no_more : ReadsResetNoMore
reads_reset_no_more a id = read_past a id (read_in a.streams id)

-- the end of a generation that was read to its end is of a stream past its span
ends_past_if : (retires : Bool) (over : ℕ → Bool) (id : ℕ) (m : StreamMap) → (retires ≡ true → over id ≡ true)
    → AllByRecursion (EndsPast over) (spans_end_if retires (id ∷ []) m)
ends_past_if true over id m past = ((past refl, tt), tt)
ends_past_if false over id m past = tt

pub reads_end_past : ReadsEndPast
reads_end_past over a id h = (
  ends_past_if (is_retiring a.resets id) over id (with_read a id).streams (retiring_is_over over a.resets id h.resets),
  drained_past a id (read_in a.streams id).0 over h,
)

stopped_open_past_if : (retires : Bool) (over : ℕ → Bool) (a : Shown) (id : ℕ) → over id ≡ true → ResetsPastOnly over a
    → ResetsPastOnly over
    (let b = without_read_half_of a id in
    if retires then with_beside b (stopped_reading id b.resets b.streams b.events) else
    record b { streams = unread_dropped (is_rfc b.profile) b.streams id; resets = waiting_for b.resets id })
stopped_open_past_if true over a id one h =
    let b : Shown = without_read_half_of a id in
    beside_is_past over b (stopped_reading id b.resets b.streams b.events)
    (stopped_reading_over over id b.resets b.streams b.events h.resets) (same_stays_past a b refl refl over h)
stopped_open_past_if false over a id one h =
    others_are_past over a _ (waiting_over over a.resets id one h.resets) refl h

pub open_stops_reset_that_stream : OpenStopsResetThatStream
open_stops_reset_that_stream over a id one h =
    stopped_open_past_if (is_retiring a.resets id) over a id one h

stopped_past_if : (reads : Bool) (before : ℕ) (over : ℕ → Bool) (a : Shown) (id : ℕ) → over id ≡ true
    → ResetsPastOnly over a → ResetsPastOnly over (if reads then eased before (stopped_open a id) else a)
stopped_past_if true before over a id one h =
    eased_past before (stopped_open a id) over (open_stops_reset_that_stream over a id one h)
stopped_past_if false before over a id one h = h

pub stops_reset_that_stream : StopsResetThatStream
stops_reset_that_stream over a id one h =
    stopped_past_if (holds_of (λ s. is_read_half_open s.halves) a id) (credit_in a) over a id one h

-- Events

told_past : (x : ResetsView × List Event × Option Event) (over : ℕ → Bool) (a : Shown) → ResetsOver over x.0
    → ResetsPastOnly over a → ResetsPastOnly over (event_from x a).0
told_past (r, left, None) over a resets h = others_are_past over a _ resets refl h
told_past (r, left, Some e) over a resets h = others_are_past over a _ resets refl h

pub told_events_reset_no_more : ToldEventsResetNoMore
told_events_reset_no_more a over h =
    told_past (event_told a.resets a.events) over a (told_over over a.resets a.events h.resets) h

-- Timers

offered_past : (o : Option Offer) (a : Shown) → ResetsNoMore a (init_queued o a)
offered_past None a over h = h
offered_past (Some offer) a over h = queued_under_is_past over _ a _ tt h

-- an INIT that goes out names no stream
pub offers_past : (a : Shown) (now : ℕ) → ResetsNoMore a (sends_init a now)
unfolding sends_init
offers_past a now over h =
    same_stays_past (init_queued a.handshake.offer a) (sends_init a now) refl refl over
    (offered_past a.handshake.offer a over h)

cookie_past : (o : Option (List ℕ)) (a : Shown) → ResetsNoMore a (cookie_queued o a)
cookie_past None a over h = h
cookie_past (Some cookie) a over h = queued_is_past over a _ tt h

-- nor does a COOKIE ECHO
pub echoes_past : (a : Shown) (now : ℕ) → ResetsNoMore a (sends_cookie a now)
unfolding sends_cookie
echoes_past a now over h =
    same_stays_past (cookie_queued a.handshake.echo a) (sends_cookie a now) refl refl over
    (cookie_past a.handshake.echo a over h)

t1_init_past : (expired failure : Bool) (a : Shown) (now : ℕ)
    → ResetsNoMore a
    (if expired then
    (if failure then (let b = t1_init_expired a now in record b { handshake_fault = Some errors.ErrHandshakeInitAck })
    else sends_init (t1_init_expired a now) now) else a)
t1_init_past false failure a now over h = h
t1_init_past true true a now over h = same_stays_past a _ refl refl over h
t1_init_past true false a now over h =
    offers_past (t1_init_expired a now) now over (same_stays_past a (t1_init_expired a now) refl refl over h)

t1_cookie_past : (expired failure : Bool) (a : Shown) (now : ℕ)
    → ResetsNoMore a
    (if expired then
    (if failure then (let b =
    t1_cookie_expired a now in record b { handshake_fault = Some errors.ErrHandshakeCookieEcho }) else
    sends_cookie (t1_cookie_expired a now) now) else a)
t1_cookie_past false failure a now over h = h
t1_cookie_past true true a now over h = same_stays_past a _ refl refl over h
t1_cookie_past true false a now over h =
    echoes_past (t1_cookie_expired a now) now over (same_stays_past a (t1_cookie_expired a now) refl refl over h)

t3_past : (expired failure : Bool) (a : Shown) (now : ℕ)
    → ResetsNoMore a
    (if expired then (if failure then t3_expired a now else retransmits (t3_expired a now) now) else a)
t3_past false failure a now over h = h
t3_past true true a now over h = same_stays_past a _ refl refl over h
t3_past true false a now over h = same_stays_past a _ refl refl over h

asks_again_past : (a : Shown) (now : ℕ) → ResetsNoMore a (asks_again a now)
asks_again_past a now over h =
    others_are_past over a (asks_again a now) (expired_over over a.resets h.resets) refl h

goes_on_past : (active : Bool) (a : Shown) (now : ℕ)
    → ResetsNoMore a (if active then asks_again a now else record a { timers = with_stopped names.Reconfig a.timers })
goes_on_past true a now over h = asks_again_past a now over h
goes_on_past false a now over h = same_stays_past a _ refl refl over h

gives_up_past : (a : Shown) (now : ℕ) → ResetsNoMore a (gives_up a now)
gives_up_past a now over h =
    let x : Beside = given_up a.resets a.streams a.events in
    let b : Shown = with_beside a x in
    goes_on_past (is_some b.resets.own.active) b now over
    (beside_is_past over a x (given_up_over over a.resets a.streams a.events h.resets) h)

reconfig_past : (expired failure : Bool) (a : Shown) (now : ℕ)
    → ResetsNoMore a
    (if expired then
    (if failure then gives_up (reconfig_expired a now) now else asks_again (reconfig_expired a now) now) else a)
reconfig_past false failure a now over h = h
reconfig_past true true a now over h =
    gives_up_past (reconfig_expired a now) now over (same_stays_past a (reconfig_expired a now) refl refl over h)
reconfig_past true false a now over h =
    asks_again_past (reconfig_expired a now) now over (same_stays_past a (reconfig_expired a now) refl refl over h)

ack_delay_past : (expired : Bool) (a : Shown) (now : ℕ) → (expiry_of names.Ack now a.timers).expired ≡ expired
    → ResetsNoMore a (after_ack_delay a now)
ack_delay_past false a now e = rw e (λ over h. h)
ack_delay_past true a now e = rw e (same_stays_past a _ refl refl)

pub timers_reset_no_more : TimersResetNoMore
timers_reset_no_more a now over h =
    let b : Shown = after_t1_init a now in
    let c : Shown = after_t1_cookie b now in
    let f : Shown = after_t2_shutdown c now in
    let d : Shown = after_t3 f now in
    let e : Shown = after_reconfig_timer d now in
    ack_delay_past (expiry_of names.Ack now e.timers).expired e now refl over
    (reconfig_past (expiry_of names.Reconfig now d.timers).expired (expiry_of names.Reconfig now d.timers).failed d now
    over
    (t3_past (expiry_of names.T3RTX now f.timers).expired (expiry_of names.T3RTX now f.timers).failed f now over
    (same_stays_past c f refl refl over
    (t1_cookie_past (expiry_of names.T1Cookie now b.timers).expired (expiry_of names.T1Cookie now b.timers).failed b now
    over
    (t1_init_past (expiry_of names.T1Init now a.timers).expired (expiry_of names.T1Init now a.timers).failed a now over
    h)))))

-- Polls. The streams that are past their span:
module _ (over : ℕ → Bool) where
  -- What a step leaves and gives.
  abbrev GivenPast : Shown × List (List ℕ) → Type 0
  GivenPast x = ResetsPastOnly over x.0

  both_past : (packets : List (List ℕ)) (x : Shown × List (List ℕ)) → GivenPast x → GivenPast (after_both packets x)
  both_past packets (a, more) h = h

  -- what waits goes out

  placed_past : (x : Shown × List (List ℕ)) (y : ResetsView × Option ParamOutgoingResetRequest) → ResetsOver over y.0
      → GivenPast x → GivenPast (with_request_placed x y)
  placed_past (a, packets) (r, None) resets h =
      asking_is_past over (record a { resets = r }) (others_are_past over a (record a { resets = r }) resets refl h)
  placed_past (a, packets) (r, Some param) resets h = others_are_past over a (record a { resets = r }) resets refl h

  one_given_past : (x : Shown × List (List ℕ)) (c : Control) → GivenPast x → GivenPast (with_control_given x c)
  one_given_past (a, packets) (controls.Packet p) h = h
  one_given_past (a, packets) controls.OwnRequest h =
      placed_past (a, packets) (request_sent a.resets a.sender.queue)
      (sent_over over a.resets a.sender.queue h.resets).0 h

  all_given_past : (cs : List Control) (x : Shown × List (List ℕ)) → GivenPast x
      → GivenPast (fold with_control_given x cs)
  all_given_past [] x h = h
  all_given_past (c ∷ cs) x h = all_given_past cs (with_control_given x c) (one_given_past x c h)

  control_past : (a : Shown) → ResetsPastOnly over a → GivenPast (control_polled a)
  control_past a h = all_given_past a.control (without_control a, []) (record { resets = h.resets; control = tt })

  -- requests go out behind DATA

  again_past : (a : Shown) (y : ResetsView × Option ParamOutgoingResetRequest) → ResetsOver over y.0
      → ResetsPastOnly over a → GivenPast (with_request_again a y)
  again_past a (r, None) resets h = others_are_past over a (record a { resets = r }) resets refl h
  again_past a (r, Some param) resets h = others_are_past over a (record a { resets = r }) resets refl h

  asked_past : (a : Shown) (y : ResetsView × Bool) → ResetsOver over y.0 → ResetsPastOnly over a
      → ResetsPastOnly over (with_request_asked a y)
  asked_past a (r, made) resets h =
      asking_if_is_past over made (record a { resets = r })
      (others_are_past over a (record a { resets = r }) resets refl h)

  made_past : (a : Shown) → ResetsPastOnly over a → ResetsPastOnly over (request_made a)
  made_past a h =
      asked_past a (request_asked a.resets a.sender.queue) (asked_over over a.resets a.sender.queue h.resets) h

  sent_past : (a : Shown) (y : ResetsView × Option ParamOutgoingResetRequest) → ResetsOver over y.0
      → ResetsPastOnly over a → GivenPast (with_request_sent a y)
  sent_past a (r, None) resets h = others_are_past over a (record a { resets = r }) resets refl h
  sent_past a (r, Some param) resets h = record {
    resets = resets;
    control = all_taken (WaitsPast over) (length a.control - 1) a.control h.control;
  }

  first_past_if : (none : Bool) (a : Shown) → ResetsPastOnly over a
      → GivenPast (if none then (a, []) else with_request_sent a (request_sent a.resets a.sender.queue))
  first_past_if true a h = h
  first_past_if false a h =
      sent_past a (request_sent a.resets a.sender.queue) (sent_over over a.resets a.sender.queue h.resets).0 h

  first_past : (a : Shown) → ResetsPastOnly over a → GivenPast (first_request_polled a)
  first_past a h = first_past_if (length a.control == 0) a h

  behind_past : (x : Shown × List (List ℕ)) → GivenPast x → GivenPast (first_request_behind x)
  behind_past (a, packets) h =
      both_past packets (first_request_polled (request_made a)) (first_past (request_made a) (made_past a h))

  requests_past_if : (established : Bool) (a : Shown) → ResetsPastOnly over a
      → GivenPast (if established then first_request_behind (repeat_polled a) else (a, []))
  requests_past_if true a h =
      behind_past (repeat_polled a) (again_past a (request_again a.resets) (again_over over a.resets h.resets).0 h)
  requests_past_if false a h = h

  pub requests_past : (a : Shown) → ResetsPastOnly over a → GivenPast (requests_polled a)
  unfolding requests_polled
  requests_past a h = requests_past_if (is_established a.state) a h

  requests_after_past : (x : Shown × List (List ChunkPayloadData)) → ResetsPastOnly over x.0
      → GivenPast (requests_after x)
  requests_after_past (a, bundles) h =
      both_past (datagrams_of (header_of a.handshake) bundles) (requests_polled a) (requests_past a h)

  -- DATA, acknowledgements and FORWARD TSN are of no reset

  data_past : (a : Shown) (now : ℕ) → ResetsPastOnly over a → ResetsPastOnly over (data_after a now).0
  unfolding data_polled
  data_past a now h = same_stays_past a _ refl refl over h

  ack_past_if : (due : Bool) (a : Shown) → is_due a.receiver.ack_state ≡ due → ResetsPastOnly over a
      → GivenPast (ack_polled a)
  unfolding ack_polled
  ack_past_if true a e = rw e (same_stays_past a _ refl refl over)
  ack_past_if false a e = rw e (λ h. h)

  ack_after_past : (x : Shown × List (List ℕ)) → GivenPast x → GivenPast (ack_after x)
  ack_after_past (a, packets) h =
      both_past packets (ack_polled a) (ack_past_if (is_due a.receiver.ack_state) a refl h)

  forward_past : (a : Shown) → ResetsPastOnly over a → GivenPast (forward_polled a)
  unfolding forward_polled
  forward_past a h = same_stays_past a _ refl refl over h

  forward_after_past : (x : Shown × List (List ℕ)) → GivenPast x → GivenPast (forward_after x)
  forward_after_past (a, packets) h = both_past packets (forward_polled a) (forward_past a h)

  -- all of that while DATA is exchanged, and then the timer of a request

  exchange_past : (exchanges : Bool) (a : Shown) (now : ℕ) → exchanges_data a.state ≡ exchanges
      → ResetsPastOnly over a → GivenPast (exchange_polled a now)
  unfolding exchange_polled
  exchange_past true a now e =
      rw e (λ h. forward_after_past (ack_after (requests_after (data_after a now)))
      (ack_after_past (requests_after (data_after a now))
      (requests_after_past (data_after a now) (data_past a now h))))
  exchange_past false a now e = rw e (λ h. h)

  exchange_after_past : (x : Shown × List (List ℕ)) (now : ℕ) → GivenPast x → GivenPast (exchange_after x now)
  exchange_after_past (a, packets) now h =
      both_past packets (exchange_polled a now) (exchange_past (exchanges_data a.state) a now refl h)

  run_past_if : (starts : Bool) (a : Shown) (now : ℕ) → ResetsPastOnly over a
      → ResetsPastOnly over
      (if starts then record a { timers = started names.Reconfig now a.estimate.rto a.timers } else a)
  run_past_if true a now h = same_stays_past a _ refl refl over h
  run_past_if false a now h = h

  run_past : (a : Shown) (now : ℕ) → ResetsPastOnly over a → ResetsPastOnly over (with_reconfig_run a now)
  run_past a now h = run_past_if _ a now h

  run_after_past : (x : Shown × List (List ℕ)) (now : ℕ) → GivenPast x → GivenPast (reconfig_run_after x now)
  run_after_past (a, packets) now h = run_past a now h

front_resets_no_more : (a : Shown) (now : ℕ) → ResetsNoMore a (open_polled a now).0
front_resets_no_more a now over h =
    run_after_past over (exchange_after (control_polled a) now) now
    (exchange_after_past over (control_polled a) now (control_past over a h))

-- the end of a poll changes no reset, or closes
pub polls_reset_no_more : PollsResetNoMore
polls_reset_no_more a now over h =
    let m : Shown = (open_polled a now).0 in
    let front = front_resets_no_more a now over h in
    by_poll_end (ResetsPastOnly over) a now
    (λ e due timer. same_stays_past m (with_answer_timed m due timer) refl refl over front)
    (λ e open_still. closed_past false (complete_given m) reasons.AssociationClosed over
    (same_stays_past m (complete_given m) refl refl over front))

-- The end of a packet

pub packet_ends_reset_no_more : PacketEndsResetNoMore
packet_ends_reset_no_more a trigger now = same_stays_past a _ refl refl
