-- No call but that which stops a stream begins a reset, and of what comes only RE-CONFIG does.
use Rattle.std.proofs.Common.{◌≡◌, refl, sym, ap, ◌∙◌, subst, ℕ, Bool, true, false, if◌then◌else◌, not, List, [], ◌∷◌}
use Rattle.std.proofs.Common.{slice_get, remove, Option, Some, None, is_some, Result, Ok, Err}
use Rattle.std.specs.List.{AllByRecursion}
use Rattle.sctp_wire_types.specs.declared.chunk.Chunk.{Chunk}
use Rattle.sctp_wire_types.specs.declared.chunk.Chunk.TheVariants as chunks
use Rattle.sctp_wire_types.specs.declared.chunk.ChunkHeartbeat.{ChunkHeartbeat}
use Rattle.sctp_wire_types.specs.declared.chunk.ChunkInit.{ChunkInit}
use Rattle.sctp_wire_types.specs.declared.chunk.ChunkPayloadData.{ChunkPayloadData}
use Rattle.sctp_wire_types.specs.declared.chunk.GapAckBlock.{GapAckBlock}
use Rattle.sctp_wire_types.specs.declared.chunk.SkippedStream.{SkippedStream}
use Rattle.sctp_wire_types.specs.declared.error.Error.{Error}
use Rattle.sctp_wire_types.specs.declared.error.Error.TheVariants as errors
use Rattle.sctp_wire_types.specs.declared.ids.PayloadProtocolIdentifier.{PayloadProtocolIdentifier}
use Rattle.sctp_wire_types.specs.declared.packet.CommonHeader.{CommonHeader}
use Rattle.sctp_wire_types.specs.Checks.{checked_chunk}
use Rattle.sctp_model.proofs.Lists.{all_join}
use Rattle.sctp_parts.specs.declared.timer.Timer.TheVariants as names
use Rattle.sctp_parts.specs.Timers.{expiry_of, with_stopped}
use Rattle.sctp_receive_queues.specs.Messages.{ReceivedMessage}
use Rattle.sctp_streams.specs.declared.event.AssociationError.{AssociationError}
use Rattle.sctp_streams.specs.declared.event.AssociationError.TheVariants as reasons
use Rattle.sctp_streams.specs.declared.event.Event.{Event}
use Rattle.sctp_streams.specs.Stream.{StreamView}
use Rattle.sctp_streams.specs.Streams.{StreamMap, generation_left, is_readable_in, pushed_in, read_in, refusal_in}
use Rattle.sctp_streams.specs.Streams.{stream_at}
use Rattle.sctp_inbound.specs.declared.handshake.Offer.{Offer}
use Rattle.sctp_inbound.specs.declared.receiver.AckTrigger.{AckTrigger}
use Rattle.sctp_inbound.specs.Greeting.{first_cookie, information_of}
use Rattle.sctp_inbound.specs.Handshake.{comes_back, has_issued, header_of, learned_by_init}
use Rattle.sctp_wire.specs.DataPackets.{datagrams_of}
use Rattle.sctp_inbound.specs.Receiver.{admits, is_new_to, taken_to}
use Rattle.sctp_outbound.specs.declared.sender.SackOutcome.{SackOutcome}
use Rattle.sctp_outbound.specs.declared.sender.SackOutcome.TheVariants as outcomes
use Rattle.sctp_outbound.specs.declared.sender.Sender.{Sender}
use Rattle.sctp_outbound.specs.Sacks.{progress_of, sack_taken}
use Rattle.sctp_outbound.specs.Sender.{sack_outcome}
use Rattle.sctp_outbound.specs.declared.progress.Progress.{Progress}
use Rattle.sctp_parts.specs.Estimate.{Estimate}
use Rattle.sctp_reset_requests.specs.Debts.{DebtsView, no_debt}
use Rattle.sctp_resets.specs.Resets.{Beside, ResetsView, event_told_at, is_hidden, is_retiring, with_event}
use Rattle.sctp_resets.specs.Telling.{debts_told, next_told}
use Rattle.sctp_assoc.specs.declared.inbound.Flow.{Flow}
use Rattle.sctp_assoc.specs.Calls.{accepted_from, after_ack_delay, after_read, after_t3, credit_in, drained_behind}
use Rattle.sctp_assoc.specs.Calls.{eased, event_from, exchanges_data}
use Rattle.sctp_assoc.specs.Calls.{is_beginning, is_cookie_echoed, is_cookie_wait, retransmits}
use Rattle.sctp_assoc.specs.Calls.{sends_data}
use Rattle.sctp_assoc.specs.Shutdown.{shutdown_again, shutdown_answered, shutdown_continued, shutdown_taken}
use Rattle.sctp_assoc.specs.Calls.{t3_expired, tells_window, told_if, written_at}
use Rattle.sctp_assoc.specs.Chunks.{after_sack, asks, asks_or_faults, checked_first, counted_data, counted_sack}
use Rattle.sctp_assoc.specs.Chunks.{deferred_where_admitted, dispatched, goes_unread, left_or_handed_over, on_chunk}
use Rattle.sctp_assoc.specs.Chunks.{on_counted_sack, on_data, on_new_data, on_sack, taken_in, taken_unless}
use Rattle.sctp_assoc.specs.Chunks.{taken_where_admitted, then_skips, told, with_acknowledged, with_message}
use Rattle.sctp_assoc.specs.Closing.{closed_by, closed_open, exhausted, is_closed_state, is_exhausted, out_of_resource}
use Rattle.sctp_assoc.specs.Closing.{relieved}
use Rattle.sctp_assoc.specs.Control.{queued, queued_under, untagged}
use Rattle.sctp_assoc.specs.Finding.{found_for, stream_found}
use Rattle.sctp_assoc.specs.Gather.{ack_after, ack_polled, after_both, data_after, data_polled, exchange_after}
use Rattle.sctp_assoc.specs.Gather.{exchange_polled, forward_after, forward_polled, is_due, open_polled}
use Rattle.sctp_assoc.specs.Gather.{reconfig_run_after, requests_after}
use Rattle.sctp_assoc.specs.Gather.{requests_polled, without_control}
use Rattle.sctp_assoc.specs.Handshake.{acknowledges_again, after_t1_cookie, after_t1_init, connected, cookie_queued}
use Rattle.sctp_assoc.specs.Handshake.{echoed, information_returned, init_queued, keeps_peer, learned}
use Rattle.sctp_assoc.specs.Handshake.{learned_unless, on_cookie_ack, on_cookie_echo}
use Rattle.sctp_assoc.specs.Handshake.{on_heartbeat, on_init, on_init_ack, sends_cookie, sends_init}
use Rattle.sctp_assoc.specs.Handshake.{t1_cookie_expired, t1_init_expired}
use Rattle.sctp_assoc.specs.Probes.{is_probing}
use Rattle.sctp_assoc.specs.Resets.{asks_again, after_reconfig_timer, gives_up, goes_on, reconfig_expired, settled}
use Rattle.sctp_assoc.specs.Resets.{with_beside, with_reconfig_run}
use Rattle.sctp_assoc.specs.Shown.{Shown, all_waiting}
use Rattle.sctp_assoc.specs.Shutdown.{after_t2_shutdown}
use Rattle.sctp_assoc.specs.Skipping.{acknowledged_at_once, asks_behind, on_forward, skips_of, with_passed, with_skip}
use Rattle.sctp_assoc.specs.Skipping.{with_skips}
use Rattle.sctp_assoc.proofs.Probes.{probes_keep}
use Rattle.sctp_assoc.proofs.StreamsFound.{found_for_is}
use Rattle.sctp_sides.specs.NoReset.{AcceptedStreamsBeginNoReset, BeginsNoReset, ClosesBeginNoReset}
use Rattle.sctp_sides.specs.NoReset.{CreatedSidesResetNothing, ExhaustionBeginsNoReset, HasNoReset, IsNoReconfig}
use Rattle.sctp_sides.specs.NoReset.{IsOfNoReset, JoinedSidesResetNothing, LimitsBeginNoReset}
use Rattle.sctp_sides.specs.NoReset.{OpenedStreamsBeginNoReset, OtherChunksBeginNoReset, PacketEndsBeginNoReset}
use Rattle.sctp_sides.specs.NoReset.{PollsBeginNoReset, ReadsBeginNoReset, SettingsBeginNoReset}
use Rattle.sctp_sides.specs.NoReset.{TimersBeginNoReset, ToldEventsBeginNoReset, WritesBeginNoReset, control_packets}
use Rattle.sctp_sides.proofs.EndedPolls.{by_poll_end, complete_given, with_answer_timed}
use Rattle.sctp_sides.proofs.ForwardKinds.{forward_is_one_of}
use Rattle.sctp_sides.proofs.WithoutResets.{no_request_expires, no_request_is_given_up, no_request_is_polled}
use Rattle.sctp_sides.proofs.WithoutResets.{no_request_is_timed, no_skip_is_applied, none_is_hidden, none_retires}
use Rattle.sctp_sides.proofs.WithoutResets.{nothing_is_drained, nothing_is_owed, nothing_is_passed}
use Rattle.sctp_sides.proofs.WithoutResets.{settling_is_nothing, what_waits_goes_out}

-- only resets and what waits to go out count
pub same_resets : (a b : Shown) → b.resets ≡ a.resets → b.control ≡ a.control → BeginsNoReset a b
same_resets a b resets control = λ n. record {
  waiting = ap (λ (r : ResetsView). r.own.waiting) resets ∙ n.waiting;
  queued = ap (λ (r : ResetsView). r.own.queued) resets ∙ n.queued;
  active = ap (λ (r : ResetsView). r.own.active) resets ∙ n.active;
  ahead = ap (λ (r : ResetsView). r.own.ahead) resets ∙ n.ahead;
  in_progress = ap (λ (r : ResetsView). r.peer.in_progress) resets ∙ n.in_progress;
  owed = ap (λ (r : ResetsView). r.debts) resets ∙ n.owed;
  kept = ap (λ (r : ResetsView). r.generations) resets ∙ n.kept;
  control = subst (AllByRecursion IsOfNoReset) (sym control) n.control;
}

-- one packet more waits, under whatever header
waits_under : (header : CommonHeader) (a : Shown) (chunk : Chunk) → IsNoReconfig chunk
    → BeginsNoReset a (queued_under header a chunk)
waits_under header a chunk plain = λ n. record {
  waiting = n.waiting;
  queued = n.queued;
  active = n.active;
  ahead = n.ahead;
  in_progress = n.in_progress;
  owed = n.owed;
  kept = n.kept;
  control = all_join IsOfNoReset a.control _ n.control (plain, tt);
}

pub one_more_waits : (a : Shown) (chunk : Chunk) → IsNoReconfig chunk → BeginsNoReset a (queued a chunk)
one_more_waits a chunk plain = waits_under (header_of a.handshake) a chunk plain

-- nothing waits
none_waits : (a : Shown) → BeginsNoReset a (without_control a)
none_waits a = λ n. record {
  waiting = n.waiting;
  queued = n.queued;
  active = n.active;
  ahead = n.ahead;
  in_progress = n.in_progress;
  owed = n.owed;
  kept = n.kept;
  control = tt;
}

same_side : (a b : Shown) → b ≡ a → BeginsNoReset a b
same_side a b e = λ n. subst HasNoReset (sym e) n

-- Constructors

offered_nothing : (o : Option Offer) (a : Shown) → BeginsNoReset a (init_queued o a)
offered_nothing None a = λ n. n
offered_nothing (Some offer) a = waits_under (untagged (header_of a.handshake)) a _ tt

offers_nothing : (a : Shown) (now : ℕ) → BeginsNoReset a (sends_init a now)
unfolding sends_init
offers_nothing a now =
    λ n. same_resets (init_queued a.handshake.offer a) (sends_init a now) refl refl
    (offered_nothing a.handshake.offer a n)

pub created_sides_reset_nothing : CreatedSidesResetNothing
created_sides_reset_nothing None config size tag initial_tsn cookie remote_addr local_ip now =
    offers_nothing _ now (record {
      waiting = refl;
      queued = refl;
      active = refl;
      ahead = refl;
      in_progress = refl;
      owed = refl;
      kept = refl;
      control = tt;
    })
created_sides_reset_nothing (Some of_server) config size tag initial_tsn cookie remote_addr local_ip now = record {
  waiting = refl;
  queued = refl;
  active = refl;
  ahead = refl;
  in_progress = refl;
  owed = refl;
  kept = refl;
  control = tt;
}

pub joined_sides_reset_nothing : JoinedSidesResetNothing
joined_sides_reset_nothing config size remote_addr local_ip own peer = record {
  waiting = refl;
  queued = refl;
  active = refl;
  ahead = refl;
  in_progress = refl;
  owed = refl;
  kept = refl;
  control = tt;
}

-- Calls of the application

pub opened_streams_begin_no_reset : OpenedStreamsBeginNoReset
opened_streams_begin_no_reset a id kind = same_resets a _ refl refl

written_none : (o : Option StreamView) (a : Shown) (id : ℕ) (named : Option PayloadProtocolIdentifier) (bytes : List ℕ)
    → BeginsNoReset a (written_at o a id named bytes)
written_none None a id named bytes = λ n. n
written_none (Some t) a id named bytes = same_resets a _ refl refl

pub writes_begin_no_reset : WritesBeginNoReset
writes_begin_no_reset a id named bytes = written_none (stream_at a.streams id) a id named bytes

pub settings_begin_no_reset : SettingsBeginNoReset
settings_begin_no_reset a id setting = same_resets a _ refl refl

limit_none : (failed : Bool) (a : Shown) (size : ℕ)
    → BeginsNoReset a (if failed then a else record a { max_send_message_size = size })
limit_none true a size = λ n. n
limit_none false a size = same_resets a _ refl refl

pub limits_begin_no_reset : LimitsBeginNoReset
limits_begin_no_reset a size = limit_none a.failed a size

accepted_none : (ids : List ℕ) (a : Shown) → BeginsNoReset a (accepted_from ids a).0
accepted_none [] a = λ n. n
accepted_none (id ∷ ids) a = same_resets a _ refl refl

accepted_none_if : (failed : Bool) (a : Shown)
    → BeginsNoReset a (if failed then (a, None) else accepted_from a.to_accept a).0
accepted_none_if true a = λ n. n
accepted_none_if false a = accepted_none a.to_accept a

pub accepted_streams_begin_no_reset : AcceptedStreamsBeginNoReset
accepted_streams_begin_no_reset a = accepted_none_if a.failed a

closed_if : (closed : Bool) (a : Shown) (reason : AssociationError)
    → BeginsNoReset a (if closed then a else closed_open a reason)
closed_if true a reason = λ n. n
closed_if false a reason = λ n. record {
  waiting = refl;
  queued = refl;
  active = refl;
  ahead = refl;
  in_progress = refl;
  owed = refl;
  kept = refl;
  control = tt;
}

pub closes_begin_no_reset : ClosesBeginNoReset
closes_begin_no_reset a reason = closed_if (is_closed_state a.state) a reason

pub exhaustion_begins_no_reset : ExhaustionBeginsNoReset
exhaustion_begins_no_reset a = λ n.
    one_more_waits (closed_by a reasons.ReceiveBufferExhausted) out_of_resource tt
    (closes_begin_no_reset a reasons.ReceiveBufferExhausted n)

relieved_if : (e : Bool) (a : Shown) → BeginsNoReset a (if e then exhausted a else a)
relieved_if true a = exhaustion_begins_no_reset a
relieved_if false a = λ n. n

-- a window that is told changes nothing of that
told_window_begins_none : (tells : Bool) (a : Shown) → BeginsNoReset a (told_if tells a)
told_window_begins_none true a = same_resets a _ refl refl
told_window_begins_none false a = λ n. n

eased_begins_none : (before : ℕ) (a : Shown) → BeginsNoReset a (eased before a)
eased_begins_none before a = λ n.
    told_window_begins_none (tells_window before (relieved a)) (relieved a) (relieved_if (is_exhausted a) a n)

drained_none : (a : Shown) (id : ℕ) (streams : StreamMap) → BeginsNoReset a (drained_behind a id streams)
drained_none a id streams = λ n.
    subst HasNoReset (sym (nothing_is_drained a id streams n.kept))
    (same_resets a (record a { streams = streams }) refl refl n)

read_none : (a : Shown) (id : ℕ) (x : StreamMap × Option ReceivedMessage) → BeginsNoReset a (after_read a id x).0
read_none a id (streams, None) = drained_none a id streams
read_none a id (streams, Some message) = λ n.
    eased_begins_none (credit_in a) (drained_behind a id streams) (drained_none a id streams n)

pub reads_begin_no_reset : ReadsBeginNoReset
reads_begin_no_reset a id = read_none a id (read_in a.streams id)

still_nothing_owed : (o : Option Event) (r : ResetsView) (rest : List Event) → r.debts ≡ no_debt
    → (with_event o r rest).0 ≡ r
still_nothing_owed None r rest owed = refl
still_nothing_owed (Some e) r rest owed =
    ap (λ (d : DebtsView). record r { debts = debts_told e d }) owed
    ∙ ap (λ (d : DebtsView). record r { debts = d }) (nothing_is_owed e ∙ sym owed)

still_nothing_told : (o : Option ℕ) (r : ResetsView) (events : List Event) → r.debts ≡ no_debt
    → (event_told_at o r events).0 ≡ r
still_nothing_told None r events owed = refl
still_nothing_told (Some index) r events owed =
    still_nothing_owed (slice_get events index) r (remove events index) owed

told_none : (x : ResetsView × List Event × Option Event) (a : Shown) → x.0 ≡ a.resets
    → BeginsNoReset a (event_from x a).0
told_none (r, left, None) a same = same_resets a _ same refl
told_none (r, left, Some e) a same = same_resets a _ same refl

pub told_events_begin_no_reset : ToldEventsBeginNoReset
told_events_begin_no_reset a = λ n.
    let next = next_told a.resets.generations a.resets.debts a.events in
    told_none (event_told_at next a.resets a.events) a (still_nothing_told next a.resets a.events n.owed) n

-- Timers

cookie_nothing : (o : Option (List ℕ)) (a : Shown) → BeginsNoReset a (cookie_queued o a)
cookie_nothing None a = λ n. n
cookie_nothing (Some cookie) a = one_more_waits a _ tt

echoes_nothing : (a : Shown) (now : ℕ) → BeginsNoReset a (sends_cookie a now)
unfolding sends_cookie
echoes_nothing a now =
    λ n. same_resets (cookie_queued a.handshake.echo a) (sends_cookie a now) refl refl
    (cookie_nothing a.handshake.echo a n)

t1_init_none : (expired failure : Bool) (a : Shown) (now : ℕ)
    → BeginsNoReset a
    (if expired then
    (if failure then (let b = t1_init_expired a now in record b { handshake_fault = Some errors.ErrHandshakeInitAck })
    else sends_init (t1_init_expired a now) now) else a)
t1_init_none false failure a now = λ n. n
t1_init_none true true a now = same_resets a _ refl refl
t1_init_none true false a now = λ n.
    offers_nothing (t1_init_expired a now) now (same_resets a (t1_init_expired a now) refl refl n)

t1_cookie_none : (expired failure : Bool) (a : Shown) (now : ℕ)
    → BeginsNoReset a
    (if expired then
    (if failure then (let b =
    t1_cookie_expired a now in record b { handshake_fault = Some errors.ErrHandshakeCookieEcho }) else
    sends_cookie (t1_cookie_expired a now) now) else a)
t1_cookie_none false failure a now = λ n. n
t1_cookie_none true true a now = same_resets a _ refl refl
t1_cookie_none true false a now = λ n.
    echoes_nothing (t1_cookie_expired a now) now (same_resets a (t1_cookie_expired a now) refl refl n)

t3_none : (expired failure : Bool) (a : Shown) (now : ℕ)
    → BeginsNoReset a
    (if expired then (if failure then t3_expired a now else retransmits (t3_expired a now) now) else a)
t3_none false failure a now = λ n. n
t3_none true true a now = same_resets a _ refl refl
t3_none true false a now = same_resets a _ refl refl

asks_again_none : (a : Shown) (now : ℕ) → BeginsNoReset a (asks_again a now)
asks_again_none a now = λ n. same_resets a (asks_again a now) (no_request_expires a.resets n.active) refl n

goes_on_none : (active : Bool) (a : Shown) (now : ℕ)
    → BeginsNoReset a
    (if active then asks_again a now else record a { timers = with_stopped names.Reconfig a.timers })
goes_on_none true a now = asks_again_none a now
goes_on_none false a now = same_resets a _ refl refl

gives_up_none : (a : Shown) (now : ℕ) → BeginsNoReset a (gives_up a now)
gives_up_none a now = λ n.
    let left : gives_up a now ≡ goes_on a now =
    ap (λ (x : Beside). goes_on (with_beside a x) now)
    (no_request_is_given_up a.resets a.streams a.events n.active) in
    subst HasNoReset (sym left) (goes_on_none (is_some a.resets.own.active) a now n)

reconfig_none : (expired failure : Bool) (a : Shown) (now : ℕ)
    → BeginsNoReset a
    (if expired then
    (if failure then gives_up (reconfig_expired a now) now else asks_again (reconfig_expired a now) now) else a)
reconfig_none false failure a now = λ n. n
reconfig_none true true a now = λ n.
    gives_up_none (reconfig_expired a now) now (same_resets a (reconfig_expired a now) refl refl n)
reconfig_none true false a now = λ n.
    asks_again_none (reconfig_expired a now) now (same_resets a (reconfig_expired a now) refl refl n)

ack_delay_none : (expired : Bool) (a : Shown) (now : ℕ) → (expiry_of names.Ack now a.timers).expired ≡ expired
    → BeginsNoReset a (after_ack_delay a now)
ack_delay_none false a now e = rw e (λ n. n)
ack_delay_none true a now e = rw e (same_resets a _ refl refl)

pub timers_begin_no_reset : TimersBeginNoReset
timers_begin_no_reset a now = λ n.
    let b : Shown = after_t1_init a now in
    let c : Shown = after_t1_cookie b now in
    let f : Shown = after_t2_shutdown c now in
    let d : Shown = after_t3 f now in
    let e : Shown = after_reconfig_timer d now in
    ack_delay_none (expiry_of names.Ack now e.timers).expired e now refl
    (reconfig_none (expiry_of names.Reconfig now d.timers).expired (expiry_of names.Reconfig now d.timers).failed d now
    (t3_none (expiry_of names.T3RTX now f.timers).expired (expiry_of names.T3RTX now f.timers).failed f now
    (same_resets c f refl refl
    (t1_cookie_none (expiry_of names.T1Cookie now b.timers).expired (expiry_of names.T1Cookie now b.timers).failed b now
    (t1_init_none (expiry_of names.T1Init now a.timers).expired (expiry_of names.T1Init now a.timers).failed a now
    n)))))

-- Polls

both_left : (packets : List (List ℕ)) (x : Shown × List (List ℕ)) → (after_both packets x).0 ≡ x.0
both_left packets (a, more) = refl

data_none : (a : Shown) (now : ℕ) → BeginsNoReset a (data_after a now).0
unfolding data_polled
data_none a now = same_resets a _ refl refl

requests_none : (x : Shown × List (List ChunkPayloadData)) → BeginsNoReset x.0 (requests_after x).0
requests_none (a, bundles) = λ n.
    subst HasNoReset
    (sym (both_left (datagrams_of (header_of a.handshake) bundles) (requests_polled a)
    ∙ ap (λ (z : Shown × List (List ℕ)). z.0) (no_request_is_polled a n.waiting n.queued n.active))) n

ack_none_if : (due : Bool) (a : Shown) → is_due a.receiver.ack_state ≡ due → BeginsNoReset a (ack_polled a).0
unfolding ack_polled
ack_none_if true a e = rw e (same_resets a _ refl refl)
ack_none_if false a e = rw e (λ n. n)

ack_none : (x : Shown × List (List ℕ)) → BeginsNoReset x.0 (ack_after x).0
ack_none (a, packets) = λ n.
    subst HasNoReset (sym (both_left packets (ack_polled a))) (ack_none_if (is_due a.receiver.ack_state) a refl n)

forward_none : (x : Shown × List (List ℕ)) → BeginsNoReset x.0 (forward_after x).0
unfolding forward_polled
forward_none (a, packets) = same_resets a _ refl refl

exchange_none : (exchanges : Bool) (a : Shown) (now : ℕ) → exchanges_data a.state ≡ exchanges
    → BeginsNoReset a (exchange_polled a now).0
unfolding exchange_polled
exchange_none true a now e =
    rw e (λ n. forward_none (ack_after (requests_after (data_after a now)))
    (ack_none (requests_after (data_after a now)) (requests_none (data_after a now) (data_none a now n))))
exchange_none false a now e = rw e (λ n. n)

run_none : (a : Shown) (now : ℕ) → BeginsNoReset a (with_reconfig_run a now)
run_none a now = λ n. subst HasNoReset (sym (no_request_is_timed a now n.active)) n

run_left : (x : Shown × List (List ℕ)) (now : ℕ) → (reconfig_run_after x now).0 ≡ with_reconfig_run x.0 now
run_left (a, packets) now = refl

front_none : (a : Shown) (now : ℕ) → BeginsNoReset a (open_polled a now).0
front_none a now = λ n.
    let b : Shown = without_control a in
    let x : Shown × List (List ℕ) = exchange_polled b now in
    let left : (open_polled a now).0 ≡ with_reconfig_run x.0 now =
    ap (λ (y : Shown × List (List ℕ)). (reconfig_run_after (exchange_after y now) now).0) (what_waits_goes_out a n)
    ∙ run_left (after_both (control_packets a.control) x) now
    ∙ ap (λ (z : Shown). with_reconfig_run z now) (both_left (control_packets a.control) x) in
    subst HasNoReset (sym left)
    (run_none x.0 now (exchange_none (exchanges_data b.state) b now refl (none_waits a n)))

-- the end of a poll begins none, and where it closes none is under way
pub polls_begin_no_reset : PollsBeginNoReset
polls_begin_no_reset a now =
    let m : Shown = (open_polled a now).0 in
    by_poll_end (BeginsNoReset a) a now
    (λ e due timer n. same_resets m (with_answer_timed m due timer) refl refl (front_none a now n))
    (λ e open_still n. closed_if false (complete_given m) reasons.AssociationClosed
    (same_resets m (complete_given m) refl refl (front_none a now n)))

-- Chunks

found_none : (there left : Bool) (a : Shown) (id : ℕ) → is_some (stream_at a.streams id) ≡ there
    → generation_left a.streams ≡ left → BeginsNoReset a (stream_found a id).0
unfolding stream_found
found_none true left a id e f = rw e (λ n. n)
found_none false true a id e f = rw (e, f) (same_resets a _ refl refl)
found_none false false a id e f = rw (e, f) (λ n. n)

told_data_none : (readable kept : Bool) (a : Shown) (id : ℕ) → is_readable_in a.streams id ≡ readable
    → BeginsNoReset a (told a id kept)
told_data_none true true a id e = rw e (same_resets a _ refl refl)
told_data_none false true a id e = rw e (same_resets a _ refl refl)
told_data_none readable false a id e = same_resets a _ refl refl

message_none : (a : Shown) (piece : ChunkPayloadData) (x : StreamMap × Bool) → BeginsNoReset a (with_message a piece x)
message_none a piece (streams, kept) = λ n.
    let b : Shown = record a { streams = streams; receiver = taken_to a.receiver piece.tsn } in
    told_data_none (is_readable_in streams piece.stream_identifier) kept b piece.stream_identifier refl
    (same_resets a b refl refl n)

unless_none : (refusal : Option Error) (a : Shown) (piece : ChunkPayloadData)
    → BeginsNoReset a (taken_unless refusal a piece).0
unless_none (Some fault) a piece = λ n. n
unless_none None a piece = message_none a piece (pushed_in a.streams piece.stream_identifier piece)

left_none : (left : Bool) (a : Shown) (piece : ChunkPayloadData) → BeginsNoReset a (left_or_handed_over left a piece).0
left_none true a piece = same_resets a _ refl refl
left_none false a piece =
    unless_none (refusal_in a.streams piece.stream_identifier piece a.receiver.max_receive_message_size) a piece

pub taken_none : (a : Shown) (piece : ChunkPayloadData) → BeginsNoReset a (taken_in a piece).0
unfolding taken_in
taken_none a piece = left_none (goes_unread a piece) a piece

skips_none : (x : Shown × Option Error) (id : ℕ) → BeginsNoReset x.0 (then_skips x id).0
skips_none (a, None) id = λ n. subst HasNoReset (sym (no_skip_is_applied id a n.kept)) n
skips_none (a, Some fault) id = λ n. n

pub admitted_none : (credit : Bool) (a : Shown) (piece : ChunkPayloadData)
    → BeginsNoReset a (if credit then then_skips (taken_in a piece) piece.stream_identifier else (a, None)).0
admitted_none true a piece = λ n. skips_none (taken_in a piece) piece.stream_identifier (taken_none a piece n)
admitted_none false a piece = λ n. n

settled_none : (a : Shown) → BeginsNoReset a (settled a)
settled_none a = λ n. subst HasNoReset (sym (settling_is_nothing a n.in_progress n.kept).0) n

flow_same : (e : Bool) (a : Shown) (f g : Flow) → (if◌then◌else◌ {A = Shown × Flow} e (a, f) (a, g)).0 ≡ a
flow_same true a f g = refl
flow_same false a f g = refl

asks_none : (a : Shown) (immediate : Bool) (trigger : AckTrigger) → BeginsNoReset a (asks a immediate trigger).0
asks_none a immediate trigger = same_side a _ (flow_same (is_exhausted a) a _ _)

faults_none : (x : Shown × Option Error) (immediate : Bool) (trigger : AckTrigger)
    → BeginsNoReset x.0 (asks_or_faults x immediate trigger).0
faults_none (a, None) immediate trigger = λ n. asks_none (settled a) immediate trigger (settled_none a n)
faults_none (a, Some fault) immediate trigger = λ n. n

new_data_none : (x : Shown × Bool) (piece : ChunkPayloadData) (trigger : AckTrigger)
    → BeginsNoReset x.0 (on_new_data x piece trigger).0
new_data_none (a, false) piece trigger = λ n. n
new_data_none (a, true) piece trigger = λ n.
    faults_none (taken_where_admitted a piece) piece.immediate_sack trigger
    (admitted_none (admits a.receiver piece.tsn (all_waiting a)) a piece n)

abbrev data_if : Bool → Bool → Shown → ChunkPayloadData → AckTrigger → Shown × Flow
data_if next hidden a piece trigger =
    if not next then asks (settled a) piece.immediate_sack trigger else
    if hidden then asks_or_faults (deferred_where_admitted a piece) piece.immediate_sack trigger else
    on_new_data (stream_found a piece.stream_identifier) piece trigger

data_none_if : (next hidden : Bool) (a : Shown) (piece : ChunkPayloadData) (trigger : AckTrigger) → hidden ≡ false
    → BeginsNoReset a (data_if next hidden a piece trigger).0
data_none_if false hidden a piece trigger e = λ n.
    asks_none (settled a) piece.immediate_sack trigger (settled_none a n)
data_none_if true true a piece trigger e = absurd (cc)
data_none_if true false a piece trigger e = λ n.
    new_data_none (stream_found a piece.stream_identifier) piece trigger
    (found_none (is_some (stream_at a.streams piece.stream_identifier)) (generation_left a.streams) a
    piece.stream_identifier refl refl n)

on_data_none : (a : Shown) (piece : ChunkPayloadData) (trigger : AckTrigger)
    → BeginsNoReset a (on_data a piece trigger).0
unfolding on_data
on_data_none a piece trigger = λ n.
    let b : Shown = counted_data a in
    data_none_if (is_new_to a.receiver piece.tsn) (is_hidden a.resets piece.stream_identifier piece.tsn) b piece trigger
    (none_is_hidden a.resets piece.stream_identifier piece.tsn n.in_progress n.kept)
    (same_resets a b refl refl n)

acknowledged_none : (a : Shown) (progress : Progress) (now : ℕ) (x : Sender × Estimate × StreamMap)
    → BeginsNoReset a (with_acknowledged a progress now x)
acknowledged_none a progress now (sender, estimate, streams) = same_resets a _ refl refl

outcome_none : (o : SackOutcome) (a : Shown) (cumulative_tsn_ack : ℕ) (blocks : List GapAckBlock) (window : ℕ)
    (trigger : AckTrigger) (now : ℕ)
    → BeginsNoReset a (on_counted_sack o a cumulative_tsn_ack blocks window trigger now).0
outcome_none outcomes.Older a cumulative_tsn_ack blocks window trigger now = λ n. n
outcome_none outcomes.NotInFlight a cumulative_tsn_ack blocks window trigger now = λ n. n
outcome_none outcomes.NamesTheUnsent a cumulative_tsn_ack blocks window trigger now = λ n. n
outcome_none outcomes.Taken a cumulative_tsn_ack blocks window trigger now = λ n.
    let b : Shown = after_sack a cumulative_tsn_ack blocks window now in
    probes_keep HasNoReset (λ c m. same_resets c _ refl refl m) (λ c m. same_resets c _ refl refl m)
    (is_probing a.profile a.sender) window (shutdown_continued b)
    (same_resets b (shutdown_continued b) refl refl
    (acknowledged_none a (progress_of a.sender cumulative_tsn_ack blocks) now
    (sack_taken cumulative_tsn_ack blocks window now a.sender a.estimate a.streams) n))

sack_none : (sends : Bool) (a : Shown) (cumulative_tsn_ack : ℕ) (blocks : List GapAckBlock) (window : ℕ)
    (trigger : AckTrigger) (now : ℕ) → sends_data a.state ≡ sends
    → BeginsNoReset a (on_sack a cumulative_tsn_ack blocks window trigger now).0
unfolding on_sack
sack_none true a cumulative_tsn_ack blocks window trigger now e =
    rw e (λ n. outcome_none (sack_outcome a.sender cumulative_tsn_ack blocks) (counted_sack a) cumulative_tsn_ack blocks
    window trigger now (same_resets a (counted_sack a) refl refl n))
sack_none false a cumulative_tsn_ack blocks window trigger now e = rw e (λ n. n)

learned_none : (keeps : Bool) (a : Shown) (header : CommonHeader) (init : ChunkInit)
    → BeginsNoReset a
    (learned_unless keeps (record a { handshake = learned_by_init a.handshake header init }) init)
learned_none true a header init = same_resets a _ refl refl
learned_none false a header init = λ n. record {
  waiting = n.waiting;
  queued = n.queued;
  active = n.active;
  ahead = n.ahead;
  in_progress = n.in_progress;
  owed = n.owed;
  kept = n.kept;
  control = n.control;
}

init_none : (begins : Bool) (a : Shown) (header : CommonHeader) (init : ChunkInit) (trigger : AckTrigger)
    → is_beginning a.state ≡ begins → BeginsNoReset a (on_init a header init trigger).0
unfolding on_init
init_none true a header init trigger e =
    rw e
    (λ n. one_more_waits (learned a header init) _ tt (learned_none (keeps_peer a init) a header init n))
init_none false a header init trigger e = rw e (λ n. n)

echoed_none : (o : Option (List ℕ)) (a : Shown) (trigger : AckTrigger) (now : ℕ)
    → BeginsNoReset a (echoed o a trigger now).0
echoed_none None a trigger now = λ n. n
echoed_none (Some cookie) a trigger now = λ n. echoes_nothing _ now (same_resets a _ refl refl n)

init_ack_none : (waits back : Bool) (a : Shown) (header : CommonHeader) (init : ChunkInit) (trigger : AckTrigger)
    (now : ℕ) → is_cookie_wait a.state ≡ waits → comes_back a.handshake header ≡ back
    → BeginsNoReset a (on_init_ack a header init trigger now).0
unfolding on_init_ack
init_ack_none true true a header init trigger now e f =
    rw (e, f) (λ n. echoed_none (first_cookie init.params) _ trigger now (record {
      waiting = n.waiting;
      queued = n.queued;
      active = n.active;
      ahead = n.ahead;
      in_progress = n.in_progress;
      owed = n.owed;
      kept = n.kept;
      control = n.control;
    }))
init_ack_none true false a header init trigger now e f = rw (e, f) (same_resets a _ refl refl)
init_ack_none false back a header init trigger now e f = rw e (λ n. n)

cookie_echo_none : (issued begins again : Bool) (a : Shown) (cookie : List ℕ) (trigger : AckTrigger)
    → has_issued a.handshake cookie ≡ issued → is_beginning a.state ≡ begins → acknowledges_again a ≡ again
    → BeginsNoReset a (on_cookie_echo a cookie trigger).0
unfolding on_cookie_echo
cookie_echo_none false begins again a cookie trigger e f g = rw e (λ n. n)
cookie_echo_none true true again a cookie trigger e f g =
    rw (e, f) (λ n. one_more_waits (connected a) _ tt (same_resets a (connected a) refl refl n))
cookie_echo_none true false true a cookie trigger e f g =
    rw (e, f, g) (λ n. one_more_waits (shutdown_again a) _ tt (same_resets a (shutdown_again a) refl refl n))
cookie_echo_none true false false a cookie trigger e f g = rw (e, f, g) (λ n. n)

cookie_ack_none : (waits : Bool) (a : Shown) (trigger : AckTrigger) → is_cookie_echoed a.state ≡ waits
    → BeginsNoReset a (on_cookie_ack a trigger).0
unfolding on_cookie_ack
cookie_ack_none true a trigger e = rw e (same_resets a _ refl refl)
cookie_ack_none false a trigger e = rw e (λ n. n)

returned_none : (o : Option (List ℕ)) (a : Shown) → BeginsNoReset a (information_returned o a)
returned_none None a = λ n. n
returned_none (Some information) a = one_more_waits a _ tt

heartbeat_none : (a : Shown) (heartbeat : ChunkHeartbeat) (trigger : AckTrigger)
    → BeginsNoReset a (on_heartbeat a heartbeat trigger).0
unfolding on_heartbeat
heartbeat_none a heartbeat trigger = returned_none (information_of heartbeat.params) a

skip_none_if : (retires : Bool) (tsn id ssn : ℕ) (a : Shown) → retires ≡ false → is_retiring a.resets id ≡ retires
    → BeginsNoReset a (with_skip tsn id ssn a)
unfolding with_skip
skip_none_if true tsn id ssn a e f = absurd (cc)
skip_none_if false tsn id ssn a e f = rw f (same_resets a _ refl refl)

pub skipped_none : (tsn : ℕ) (es : List SkippedStream) (a : Shown) → BeginsNoReset a (with_skips tsn es a)
skipped_none tsn [] a = λ n. n
skipped_none tsn (e ∷ es) a = λ n.
    skipped_none tsn es (with_skip tsn e.stream_identifier e.stream_sequence_number a)
    (skip_none_if (is_retiring a.resets e.stream_identifier) tsn e.stream_identifier e.stream_sequence_number a
    (none_retires a.resets e.stream_identifier n.kept) refl n)

pub passed_none : (a : Shown) (tsn : ℕ) → BeginsNoReset a (with_passed a tsn)
passed_none a tsn = λ n. same_resets a (with_passed a tsn) (nothing_is_passed a.resets tsn n.kept) refl n

asks_behind_none : (a : Shown) (trigger : AckTrigger) → BeginsNoReset a (asks_behind a trigger).0
asks_behind_none a trigger = same_side a _ (flow_same (is_exhausted a) a _ _)

ahead_none : (a : Shown) (tsn : ℕ) (es : List SkippedStream) (trigger : AckTrigger)
    → BeginsNoReset a (asks_behind (settled (with_passed (with_skips tsn es a) tsn)) trigger).0
ahead_none a tsn es trigger = λ n.
    let b : Shown = with_passed (with_skips tsn es a) tsn in
    asks_behind_none (settled b) trigger
    (settled_none b (passed_none (with_skips tsn es a) tsn (skipped_none tsn es a n)))

-- the streams on which a FORWARD TSN skips are found or made before
all_found_none : (tsn : ℕ) (es : List SkippedStream) (a : Shown) → BeginsNoReset a (found_for tsn es a)
all_found_none tsn es a =
    same_resets a (found_for tsn es a) (ap (λ (z : Shown). z.resets) (found_for_is tsn es a))
    (ap (λ (z : Shown). z.control) (found_for_is tsn es a))

on_forward_none : (a : Shown) (tsn : ℕ) (es : List SkippedStream) (trigger : AckTrigger) (now : ℕ)
    → BeginsNoReset a (on_forward a tsn es trigger now).0
on_forward_none a tsn es trigger now =
    forward_is_one_of tsn es (λ b x. BeginsNoReset b x.0) trigger now
    (λ b e. one_more_waits b _ tt)
    (λ b e f. same_resets b (acknowledged_at_once b now) refl refl)
    (λ b e f. ahead_none b tsn es trigger)
    (λ b x begins n. begins (all_found_none tsn es b n))
    a

kind_none : (a : Shown) (header : CommonHeader) (c : Chunk) (trigger : AckTrigger) (now : ℕ) → IsNoReconfig c
    → BeginsNoReset a (dispatched a header c trigger now).0
kind_none a header (chunks.Data piece) trigger now plain = on_data_none a piece _
kind_none a header (chunks.SelectiveAck k) trigger now plain =
    sack_none (sends_data a.state) a k.cumulative_tsn_ack k.gap_ack_blocks k.advertised_receiver_window_credit trigger
    now refl
kind_none a header (chunks.Init x) trigger now plain = init_none (is_beginning a.state) a header x trigger refl
kind_none a header (chunks.InitAck x) trigger now plain =
    init_ack_none (is_cookie_wait a.state) (comes_back a.handshake header) a header x trigger now refl refl
kind_none a header (chunks.Heartbeat x) trigger now plain = heartbeat_none a x trigger
kind_none a header (chunks.HeartbeatAck x) trigger now plain = λ n. n
kind_none a header (chunks.Abort x) trigger now plain = λ n. n
kind_none a header (chunks.Shutdown x) trigger now plain = same_resets a (shutdown_taken a) refl refl
kind_none a header chunks.ShutdownAck trigger now plain = same_resets a (shutdown_answered a) refl refl
kind_none a header (chunks.Error x) trigger now plain = λ n. n
kind_none a header (chunks.CookieEcho cookie) trigger now plain =
    cookie_echo_none (has_issued a.handshake cookie) (is_beginning a.state) (acknowledges_again a) a cookie trigger
    refl refl refl
kind_none a header chunks.CookieAck trigger now plain = cookie_ack_none (is_cookie_echoed a.state) a trigger refl
kind_none a header chunks.ShutdownComplete trigger now plain = λ n. n
kind_none a header (chunks.Reconfig x) trigger now plain = absurd plain
kind_none a header (chunks.ForwardTsn x) trigger now plain =
    on_forward_none a x.new_cumulative_tsn x.streams trigger now
kind_none a header (chunks.IForwardTsn x) trigger now plain =
    on_forward_none a x.new_cumulative_tsn (skips_of x.entries) trigger now
kind_none a header (chunks.Other kind flags value) trigger now plain = λ n. n

checked_none : (r : Result (Unit {0}) Error) (a : Shown) (header : CommonHeader) (c : Chunk) (trigger : AckTrigger)
    (now : ℕ) → IsNoReconfig c → BeginsNoReset a (checked_first r a header c trigger now).0
checked_none (Err fault) a header c trigger now plain = λ n. n
checked_none (Ok done) a header c trigger now plain = kind_none a header c trigger now plain

pub other_chunks_begin_no_reset : OtherChunksBeginNoReset
unfolding on_chunk
other_chunks_begin_no_reset a header c trigger now plain =
    checked_none (checked_chunk c) a header c trigger now plain

pub packet_ends_begin_no_reset : PacketEndsBeginNoReset
packet_ends_begin_no_reset a trigger now = same_resets a _ refl refl
