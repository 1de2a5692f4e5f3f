-- Over every list of calls no DATA of the streams that an active request of this side resets waits or is in flight.
use Rattle.std.proofs.Common.{◌≡◌, refl, sym, ap, ◌∙◌, subst, ◌⊎◌, ⊎_elim, inl, inr, ℕ, ◌==◌, ◌||◌, not, Bool, true}
use Rattle.std.proofs.Common.{false}
use Rattle.std.proofs.Common.{if◌then◌else◌, is_some, length, List, [], ◌∷◌, Option, Some, None}
use Rattle.std.proofs.lemmas.Bool.{cases_Bool, eqb-true, false≢true, true≢false}
use Rattle.std.specs.List.{list_any}
use Rattle.std.specs.Prelude.{remove, slice_get, ⊤}
use Rattle.sctp_wire_types.specs.Config.{is_rfc}
use Rattle.sctp_wire_types.specs.declared.chunk.Chunk.{Chunk}
use Rattle.sctp_wire_types.specs.declared.error.Error.{Error}
use Rattle.sctp_wire_types.specs.declared.error.Error.TheVariants as errors
use Rattle.sctp_wire_types.specs.declared.ids.PayloadProtocolIdentifier.{PayloadProtocolIdentifier}
use Rattle.sctp_wire_types.specs.declared.packet.CommonHeader.{CommonHeader}
use Rattle.sctp_wire.specs.declared.packet.Packet.{Packet}
use Rattle.sctp_parts.specs.declared.timer.Timer.TheVariants as names
use Rattle.sctp_parts.specs.Timers.{expiry_of, with_stopped}
use Rattle.sctp_receive_queues.specs.Messages.{ReceivedMessage}
use Rattle.sctp_outbound_queue.specs.Outbound.{has_stream}
use Rattle.sctp_streams.specs.declared.event.AssociationError.{AssociationError}
use Rattle.sctp_streams.specs.declared.event.AssociationError.TheVariants as reasons
use Rattle.sctp_streams.specs.declared.event.Event.{Event}
use Rattle.sctp_streams.specs.declared.setting.Setting.TheVariants as settings
use Rattle.sctp_streams.specs.Stream.{StreamView, is_read_half_open, is_write_half_open}
use Rattle.sctp_streams.specs.Streams.{StreamMap, read_in, stream_at}
use Rattle.sctp_inbound.specs.declared.handshake.Offer.{Offer}
use Rattle.sctp_inbound.specs.declared.receiver.AckTrigger.{AckTrigger}
use Rattle.sctp_inbound.specs.declared.receiver.AckTrigger.TheVariants as triggers
use Rattle.sctp_reset_requests.specs.declared.own_request.OwnRequest.{OwnRequest}
use Rattle.sctp_reset_requests.specs.declared.own_request.SentRequest.{SentRequest}
use Rattle.sctp_reset_requests.specs.Debts.{bars}
use Rattle.sctp_reset_requests.specs.Ids.{has_id}
use Rattle.sctp_reset_requests.specs.Laws.{DataHoldsBack}
use Rattle.sctp_reset_requests.specs.Own.{OwnView, is_asked_for, open_with, resets}
use Rattle.sctp_reset_requests.specs.Peer.{PeerView, boundary_of}
use Rattle.sctp_resets.specs.Channels.{channels}
use Rattle.sctp_resets.specs.Draining.{Reading, drained_out}
use Rattle.sctp_resets.specs.Resets.{ResetsView, event_told, event_told_at, given_up, is_blocked, is_retiring}
use Rattle.sctp_resets.specs.Resets.{read_out, stopped_reading, waiting_for, with_event, with_read}
use Rattle.sctp_resets.specs.Telling.{next_told}
use Rattle.sctp_directions.specs.Acts.{Act, History, Parts, done_all, message_of, type_on}
use Rattle.sctp_assoc.specs.declared.inbound.Flow.{Flow}
use Rattle.sctp_assoc.specs.declared.inbound.Flow.TheVariants as flows
use Rattle.sctp_assoc.specs.Calls.{accepted_from, adjusted, after_ack_delay, after_read, after_t3, credit_in}
use Rattle.sctp_assoc.specs.Calls.{drained_behind, eased, event_from, holds_of, is_established, retransmits}
use Rattle.sctp_assoc.specs.Calls.{size_refusal, state_refusal, stopped_open, t3_expired, tells_window, told_if}
use Rattle.sctp_assoc.specs.Calls.{unread_dropped, without_read_half_of, write_refusal, write_refusal_at, written_at}
use Rattle.sctp_assoc.specs.Chunks.{after_chunks, after_packet_of, goes_on, on_chunk}
use Rattle.sctp_assoc.specs.Closing.{closed_by, closed_open, exhausted, is_closed_state, is_exhausted, relieved}
use Rattle.sctp_assoc.specs.Handshake.{after_t1_cookie, after_t1_init, init_queued, sends_cookie, sends_init}
use Rattle.sctp_assoc.specs.Handshake.{t1_cookie_expired, t1_init_expired}
use Rattle.sctp_assoc.specs.Happened.{acts_of_chunk}
use Rattle.sctp_assoc.specs.Leads.{Leads, parts}
use Rattle.sctp_assoc.specs.Resets.{after_reconfig_timer, asks_again, gives_up, reconfig_expired, with_beside}
use Rattle.sctp_assoc.specs.Shown.{Shown}
use Rattle.sctp_assoc.specs.Shutdown.{after_t2_shutdown}
use Rattle.sctp_assoc.specs.Timeouts.{after_timeouts}
use Rattle.sctp_sides.specs.Lifetimes.{DoInOrder, Does, acts_of_call}
use Rattle.sctp_sides.specs.OneSide.{Call, FailsInside, IsCarriedOut, IsUnchanged, call_refusal, carried_out}
use Rattle.sctp_sides.specs.OneSide.{with_told}
use Rattle.sctp_sides.specs.Restarts.{ActiveIsQuiet, CallsRestartQuietly, ChunksRestartQuietly}
use Rattle.sctp_sides.specs.Restarts.{CreatedSidesAreQuiet, WritesWaitForResets, is_reset_by}
use Rattle.sctp_sides.proofs.ActiveInChunks.{ActiveFrom, LeavesActive, active_ended, active_given_up, active_repeated}
use Rattle.sctp_sides.proofs.ActiveInChunks.{active_same, beside_leaves, by_active, chunk_leaves, cookie_leaves}
use Rattle.sctp_sides.proofs.ActiveInChunks.{resetting_leaves, then_on}
use Rattle.sctp_sides.proofs.ActiveInPolls.{poll_quiet}
use Rattle.sctp_sides.proofs.ActsWithoutWrites.{AreNoWrites, chunk_writes_nothing, close_stream_writes_nothing}
use Rattle.sctp_sides.proofs.ActsWithoutWrites.{close_writes_nothing, packet_writes_nothing, poll_writes_nothing}
use Rattle.sctp_sides.proofs.ActsWithoutWrites.{read_writes_nothing, stop_writes_nothing, timeouts_write_nothing}
use Rattle.sctp_sides.proofs.FirstBegunRuns.{carried_out_fails}
use Rattle.sctp_sides.proofs.PacketLaws.{chunks_lead_on}
use Rattle.sctp_sides.proofs.QuietQueues.{acts_add_none, message_adds_none}
use Rattle.sctp_sides.proofs.RequestsLeft.{given_up_leaves, stopped_reading_leaves}
use Rattle.sctp_sides.proofs.RestartedStreams.{quiet_restarts}
use Rattle.sctp_sides.proofs.TimersOverRuns.{accepted_works}

-- Calls of the application

accepting_leaves : (ids : List ℕ) (a : Shown) → LeavesActive a (accepted_from ids a).0
accepting_leaves [] a = by_active a _ refl
accepting_leaves (id ∷ ids) a = by_active a _ refl

accept_leaves : (failed : Bool) (a : Shown)
    → LeavesActive a (if failed then (a, None) else accepted_from a.to_accept a).0
accept_leaves true a = by_active a _ refl
accept_leaves false a = accepting_leaves a.to_accept a

limit_leaves : (failed : Bool) (a : Shown) (size : ℕ)
    → LeavesActive a (if failed then a else record a { max_send_message_size = size })
limit_leaves true a size = by_active a _ refl
limit_leaves false a size = by_active a _ refl

event_active : (o : Option Event) (r : ResetsView) (rest : List Event)
    → (with_event o r rest).0.own.active ≡ r.own.active
event_active None r rest = refl
event_active (Some event) r rest = refl

told_active : (o : Option ℕ) (r : ResetsView) (told : List Event)
    → (event_told_at o r told).0.own.active ≡ r.own.active
told_active None r told = refl
told_active (Some index) r told = event_active (slice_get told index) r (remove told index)

telling_leaves : (x : ResetsView × List Event × Option Event) (a : Shown) → x.0.own.active ≡ a.resets.own.active
    → LeavesActive a (with_told (event_from x a)).0
telling_leaves (r, left, None) a e = by_active a _ e
telling_leaves (r, left, Some event) a e = by_active a _ e

read_active : (r : ResetsView) (x : Reading) → (with_read r x).0.own.active ≡ r.own.active
read_active r (g, c) = refl

draining_leaves : (a : Shown) (id : ℕ) (streams : StreamMap) → LeavesActive a (drained_behind a id streams)
draining_leaves a id streams =
    let first = a.sender.queue.next_message_id in
    let limit = a.receiver.max_receive_message_size in
    let c = channels streams a.events a.to_accept in
    let x = read_out first limit id a.resets c in
    resetting_leaves a x
    (active_same a.resets.own.active x.0.own.active
    (read_active a.resets (drained_out first limit id (boundary_of a.resets.peer id) (a.resets.generations, c))))

unread_active : (id : ℕ) (r : ResetsView) (m : StreamMap) (told : List Event)
    → (stopped_reading id r m told).0.own.active ≡ r.own.active
unread_active id r m told =
    stopped_reading_leaves (λ (z : ResetsView). z.own.active ≡ r.own.active) id r m told refl refl

stopped_leaves : (retires : Bool) (a : Shown) (id : ℕ)
    → LeavesActive a
    (let b = without_read_half_of a id in
    if retires then with_beside b (stopped_reading id b.resets b.streams b.events) else
    record b { streams = unread_dropped (is_rfc b.profile) b.streams id; resets = waiting_for b.resets id })
stopped_leaves true a id =
    let b : Shown = without_read_half_of a id in
    let x = stopped_reading id b.resets b.streams b.events in
    record {
      from = (beside_leaves b x
          (active_same b.resets.own.active x.0.own.active (unread_active id b.resets b.streams b.events))).from;
    }
stopped_leaves false a id = by_active a _ refl

-- Closing

close_leaves : (closed : Bool) (a : Shown) (reason : AssociationError)
    → LeavesActive a (if closed then a else closed_open a reason)
close_leaves true a reason = by_active a _ refl
close_leaves false a reason = record { from = active_ended a.resets.own.active None refl }

closed_leaves : (a : Shown) (reason : AssociationError) → LeavesActive a (closed_by a reason)
closed_leaves a reason = close_leaves (is_closed_state a.state) a reason

exhausted_leaves : (a : Shown) → LeavesActive a (exhausted a)
exhausted_leaves a = record { from = (closed_leaves a reasons.ReceiveBufferExhausted).from }

relieved_if : (exhausts : Bool) (a : Shown) → LeavesActive a (if exhausts then exhausted a else a)
relieved_if true a = exhausted_leaves a
relieved_if false a = by_active a _ refl

relieved_leaves : (a : Shown) → LeavesActive a (relieved a)
relieved_leaves a = relieved_if (is_exhausted a) a

told_leaves : (c : Bool) (a : Shown) → LeavesActive a (told_if c a)
told_leaves true a = by_active a _ refl
told_leaves false a = by_active a _ refl

eased_leaves : (before : ℕ) (a : Shown) → LeavesActive a (eased before a)
eased_leaves before a =
    let b : Shown = relieved a in
    then_on a b (eased before a) (relieved_leaves a) (told_leaves (tells_window before b) b)

read_leaves : (a : Shown) (id : ℕ) (x : StreamMap × Option ReceivedMessage) → LeavesActive a (after_read a id x).0
read_leaves a id (streams, None) = draining_leaves a id streams
read_leaves a id (streams, Some message) =
    let b : Shown = drained_behind a id streams in
    then_on a b (eased (credit_in a) b) (draining_leaves a id streams) (eased_leaves (credit_in a) b)

stop_leaves : (reads : Bool) (before : ℕ) (a : Shown) (id : ℕ)
    → LeavesActive a (if reads then eased before (stopped_open a id) else a)
stop_leaves true before a id =
    let b : Shown = stopped_open a id in
    then_on a b (eased before b) (stopped_leaves (is_retiring a.resets id) a id) (eased_leaves before b)
stop_leaves false before a id = by_active a _ refl

-- Timers

offering_leaves : (o : Option Offer) (a : Shown) → LeavesActive a (init_queued o a)
offering_leaves None a = by_active a _ refl
offering_leaves (Some offer) a = by_active a _ refl

offer_leaves : (a : Shown) (now : ℕ) → LeavesActive a (sends_init a now)
unfolding sends_init
offer_leaves a now = record { from = (offering_leaves a.handshake.offer a).from }

t1_init_leaves : (expired failure : Bool) (a : Shown) (now : ℕ)
    → LeavesActive a
    (if expired then
    (if failure then (let b = t1_init_expired a now in record b { handshake_fault = Some errors.ErrHandshakeInitAck })
    else sends_init (t1_init_expired a now) now) else a)
t1_init_leaves false failure a now = by_active a _ refl
t1_init_leaves true true a now = by_active a _ refl
t1_init_leaves true false a now = record { from = (offer_leaves (t1_init_expired a now) now).from }

t1_cookie_leaves : (expired failure : Bool) (a : Shown) (now : ℕ)
    → LeavesActive a
    (if expired then
    (if failure then (let b =
    t1_cookie_expired a now in record b { handshake_fault = Some errors.ErrHandshakeCookieEcho }) else
    sends_cookie (t1_cookie_expired a now) now) else a)
t1_cookie_leaves false failure a now = by_active a _ refl
t1_cookie_leaves true true a now = by_active a _ refl
t1_cookie_leaves true false a now = record { from = (cookie_leaves (t1_cookie_expired a now) now).from }

t3_leaves : (expired failure : Bool) (a : Shown) (now : ℕ)
    → LeavesActive a
    (if expired then (if failure then t3_expired a now else retransmits (t3_expired a now) now) else a)
t3_leaves false failure a now = by_active a _ refl
t3_leaves true true a now = by_active a _ refl
t3_leaves true false a now = by_active a _ refl

-- a request that is given up is over, or it goes out again
going_on_leaves : (active : Bool) (a : Shown) (now : ℕ)
    → LeavesActive a
    (if active then asks_again a now else record a { timers = with_stopped names.Reconfig a.timers })
going_on_leaves true a now = record { from = active_repeated true a.resets.own.active }
going_on_leaves false a now = by_active a _ refl

giving_up_leaves : (a : Shown) (now : ℕ) → LeavesActive a (gives_up a now)
giving_up_leaves a now =
    let active = a.resets.own.active in
    let x = given_up a.resets a.streams a.events in
    let b : Shown = with_beside a x in
    then_on a b (gives_up a now)
    (beside_leaves a x
    (given_up_leaves (λ (o : OwnView) (p : PeerView). ActiveFrom active o.active) a.resets a.streams a.events
    (active_given_up active) (active_ended active None refl)))
    (going_on_leaves (is_some b.resets.own.active) b now)

reconfig_leaves : (expired failure : Bool) (a : Shown) (now : ℕ)
    → LeavesActive a
    (if expired then
    (if failure then gives_up (reconfig_expired a now) now else asks_again (reconfig_expired a now) now) else a)
reconfig_leaves false failure a now = by_active a _ refl
reconfig_leaves true true a now = record { from = (giving_up_leaves (reconfig_expired a now) now).from }
reconfig_leaves true false a now = record { from = active_repeated true a.resets.own.active }

ack_delay_leaves : (expired : Bool) (a : Shown) (now : ℕ) → (expiry_of names.Ack now a.timers).expired ≡ expired
    → LeavesActive a (after_ack_delay a now)
ack_delay_leaves false a now e = rw e (by_active a _ refl)
ack_delay_leaves true a now e = rw e (by_active a _ refl)

timeouts_leave : (a : Shown) (now : ℕ) → LeavesActive a (after_timeouts a now)
timeouts_leave a now =
    let b : Shown = after_t1_init a now in
    let c : Shown = after_t1_cookie b now in
    let f : Shown = after_t2_shutdown c now in
    let d : Shown = after_t3 f now in
    let e : Shown = after_reconfig_timer d now in
    let last : Shown = after_ack_delay e now in
    then_on a b last
    (t1_init_leaves (expiry_of names.T1Init now a.timers).expired (expiry_of names.T1Init now a.timers).failed a now)
    (then_on b c last
    (t1_cookie_leaves (expiry_of names.T1Cookie now b.timers).expired (expiry_of names.T1Cookie now b.timers).failed b
    now)
    (then_on c f last (by_active c f refl)
    (then_on f d last
    (t3_leaves (expiry_of names.T3RTX now f.timers).expired (expiry_of names.T3RTX now f.timers).failed f now)
    (then_on d e last
    (reconfig_leaves (expiry_of names.Reconfig now d.timers).expired (expiry_of names.Reconfig now d.timers).failed d
    now)
    (ack_delay_leaves (expiry_of names.Ack now e.timers).expired e now refl)))))

-- Packets

flow_leaves : (x : Shown × Flow) (more : Shown → AckTrigger → Shown)
    → ((b : Shown) (trigger : AckTrigger) → LeavesActive b (more b trigger)) → LeavesActive x.0 (goes_on x more)
flow_leaves (a, flows.Next trigger) more on = on a trigger
flow_leaves (a, flows.Fault fault) more on = closed_leaves a reasons.AssociationClosed
flow_leaves (a, flows.Closed) more on = closed_leaves a reasons.AssociationClosed
flow_leaves (a, flows.Exhausted) more on = exhausted_leaves a

chunks_leave : (header : CommonHeader) (cs : List Chunk) (a : Shown) (trigger : AckTrigger) (now : ℕ)
    → LeavesActive a (after_chunks header cs a trigger now)
chunks_leave header [] a trigger now = by_active a _ refl
chunks_leave header (c ∷ cs) a trigger now =
    let x = on_chunk a header c trigger now in
    then_on a x.0 _ (chunk_leaves header c a trigger now)
    (flow_leaves x (λ b next. after_chunks header cs b next now)
    (λ b next. chunks_leave header cs b next now))

packet_of_leaves : (packet : Option Packet) (a : Shown) (now : ℕ) → LeavesActive a (after_packet_of a packet now)
packet_of_leaves None a now = by_active a _ refl
packet_of_leaves (Some packet) a now =
    chunks_leave packet.common_header packet.chunks a triggers.None now

packet_leaves_if : (lost : Bool) (packet : Option Packet) (a : Shown) (now : ℕ)
    → LeavesActive a (if lost then a else after_packet_of a packet now)
packet_leaves_if true packet a now = by_active a _ refl
packet_leaves_if false packet a now = packet_of_leaves packet a now

-- Writes

not_refused : (c : Bool) (e : Error) (o : Option Error) → (if c then Some e else o) ≡ None → (c ≡ false) × (o ≡ None)
not_refused true e o h = absurd (true≢false (ap (λ (z : Option Error). is_some z) h))
not_refused false e o h = (refl, h)

not_refused_else : (c : Bool) (e : Error) (o : Option Error) → (if c then o else Some e) ≡ None → o ≡ None
not_refused_else true e o h = h
not_refused_else false e o h = absurd (true≢false (ap (λ (z : Option Error). is_some z) h))

-- a stream that is being reset is blocked
asked_if : (waits first later ahead : Bool) → first ≡ true → (waits || ((first || later) || ahead)) ≡ true
asked_if true first later ahead e = refl
asked_if false true later ahead e = refl
asked_if false false later ahead e = absurd (false≢true e)

asked_active : (active : Option SentRequest) (waits ahead : Bool) (queued : List OwnRequest) (id : ℕ)
    → is_reset_by active id ≡ true → (waits || (list_any (resets id) (open_with active queued) || ahead)) ≡ true
asked_active None waits ahead queued id e = absurd (false≢true e)
asked_active (Some s) waits ahead queued id e =
    asked_if waits (resets id s.request) (list_any (resets id) queued) ahead e

blocked_if : (asked barred retires : Bool) → asked ≡ true → (asked || barred || retires) ≡ true
blocked_if true barred retires e = refl
blocked_if false barred retires e = absurd (false≢true e)

reset_is_blocked : (r : ResetsView) (id : ℕ) → is_reset_by r.own.active id ≡ true → is_blocked r id ≡ true
reset_is_blocked r id e =
    blocked_if (is_asked_for r.own id) (bars r.debts id) (is_retiring r id)
    (asked_active r.own.active (has_id id r.own.waiting) (has_id id r.own.ahead) r.own.queued id e)

unblocked_is_not_reset : (r : ResetsView) (id : ℕ) → is_blocked r id ≡ false → is_reset_by r.own.active id ≡ false
unblocked_is_not_reset r id free =
    ⊎_elim
    (λ (named : is_reset_by r.own.active id ≡ true). absurd (true≢false (sym (reset_is_blocked r id named) ∙ free)))
    (λ (other : is_reset_by r.own.active id ≡ false). other)
    (cases_Bool (is_reset_by r.own.active id))

module _ (a : Shown) (id size : ℕ) where
  unblocked_in_state : state_refusal a id size ≡ None → is_blocked a.resets id ≡ false
  unblocked_in_state h =
      let first = not_refused (not (is_established a.state)) errors.ErrPayloadDataStateNotExist
      (if is_blocked a.resets id then Some errors.ErrStreamResetPending else size_refusal a size) h in
      (not_refused (is_blocked a.resets id) errors.ErrStreamResetPending (size_refusal a size) first.1).0

  unblocked_at : (o : Option StreamView) → write_refusal_at a o id size ≡ None → is_blocked a.resets id ≡ false
  unblocked_at None h = absurd (true≢false (ap (λ (z : Option Error). is_some z) h))
  unblocked_at (Some s) h =
      unblocked_in_state
      (not_refused_else (is_write_half_open s.halves) errors.ErrStreamClosed (state_refusal a id size) h)

  unblocked : write_refusal a id size ≡ None → is_blocked a.resets id ≡ false
  unblocked h =
      unblocked_at (stream_at a.streams id)
      (not_refused a.failed errors.ErrAssociationFailed (write_refusal_at a (stream_at a.streams id) id size) h).1

pub writes_wait_for_resets : WritesWaitForResets
writes_wait_for_resets a id size accepted =
    let free : is_blocked a.resets id ≡ false = unblocked a id size accepted in
    (free, unblocked_is_not_reset a.resets id free)

module _ (a : Shown) (id : ℕ) (named : Option PayloadProtocolIdentifier) (bytes : List ℕ)
    (free : is_blocked a.resets id ≡ false) (h : ActiveIsQuiet a) where
  -- a stream that is being reset is another one
  apart : (other : ℕ) → is_reset_by a.resets.own.active other ≡ true → (id == other) ≡ false
  apart other e =
      ⊎_elim
      (λ (same_one : (id == other) ≡ true).
      absurd (true≢false (sym (reset_is_blocked a.resets id
      (ap (λ (n : ℕ). is_reset_by a.resets.own.active n) (eqb-true id other same_one) ∙ e)) ∙ free)))
      (λ (apart_one : (id == other) ≡ false). apart_one)
      (cases_Bool (id == other))

  written_quiet : (o : Option StreamView) → ActiveIsQuiet (written_at o a id named bytes)
  written_quiet None = h
  written_quiet (Some s) = λ other e.
      message_adds_none a.sender.queue (message_of s (type_on s named) a.sender.max_payload_size id bytes) other
      (apart other e) (h other e)

-- Calls

-- Behind acts without a write, no stream has DATA that waits or is in flight that had none before.
module _ (a b : Shown) (h k : History) (acts : List Act) (quiet : AreNoWrites acts)
    (there : parts b k ≡ done_all acts (parts a h)) where
  adds_none : (id : ℕ) → has_stream a.sender.queue id ≡ false → has_stream b.sender.queue id ≡ false
  adds_none id none =
      ap (λ (p : Parts). has_stream p.queue id) there ∙ acts_add_none acts (parts a h) id quiet none

  led_quiet : LeavesActive a b → ActiveIsQuiet a → ActiveIsQuiet b
  led_quiet leaves h = λ id e. adds_none id (h id (leaves.from.from id e))

-- a call that neither writes nor polls leaves the active request, and has no write among its acts
abbrev IsPlain : Call → Type 0
IsPlain (Call.Write id named bytes) = ⊥
IsPlain (Call.PollTransmit now) = ⊥
IsPlain call = ⊤

plain_leaves : (call : Call) (a : Shown) → IsPlain call → LeavesActive a (carried_out call a).0
plain_leaves (Call.OpenStream id kind) a p = by_active a _ refl
plain_leaves (Call.Write id named bytes) a p = absurd p
plain_leaves (Call.Set id setting) a p = by_active a _ refl
plain_leaves Call.AcceptStream a p = accept_leaves a.failed a
plain_leaves (Call.SetMaxSendMessageSize size) a p = limit_leaves a.failed a size
plain_leaves Call.Shutdown a p = by_active a _ refl
plain_leaves Call.PollEndpointEvent a p = by_active a _ refl
plain_leaves Call.Close a p = closed_leaves a reasons.AssociationClosed
plain_leaves (Call.Read id) a p = read_leaves a id (read_in a.streams id)
plain_leaves Call.Poll a p =
    telling_leaves (event_told a.resets a.events) a
    (told_active (next_told a.resets.generations a.resets.debts a.events) a.resets a.events)
plain_leaves (Call.PollTransmit now) a p = absurd p
plain_leaves (Call.HandleTimeout now) a p = timeouts_leave a now
plain_leaves (Call.HandleEvent packet now) a p = packet_leaves_if a.lost packet a now
plain_leaves (Call.Stop id) a p = stop_leaves (holds_of (λ s. is_read_half_open s.halves) a id) (credit_in a) a id
plain_leaves (Call.CloseStream id) a p =
    let b : Shown = adjusted a id settings.WriteHalfClosed in
    record { from = (stop_leaves (holds_of (λ s. is_read_half_open s.halves) b id) (credit_in b) b id).from }

plain_writes_nothing : (call : Call) (a : Shown) → IsPlain call → AreNoWrites (acts_of_call call a)
plain_writes_nothing (Call.OpenStream id kind) a p = (tt, tt)
plain_writes_nothing (Call.Write id named bytes) a p = absurd p
plain_writes_nothing (Call.Set id setting) a p = (tt, tt)
plain_writes_nothing Call.AcceptStream a p = tt
plain_writes_nothing (Call.SetMaxSendMessageSize size) a p = tt
plain_writes_nothing Call.Shutdown a p = tt
plain_writes_nothing Call.PollEndpointEvent a p = tt
plain_writes_nothing Call.Close a p = close_writes_nothing a
plain_writes_nothing (Call.Read id) a p = read_writes_nothing a id
plain_writes_nothing Call.Poll a p = tt
plain_writes_nothing (Call.PollTransmit now) a p = absurd p
plain_writes_nothing (Call.HandleTimeout now) a p = timeouts_write_nothing a now
plain_writes_nothing (Call.HandleEvent packet now) a p = packet_writes_nothing packet a now
plain_writes_nothing (Call.Stop id) a p = stop_writes_nothing a id
plain_writes_nothing (Call.CloseStream id) a p = close_stream_writes_nothing a id

module _ (held : DataHoldsBack) where
  plain_quiet : (call : Call) (a b : Shown) (h k : History) → IsPlain call → b ≡ (carried_out call a).0
      → parts b k ≡ done_all (acts_of_call call a) (parts a h) → ActiveIsQuiet a → ActiveIsQuiet b
  plain_quiet call a b h k p e there quiet =
      led_quiet a b h k (acts_of_call call a) (plain_writes_nothing call a p) there
      (subst (LeavesActive a) (sym e) (plain_leaves call a p)) quiet

  carried_quiet : (call : Call) (a b : Shown) (h k : History) → call_refusal call a ≡ None
      → b ≡ (carried_out call a).0 → parts b k ≡ done_all (acts_of_call call a) (parts a h)
      → ActiveIsQuiet a → ActiveIsQuiet b
  carried_quiet (Call.Write id named bytes) a b h k accepted e there quiet =
      subst ActiveIsQuiet (sym e)
      (written_quiet a id named bytes (unblocked a id (length bytes) accepted) quiet (stream_at a.streams id))
  carried_quiet (Call.PollTransmit now) a b h k accepted e there quiet =
      subst ActiveIsQuiet (sym e)
      (poll_quiet held a now quiet
      (λ id none. ap (λ (z : Shown). has_stream z.sender.queue id) (sym e)
      ∙ adds_none a b h k (acts_of_call (Call.PollTransmit now) a) (poll_writes_nothing a now) there id none))
  carried_quiet (Call.OpenStream id kind) a b h k accepted e there quiet =
      plain_quiet (Call.OpenStream id kind) a b h k tt e there quiet
  carried_quiet (Call.Set id setting) a b h k accepted e there quiet =
      plain_quiet (Call.Set id setting) a b h k tt e there quiet
  carried_quiet Call.AcceptStream a b h k accepted e there quiet =
      plain_quiet Call.AcceptStream a b h k tt e there quiet
  carried_quiet (Call.SetMaxSendMessageSize size) a b h k accepted e there quiet =
      plain_quiet (Call.SetMaxSendMessageSize size) a b h k tt e there quiet
  carried_quiet Call.Shutdown a b h k accepted e there quiet = plain_quiet Call.Shutdown a b h k tt e there quiet
  carried_quiet Call.PollEndpointEvent a b h k accepted e there quiet =
      plain_quiet Call.PollEndpointEvent a b h k tt e there quiet
  carried_quiet Call.Close a b h k accepted e there quiet = plain_quiet Call.Close a b h k tt e there quiet
  carried_quiet (Call.Read id) a b h k accepted e there quiet = plain_quiet (Call.Read id) a b h k tt e there quiet
  carried_quiet Call.Poll a b h k accepted e there quiet = plain_quiet Call.Poll a b h k tt e there quiet
  carried_quiet (Call.HandleTimeout now) a b h k accepted e there quiet =
      plain_quiet (Call.HandleTimeout now) a b h k tt e there quiet
  carried_quiet (Call.HandleEvent packet now) a b h k accepted e there quiet =
      plain_quiet (Call.HandleEvent packet now) a b h k tt e there quiet
  carried_quiet (Call.Stop id) a b h k accepted e there quiet = plain_quiet (Call.Stop id) a b h k tt e there quiet
  carried_quiet (Call.CloseStream id) a b h k accepted e there quiet =
      plain_quiet (Call.CloseStream id) a b h k tt e there quiet

  -- Lists of calls

  -- it failed, or all is so
  abbrev IsQuietOrFailed : Shown → Type 0
  IsQuietOrFailed a = (a.failed ≡ true) ⊎ ((id : ℕ) → is_reset_by a.resets.own.active id ≡ true
      → has_stream a.sender.queue id ≡ false)

  call_quiet : (call : Call) (a b : Shown) (h k : History) (acts : List Act) → Does call a h acts b k
      → IsQuietOrFailed a → IsQuietOrFailed b
  call_quiet call a b h k acts d s = by_cases d.does s
    where
      by_cases : (IsCarriedOut call d.told a b × (acts ≡ acts_of_call call a) × Leads acts a h b k)
          ⊎ ((IsUnchanged d.told a b ⊎ FailsInside call d.told a b) × (acts ≡ []) × (k ≡ h))
          → IsQuietOrFailed a → IsQuietOrFailed b
      by_cases (inl (c, e, l)) (inl failed) =
          inl (carried_out_fails call d.told a b c.there (accepted_works call a c.accepted) failed)
      by_cases (inl (c, e, l)) (inr quiet) =
          inr (carried_quiet call a b h k c.accepted (sym (ap (λ (x : Shown × List Event). x.0) c.there))
          (l.there ∙ ap (λ (xs : List Act). done_all xs (parts a h)) e) quiet)
      by_cases (inr (inl u, e, l)) s = subst IsQuietOrFailed (sym u.same) s
      by_cases (inr (inr f, e, l)) s = inl f.failed.marked

  run_quiet : (calls : List Call) (a b : Shown) (h k : History) (acts : List Act) → DoInOrder calls a h acts b k
      → IsQuietOrFailed a → IsQuietOrFailed b
  run_quiet [] a b h k acts (none, same_one, past) s = subst IsQuietOrFailed (sym same_one) s
  run_quiet (call ∷ calls) a b h k acts (c, l, first, later, e, d, more) s =
      run_quiet calls c b l k later more (call_quiet call a c h l first d s)

  pub calls_restart_quietly : CallsRestartQuietly
  calls_restart_quietly calls a b h k acts quiet binds run works =
      ⊎_elim (λ (failed : b.failed ≡ true). absurd (false≢true (sym works ∙ failed)))
      (λ (left : ActiveIsQuiet b). quiet_restarts b left) (run_quiet calls a b h k acts run (inr quiet))

-- Chunks

pub chunks_restart_quietly : ChunksRestartQuietly
chunks_restart_quietly header chunk a h trigger now quiet binds =
    let x = on_chunk a header chunk trigger now in
    let on = (chunks_lead_on header chunk a trigger now).leads h binds in
    quiet_restarts x.0
    (led_quiet a x.0 h on.0 (acts_of_chunk a header chunk) (chunk_writes_nothing a header chunk) on.1.there
    (chunk_leaves header chunk a trigger now) quiet)

-- Beginning

pub created_sides_are_quiet : CreatedSidesAreQuiet
unfolding sends_init
created_sides_are_quiet None config size tag initial_tsn cookie remote_addr local_ip now id e = absurd (false≢true e)
created_sides_are_quiet (Some of_server) config size tag initial_tsn cookie remote_addr local_ip now id e =
    absurd (false≢true e)
