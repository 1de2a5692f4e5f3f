-- What holds of the peer's requests to reset streams, and stays so whatever becomes of them by their numbers, stays so
-- over every list of calls once the handshake is over: the first that were completed stay completed, and are known.
use Rattle.std.proofs.Common.{◌≡◌, refl, sym, ap, ◌∙◌, subst, ⊎_elim, inl, inr, ℕ, ◌<◌, ◌≤◌, arith, Bool, true, false}
use Rattle.std.proofs.Common.{if◌then◌else◌, List, [], ◌∷◌, Option, Some, None, is_some}
use Rattle.std.proofs.lemmas.Bool.{false≢true}
use Rattle.std.specs.Prelude.{remove, slice_get}
use Rattle.sctp_wire_types.specs.Config.{is_rfc}
use Rattle.sctp_wire_types.specs.declared.chunk.Chunk.{Chunk}
use Rattle.sctp_wire_types.specs.declared.error.Error.TheVariants as errors
use Rattle.sctp_wire_types.specs.declared.ids.PayloadProtocolIdentifier.{PayloadProtocolIdentifier}
use Rattle.sctp_wire_types.specs.declared.packet.CommonHeader.{CommonHeader}
use Rattle.sctp_wire.specs.declared.packet.Packet.{Packet}
use Rattle.sctp_parts.specs.declared.state.AssociationState.TheVariants as states
use Rattle.sctp_parts.specs.declared.timer.Timer.TheVariants as names
use Rattle.sctp_parts.specs.Timers.{expiry_of, with_stopped}
use Rattle.sctp_receive_queues.specs.Messages.{ReceivedMessage}
use Rattle.sctp_streams.specs.declared.event.AssociationError.{AssociationError}
use Rattle.sctp_streams.specs.declared.event.AssociationError.TheVariants as reasons
use Rattle.sctp_streams.specs.declared.event.Event.{Event}
use Rattle.sctp_streams.specs.declared.setting.Setting.TheVariants as settings
use Rattle.sctp_streams.specs.Stream.{StreamView, is_read_half_open}
use Rattle.sctp_streams.specs.Streams.{StreamMap, read_in, stream_at}
use Rattle.sctp_inbound.specs.declared.handshake.Offer.{Offer}
use Rattle.sctp_inbound.specs.declared.receiver.AckTrigger.{AckTrigger}
use Rattle.sctp_inbound.specs.declared.receiver.AckTrigger.TheVariants as triggers
use Rattle.sctp_reset_requests.specs.Laws.{Comes, CompletedAreKnown, CompletedStayCompleted, IsCompletedUpTo, Moves}
use Rattle.sctp_reset_requests.specs.Own.{OwnView}
use Rattle.sctp_reset_requests.specs.Own as own
use Rattle.sctp_reset_requests.specs.Peer.{PeerView, boundary_of}
use Rattle.sctp_reset_requests.specs.Request.{request_of}
use Rattle.sctp_resets.specs.Channels.{channels}
use Rattle.sctp_resets.specs.Draining.{Reading, drained_out}
use Rattle.sctp_resets.specs.Resets.{ResetsView, event_told, event_told_at, given_up, is_retiring, read_out}
use Rattle.sctp_resets.specs.Resets.{stopped_reading, with_event, with_read}
use Rattle.sctp_resets.specs.Telling.{next_told}
use Rattle.sctp_assoc.specs.declared.inbound.Flow.{Flow}
use Rattle.sctp_assoc.specs.declared.inbound.Flow.TheVariants as flows
use Rattle.sctp_assoc.specs.Calls.{accepted_from, adjusted, after_ack_delay, after_read, after_t3, credit_in}
use Rattle.sctp_assoc.specs.Calls.{drained_behind, eased, event_from, holds_of, is_beginning, retransmits}
use Rattle.sctp_assoc.specs.Calls.{stopped_open, t3_expired, tells_window, told_if, unread_dropped}
use Rattle.sctp_assoc.specs.Calls.{without_read_half_of, written_at}
use Rattle.sctp_assoc.specs.Chunks.{after_chunks, after_packet, after_packet_of, goes_on, on_chunk}
use Rattle.sctp_assoc.specs.Closing.{closed_by, closed_open, exhausted, is_closed_state, is_exhausted, relieved}
use Rattle.sctp_assoc.specs.Gather.{open_polled, polled}
use Rattle.sctp_assoc.specs.Handshake.{after_t1_cookie, after_t1_init, cookie_queued, init_queued, sends_cookie}
use Rattle.sctp_assoc.specs.Handshake.{sends_init, t1_cookie_expired, t1_init_expired}
use Rattle.sctp_assoc.specs.Resets.{after_reconfig_timer, asks_again, gives_up, reconfig_expired, with_beside}
use Rattle.sctp_assoc.specs.Shown.{Shown}
use Rattle.sctp_assoc.specs.Shutdown.{after_t2_shutdown, all_acknowledged}
use Rattle.sctp_assoc.specs.Timeouts.{after_timeouts}
use Rattle.sctp_sides.specs.OneSide.{Call, Calls, IsRun, carried_out, with_told}
use Rattle.sctp_sides.specs.Repeats.{CompletedRequestsStay, IsAnsweredAlone, IsPastHandshake, RepeatsStayKnown}
use Rattle.sctp_sides.proofs.PeerRequestsInChunks.{GoesOn, IsKept, KeepsRequests, beside_keeps, chunk_goes}
use Rattle.sctp_sides.proofs.PeerRequestsInChunks.{requests_kept, requests_same, requests_then, resetting_keeps}
use Rattle.sctp_sides.proofs.EndedPolls.{by_poll_end, complete_given}
use Rattle.sctp_sides.proofs.PeerRequestsInPolls.{KeepsPeer, front_keeps}
use Rattle.sctp_sides.proofs.RepeatsKnown.{answered_retires, passed_is_answered}
use Rattle.sctp_sides.proofs.RequestsLeft.{given_up_leaves, stopped_reading_leaves}
use Rattle.sctp_sides.proofs.TimersOverRuns.{IsUntouched, accepted_works}

-- Calls that leave the peer's requests

write_keeps : (o : Option StreamView) (a : Shown) (id : ℕ) (named : Option PayloadProtocolIdentifier) (bytes : List ℕ)
    → KeepsRequests a (written_at o a id named bytes)
write_keeps None a id named bytes = requests_same a
write_keeps (Some s) a id named bytes = requests_kept a _ refl refl refl

accepting_keeps : (ids : List ℕ) (a : Shown) → KeepsRequests a (accepted_from ids a).0
accepting_keeps [] a = requests_same a
accepting_keeps (id ∷ ids) a = requests_kept a _ refl refl refl

accept_keeps : (failed : Bool) (a : Shown)
    → KeepsRequests a (if failed then (a, None) else accepted_from a.to_accept a).0
accept_keeps true a = requests_same a
accept_keeps false a = accepting_keeps a.to_accept a

limit_keeps : (failed : Bool) (a : Shown) (size : ℕ)
    → KeepsRequests a (if failed then a else record a { max_send_message_size = size })
limit_keeps true a size = requests_same a
limit_keeps false a size = requests_kept a _ refl refl refl

-- events

event_peer : (o : Option Event) (r : ResetsView) (rest : List Event) → (with_event o r rest).0.peer ≡ r.peer
event_peer None r rest = refl
event_peer (Some event) r rest = refl

told_peer : (o : Option ℕ) (r : ResetsView) (told : List Event) → (event_told_at o r told).0.peer ≡ r.peer
told_peer None r told = refl
told_peer (Some index) r told = event_peer (slice_get told index) r (remove told index)

telling_keeps : (x : ResetsView × List Event × Option Event) (a : Shown) → x.0.peer ≡ a.resets.peer
    → KeepsRequests a (with_told (event_from x a)).0
telling_keeps (r, left, None) a e = requests_kept a _ refl refl e
telling_keeps (r, left, Some event) a e = requests_kept a _ refl refl e

-- reads and stops

read_peer : (r : ResetsView) (x : Reading) → (with_read r x).0.peer ≡ r.peer
read_peer r (g, c) = refl

draining_keeps : (a : Shown) (id : ℕ) (streams : StreamMap) → KeepsRequests a (drained_behind a id streams)
draining_keeps a id streams =
    let first = a.sender.queue.next_message_id in
    let limit = a.receiver.max_receive_message_size in
    let c = channels streams a.events a.to_accept in
    resetting_keeps a (read_out first limit id a.resets c)
    (read_peer a.resets (drained_out first limit id (boundary_of a.resets.peer id) (a.resets.generations, c)))

stop_keeps : (retires : Bool) (a : Shown) (id : ℕ)
    → KeepsRequests a
    (let b = without_read_half_of a id in
    if retires then with_beside b (stopped_reading id b.resets b.streams b.events) else
    record b {
      streams = unread_dropped (is_rfc b.profile) b.streams id;
      resets = (let r = b.resets in record r { own = own.with_waiting r.own id });
    })
stop_keeps true a id =
    let b : Shown = without_read_half_of a id in
    requests_then a b (with_beside b (stopped_reading id b.resets b.streams b.events))
    (requests_kept a b refl refl refl)
    (beside_keeps b (stopped_reading id b.resets b.streams b.events)
    (stopped_reading_leaves (λ (z : ResetsView). z.peer ≡ b.resets.peer) id b.resets b.streams b.events refl refl))
stop_keeps false a id = requests_kept a _ refl refl refl

-- timers

offering_keeps : (o : Option Offer) (a : Shown) → KeepsRequests a (init_queued o a)
offering_keeps None a = requests_same a
offering_keeps (Some offer) a = requests_kept a _ refl refl refl

offer_keeps : (a : Shown) (now : ℕ) → KeepsRequests a (sends_init a now)
unfolding sends_init
offer_keeps a now =
    let k = offering_keeps a.handshake.offer a in requests_kept a (sends_init a now) k.state k.lost k.peer

echoing_keeps : (o : Option (List ℕ)) (a : Shown) → KeepsRequests a (cookie_queued o a)
echoing_keeps None a = requests_same a
echoing_keeps (Some cookie) a = requests_kept a _ refl refl refl

echo_keeps : (a : Shown) (now : ℕ) → KeepsRequests a (sends_cookie a now)
unfolding sends_cookie
echo_keeps a now =
    let k = echoing_keeps a.handshake.echo a in requests_kept a (sends_cookie a now) k.state k.lost k.peer

t1_init_keeps : (expired failure : Bool) (a : Shown) (now : ℕ)
    → KeepsRequests a
    (if expired then
    (if failure then (let b = t1_init_expired a now in record b { handshake_fault = Some errors.ErrHandshakeInitAck })
    else sends_init (t1_init_expired a now) now) else a)
t1_init_keeps false failure a now = requests_same a
t1_init_keeps true true a now = requests_kept a _ refl refl refl
t1_init_keeps true false a now =
    let b : Shown = t1_init_expired a now in
    requests_then a b (sends_init b now) (requests_kept a b refl refl refl) (offer_keeps b now)

t1_cookie_keeps : (expired failure : Bool) (a : Shown) (now : ℕ)
    → KeepsRequests a
    (if expired then
    (if failure then (let b =
    t1_cookie_expired a now in record b { handshake_fault = Some errors.ErrHandshakeCookieEcho }) else
    sends_cookie (t1_cookie_expired a now) now) else a)
t1_cookie_keeps false failure a now = requests_same a
t1_cookie_keeps true true a now = requests_kept a _ refl refl refl
t1_cookie_keeps true false a now =
    let b : Shown = t1_cookie_expired a now in
    requests_then a b (sends_cookie b now) (requests_kept a b refl refl refl) (echo_keeps b now)

t3_keeps : (expired failure : Bool) (a : Shown) (now : ℕ)
    → KeepsRequests a
    (if expired then (if failure then t3_expired a now else retransmits (t3_expired a now) now) else a)
t3_keeps false failure a now = requests_same a
t3_keeps true true a now = requests_kept a _ refl refl refl
t3_keeps true false a now = requests_kept a _ refl refl refl

-- a request that is given up is over, or it goes out again
going_on_keeps : (active : Bool) (a : Shown) (now : ℕ)
    → KeepsRequests a
    (if active then asks_again a now else record a { timers = with_stopped names.Reconfig a.timers })
going_on_keeps true a now = requests_kept a _ refl refl refl
going_on_keeps false a now = requests_kept a _ refl refl refl

giving_up_keeps : (a : Shown) (now : ℕ) → KeepsRequests a (gives_up a now)
giving_up_keeps a now =
    let x = given_up a.resets a.streams a.events in
    let b : Shown = with_beside a x in
    requests_then a b (gives_up a now)
    (beside_keeps a x
    (given_up_leaves (λ (o : OwnView) (p : PeerView). p ≡ a.resets.peer) a.resets a.streams a.events refl refl))
    (going_on_keeps (is_some b.resets.own.active) b now)

reconfig_keeps : (expired failure : Bool) (a : Shown) (now : ℕ)
    → KeepsRequests a
    (if expired then
    (if failure then gives_up (reconfig_expired a now) now else asks_again (reconfig_expired a now) now) else a)
reconfig_keeps false failure a now = requests_same a
reconfig_keeps true true a now =
    let b : Shown = reconfig_expired a now in
    requests_then a b (gives_up b now) (requests_kept a b refl refl refl) (giving_up_keeps b now)
reconfig_keeps true false a now = requests_kept a _ refl refl refl

ack_delay_keeps : (expired : Bool) (a : Shown) (now : ℕ) → (expiry_of names.Ack now a.timers).expired ≡ expired
    → KeepsRequests a (after_ack_delay a now)
ack_delay_keeps false a now e = rw e (requests_same a)
ack_delay_keeps true a now e = rw e (requests_kept a _ refl refl refl)

timeouts_keep : (a : Shown) (now : ℕ) → KeepsRequests a (after_timeouts a now)
timeouts_keep a now =
    let b : Shown = after_t1_init a now in
    let c : Shown = after_t1_cookie b now in
    let f : Shown = after_t2_shutdown c now in
    let d : Shown = after_t3 f now in
    let e : Shown = after_reconfig_timer d now in
    requests_then a b (after_ack_delay e now)
    (t1_init_keeps (expiry_of names.T1Init now a.timers).expired (expiry_of names.T1Init now a.timers).failed a now)
    (requests_then b c (after_ack_delay e now)
    (t1_cookie_keeps (expiry_of names.T1Cookie now b.timers).expired (expiry_of names.T1Cookie now b.timers).failed b
    now)
    (requests_then c f (after_ack_delay e now) (requests_kept c f refl refl refl)
    (requests_then f d (after_ack_delay e now)
    (t3_keeps (expiry_of names.T3RTX now f.timers).expired (expiry_of names.T3RTX now f.timers).failed f now)
    (requests_then d e (after_ack_delay e now)
    (reconfig_keeps (expiry_of names.Reconfig now d.timers).expired (expiry_of names.Reconfig now d.timers).failed d
    now)
    (ack_delay_keeps (expiry_of names.Ack now e.timers).expired e now refl)))))

-- a shutdown that begins leaves the handshake over
begins_no_more : (acknowledged : Bool)
    → is_beginning (if acknowledged then states.ShutdownSent else states.ShutdownPending) ≡ false
begins_no_more true = refl
begins_no_more false = refl

-- A failed association

call_failed : (call : Call) (told : List Event) (a b : Shown) → a.failed ≡ true → Calls call told a b
    → b.failed ≡ true
call_failed call told a b e (inl c) =
    ⊎_elim (λ (works : a.failed ≡ false). absurd (false≢true (sym works ∙ e)))
    (λ (same : IsUntouched a (carried_out call a)).
    ap (λ (x : Shown × List Event). x.0.failed) (sym c.there ∙ same.1) ∙ e)
    (accepted_works call a c.accepted)
call_failed call told a b e (inr (inl c)) = ap (λ (z : Shown). z.failed) c.same ∙ e
call_failed call told a b e (inr (inr c)) = c.failed.marked

run_failed : (calls : List Call) (told : List Event) (a b : Shown) → a.failed ≡ true → IsRun calls told a b
    → b.failed ≡ true
run_failed [] told a b e r = ap (λ (z : Shown). z.failed) r.same ∙ e
run_failed (c ∷ cs) told a b e r =
    run_failed cs r.later r.middle b (call_failed c r.first a r.middle e r.called) r.others

-- All calls

module _ (P : PeerView → Type 0) (kept : IsKept P) where
  -- Its handshake is over, or it was lost, and this holds of the peer's requests.
  record Stands (a : Shown) : Type 0 where
    past : IsPastHandshake a
    holds : P a.resets.peer

  stands_by : (a b : Shown) → KeepsRequests a b → Stands a → Stands b
  stands_by a b k h = record {
    past =
        ⊎_elim (λ (e : is_beginning a.state ≡ false). inl (ap is_beginning k.state ∙ e))
        (λ (e : a.lost ≡ true). inr (k.lost ∙ e)) h.past;
    holds = subst P (sym k.peer) h.holds;
  }

  close_stands : (closed : Bool) (a : Shown) (reason : AssociationError) → Stands a
      → Stands (if closed then a else closed_open a reason)
  close_stands true a reason h = h
  close_stands false a reason h = record { past = inr refl; holds = kept.closes a.resets.peer h.holds }

  closed_stands : (a : Shown) (reason : AssociationError) → Stands a → Stands (closed_by a reason)
  closed_stands a reason h = close_stands (is_closed_state a.state) a reason h

  exhausted_stands : (a : Shown) → Stands a → Stands (exhausted a)
  exhausted_stands a h =
      stands_by (closed_by a reasons.ReceiveBufferExhausted) (exhausted a) (requests_kept _ _ refl refl refl)
      (closed_stands a reasons.ReceiveBufferExhausted h)

  relieved_if : (exhausts : Bool) (a : Shown) → Stands a → Stands (if exhausts then exhausted a else a)
  relieved_if true a h = exhausted_stands a h
  relieved_if false a h = h

  relieved_stands : (a : Shown) → Stands a → Stands (relieved a)
  relieved_stands a h = relieved_if (is_exhausted a) a h

  told_stands : (c : Bool) (a : Shown) → Stands a → Stands (told_if c a)
  told_stands true a h = stands_by a (told_if true a) (requests_kept a (told_if true a) refl refl refl) h
  told_stands false a h = h

  eased_stands : (before : ℕ) (a : Shown) → Stands a → Stands (eased before a)
  eased_stands before a h =
      let b : Shown = relieved a in told_stands (tells_window before b) b (relieved_stands a h)

  read_stands : (a : Shown) (id : ℕ) (x : StreamMap × Option ReceivedMessage) → Stands a
      → Stands (after_read a id x).0
  read_stands a id (streams, None) h = stands_by a (drained_behind a id streams) (draining_keeps a id streams) h
  read_stands a id (streams, Some message) h =
      eased_stands (credit_in a) (drained_behind a id streams)
      (stands_by a (drained_behind a id streams) (draining_keeps a id streams) h)

  stop_stands : (reads : Bool) (before : ℕ) (a : Shown) (id : ℕ) → Stands a
      → Stands (if reads then eased before (stopped_open a id) else a)
  stop_stands true before a id h =
      eased_stands before (stopped_open a id)
      (stands_by a (stopped_open a id) (stop_keeps (is_retiring a.resets id) a id) h)
  stop_stands false before a id h = h

  -- packets

  flow_stands : (x : Shown × Flow) (more : Shown → AckTrigger → Shown) → is_beginning x.0.state ≡ false
      → P x.0.resets.peer
      → ((b : Shown) (trigger : AckTrigger) → is_beginning b.state ≡ false → P b.resets.peer → Stands (more b trigger))
      → Stands (goes_on x more)
  flow_stands (a, flows.Next trigger) more begun holds on = on a trigger begun holds
  flow_stands (a, flows.Fault fault) more begun holds on =
      closed_stands a reasons.AssociationClosed (record { past = inl begun; holds = holds })
  flow_stands (a, flows.Closed) more begun holds on =
      closed_stands a reasons.AssociationClosed (record { past = inl begun; holds = holds })
  flow_stands (a, flows.Exhausted) more begun holds on =
      exhausted_stands a (record { past = inl begun; holds = holds })

  chunks_stand : (header : CommonHeader) (cs : List Chunk) (a : Shown) (trigger : AckTrigger) (now : ℕ)
      → is_beginning a.state ≡ false → P a.resets.peer → Stands (after_chunks header cs a trigger now)
  chunks_stand header [] a trigger now begun holds = record { past = inl begun; holds = holds }
  chunks_stand header (c ∷ cs) a trigger now begun holds =
      let on : GoesOn P kept a (on_chunk a header c trigger now).0 = chunk_goes P kept header c a trigger now begun in
      flow_stands (on_chunk a header c trigger now) (λ b next. after_chunks header cs b next now)
      (on.begins ∙ begun) (on.holds holds)
      (λ b next e h. chunks_stand header cs b next now e h)

  packet_of_stands : (packet : Option Packet) (a : Shown) (now : ℕ) → is_beginning a.state ≡ false → Stands a
      → Stands (after_packet_of a packet now)
  packet_of_stands None a now begun h = h
  packet_of_stands (Some packet) a now begun h =
      chunks_stand packet.common_header packet.chunks a triggers.None now begun h.holds

  packet_stands_if : (lost : Bool) (packet : Option Packet) (a : Shown) (now : ℕ) → a.lost ≡ lost → Stands a
      → Stands (if lost then a else after_packet_of a packet now)
  packet_stands_if true packet a now e h = h
  packet_stands_if false packet a now e h =
      ⊎_elim (λ (begun : is_beginning a.state ≡ false). packet_of_stands packet a now begun h)
      (λ (l : a.lost ≡ true). absurd (false≢true (sym e ∙ l))) h.past

  packet_stands : (packet : Option Packet) (a : Shown) (now : ℕ) → Stands a → Stands (after_packet a packet now)
  packet_stands packet a now h = packet_stands_if a.lost packet a now refl h

  -- polls for packets

  front_stands : (a b : Shown) → KeepsPeer a b → Stands a → Stands b
  front_stands a b k h = record {
    past =
        ⊎_elim (λ (e : is_beginning a.state ≡ false). inl (k.begun ∙ e))
        (λ (e : a.lost ≡ true). inr (k.lost ∙ e)) h.past;
    holds = subst P (sym k.peer) h.holds;
  }

  -- the end of a poll leaves all of that, or closes
  poll_stands : (a : Shown) (now : ℕ) → Stands a → Stands (polled a now).0
  poll_stands a now h =
      let m : Shown = (open_polled a now).0 in
      let front = front_stands a m (front_keeps a now) h in
      by_poll_end Stands a now (λ e due timer. record { past = front.past; holds = front.holds })
      (λ e open_still. close_stands false (complete_given m) reasons.AssociationClosed
      (record { past = front.past; holds = front.holds }))

  -- each call that is carried out

  carried_stands : (call : Call) (a : Shown) → Stands a → Stands (carried_out call a).0
  carried_stands (Call.OpenStream id kind) a h = stands_by a _ (requests_kept a _ refl refl refl) h
  carried_stands (Call.Write id named bytes) a h =
      stands_by a _ (write_keeps (stream_at a.streams id) a id named bytes) h
  carried_stands (Call.Set id setting) a h = stands_by a _ (requests_kept a _ refl refl refl) h
  carried_stands Call.AcceptStream a h = stands_by a _ (accept_keeps a.failed a) h
  carried_stands (Call.SetMaxSendMessageSize size) a h = stands_by a _ (limit_keeps a.failed a size) h
  carried_stands Call.Shutdown a h = record { past = inl (begins_no_more (all_acknowledged a)); holds = h.holds }
  carried_stands Call.PollEndpointEvent a h = stands_by a _ (requests_kept a _ refl refl refl) h
  carried_stands Call.Close a h = closed_stands a reasons.AssociationClosed h
  carried_stands (Call.Read id) a h = read_stands a id (read_in a.streams id) h
  carried_stands Call.Poll a h =
      stands_by a _
      (telling_keeps (event_told a.resets a.events) a
      (told_peer (next_told a.resets.generations a.resets.debts a.events) a.resets a.events)) h
  carried_stands (Call.PollTransmit now) a h =
      poll_stands a now h
  carried_stands (Call.HandleTimeout now) a h = stands_by a (after_timeouts a now) (timeouts_keep a now) h
  carried_stands (Call.HandleEvent packet now) a h = packet_stands packet a now h
  carried_stands (Call.Stop id) a h =
      stop_stands (holds_of (λ s. is_read_half_open s.halves) a id) (credit_in a) a id h
  carried_stands (Call.CloseStream id) a h =
      let b : Shown = adjusted a id settings.WriteHalfClosed in
      stop_stands (holds_of (λ s. is_read_half_open s.halves) b id) (credit_in b) b id
      (stands_by a b (requests_kept a b refl refl refl) h)

  -- and lists of calls

  middle_stands : (call : Call) (told : List Event) (a b : Shown) → Calls call told a b → b.failed ≡ false → Stands a
      → Stands b
  middle_stands call told a b (inl c) works h =
      subst (λ (x : Shown × List Event). Stands x.0) c.there (carried_stands call a h)
  middle_stands call told a b (inr (inl c)) works h = subst Stands (sym c.same) h
  middle_stands call told a b (inr (inr c)) works h = absurd (false≢true (sym works ∙ c.failed.marked))

  works_before : (failed : Bool) (calls : List Call) (told : List Event) (a b : Shown) → a.failed ≡ failed
      → IsRun calls told a b → b.failed ≡ false → a.failed ≡ false
  works_before true calls told a b e r works = absurd (false≢true (sym works ∙ run_failed calls told a b e r))
  works_before false calls told a b e r works = e

  run_stands : (calls : List Call) (told : List Event) (a b : Shown) → IsRun calls told a b → b.failed ≡ false
      → Stands a → Stands b
  run_stands [] told a b r works h = subst Stands (sym r.same) h
  run_stands (c ∷ cs) told a b r works h =
      run_stands cs r.later r.middle b r.others works
      (middle_stands c r.first a r.middle r.called
      (works_before r.middle.failed cs r.later r.middle b refl r.others works) h)

-- Requests that were completed

at_least : (n m k : ℕ) → n ≤ m → m ≤ k → n ≤ k
at_least n m k e f = omega (arith, e, f)

below_all : (k n m : ℕ) → k < n → n ≤ m → k < m
below_all k n m e f = omega (arith, e, f)

same_count : (n : ℕ) → n ≤ n
same_count n = omega arith

-- the first n requests of the peer are completed, and some more
abbrev AreCompleted : ℕ → ℕ → PeerView → Type 0
AreCompleted first n p = (m : ℕ) × (n ≤ m) × IsCompletedUpTo first m p

completed_kept : CompletedStayCompleted → (first n : ℕ) → IsKept (AreCompleted first n)
completed_kept stay first n = record {
  arrives = λ p r cumulative_tsn h.
      (let g = stay first h.0 p (Comes r cumulative_tsn ∷ []) h.2 in (g.0, at_least n h.0 g.0 h.1 g.1, g.3));
  advances = λ p cumulative_tsn h.
      (let g = stay first h.0 p (Moves cumulative_tsn ∷ []) h.2 in (g.0, at_least n h.0 g.0 h.1 g.1, g.3));
  closes = λ p h. (h.0, h.1, record { last = h.2.last; current = tt });
}

pub completed_requests_stay : CompletedStayCompleted → CompletedRequestsStay
completed_requests_stay stay first n calls told a b past h r works =
    (run_stands (AreCompleted first n) (completed_kept stay first n) calls told a b r works
    (record { past = past; holds = (n, same_count n, h) })).holds

pub repeats_stay_known : CompletedStayCompleted → CompletedAreKnown → RepeatsStayKnown
repeats_stay_known stay known first n calls told a b past h r works =
    let left : AreCompleted first n b.resets.peer =
    completed_requests_stay stay first n calls told a b past h r works in
    record {
      count = left.0;
      enough = left.1;
      completed = left.2;
      known = λ k param below near number.
          (let alone : IsAnsweredAlone b param =
          passed_is_answered b param
          (known first left.0 k b.resets.peer (request_of param) b.receiver.peer_last_tsn left.2
          (below_all k n left.0 below left.1) near number) in
          record { answer = alone; retires = answered_retires b param alone });
    }
