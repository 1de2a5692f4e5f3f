-- The calls of an application, and the timers, leave what a side sends of a stream its course; where one closes the
-- association nothing is said.
use Rattle.std.proofs.Common.{◌≡◌, refl, sym, ap, ◌∙◌, subst, ⊎_elim, ℕ, ◌<◌, ◌^◌, ◌==◌, ◌||◌, Bool, true}
use Rattle.std.proofs.Common.{false, if◌then◌else◌, List, [], ◌∷◌, length, Option, Some, None, is_some}
use Rattle.std.specs.Prelude.{remove, slice_get}
use Rattle.std.proofs.lemmas.Bool.{cases_Bool, eqb-true, false≢true, true≢false}
use Rattle.sctp_wire_types.specs.Config.{is_rfc}
use Rattle.sctp_wire_types.specs.declared.error.Error.TheVariants as errors
use Rattle.sctp_wire_types.specs.declared.event.StreamEvent.{StreamEvent}
use Rattle.sctp_wire_types.specs.declared.event.StreamEvent.TheVariants as said
use Rattle.sctp_wire_types.specs.declared.ids.PayloadProtocolIdentifier.{PayloadProtocolIdentifier}
use Rattle.sctp_parts.specs.declared.timer.Timer.TheVariants as names
use Rattle.sctp_parts.specs.Timers.{expiry_of, with_stopped}
use Rattle.sctp_receive_queues.specs.Messages.{ReceivedMessage}
use Rattle.sctp_streams.specs.declared.event.AssociationError.{AssociationError}
use Rattle.sctp_streams.specs.declared.event.AssociationError.TheVariants as reasons
use Rattle.sctp_streams.specs.declared.event.Event.{Event}
use Rattle.sctp_streams.specs.declared.event.Event.TheVariants as events
use Rattle.sctp_streams.specs.declared.setting.Setting.{Setting}
use Rattle.sctp_streams.specs.Stream.{StreamView, is_read_half_open}
use Rattle.sctp_streams.specs.Streams.{StreamMap, read_in, stream_at}
use Rattle.sctp_inbound.specs.declared.handshake.Offer.{Offer}
use Rattle.sctp_generations.specs.Generations as generations
use Rattle.sctp_reset_requests.specs.Debts.{DebtsView, entry_at, is_owed, one_end_given, one_given}
use Rattle.sctp_reset_requests.specs.Ids.{has_id}
use Rattle.sctp_reset_requests.specs.Own.{is_asked_for}
use Rattle.sctp_reset_requests.specs.Peer.{boundary_of}
use Rattle.sctp_resets.specs.Channels.{channels}
use Rattle.sctp_resets.specs.Draining.{Reading, drained_out}
use Rattle.sctp_resets.specs.Resets.{Beside, ResetsView, Resetting, event_told, event_told_at, given_up, is_blocked}
use Rattle.sctp_resets.specs.Resets.{is_retiring, read_out, stopped_reading, waiting_for, with_event}
use Rattle.sctp_resets.specs.Resets.{with_generations, with_read}
use Rattle.sctp_resets.specs.Telling.{debts_said, debts_told, next_told}
use Rattle.sctp_directions.specs.Acts.{Act, History, message_of, type_on}
use Rattle.sctp_courses.specs.Course.{Course}
use Rattle.sctp_assoc.specs.Calls.{accepted_from, accepted_stream, adjusted, after_ack_delay, after_read, after_t3}
use Rattle.sctp_assoc.specs.Calls.{credit_in, drained_behind, eased, event_from, event_polled, holds_of, opened}
use Rattle.sctp_assoc.specs.Calls.{read_from_stream, retransmits, stopped, stopped_open, t3_expired, tells_window}
use Rattle.sctp_assoc.specs.Calls.{told_if, unread_dropped, with_max_send_message_size}
use Rattle.sctp_assoc.specs.Calls.{without_read_half_of, write_refusal, written, written_at}
use Rattle.sctp_assoc.specs.Closing.{closed_by, closed_open, exhausted, is_closed_state, is_exhausted, out_of_resource}
use Rattle.sctp_assoc.specs.Closing.{relieved}
use Rattle.sctp_assoc.specs.Control.{queued}
use Rattle.sctp_assoc.specs.Handshake.{after_t1_cookie, after_t1_init, cookie_queued, init_queued, sends_cookie}
use Rattle.sctp_assoc.specs.Handshake.{sends_init, t1_cookie_expired, t1_init_expired}
use Rattle.sctp_assoc.specs.Leads.{parts}
use Rattle.sctp_assoc.specs.Resets.{after_reconfig_timer, asks_again, gives_up, reconfig_expired, with_beside}
use Rattle.sctp_assoc.specs.Resets.{with_resetting}
use Rattle.sctp_assoc.specs.Shown.{Shown}
use Rattle.sctp_assoc.specs.Shutdown.{after_t2_shutdown, endpoint_event_polled, shutdown_begun}
use Rattle.sctp_assoc.specs.Timeouts.{after_timeouts}
use Rattle.sctp_sides.specs.Restarts.{is_being_reset}
use Rattle.sctp_sides.proofs.ActiveOverRuns.{writes_wait_for_resets}
use Rattle.sctp_sides.proofs.QuietQueues.{acts_add_none, message_adds_none}
use Rattle.sctp_course_sides.specs.Sends.{IsHeldBack, Sends}
use Rattle.sctp_course_sides.proofs.Identifiers.{inserted_small}
use Rattle.sctp_course_sides.proofs.ReadsStopped.{stopped_has}
use Rattle.sctp_course_sides.proofs.SenderParts.{Asks, AsksOf, asks_of, flown_of, marked_flown, quiet_of}
use Rattle.sctp_course_sides.proofs.SenderParts.{sends_by_asks, sends_from}
use Rattle.sctp_course_sides.proofs.SenderRequests.{changed_failed, given_up_asks, repeated_asks}

-- Writes

-- a stream that is barred by its last reset is blocked
bars_if : (asked owed failed retires : Bool) → failed ≡ true → (asked || (owed || failed) || retires) ≡ true
bars_if true owed failed retires e = refl
bars_if false true failed retires e = refl
bars_if false false failed retires e = rw e refl

failed_is_blocked : (r : ResetsView) (id : ℕ) → has_id id r.debts.failed ≡ true → is_blocked r id ≡ true
failed_is_blocked r id e =
    bars_if (is_asked_for r.own id) (is_owed r.debts id) (has_id id r.debts.failed) (is_retiring r id) e

-- no write is accepted on a stream that is held back
no_write : (a : Shown) (id : ℕ) → is_blocked a.resets id ≡ false → is_being_reset a id ≡ false → IsHeldBack id a → ⊥
no_write a id free apart held =
    ⊎_elim (λ (reset : is_being_reset a id ≡ true). false≢true (sym apart ∙ reset))
    (λ (failed : has_id id a.resets.debts.failed ≡ true).
    false≢true (sym free ∙ failed_is_blocked a.resets id failed))
    held.barred

module _ (initial id : ℕ) (a : Shown) (h : History) (c : Course) (stream : ℕ)
    (named : Option PayloadProtocolIdentifier) (bytes : List ℕ) where
  -- a stream that is held back is another one
  apart_from : is_blocked a.resets stream ≡ false → is_being_reset a stream ≡ false → IsHeldBack id a
      → (stream == id) ≡ false
  apart_from free apart held =
      ⊎_elim
      (λ (same_one : (stream == id) ≡ true).
      absurd (no_write a id
      (ap (λ (n : ℕ). is_blocked a.resets n) (sym (eqb-true stream id same_one)) ∙ free)
      (ap (λ (n : ℕ). is_being_reset a n) (sym (eqb-true stream id same_one)) ∙ apart) held))
      (λ (other : (stream == id) ≡ false). other)
      (cases_Bool (stream == id))

  sends_written_at : (o : Option StreamView) → is_blocked a.resets stream ≡ false → is_being_reset a stream ≡ false
      → Sends initial id a h c → Sends initial id (written_at o a stream named bytes) h c
  sends_written_at None free apart s = s
  sends_written_at (Some t) free apart s =
      sends_from initial id (written_at (Some t) a stream named bytes) h c s.small s.own
      (flown_of initial id a h c s)
      (λ reset.
      message_adds_none a.sender.queue (message_of t (type_on t named) a.sender.max_payload_size stream bytes) id
      (apart_from free apart (s.held_back reset)) (s.held_back reset).quiet)
      (asks_of initial id a h c s)

  -- a message was accepted
  pub written_sends : write_refusal a stream (length bytes) ≡ None → Sends initial id a h c
      → Sends initial id (written a stream named bytes) h c
  written_sends accepted s =
      let w = writes_wait_for_resets a stream (length bytes) accepted in
      sends_written_at (stream_at a.streams stream) w.0 w.1 s

-- Calls that leave requests and DATA

debts_if : (e : StreamEvent) (d : DebtsView) → (debts_said e d).failed ≡ d.failed
debts_if (said.Opened i) d = refl
debts_if (said.Readable i) d = refl
debts_if (said.Writable i) d = refl
debts_if (said.Finished i) d = changed_failed (entry_at d i) d i one_given
debts_if (said.ResetComplete i) d = changed_failed (entry_at d i) d i one_end_given
debts_if (said.ResetFailed i reason) d = changed_failed (entry_at d i) d i one_end_given
debts_if (said.Stopped i code) d = refl
debts_if (said.BufferedAmountLow i) d = refl
debts_if (said.BufferedAmountHigh i) d = refl
debts_if said.Available d = refl

-- what failed stays so as an event is told
told_failed : (e : Event) (d : DebtsView) → (debts_told e d).failed ≡ d.failed
told_failed events.Connected d = refl
told_failed (events.HandshakeFailed reason) d = refl
told_failed (events.AssociationLost reason) d = refl
told_failed (events.Stream e) d = debts_if e d
told_failed (events.DataChannelStatsFinal stats) d = refl
told_failed events.DatagramReceived d = refl

module _ (initial id : ℕ) (c : Course) where
  -- what waits and is in flight stays, and requests stay those of the course
  abbrev Keeps : Shown → Shown → Type 0
  Keeps a b =
      (b.sender.queue ≡ a.sender.queue) × (AsksOf initial id c a.resets → AsksOf initial id c b.resets)

  then_keeps : (a b d : Shown) → Keeps a b → Keeps b d → Keeps a d
  then_keeps a b d x y = (y.0 ∙ x.0, λ asks. y.1 (x.1 asks))

  failed_same : (r : ResetsView) (d : DebtsView) → d.failed ≡ r.debts.failed → AsksOf initial id c r
      → AsksOf initial id c (record r { debts = d })
  failed_same r d e x =
      subst
      (λ (fs : List ℕ).
      Asks initial id c r.own.next_number r.own.waiting r.own.queued r.own.active r.peer.in_progress fs)
      (sym e) x

  -- Events

  event_asks : (o : Option Event) (r : ResetsView) (rest : List Event) → AsksOf initial id c r
      → AsksOf initial id c (with_event o r rest).0
  event_asks None r rest x = x
  event_asks (Some e) r rest x = failed_same r (debts_told e r.debts) (told_failed e r.debts) x

  told_asks : (o : Option ℕ) (r : ResetsView) (told : List Event) → AsksOf initial id c r
      → AsksOf initial id c (event_told_at o r told).0
  told_asks None r told x = x
  told_asks (Some index) r told x = event_asks (slice_get told index) r (remove told index) x

  telling_keeps : (x : ResetsView × List Event × Option Event) (a : Shown)
      → (AsksOf initial id c a.resets → AsksOf initial id c x.0) → Keeps a (event_from x a).0
  telling_keeps (r, left, None) a f = (refl, f)
  telling_keeps (r, left, Some event) a f = (refl, f)

  -- Reads

  read_asks : (r : ResetsView) (x : Reading) → AsksOf initial id c r → AsksOf initial id c (with_read r x).0
  read_asks r (g, ch) x = x

  resetting_keeps : (a : Shown) (x : Resetting) → (AsksOf initial id c a.resets → AsksOf initial id c x.0)
      → Keeps a (with_resetting a x)
  resetting_keeps a (r, ch) f = (refl, f)

  beside_keeps : (a : Shown) (x : Beside) → (AsksOf initial id c a.resets → AsksOf initial id c x.0)
      → Keeps a (with_beside a x)
  beside_keeps a (r, m, told) f = (refl, f)

  draining_keeps : (a : Shown) (stream : ℕ) (streams : StreamMap) → Keeps a (drained_behind a stream streams)
  draining_keeps a stream streams =
      let first = a.sender.queue.next_message_id in
      let limit = a.receiver.max_receive_message_size in
      let ch = channels streams a.events a.to_accept in
      resetting_keeps a (read_out first limit stream a.resets ch)
      (read_asks a.resets
      (drained_out first limit stream (boundary_of a.resets.peer stream) (a.resets.generations, ch)))

  -- Stops

  waiting_asks : (r : ResetsView) (stream : ℕ) → stream < 2 ^ 16 → AsksOf initial id c r
      → AsksOf initial id c (waiting_for r stream)
  waiting_asks r stream l x = record {
    numbers = x.numbers;
    in_order = x.in_order;
    latest = x.latest;
    by_ids = x.by_ids;
    peer_by_ids = x.peer_by_ids;
    small = inserted_small stream r.own.waiting l x.small;
    barred = x.barred;
  }

  stopping_keeps : (retires : Bool) (a : Shown) (stream : ℕ) → stream < 2 ^ 16
      → Keeps a
      (let b = without_read_half_of a stream in
      if retires then with_beside b (stopped_reading stream b.resets b.streams b.events) else
      record b { streams = unread_dropped (is_rfc b.profile) b.streams stream; resets = waiting_for b.resets stream })
  stopping_keeps true a stream l =
      let b : Shown = without_read_half_of a stream in
      let r : ResetsView = with_generations b.resets (generations.discarded b.resets.generations stream) in
      beside_keeps b (stopped_reading stream b.resets b.streams b.events)
      (λ x. stopped_has (λ (s : ResetsView). AsksOf initial id c s) stream b.resets b.streams b.events x
      (waiting_asks r stream l x))
  stopping_keeps false a stream l = (refl, waiting_asks a.resets stream l)

  -- Timers

  offering_keeps : (o : Option Offer) (a : Shown) → Keeps a (init_queued o a)
  offering_keeps None a = (refl, λ x. x)
  offering_keeps (Some offer) a = (refl, λ x. x)

  offer_keeps : (a : Shown) (now : ℕ) → Keeps a (sends_init a now)
  unfolding sends_init
  offer_keeps a now = offering_keeps a.handshake.offer a

  echoing_keeps : (o : Option (List ℕ)) (a : Shown) → Keeps a (cookie_queued o a)
  echoing_keeps None a = (refl, λ x. x)
  echoing_keeps (Some cookie) a = (refl, λ x. x)

  echo_keeps : (a : Shown) (now : ℕ) → Keeps a (sends_cookie a now)
  unfolding sends_cookie
  echo_keeps a now = echoing_keeps a.handshake.echo a

  t1_init_keeps : (expired failure : Bool) (a : Shown) (now : ℕ)
      → Keeps a
      (if expired then
      (if failure then (let b = t1_init_expired a now in record b { handshake_fault = Some errors.ErrHandshakeInitAck })
      else sends_init (t1_init_expired a now) now) else a)
  t1_init_keeps false failure a now = (refl, λ x. x)
  t1_init_keeps true true a now = (refl, λ x. x)
  t1_init_keeps true false a now = offer_keeps (t1_init_expired a now) now

  t1_cookie_keeps : (expired failure : Bool) (a : Shown) (now : ℕ)
      → Keeps a
      (if expired then
      (if failure then (let b =
      t1_cookie_expired a now in record b { handshake_fault = Some errors.ErrHandshakeCookieEcho }) else
      sends_cookie (t1_cookie_expired a now) now) else a)
  t1_cookie_keeps false failure a now = (refl, λ x. x)
  t1_cookie_keeps true true a now = (refl, λ x. x)
  t1_cookie_keeps true false a now = echo_keeps (t1_cookie_expired a now) now

  -- a request goes out again, or none is active
  going_on_keeps : (active : Bool) (a : Shown) (now : ℕ)
      → Keeps a (if active then asks_again a now else record a { timers = with_stopped names.Reconfig a.timers })
  going_on_keeps true a now = (
    refl,
    repeated_asks initial id c true a.resets.own.next_number a.resets.own.waiting a.resets.own.queued
        a.resets.own.active a.resets.peer.in_progress a.resets.debts.failed,
  )
  going_on_keeps false a now = (refl, λ x. x)

  giving_up_keeps : (a : Shown) (now : ℕ) → Keeps a (gives_up a now)
  giving_up_keeps a now =
      let y : Beside = given_up a.resets a.streams a.events in
      let b : Shown = with_beside a y in
      then_keeps a b (gives_up a now)
      (beside_keeps a y (given_up_asks initial id c a.resets a.streams a.events))
      (going_on_keeps (is_some b.resets.own.active) b now)

  reconfig_keeps : (expired failure : Bool) (a : Shown) (now : ℕ)
      → Keeps a
      (if expired then
      (if failure then gives_up (reconfig_expired a now) now else asks_again (reconfig_expired a now) now)
      else a)
  reconfig_keeps false failure a now = (refl, λ x. x)
  reconfig_keeps true true a now = giving_up_keeps (reconfig_expired a now) now
  reconfig_keeps true false a now = going_on_keeps true (reconfig_expired a now) now

  ack_delay_keeps : (expired : Bool) (a : Shown) (now : ℕ) → (expiry_of names.Ack now a.timers).expired ≡ expired
      → Keeps a (after_ack_delay a now)
  ack_delay_keeps false a now e = rw e (refl, λ x. x)
  ack_delay_keeps true a now e = rw e (refl, λ x. x)

  accepting_keeps : (ids : List ℕ) (a : Shown) → Keeps a (accepted_from ids a).0
  accepting_keeps [] a = (refl, λ x. x)
  accepting_keeps (i ∷ is) a = (refl, λ x. x)

  accept_keeps : (failed : Bool) (a : Shown)
      → Keeps a (if◌then◌else◌ {A = Shown × Option ℕ} failed (a, None) (accepted_from a.to_accept a)).0
  accept_keeps true a = (refl, λ x. x)
  accept_keeps false a = accepting_keeps a.to_accept a

  limit_keeps : (failed : Bool) (a : Shown) (size : ℕ)
      → Keeps a (if failed then a else record a { max_send_message_size = size })
  limit_keeps true a size = (refl, λ x. x)
  limit_keeps false a size = (refl, λ x. x)

-- What a side sends of a stream stays its course.
module _ (initial id : ℕ) (h : History) (c : Course) where
  abbrev KeepsSending : Shown → Shown → Type 0
  KeepsSending a b = Sends initial id a h c → Sends initial id b h c

  by_keeping : (a b : Shown) → Keeps initial id c a b → KeepsSending a b
  by_keeping a b k s = sends_by_asks initial id c a b h k.0 k.1 s

  -- an exhausted receive buffer closes an open association

  exhausting_sends : (closed : Bool) (a : Shown)
      → (queued (if closed then a else closed_open a reasons.ReceiveBufferExhausted) out_of_resource).lost ≡ false
      → KeepsSending a (queued (if closed then a else closed_open a reasons.ReceiveBufferExhausted) out_of_resource)
  exhausting_sends true a open_still s = by_keeping a (queued a out_of_resource) (refl, λ x. x) s
  exhausting_sends false a open_still s = absurd (true≢false open_still)

  pub exhausted_sends : (a : Shown) → (exhausted a).lost ≡ false → Sends initial id a h c
      → Sends initial id (exhausted a) h c
  exhausted_sends a open_still s = exhausting_sends (is_closed_state a.state) a open_still s

  relieved_if : (exhausts : Bool) (a : Shown) → (if exhausts then exhausted a else a).lost ≡ false
      → KeepsSending a (if exhausts then exhausted a else a)
  relieved_if true a open_still s = exhausted_sends a open_still s
  relieved_if false a open_still s = s

  relieved_sends : (a : Shown) → (relieved a).lost ≡ false → KeepsSending a (relieved a)
  relieved_sends a open_still s = relieved_if (is_exhausted a) a open_still s

  -- a window that opened may be told, of one that did not close
  eased_sends_if : (tells : Bool) (a b : Shown) → (b.lost ≡ false → KeepsSending a b)
      → (told_if tells b).lost ≡ false → KeepsSending a (told_if tells b)
  eased_sends_if true a b on open_still s = by_keeping b (told_if true b) (refl, λ x. x) (on open_still s)
  eased_sends_if false a b on open_still s = on open_still s

  eased_sends : (before : ℕ) (a : Shown) → (eased before a).lost ≡ false → KeepsSending a (eased before a)
  eased_sends before a open_still s =
      eased_sends_if (tells_window before (relieved a)) a (relieved a) (relieved_sends a) open_still s

  after_read_sends : (a : Shown) (stream : ℕ) (x : StreamMap × Option ReceivedMessage)
      → (after_read a stream x).0.lost ≡ false → KeepsSending a (after_read a stream x).0
  after_read_sends a stream (streams, None) open_still s =
      by_keeping a (drained_behind a stream streams) (draining_keeps initial id c a stream streams) s
  after_read_sends a stream (streams, Some message) open_still s =
      let b : Shown = drained_behind a stream streams in
      eased_sends (credit_in a) b open_still (by_keeping a b (draining_keeps initial id c a stream streams) s)

  stop_sends : (reads : Bool) (before : ℕ) (a : Shown) (stream : ℕ) → stream < 2 ^ 16
      → (if reads then eased before (stopped_open a stream) else a).lost ≡ false
      → KeepsSending a (if reads then eased before (stopped_open a stream) else a)
  stop_sends true before a stream l open_still s =
      let b : Shown = stopped_open a stream in
      eased_sends before b open_still
      (by_keeping a b (stopping_keeps initial id c (is_retiring a.resets stream) a stream l) s)
  stop_sends false before a stream l open_still s = s

  close_if : (closed : Bool) (a : Shown) (reason : AssociationError)
      → (if closed then a else closed_open a reason).lost ≡ false
      → KeepsSending a (if closed then a else closed_open a reason)
  close_if true a reason open_still s = s
  close_if false a reason open_still s = absurd (true≢false open_still)

  -- The calls

  pub closed_sends : (a : Shown) (reason : AssociationError) → (closed_by a reason).lost ≡ false
      → Sends initial id a h c → Sends initial id (closed_by a reason) h c
  closed_sends a reason open_still s = close_if (is_closed_state a.state) a reason open_still s

  pub opened_sends : (a : Shown) (stream : ℕ) (kind : PayloadProtocolIdentifier) → Sends initial id a h c
      → Sends initial id (opened a stream kind) h c
  opened_sends a stream kind s = by_keeping a (opened a stream kind) (refl, λ x. x) s

  pub adjusted_sends : (a : Shown) (stream : ℕ) (setting : Setting) → Sends initial id a h c
      → Sends initial id (adjusted a stream setting) h c
  adjusted_sends a stream setting s = by_keeping a (adjusted a stream setting) (refl, λ x. x) s

  pub accepted_stream_sends : (a : Shown) → Sends initial id a h c → Sends initial id (accepted_stream a).0 h c
  accepted_stream_sends a s = by_keeping a (accepted_stream a).0 (accept_keeps initial id c a.failed a) s

  pub limited_sends : (a : Shown) (size : ℕ) → Sends initial id a h c
      → Sends initial id (with_max_send_message_size a size) h c
  limited_sends a size s =
      by_keeping a (with_max_send_message_size a size) (limit_keeps initial id c a.failed a size) s

  pub shutdown_begun_sends : (a : Shown) → Sends initial id a h c → Sends initial id (shutdown_begun a) h c
  shutdown_begun_sends a s = by_keeping a (shutdown_begun a) (refl, λ x. x) s

  pub endpoint_event_polled_sends : (a : Shown) → Sends initial id a h c
      → Sends initial id (endpoint_event_polled a).0 h c
  endpoint_event_polled_sends a s = by_keeping a (endpoint_event_polled a).0 (refl, λ x. x) s

  pub event_polled_sends : (a : Shown) → Sends initial id a h c → Sends initial id (event_polled a).0 h c
  event_polled_sends a s =
      by_keeping a (event_polled a).0
      (telling_keeps initial id c (event_told a.resets a.events) a
      (told_asks initial id c (next_told a.resets.generations a.resets.debts a.events) a.resets a.events)) s

  pub read_sends : (a : Shown) (stream : ℕ) → (read_from_stream a stream).0.lost ≡ false → Sends initial id a h c
      → Sends initial id (read_from_stream a stream).0 h c
  read_sends a stream open_still s = after_read_sends a stream (read_in a.streams stream) open_still s

  pub stopped_sends : (a : Shown) (stream : ℕ) → stream < 2 ^ 16 → (stopped a stream).lost ≡ false
      → Sends initial id a h c → Sends initial id (stopped a stream) h c
  stopped_sends a stream l open_still s =
      stop_sends (holds_of (λ s. is_read_half_open s.halves) a stream) (credit_in a) a stream l open_still s

  -- the retransmission timer expired, and what is in flight is marked
  marked_sends : (a : Shown) (now : ℕ) → KeepsSending a (retransmits (t3_expired a now) now)
  marked_sends a now s =
      sends_from initial id (retransmits (t3_expired a now) now) h c s.small s.own
      (marked_flown id c a.sender.queue.in_flight h.base (flown_of initial id a h c s))
      (λ reset. acts_add_none (Act.Marked ∷ []) (parts a h) id (tt, tt) (quiet_of initial id a h c s reset))
      (asks_of initial id a h c s)

  t3_sends : (expired failure : Bool) (a : Shown) (now : ℕ)
      → KeepsSending a
      (if expired then (if failure then t3_expired a now else retransmits (t3_expired a now) now) else a)
  t3_sends false failure a now s = s
  t3_sends true true a now s = by_keeping a (t3_expired a now) (refl, λ x. x) s
  t3_sends true false a now s = marked_sends a now s

  pub timeouts_sends : (a : Shown) (now : ℕ) → Sends initial id a h c → Sends initial id (after_timeouts a now) h c
  timeouts_sends a now s =
      let b : Shown = after_t1_init a now in
      let d : Shown = after_t1_cookie b now in
      let f : Shown = after_t2_shutdown d now in
      let g : Shown = after_t3 f now in
      let r : Shown = after_reconfig_timer g now in
      let first : Sends initial id b h c =
      by_keeping a b
      (t1_init_keeps initial id c (expiry_of names.T1Init now a.timers).expired
      (expiry_of names.T1Init now a.timers).failed a now) s in
      let second : Sends initial id d h c =
      by_keeping b d
      (t1_cookie_keeps initial id c (expiry_of names.T1Cookie now b.timers).expired
      (expiry_of names.T1Cookie now b.timers).failed b now) first in
      let third : Sends initial id f h c = by_keeping d f (refl, λ x. x) second in
      let fourth : Sends initial id g h c =
      t3_sends (expiry_of names.T3RTX now f.timers).expired (expiry_of names.T3RTX now f.timers).failed f now third in
      let fifth : Sends initial id r h c =
      by_keeping g r
      (reconfig_keeps initial id c (expiry_of names.Reconfig now g.timers).expired
      (expiry_of names.Reconfig now g.timers).failed g now) fourth in
      by_keeping r (after_ack_delay r now)
      (ack_delay_keeps initial id c (expiry_of names.Ack now r.timers).expired r now refl) fifth
