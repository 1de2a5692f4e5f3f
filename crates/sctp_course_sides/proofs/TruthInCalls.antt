-- Whatever call of a side is carried out that brings no packet, what it says stays true of the course of a stream of
-- its peer.
use Rattle.std.proofs.Common.{◌≡◌, refl, sym, subst, ◌≤◌, ℕ, Bool, true, false, List, [], ◌∷◌, Option, Some, None}
use Rattle.std.proofs.Common.{◌∙◌, arith, if◌then◌else◌, is_some}
use Rattle.sctp_reset_requests.specs.declared.own_request.OwnRequest.{OwnRequest}
use Rattle.sctp_reset_requests.specs.Own.{OwnView}
use Rattle.sctp_resets.specs.Resets.{Beside, Resetting, ResetsView, event_told, given_up, is_retiring, read_out}
use Rattle.sctp_resets.specs.Resets.{stopped_reading, waiting_for, event_told_at, given_up_for_now, given_up_where}
use Rattle.sctp_resets.specs.Resets.{with_event, with_read}
use Rattle.sctp_courses.specs.Course.{Course}
use Rattle.sctp_assoc.specs.Resets.{with_beside, with_resetting, after_reconfig_timer, asks_again, gives_up}
use Rattle.sctp_assoc.specs.Resets.{reconfig_expired}
use Rattle.sctp_assoc.specs.Shown.{Shown}
use Rattle.sctp_course_sides.specs.Answers.{AnswersTruly, IsOfPerformed}
use Rattle.sctp_course_sides.proofs.ReadsStopped.{stopped_has}
use Rattle.sctp_course_sides.proofs.TruthOfRequests.{OwnIsTrue, ended_truly, again_truly, given_up_truly, last_is_true}
use Rattle.sctp_reset_fit.proofs.Answering.{given_up_peer}
use Rattle.sctp_reset_requests.specs.Laws.{IsCompletedUpTo}
use Rattle.sctp_reset_requests.specs.Own as requests
use Rattle.sctp_streams.specs.Streams.{StreamMap, stream_at, read_in}
use Rattle.sctp_assoc.specs.Closing.{is_exhausted, closed_by, exhausted, is_closed_state, out_of_resource, relieved}
use Rattle.std.specs.Prelude.{⊤, remove, slice_get}
use Rattle.sctp_streams.specs.declared.event.Event.{Event}
use Rattle.sctp_wire_types.specs.Config.{is_rfc}
use Rattle.sctp_wire_types.specs.declared.error.Error.TheVariants as errors
use Rattle.sctp_wire_types.specs.declared.ids.PayloadProtocolIdentifier.{PayloadProtocolIdentifier}
use Rattle.sctp_parts.specs.declared.timer.Timer.TheVariants as names
use Rattle.sctp_parts.specs.Timers.{expiry_of, with_stopped}
use Rattle.sctp_receive_queues.specs.Messages.{ReceivedMessage}
use Rattle.sctp_streams.specs.declared.event.AssociationError.{AssociationError}
use Rattle.sctp_streams.specs.declared.event.AssociationError.TheVariants as reasons
use Rattle.sctp_streams.specs.Stream.{StreamView, is_read_half_open}
use Rattle.sctp_inbound.specs.declared.handshake.Offer.{Offer}
use Rattle.sctp_inbound.specs.Handshake.{header_of}
use Rattle.sctp_resets.specs.Channels.{channels}
use Rattle.sctp_assoc.specs.Calls.{accepted_from, after_ack_delay, after_read, after_t3, drained_behind, event_from}
use Rattle.sctp_assoc.specs.Calls.{holds_of, retransmits, stopped_open, t3_expired, without_read_half_of, written_at}
use Rattle.sctp_assoc.specs.Calls.{adjusted, credit_in, eased, stopped, tells_window, told_if, unread_dropped}
use Rattle.sctp_assoc.specs.Control.{untagged}
use Rattle.sctp_assoc.specs.Handshake.{after_t1_cookie, after_t1_init, cookie_queued, init_queued, sends_cookie}
use Rattle.sctp_assoc.specs.Handshake.{sends_init, t1_cookie_expired, t1_init_expired}
use Rattle.sctp_assoc.specs.Shutdown.{after_t2_shutdown, shutdown_begun, endpoint_event_polled}
use Rattle.sctp_streams.specs.declared.setting.Setting.TheVariants as settings
use Rattle.sctp_reset_requests.specs.Peer.{boundary_of}
use Rattle.sctp_resets.specs.Draining.{Reading, drained_out}
use Rattle.sctp_resets.specs.Telling.{next_told}
use Rattle.sctp_assoc.specs.Timeouts.{after_timeouts}
use Rattle.sctp_sides.specs.OneSide.{Call, carried_out, with_told}
use Rattle.sctp_course_sides.proofs.TruthInPolls.{SpeaksTruly, speaks_with, speaks_by, queued_speaks}
use Rattle.sctp_course_sides.proofs.TruthInPolls.{closed_if_speaks, poll_speaks, queued_under_speaks}

-- a call brings no packet
abbrev pub BringsNoPacket : Call → Type 0
BringsNoPacket (Call.HandleEvent packet now) = ⊥
BringsNoPacket call = ⊤

-- What calls leave of this side's requests and of the peer's

event_own : (o : Option Event) (r : ResetsView) (rest : List Event)
    → ((with_event o r rest).0.own ≡ r.own) × ((with_event o r rest).0.peer ≡ r.peer)
event_own None r rest = (refl, refl)
event_own (Some event) r rest = (refl, refl)

told_own : (o : Option ℕ) (r : ResetsView) (told : List Event)
    → ((event_told_at o r told).0.own ≡ r.own) × ((event_told_at o r told).0.peer ≡ r.peer)
told_own None r told = (refl, refl)
told_own (Some index) r told = event_own (slice_get told index) r (remove told index)

read_own : (r : ResetsView) (x : Reading) → ((with_read r x).0.own ≡ r.own) × ((with_read r x).0.peer ≡ r.peer)
read_own r (g, c) = (refl, refl)

given_up_own : (x : OwnView × Option OwnRequest) (r : ResetsView) (m : StreamMap) (told : List Event)
    → (given_up_where x r m told).0.own ≡ x.0
given_up_own (o, None) r m told = refl
given_up_own (o, Some q) r m told = refl

-- What was performed:
module _ (initial : ℕ) (c : Course) where
  abbrev Speaks : Shown → Type 0
  Speaks a = SpeaksTruly initial c a

  abbrev On : Shown → Shown → Type 0
  On a b = SpeaksTruly initial c a → SpeaksTruly initial c b

  leaves : (a b : Shown) → b.resets.own ≡ a.resets.own → b.resets.peer ≡ a.resets.peer → b.control ≡ a.control → On a b
  leaves a b own peer control = speaks_by initial c a b own peer control

  beside_speaks : (a : Shown) (x : Beside) → (x.0.own ≡ a.resets.own) × (x.0.peer ≡ a.resets.peer)
      → On a (with_beside a x)
  beside_speaks a (r, m, told) e = leaves a (with_beside a (r, m, told)) e.0 e.1 refl

  -- this side's requests are others, and what they say is true
  own_speaks : (a : Shown) (x : Beside) → OwnIsTrue (IsOfPerformed initial c) x.0.own → x.0.peer ≡ a.resets.peer
      → On a (with_beside a x)
  own_speaks a (r, m, told) own peer = speaks_with initial c a (with_beside a (r, m, told)) own peer refl

  resetting_speaks : (a : Shown) (x : Resetting) → (x.0.own ≡ a.resets.own) × (x.0.peer ≡ a.resets.peer)
      → On a (with_resetting a x)
  resetting_speaks a (r, k) e = leaves a (with_resetting a (r, k)) e.0 e.1 refl

  -- Closes

  closed_speaks : (a : Shown) (reason : AssociationError) → On a (closed_by a reason)
  closed_speaks a reason = closed_if_speaks initial c (is_closed_state a.state) a reason

  exhausted_speaks : (a : Shown) → On a (exhausted a)
  exhausted_speaks a h =
      queued_speaks initial c (closed_by a reasons.ReceiveBufferExhausted) out_of_resource tt
      (closed_speaks a reasons.ReceiveBufferExhausted h)

  relieved_speaks_if : (e : Bool) (a : Shown) → On a (if e then exhausted a else a)
  relieved_speaks_if true a h = exhausted_speaks a h
  relieved_speaks_if false a h = h

  relieved_speaks : (a : Shown) → On a (relieved a)
  relieved_speaks a = relieved_speaks_if (is_exhausted a) a

  -- a window that opened may be told
  eased_speaks_if : (tells : Bool) (a : Shown) → On a (told_if tells a)
  eased_speaks_if true a h = leaves a (told_if true a) refl refl refl h
  eased_speaks_if false a h = h

  eased_speaks : (before : ℕ) (a : Shown) → On a (eased before a)
  eased_speaks before a h =
      eased_speaks_if (tells_window before (relieved a)) (relieved a) (relieved_speaks a h)

  -- Calls of the application

  written_speaks : (o : Option StreamView) (a : Shown) (id : ℕ) (named : Option PayloadProtocolIdentifier)
      (bytes : List ℕ) → On a (written_at o a id named bytes)
  written_speaks None a id named bytes h = h
  written_speaks (Some s) a id named bytes h = leaves a _ refl refl refl h

  limit_speaks : (failed : Bool) (a : Shown) (size : ℕ)
      → On a (if failed then a else record a { max_send_message_size = size })
  limit_speaks true a size h = h
  limit_speaks false a size h = leaves a _ refl refl refl h

  accepting_speaks : (ids : List ℕ) (a : Shown) → On a (accepted_from ids a).0
  accepting_speaks [] a h = h
  accepting_speaks (id ∷ ids) a h = leaves a _ refl refl refl h

  accept_speaks : (failed : Bool) (a : Shown) → On a (if failed then (a, None) else accepted_from a.to_accept a).0
  accept_speaks true a h = h
  accept_speaks false a h = accepting_speaks a.to_accept a h

  telling_speaks : (x : ResetsView × List Event × Option Event) (a : Shown)
      → (x.0.own ≡ a.resets.own) × (x.0.peer ≡ a.resets.peer) → On a (with_told (event_from x a)).0
  telling_speaks (r, left, None) a e h = leaves a _ e.0 e.1 refl h
  telling_speaks (r, left, Some event) a e h = leaves a _ e.0 e.1 refl h

  drained_speaks : (a : Shown) (id : ℕ) (streams : StreamMap) → On a (drained_behind a id streams)
  drained_speaks a id streams =
      let first = a.sender.queue.next_message_id in
      let limit = a.receiver.max_receive_message_size in
      let k = channels streams a.events a.to_accept in
      resetting_speaks a (read_out first limit id a.resets k)
      (read_own a.resets (drained_out first limit id (boundary_of a.resets.peer id) (a.resets.generations, k)))

  read_speaks : (a : Shown) (id : ℕ) (x : StreamMap × Option ReceivedMessage) → On a (after_read a id x).0
  read_speaks a id (streams, None) h = drained_speaks a id streams h
  read_speaks a id (streams, Some message) h =
      eased_speaks (credit_in a) (drained_behind a id streams) (drained_speaks a id streams h)

  stopped_open_speaks : (retires : Bool) (a : Shown) (id : ℕ)
      → On a
      (let b = without_read_half_of a id in
      if retires then with_beside b (stopped_reading id b.resets b.streams b.events) else
      record b { streams = unread_dropped (is_rfc b.profile) b.streams id; resets = waiting_for b.resets id })
  stopped_open_speaks true a id h =
      let b : Shown = without_read_half_of a id in
      own_speaks b (stopped_reading id b.resets b.streams b.events)
      (stopped_has (λ (r : ResetsView). OwnIsTrue (IsOfPerformed initial c) r.own) id b.resets b.streams b.events
      h.truth.own h.truth.own)
      (stopped_has (λ (r : ResetsView). r.peer ≡ b.resets.peer) id b.resets b.streams b.events refl refl)
      (leaves a b refl refl refl h)
  stopped_open_speaks false a id h = speaks_with initial c a _ h.truth.own refl refl h

  stop_speaks : (reads : Bool) (before : ℕ) (a : Shown) (id : ℕ)
      → On a (if reads then eased before (stopped_open a id) else a)
  stop_speaks true before a id h =
      eased_speaks before (stopped_open a id) (stopped_open_speaks (is_retiring a.resets id) a id h)
  stop_speaks false before a id h = h

  stopped_speaks : (a : Shown) (id : ℕ) → On a (stopped a id)
  stopped_speaks a id = stop_speaks (holds_of (λ s. is_read_half_open s.halves) a id) (credit_in a) a id

  -- Timers

  offered_speaks : (o : Option Offer) (a : Shown) → On a (init_queued o a)
  offered_speaks None a h = h
  offered_speaks (Some offer) a h = queued_under_speaks initial c (untagged (header_of a.handshake)) a _ tt h

  offer_speaks : (a : Shown) (now : ℕ) → On a (sends_init a now)
  unfolding sends_init
  offer_speaks a now h =
      leaves (init_queued a.handshake.offer a) (sends_init a now) refl refl refl (offered_speaks a.handshake.offer a h)

  cookie_speaks : (o : Option (List ℕ)) (a : Shown) → On a (cookie_queued o a)
  cookie_speaks None a h = h
  cookie_speaks (Some cookie) a h = queued_speaks initial c a _ tt h

  echo_speaks : (a : Shown) (now : ℕ) → On a (sends_cookie a now)
  unfolding sends_cookie
  echo_speaks a now h =
      leaves (cookie_queued a.handshake.echo a) (sends_cookie a now) refl refl refl (cookie_speaks a.handshake.echo a h)

  t1_init_speaks : (expired failure : Bool) (a : Shown) (now : ℕ)
      → On a
      (if expired then
      (if failure then (let b = t1_init_expired a now in record b { handshake_fault = Some errors.ErrHandshakeInitAck })
      else sends_init (t1_init_expired a now) now) else a)
  t1_init_speaks false failure a now h = h
  t1_init_speaks true true a now h = leaves a _ refl refl refl h
  t1_init_speaks true false a now h =
      offer_speaks (t1_init_expired a now) now (leaves a (t1_init_expired a now) refl refl refl h)

  t1_cookie_speaks : (expired failure : Bool) (a : Shown) (now : ℕ)
      → On a
      (if expired then
      (if failure then (let b =
      t1_cookie_expired a now in record b { handshake_fault = Some errors.ErrHandshakeCookieEcho }) else
      sends_cookie (t1_cookie_expired a now) now) else a)
  t1_cookie_speaks false failure a now h = h
  t1_cookie_speaks true true a now h = leaves a _ refl refl refl h
  t1_cookie_speaks true false a now h =
      echo_speaks (t1_cookie_expired a now) now (leaves a (t1_cookie_expired a now) refl refl refl h)

  t3_speaks : (expired failure : Bool) (a : Shown) (now : ℕ)
      → On a (if expired then (if failure then t3_expired a now else retransmits (t3_expired a now) now) else a)
  t3_speaks false failure a now h = h
  t3_speaks true true a now h = leaves a _ refl refl refl h
  t3_speaks true false a now h = leaves a _ refl refl refl h

  -- a request of this side that is given up goes on, or ends by the rules of the port
  given_up_truly_by : (by_rfcs : Bool) (r : ResetsView) (m : StreamMap) (told : List Event)
      → OwnIsTrue (IsOfPerformed initial c) r.own
      → OwnIsTrue (IsOfPerformed initial c)
      (if◌then◌else◌ {A = Beside} by_rfcs (given_up_for_now r m told)
      (given_up_where (requests.ended r.own) r m told)).0.own
  given_up_truly_by true r m told h = given_up_truly (IsOfPerformed initial c) r.own h
  given_up_truly_by false r m told h =
      subst (λ (o : OwnView). OwnIsTrue (IsOfPerformed initial c) o)
      (sym (given_up_own (requests.ended r.own) r m told)) (ended_truly (IsOfPerformed initial c) r.own h)

  asks_again_speaks : (a : Shown) (now : ℕ) → On a (asks_again a now)
  asks_again_speaks a now h =
      speaks_with initial c a (asks_again a now)
      (again_truly (IsOfPerformed initial c) true a.resets.own h.truth.own) refl refl h

  going_on_speaks : (active : Bool) (a : Shown) (now : ℕ)
      → On a (if active then asks_again a now else record a { timers = with_stopped names.Reconfig a.timers })
  going_on_speaks true a now h = asks_again_speaks a now h
  going_on_speaks false a now h = leaves a _ refl refl refl h

  gives_up_speaks : (a : Shown) (now : ℕ) → On a (gives_up a now)
  gives_up_speaks a now h =
      let x : Beside = given_up a.resets a.streams a.events in
      let b : Shown = with_beside a x in
      going_on_speaks (is_some b.resets.own.active) b now
      (own_speaks a x
      (given_up_truly_by (is_rfc a.resets.own.profile) a.resets a.streams a.events h.truth.own)
      (given_up_peer a.resets a.streams a.events) h)

  reconfig_speaks : (expired failure : Bool) (a : Shown) (now : ℕ)
      → On a
      (if expired then
      (if failure then gives_up (reconfig_expired a now) now else asks_again (reconfig_expired a now) now)
      else a)
  reconfig_speaks false failure a now h = h
  reconfig_speaks true true a now h =
      gives_up_speaks (reconfig_expired a now) now (leaves a (reconfig_expired a now) refl refl refl h)
  reconfig_speaks true false a now h =
      asks_again_speaks (reconfig_expired a now) now (leaves a (reconfig_expired a now) refl refl refl h)

  ack_delay_speaks : (expired : Bool) (a : Shown) (now : ℕ) → (expiry_of names.Ack now a.timers).expired ≡ expired
      → On a (after_ack_delay a now)
  ack_delay_speaks false a now e = rw e (λ h. h)
  ack_delay_speaks true a now e = rw e (leaves a _ refl refl refl)

  timeouts_speak : (a : Shown) (now : ℕ) → On a (after_timeouts a now)
  timeouts_speak a now h =
      let b : Shown = after_t1_init a now in
      let e : Shown = after_t1_cookie b now in
      let f : Shown = after_t2_shutdown e now in
      let g : Shown = after_t3 f now in
      let k : Shown = after_reconfig_timer g now in
      ack_delay_speaks (expiry_of names.Ack now k.timers).expired k now refl
      (reconfig_speaks (expiry_of names.Reconfig now g.timers).expired (expiry_of names.Reconfig now g.timers).failed g
      now
      (t3_speaks (expiry_of names.T3RTX now f.timers).expired (expiry_of names.T3RTX now f.timers).failed f now
      (leaves e f refl refl refl
      (t1_cookie_speaks (expiry_of names.T1Cookie now b.timers).expired (expiry_of names.T1Cookie now b.timers).failed b
      now
      (t1_init_speaks (expiry_of names.T1Init now a.timers).expired (expiry_of names.T1Init now a.timers).failed a now
      h)))))

  -- Each call that brings no packet

  pub call_speaks : (call : Call) (a : Shown) → BringsNoPacket call → On a (carried_out call a).0
  call_speaks (Call.OpenStream id kind) a none = leaves a _ refl refl refl
  call_speaks (Call.Write id named bytes) a none = written_speaks (stream_at a.streams id) a id named bytes
  call_speaks (Call.Set id setting) a none = leaves a _ refl refl refl
  call_speaks Call.AcceptStream a none = accept_speaks a.failed a
  call_speaks (Call.SetMaxSendMessageSize size) a none = limit_speaks a.failed a size
  call_speaks Call.Shutdown a none = leaves a (shutdown_begun a) refl refl refl
  call_speaks Call.PollEndpointEvent a none = leaves a (endpoint_event_polled a).0 refl refl refl
  call_speaks Call.Close a none = closed_speaks a reasons.AssociationClosed
  call_speaks (Call.Read id) a none = read_speaks a id (read_in a.streams id)
  call_speaks Call.Poll a none =
      telling_speaks (event_told a.resets a.events) a
      (told_own (next_told a.resets.generations a.resets.debts a.events) a.resets a.events)
  call_speaks (Call.PollTransmit now) a none = poll_speaks initial c a now
  call_speaks (Call.HandleTimeout now) a none = timeouts_speak a now
  call_speaks (Call.HandleEvent packet now) a none = absurd none
  call_speaks (Call.Stop id) a none = stopped_speaks a id
  call_speaks (Call.CloseStream id) a none =
      let b : Shown = adjusted a id settings.WriteHalfClosed in
      λ h. stopped_speaks b id (leaves a b refl refl refl h)

no_number : (number : ℕ) → None ≡ Some number → ⊥
no_number number e = absurd (cc)

all_of : (n : ℕ) → n ≤ n
all_of n = omega arith

-- where as many requests of the peer are completed as the course performed
pub speaks_heard : (initial : ℕ) (a : Shown) (c : Course) → IsCompletedUpTo initial c.performed a.resets.peer
    → AnswersTruly initial a c → SpeaksTruly initial c a
speaks_heard initial a c h w = record {
  truth = w;
  last = last_is_true initial c c.performed a.resets.peer (all_of c.performed) h;
}

-- and where the peer's numbers are not known
pub speaks_unheard : (initial : ℕ) (a : Shown) (c : Course) → a.resets.peer.last_completed ≡ None
    → AnswersTruly initial a c → SpeaksTruly initial c a
speaks_unheard initial a c h w = record {
  truth = w;
  last = λ number e. absurd (no_number number (sym h ∙ e));
}

pub call_answers : (initial : ℕ) (call : Call) (a : Shown) (c : Course) → BringsNoPacket call
    → IsCompletedUpTo initial c.performed a.resets.peer → AnswersTruly initial a c
    → AnswersTruly initial (carried_out call a).0 c
call_answers initial call a c none h w = (call_speaks initial c call a none (speaks_heard initial a c h w)).truth

pub call_answers_unheard : (initial : ℕ) (call : Call) (a : Shown) (c : Course) → BringsNoPacket call
    → a.resets.peer.last_completed ≡ None → AnswersTruly initial a c → AnswersTruly initial (carried_out call a).0 c
call_answers_unheard initial call a c none h w =
    (call_speaks initial c call a none (speaks_unheard initial a c h w)).truth
