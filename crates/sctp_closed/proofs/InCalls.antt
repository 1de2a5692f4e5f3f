-- What the rules keep stays so over each call of the application, over polls for packets and over timeouts, where
-- resets concern some streams alone.
use Rattle.std.proofs.Common.{◌≡◌, refl, sym, subst, ℕ, Bool, true, false, not, ◌&&◌, if◌then◌else◌, List, [], ◌∷◌}
use Rattle.std.proofs.Common.{◌++◌, length, Option, Some, None, is_some, remove, slice_get}
use Rattle.sctp_wire_types.specs.Config.{is_rfc}
use Rattle.sctp_wire_types.specs.declared.error.Error.TheVariants as errors
use Rattle.sctp_wire_types.specs.declared.event.StreamEvent.TheVariants.{BufferedAmountHigh}
use Rattle.sctp_wire_types.specs.declared.ids.PayloadProtocolIdentifier.{PayloadProtocolIdentifier}
use Rattle.sctp_receive_queues.specs.Messages.{ReceivedMessage}
use Rattle.sctp_streams.specs.declared.event.AssociationError.TheVariants as reasons
use Rattle.sctp_streams.specs.declared.event.Event.{Event}
use Rattle.sctp_streams.specs.declared.event.Event.TheVariants as events
use Rattle.sctp_streams.specs.declared.setting.Setting.{Setting}
use Rattle.sctp_streams.specs.Stream.{StreamView, accepted_by, is_read_half_open, reaches_high_mark, with_setting}
use Rattle.sctp_streams.specs.Stream.{without_unread}
use Rattle.sctp_streams.specs.Streams.{StreamMap, changed_stream, read_in, stream_at}
use Rattle.sctp_parts.specs.declared.timer.Timer.TheVariants as names
use Rattle.sctp_parts.specs.Timers.{expiry_of, moment_of, started, with_stopped}
use Rattle.sctp_inbound.specs.declared.handshake.Offer.{Offer}
use Rattle.sctp_directions.specs.Acts.{type_on}
use Rattle.sctp_resets.specs.Channels.{channels}
use Rattle.sctp_resets.specs.Resets.{ResetsView, event_told, event_told_at, given_up, is_retiring, read_out}
use Rattle.sctp_resets.specs.Resets.{stopped_reading, waiting_for, with_event}
use Rattle.sctp_resets.specs.Telling.{next_told}
use Rattle.sctp_resets.specs.Within.{ResetsOver}
use Rattle.sctp_resets.proofs.KeptOver.{expired_over, given_up_over, read_out_over, stopped_reading_over, waiting_over}
use Rattle.sctp_assoc.specs.Calls.{accepted_from, accepted_stream, adjusted, after_ack_delay, after_read, after_t3}
use Rattle.sctp_assoc.specs.Calls.{credit_in, drained_behind, eased, event_from, event_polled, exchanges_data, holds_of}
use Rattle.sctp_assoc.specs.Calls.{opened, read_from_stream, retransmits, stopped, stopped_open, t3_expired}
use Rattle.sctp_assoc.specs.Calls.{unread_dropped, with_max_send_message_size, without_read_half_of, written}
use Rattle.sctp_assoc.specs.Calls.{written_at, written_under}
use Rattle.sctp_assoc.specs.Gather.{control_polled, data_after, data_polled, fell_in_poll, open_polled, polled}
use Rattle.sctp_assoc.specs.Handshake.{after_t1_cookie, after_t1_init, init_queued, sends_cookie, sends_init}
use Rattle.sctp_assoc.specs.Handshake.{t1_cookie_expired, t1_init_expired}
use Rattle.sctp_assoc.specs.Resets.{after_reconfig_timer, asks_again, gives_up, goes_on, reconfig_expired, with_beside}
use Rattle.sctp_assoc.specs.Resets.{with_reconfig_run}
use Rattle.sctp_assoc.specs.Shown.{Shown}
use Rattle.sctp_assoc.specs.Shutdown.{after_t2_shutdown}
use Rattle.sctp_assoc.specs.Timeouts.{after_timeouts}
use Rattle.sctp_assoc.proofs.GivenApart.{ChangesControl, with_own_control}
use Rattle.sctp_assoc.proofs.StopsLeadOn.{dropped_or_not}
use Rattle.sctp_sides.proofs.EndedPolls.{by_poll_end}
use Rattle.sctp_sides.proofs.PollsLeave.{PolledFrom, after_requests, control_leaves, polled_from, silent_is}
use Rattle.sctp_ended.proofs.Carried.{IsMild, emptied_is_mild, half_closed, half_closed_is_mild}
use Rattle.sctp_ended.proofs.CarriedByCalls.{set_is_mild}
use Rattle.sctp_ended.proofs.CarriedInSending.{data_poll_carries}
use Rattle.sctp_closed.proofs.InChunks.{low_holds, sends_cookie_keeps}
use Rattle.sctp_closed.proofs.InReads.{read_out_holds, stopped_reading_holds}
use Rattle.sctp_closed.proofs.InResets.{given_up_holds}
use Rattle.sctp_closed.proofs.Rules.{IsUnended, Keeps, SideIs, stays, still_keeps, then_keeps}
use Rattle.sctp_closed.proofs.Steps.{beside_keeps, eased_keeps, resetting_keeps}

accepted_is_mild : (kind : PayloadProtocolIdentifier) (bytes : ℕ) → IsMild (λ s. accepted_by s kind bytes)
accepted_is_mild kind bytes = record { number = λ s. refl; opens = λ s e. e; holds = λ test id s h. h }

module _ (over : ℕ → Bool) (P : Bool → StreamMap → List Event → Type 0) (law : IsUnended over P) where
  -- Streams, writes, settings and limits

  -- a stream is opened where none was live
  pub opened_keeps : (a : Shown) (id : ℕ) (kind : PayloadProtocolIdentifier) → stream_at a.streams id ≡ None
      → Keeps over P a (opened a id kind)
  opened_keeps a id kind none =
      still_keeps over P a (opened a id kind) refl
      (λ h. law.makes a.lost a.streams a.events id a.sender.queue.next_message_id kind none h)

  high_holds : (reaches : Bool) (lost : Bool) (m : StreamMap) (es : List Event) (id : ℕ) → P lost m es
      → P lost m (es ++ (if reaches then events.Stream (BufferedAmountHigh id) ∷ [] else []))
  high_holds true lost m es id h = law.says lost m es (events.Stream (BufferedAmountHigh id) ∷ []) (tt, tt) h
  high_holds false lost m es id h = law.says lost m es [] tt h

  written_keeps_at : (o : Option StreamView) (a : Shown) (id : ℕ) (named : Option PayloadProtocolIdentifier)
      (bytes : List ℕ) → Keeps over P a (written_at o a id named bytes)
  written_keeps_at None a id named bytes = stays over P a
  written_keeps_at (Some s) a id named bytes =
      let kind = type_on s named in
      still_keeps over P a (written_under kind s a id bytes) refl
      (λ h. high_holds (reaches_high_mark s (length bytes)) a.lost
      (changed_stream (λ t. accepted_by t kind (length bytes)) a.streams id) a.events id
      (law.changes a.lost a.streams a.events (λ t. accepted_by t kind (length bytes)) id
      (accepted_is_mild kind (length bytes)) h))

  pub written_keeps : (a : Shown) (id : ℕ) (named : Option PayloadProtocolIdentifier) (bytes : List ℕ)
      → Keeps over P a (written a id named bytes)
  written_keeps a id named bytes = written_keeps_at (stream_at a.streams id) a id named bytes

  pub adjusted_keeps : (a : Shown) (id : ℕ) (setting : Setting) → Keeps over P a (adjusted a id setting)
  adjusted_keeps a id setting =
      still_keeps over P a (adjusted a id setting) refl
      (λ h. law.changes a.lost a.streams a.events (λ s. with_setting s setting) id (set_is_mild setting) h)

  accepted_keeps_from : (ids : List ℕ) (a : Shown) → Keeps over P a (accepted_from ids a).0
  accepted_keeps_from [] a = stays over P a
  accepted_keeps_from (id ∷ ids) a = still_keeps over P a _ refl (λ h. h)

  accepted_keeps_if : (failed : Bool) (a : Shown)
      → Keeps over P a (if failed then (a, None) else accepted_from a.to_accept a).0
  accepted_keeps_if true a = stays over P a
  accepted_keeps_if false a = accepted_keeps_from a.to_accept a

  pub accepted_keeps : (a : Shown) → Keeps over P a (accepted_stream a).0
  accepted_keeps a = accepted_keeps_if a.failed a

  limited_keeps_if : (failed : Bool) (a : Shown) (size : ℕ)
      → Keeps over P a (if failed then a else record a { max_send_message_size = size })
  limited_keeps_if true a size = stays over P a
  limited_keeps_if false a size = still_keeps over P a _ refl (λ h. h)

  pub limited_keeps : (a : Shown) (size : ℕ) → Keeps over P a (with_max_send_message_size a size)
  limited_keeps a size = limited_keeps_if a.failed a size

  -- Events

  told_holds : (r : ResetsView) (lost : Bool) (m : StreamMap) (told : List Event) → P lost m told
      → P lost m (event_told r told).1
  told_holds r lost m told h = by (next_told r.generations r.debts told)
    where
      given : (o : Option Event) (rest : List Event) → P lost m rest → P lost m (with_event o r rest).1
      given None rest left = left
      given (Some e) rest left = left

      by : (o : Option ℕ) → P lost m (event_told_at o r told).1
      by None = h
      by (Some index) = given (slice_get told index) (remove told index) (law.gives lost m told index h)

  told_from_holds : (x : ResetsView × List Event × Option Event) (a : Shown) → P a.lost a.streams x.1
      → SideIs P (event_from x a).0
  told_from_holds (r, left, None) a h = h
  told_from_holds (r, left, Some e) a h = h

  pub event_told_holds : (a : Shown) → SideIs P a → SideIs P (event_polled a).0
  event_told_holds a h =
      told_from_holds (event_told a.resets a.events) a (told_holds a.resets a.lost a.streams a.events h)

  -- Reads

  drained_holds : (a : Shown) (id : ℕ) (streams : StreamMap) → ResetsOver over a.resets
      → P a.lost streams a.events → Keeps over P a (drained_behind a id streams)
  drained_holds a id streams past h =
      let first = a.sender.queue.next_message_id in
      let limit = a.receiver.max_receive_message_size in
      let c = channels streams a.events a.to_accept in
      resetting_keeps over P a (read_out first limit id a.resets c)
      (λ r. read_out_over over first limit id a.resets c r)
      (λ r before. read_out_holds over P law a.lost first limit id a.resets c r h)

  read_holds_if : (x : StreamMap × Option ReceivedMessage) (a : Shown) (id : ℕ) → ResetsOver over a.resets
      → P a.lost x.0 a.events → SideIs P a → SideIs P (after_read a id x).0
  read_holds_if (streams, None) a id past h before = (drained_holds a id streams past h).keeps past before
  read_holds_if (streams, Some message) a id past h before =
      let drained = drained_holds a id streams past h in
      (eased_keeps over P law (credit_in a) (drained_behind a id streams)).keeps (drained.resets past)
      (drained.keeps past before)

  pub read_holds : (a : Shown) (id : ℕ) → ResetsOver over a.resets → SideIs P a
      → SideIs P (read_from_stream a id).0
  read_holds a id past h =
      read_holds_if (read_in a.streams id) a id past (law.reads a.lost a.streams a.events id h) h

  -- Stops

  half_holds : (a : Shown) (id : ℕ) → SideIs P a → SideIs P (without_read_half_of a id)
  half_holds a id h = law.changes a.lost a.streams a.events half_closed id half_closed_is_mild h

  stopped_keeps_if : (retiring : Bool) (a : Shown) (id : ℕ) → over id ≡ true
      → Keeps over P a
      (let b = without_read_half_of a id in
      if retiring then with_beside b (stopped_reading id b.resets b.streams b.events) else
      record b { streams = unread_dropped (is_rfc b.profile) b.streams id; resets = waiting_for b.resets id })
  stopped_keeps_if true a id one =
      let b : Shown = without_read_half_of a id in
      then_keeps over P (still_keeps over P a b refl (λ h. half_holds a id h))
      (beside_keeps over P b (stopped_reading id b.resets b.streams b.events)
      (λ r. stopped_reading_over over id b.resets b.streams b.events r)
      (λ r h. stopped_reading_holds over P law b.lost id b.resets b.streams b.events one h))
  stopped_keeps_if false a id one = record {
    resets = λ r. waiting_over over a.resets id one r;
    keeps = λ r h.
        (let b : Shown = without_read_half_of a id in
        let half : SideIs P b = half_holds a id h in
        dropped_or_not (λ (m : StreamMap). P a.lost m a.events) (is_rfc a.profile) b.streams id half
        (law.changes a.lost b.streams a.events without_unread id emptied_is_mild half));
  }

  stopped_open_keeps : (a : Shown) (id : ℕ) → over id ≡ true → Keeps over P a (stopped_open a id)
  stopped_open_keeps a id one = stopped_keeps_if (is_retiring a.resets id) a id one

  stop_keeps_if : (reads : Bool) (before : ℕ) (a : Shown) (id : ℕ) → over id ≡ true
      → Keeps over P a (if reads then eased before (stopped_open a id) else a)
  stop_keeps_if true before a id one =
      then_keeps over P (stopped_open_keeps a id one) (eased_keeps over P law before (stopped_open a id))
  stop_keeps_if false before a id one = stays over P a

  pub stopped_keeps : (a : Shown) (id : ℕ) → over id ≡ true → Keeps over P a (stopped a id)
  stopped_keeps a id one =
      stop_keeps_if (holds_of (λ s. is_read_half_open s.halves) a id) (credit_in a) a id one

  -- Polls: they are of requests of this side and of what waits to go out, and of DATA

  control_holds : (a b : Shown) → ChangesControl a b → SideIs P a → SideIs P b
  control_holds a b e h =
      let same : SideIs P (with_own_control a b.resets.own b.control) = h in subst (SideIs P) (sym e) same

  data_holds : (a : Shown) (now : ℕ) → SideIs P a → SideIs P (data_after a now).0
  unfolding data_polled
  data_holds a now h =
      low_holds over P law a.lost (data_polled a now).0.streams a.events (fell_in_poll a now)
      (data_poll_carries (λ (m : StreamMap). P a.lost m a.events)
      (λ m change id mild k. law.changes a.lost m a.events change id mild k) a now h)

  run_holds_if : (starts : Bool) (a : Shown) (now : ℕ) → SideIs P a
      → SideIs P (if starts then record a { timers = started names.Reconfig now a.estimate.rto a.timers } else a)
  run_holds_if true a now h = h
  run_holds_if false a now h = h

  run_holds : (a : Shown) (now : ℕ) → SideIs P a → SideIs P (with_reconfig_run a now)
  run_holds a now h =
      run_holds_if (is_some a.resets.own.active && not (is_some (moment_of names.Reconfig a.timers))) a now h

  front_holds_if : (exchanges : Bool) (a : Shown) (now : ℕ) → exchanges_data a.state ≡ exchanges → SideIs P a
      → SideIs P (open_polled a now).0
  front_holds_if true a now e h =
      let p : PolledFrom a now = polled_from a now e in
      let b : Shown = after_requests p.asked in
      let data_is : SideIs P (data_after a now).0 = data_holds a now h in
      let asked_is : SideIs P p.asked = control_holds (data_after a now).0 p.asked p.requests data_is in
      let left : SideIs P b = asked_is in
      subst (SideIs P) (sym p.there) (run_holds b now left)
  front_holds_if false a now e h =
      let b : Shown = (control_polled a).0 in
      let left : SideIs P b = control_holds a b (control_leaves a) h in
      subst (SideIs P) (sym (silent_is a now e)) (run_holds b now left)

  front_holds : (a : Shown) (now : ℕ) → SideIs P a → SideIs P (open_polled a now).0
  front_holds a now h = front_holds_if (exchanges_data a.state) a now refl h

  -- the end of a poll changes nothing of it, or closes
  pub polled_holds : (a : Shown) (now : ℕ) → SideIs P a → SideIs P (polled a now).0
  polled_holds a now h =
      let m : Shown = (open_polled a now).0 in
      let front : SideIs P m = front_holds a now h in
      by_poll_end (SideIs P) a now (λ e due timer. front)
      (λ e open_still. law.closes m.lost m.streams m.events reasons.AssociationClosed front)

  -- Timers

  offered_keeps : (o : Option Offer) (a : Shown) → Keeps over P a (init_queued o a)
  offered_keeps None a = stays over P a
  offered_keeps (Some offer) a = still_keeps over P a (init_queued (Some offer) a) refl (λ h. h)

  sends_init_keeps : (a : Shown) (now : ℕ) → Keeps over P a (sends_init a now)
  unfolding sends_init
  sends_init_keeps a now =
      then_keeps over P (offered_keeps a.handshake.offer a)
      (still_keeps over P (init_queued a.handshake.offer a) (sends_init a now) refl (λ h. h))

  t1_init_keeps : (expired failure : Bool) (a : Shown) (now : ℕ)
      → Keeps over P a
      (if expired then
      (if failure then (let b = t1_init_expired a now in record b { handshake_fault = Some errors.ErrHandshakeInitAck })
      else sends_init (t1_init_expired a now) now) else a)
  t1_init_keeps false failure a now = stays over P a
  t1_init_keeps true true a now = still_keeps over P a _ refl (λ h. h)
  t1_init_keeps true false a now =
      let b : Shown = t1_init_expired a now in
      then_keeps over P (still_keeps over P a b refl (λ h. h)) (sends_init_keeps b now)

  t1_cookie_keeps : (expired failure : Bool) (a : Shown) (now : ℕ)
      → Keeps over P a
      (if expired then
      (if failure then (let b =
      t1_cookie_expired a now in record b { handshake_fault = Some errors.ErrHandshakeCookieEcho }) else
      sends_cookie (t1_cookie_expired a now) now) else a)
  t1_cookie_keeps false failure a now = stays over P a
  t1_cookie_keeps true true a now = still_keeps over P a _ refl (λ h. h)
  t1_cookie_keeps true false a now =
      let b : Shown = t1_cookie_expired a now in
      then_keeps over P (still_keeps over P a b refl (λ h. h)) (sends_cookie_keeps over P law b now)

  t3_keeps : (expired failure : Bool) (a : Shown) (now : ℕ)
      → Keeps over P a
      (if expired then (if failure then t3_expired a now else retransmits (t3_expired a now) now) else a)
  t3_keeps false failure a now = stays over P a
  t3_keeps true true a now = still_keeps over P a _ refl (λ h. h)
  t3_keeps true false a now = still_keeps over P a _ refl (λ h. h)

  -- a request that is still active goes out again, or its timer stops
  asks_again_keeps : (a : Shown) (now : ℕ) → Keeps over P a (asks_again a now)
  asks_again_keeps a now = record { resets = λ r. expired_over over a.resets r; keeps = λ r h. h }

  goes_on_keeps_if : (active : Bool) (a : Shown) (now : ℕ)
      → Keeps over P a
      (if active then asks_again a now else record a { timers = with_stopped names.Reconfig a.timers })
  goes_on_keeps_if true a now = asks_again_keeps a now
  goes_on_keeps_if false a now = still_keeps over P a _ refl (λ h. h)

  goes_on_keeps : (a : Shown) (now : ℕ) → Keeps over P a (goes_on a now)
  goes_on_keeps a now = goes_on_keeps_if (is_some a.resets.own.active) a now

  gives_up_keeps : (a : Shown) (now : ℕ) → Keeps over P a (gives_up a now)
  gives_up_keeps a now =
      let x = given_up a.resets a.streams a.events in
      then_keeps over P
      (beside_keeps over P a x (λ r. given_up_over over a.resets a.streams a.events r)
      (λ r h. given_up_holds over P law a.lost a.resets a.streams a.events r h))
      (goes_on_keeps (with_beside a x) now)

  reconfig_keeps : (expired failure : Bool) (a : Shown) (now : ℕ)
      → Keeps over P a
      (if expired then
      (if failure then gives_up (reconfig_expired a now) now else asks_again (reconfig_expired a now) now) else a)
  reconfig_keeps false failure a now = stays over P a
  reconfig_keeps true true a now =
      let b : Shown = reconfig_expired a now in
      then_keeps over P (still_keeps over P a b refl (λ h. h)) (gives_up_keeps b now)
  reconfig_keeps true false a now =
      let b : Shown = reconfig_expired a now in
      then_keeps over P (still_keeps over P a b refl (λ h. h)) (asks_again_keeps b now)

  ack_delay_keeps : (expired : Bool) (a : Shown) (now : ℕ) → (expiry_of names.Ack now a.timers).expired ≡ expired
      → Keeps over P a (after_ack_delay a now)
  ack_delay_keeps false a now e = rw e (stays over P a)
  ack_delay_keeps true a now e = rw e (still_keeps over P a _ refl (λ h. h))

  pub timeouts_keep : (a : Shown) (now : ℕ) → Keeps over P a (after_timeouts a now)
  timeouts_keep a now =
      let b : Shown = after_t1_init a now in
      let c : Shown = after_t1_cookie b now in
      let f : Shown = after_t2_shutdown c now in
      let d : Shown = after_t3 f now in
      let e : Shown = after_reconfig_timer d now in
      then_keeps over P
      (t1_init_keeps (expiry_of names.T1Init now a.timers).expired (expiry_of names.T1Init now a.timers).failed a now)
      (then_keeps over P
      (t1_cookie_keeps (expiry_of names.T1Cookie now b.timers).expired (expiry_of names.T1Cookie now b.timers).failed
      b now)
      (then_keeps over P (still_keeps over P c f refl (λ h. h))
      (then_keeps over P
      (t3_keeps (expiry_of names.T3RTX now f.timers).expired (expiry_of names.T3RTX now f.timers).failed f now)
      (then_keeps over P
      (reconfig_keeps (expiry_of names.Reconfig now d.timers).expired (expiry_of names.Reconfig now d.timers).failed d
      now)
      (ack_delay_keeps (expiry_of names.Ack now e.timers).expired e now refl)))))
