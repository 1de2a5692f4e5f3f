-- What is so of the live streams, where each change of streams keeps it, stays so over polls for packets and timeouts.
use Rattle.std.proofs.Common.{◌≡◌, refl, sym, subst, ℕ, Bool, true, false, if◌then◌else◌, Option, Some, None, is_some}
use Rattle.sctp_wire_types.specs.declared.error.Error.TheVariants as errors
use Rattle.sctp_parts.specs.declared.timer.Timer.TheVariants as names
use Rattle.sctp_parts.specs.Timers.{expiry_of, started, with_stopped}
use Rattle.sctp_streams.specs.declared.event.AssociationError.TheVariants as reasons
use Rattle.sctp_inbound.specs.declared.handshake.Offer.{Offer}
use Rattle.sctp_streams.specs.Streams.{StreamMap}
use Rattle.sctp_resets.specs.Resets.{given_up}
use Rattle.sctp_assoc.specs.Calls.{after_ack_delay, after_t3, exchanges_data, retransmits, t3_expired}
use Rattle.sctp_assoc.specs.Gather.{control_polled, data_after, data_polled, open_polled, polled}
use Rattle.sctp_assoc.specs.Handshake.{after_t1_cookie, after_t1_init, init_queued, sends_cookie, sends_init}
use Rattle.sctp_assoc.specs.Handshake.{t1_cookie_expired, t1_init_expired}
use Rattle.sctp_assoc.specs.Resets.{after_reconfig_timer, asks_again, gives_up, goes_on, reconfig_expired, with_beside}
use Rattle.sctp_assoc.specs.Resets.{with_reconfig_run}
use Rattle.sctp_assoc.specs.Shown.{Shown}
use Rattle.sctp_assoc.specs.Shutdown.{after_t2_shutdown}
use Rattle.sctp_assoc.specs.Timeouts.{after_timeouts}
use Rattle.sctp_assoc.proofs.GivenApart.{ChangesControl, with_own_control}
use Rattle.sctp_sides.proofs.EndedPolls.{by_poll_end, complete_given, ended_is_closed}
use Rattle.sctp_sides.proofs.EndedPolls.{with_answer_timed}
use Rattle.sctp_sides.proofs.PollsLeave.{PolledFrom, after_requests, control_leaves, polled_from, silent_is}
use Rattle.sctp_sides.proofs.AscendingInResets.{given_up_holds}
use Rattle.sctp_sides.proofs.AscendingInSending.{data_poll_holds}
use Rattle.sctp_sides.proofs.AscendingInChunks.{sends_cookie_keeps}
use Rattle.sctp_sides.proofs.AscendingSteps.{IsKept, Keeps, beside_kept, closed_kept, same_kept, stays_kept}
use Rattle.sctp_sides.proofs.AscendingSteps.{streams_kept, then_kept}

-- What is so of the live streams.
module _ (P : StreamMap → Type 0) (law : IsKept P) where
  -- Polls

  -- requests of this side, and what waits to go out, are no streams
  control_kept : (a b : Shown) → ChangesControl a b → Keeps P a b
  control_kept a b e =
      subst (Keeps P a) (sym e) (same_kept P a (with_own_control a b.resets.own b.control) refl)

  data_kept : (a : Shown) (now : ℕ) → Keeps P a (data_after a now).0
  unfolding data_polled
  data_kept a now = streams_kept P a (data_after a now).0 (λ h. data_poll_holds P law a now h)

  run_kept_if : (starts : Bool) (a : Shown) (now : ℕ)
      → Keeps P a
      (if starts then record a { timers = started names.Reconfig now a.estimate.rto a.timers } else a)
  run_kept_if true a now = same_kept P a _ refl
  run_kept_if false a now = stays_kept P a

  run_kept : (a : Shown) (now : ℕ) → Keeps P a (with_reconfig_run a now)
  run_kept a now = run_kept_if _ a now

  -- the front of a poll, while DATA is exchanged and else
  front_kept_if : (exchanges : Bool) (a : Shown) (now : ℕ) → exchanges_data a.state ≡ exchanges
      → Keeps P a (open_polled a now).0
  front_kept_if true a now e =
      let p : PolledFrom a now = polled_from a now e in
      let b : Shown = after_requests p.asked in
      subst (Keeps P a) (sym p.there)
      (then_kept P (data_kept a now)
      (then_kept P (control_kept (data_after a now).0 p.asked p.requests)
      (then_kept P (same_kept P p.asked b refl) (run_kept b now))))
  front_kept_if false a now e =
      let b : Shown = (control_polled a).0 in
      subst (Keeps P a) (sym (silent_is a now e))
      (then_kept P (control_kept a b (control_leaves a)) (run_kept b now))

  front_kept : (a : Shown) (now : ℕ) → Keeps P a (open_polled a now).0
  front_kept a now = front_kept_if (exchanges_data a.state) a now refl

  -- its end changes no stream, or closes
  pub polled_kept : (a : Shown) (now : ℕ) → Keeps P a (polled a now).0
  polled_kept a now =
      let m : Shown = (open_polled a now).0 in
      by_poll_end (Keeps P a) a now
      (λ e due timer. then_kept P (front_kept a now) (same_kept P m (with_answer_timed m due timer) refl))
      (λ e open_still.
      subst (Keeps P a) (ended_is_closed m open_still)
      (then_kept P (front_kept a now)
      (then_kept P (same_kept P m (complete_given m) refl)
      (closed_kept P law (complete_given m) reasons.AssociationClosed))))

  -- Timers

  offered_kept : (o : Option Offer) (a : Shown) → Keeps P a (init_queued o a)
  offered_kept None a = stays_kept P a
  offered_kept (Some offer) a = same_kept P a _ refl

  sends_init_kept : (a : Shown) (now : ℕ) → Keeps P a (sends_init a now)
  unfolding sends_init
  sends_init_kept a now =
      then_kept P (offered_kept a.handshake.offer a)
      (same_kept P (init_queued a.handshake.offer a) (sends_init a now) refl)

  t1_init_kept : (expired failure : Bool) (a : Shown) (now : ℕ)
      → Keeps P a
      (if expired then
      (if failure then (let b = t1_init_expired a now in record b { handshake_fault = Some errors.ErrHandshakeInitAck })
      else sends_init (t1_init_expired a now) now) else a)
  t1_init_kept false failure a now = stays_kept P a
  t1_init_kept true true a now = same_kept P a _ refl
  t1_init_kept true false a now =
      let b : Shown = t1_init_expired a now in then_kept P (same_kept P a b refl) (sends_init_kept b now)

  t1_cookie_kept : (expired failure : Bool) (a : Shown) (now : ℕ)
      → Keeps P a
      (if expired then
      (if failure then (let b =
      t1_cookie_expired a now in record b { handshake_fault = Some errors.ErrHandshakeCookieEcho }) else
      sends_cookie (t1_cookie_expired a now) now) else a)
  t1_cookie_kept false failure a now = stays_kept P a
  t1_cookie_kept true true a now = same_kept P a _ refl
  t1_cookie_kept true false a now =
      let b : Shown = t1_cookie_expired a now in then_kept P (same_kept P a b refl) (sends_cookie_keeps P law b now)

  t3_kept : (expired failure : Bool) (a : Shown) (now : ℕ)
      → Keeps P a
      (if expired then (if failure then t3_expired a now else retransmits (t3_expired a now) now) else a)
  t3_kept false failure a now = stays_kept P a
  t3_kept true true a now = same_kept P a _ refl
  t3_kept true false a now = same_kept P a _ refl

  goes_on_kept_if : (active : Bool) (a : Shown) (now : ℕ)
      → Keeps P a
      (if active then asks_again a now else record a { timers = with_stopped names.Reconfig a.timers })
  goes_on_kept_if true a now = same_kept P a _ refl
  goes_on_kept_if false a now = same_kept P a _ refl

  goes_on_kept : (a : Shown) (now : ℕ) → Keeps P a (goes_on a now)
  goes_on_kept a now = goes_on_kept_if (is_some a.resets.own.active) a now

  gives_up_kept : (a : Shown) (now : ℕ) → Keeps P a (gives_up a now)
  gives_up_kept a now =
      let x = given_up a.resets a.streams a.events in
      then_kept P (beside_kept P a x (given_up_holds P law a.resets a.streams a.events))
      (goes_on_kept (with_beside a x) now)

  reconfig_kept : (expired failure : Bool) (a : Shown) (now : ℕ)
      → Keeps P a
      (if expired then
      (if failure then gives_up (reconfig_expired a now) now else asks_again (reconfig_expired a now) now) else a)
  reconfig_kept false failure a now = stays_kept P a
  reconfig_kept true true a now =
      let b : Shown = reconfig_expired a now in then_kept P (same_kept P a b refl) (gives_up_kept b now)
  reconfig_kept true false a now = same_kept P a _ refl

  ack_delay_kept : (expired : Bool) (a : Shown) (now : ℕ) → (expiry_of names.Ack now a.timers).expired ≡ expired
      → Keeps P a (after_ack_delay a now)
  ack_delay_kept false a now e = rw e (stays_kept P a)
  ack_delay_kept true a now e = rw e (same_kept P a _ refl)

  pub timeouts_kept : (a : Shown) (now : ℕ) → Keeps P a (after_timeouts a now)
  timeouts_kept a now =
      let b : Shown = after_t1_init a now in
      let c : Shown = after_t1_cookie b now in
      let f : Shown = after_t2_shutdown c now in
      let d : Shown = after_t3 f now in
      let e : Shown = after_reconfig_timer d now in
      then_kept P
      (t1_init_kept (expiry_of names.T1Init now a.timers).expired (expiry_of names.T1Init now a.timers).failed a now)
      (then_kept P
      (t1_cookie_kept (expiry_of names.T1Cookie now b.timers).expired (expiry_of names.T1Cookie now b.timers).failed b
      now)
      (then_kept P (same_kept P c f refl)
      (then_kept P
      (t3_kept (expiry_of names.T3RTX now f.timers).expired (expiry_of names.T3RTX now f.timers).failed f now)
      (then_kept P
      (reconfig_kept (expiry_of names.Reconfig now d.timers).expired (expiry_of names.Reconfig now d.timers).failed d
      now)
      (ack_delay_kept (expiry_of names.Ack now e.timers).expired e now refl)))))
