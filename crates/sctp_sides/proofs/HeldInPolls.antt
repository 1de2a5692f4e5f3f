-- What polls for packets and timeouts leave to be read is what was held before.
use Rattle.std.proofs.Common.{◌≡◌, refl, sym, subst, ℕ, Bool, true, false, if◌then◌else◌, Option, Some, None, is_some}
use Rattle.sctp_wire_types.specs.declared.chunk.ChunkPayloadData.{ChunkPayloadData}
use Rattle.sctp_wire_types.specs.declared.error.Error.TheVariants as errors
use Rattle.sctp_parts.specs.declared.timer.Timer.TheVariants as names
use Rattle.sctp_parts.specs.Timers.{expiry_of, started, with_stopped}
use Rattle.sctp_streams.specs.declared.event.AssociationError.TheVariants as reasons
use Rattle.sctp_inbound.specs.declared.handshake.Offer.{Offer}
use Rattle.sctp_resets.specs.Resets.{given_up}
use Rattle.sctp_assoc.specs.Calls.{after_ack_delay, after_t3, exchanges_data, retransmits, t3_expired}
use Rattle.sctp_assoc.specs.Gather.{control_polled, data_after, data_polled, open_polled, polled}
use Rattle.sctp_assoc.specs.Handshake.{after_t1_cookie, after_t1_init, init_queued, sends_cookie, sends_init}
use Rattle.sctp_assoc.specs.Handshake.{t1_cookie_expired, t1_init_expired}
use Rattle.sctp_assoc.specs.Resets.{after_reconfig_timer, asks_again, gives_up, goes_on, reconfig_expired, with_beside}
use Rattle.sctp_assoc.specs.Resets.{with_reconfig_run}
use Rattle.sctp_assoc.specs.Shown.{Shown}
use Rattle.sctp_assoc.specs.Shutdown.{after_t2_shutdown}
use Rattle.sctp_assoc.specs.Timeouts.{after_timeouts}
use Rattle.sctp_assoc.proofs.GivenApart.{ChangesControl, with_own_control}
use Rattle.sctp_sides.proofs.EndedPolls.{by_poll_end, complete_given, ended_is_closed}
use Rattle.sctp_sides.proofs.EndedPolls.{with_answer_timed}
use Rattle.sctp_sides.proofs.HeldInChunks.{sends_cookie_keeps}
use Rattle.sctp_sides.proofs.HeldInResets.{given_up_holds}
use Rattle.sctp_sides.proofs.HeldInSending.{data_poll_holds}
use Rattle.sctp_sides.proofs.HeldSteps.{KeepsHeld, beside_held, closed_held, same_held, stays_held, streams_held}
use Rattle.sctp_sides.proofs.HeldSteps.{then_held}
use Rattle.sctp_sides.proofs.PollsLeave.{PolledFrom, after_requests, control_leaves, polled_from, silent_is}

-- The DATA of which something is so.
module _ (P : ChunkPayloadData → Type 0) where
  -- Polls

  -- requests of this side, and what waits to go out, are nothing to read
  control_held : (a b : Shown) → ChangesControl a b → KeepsHeld P a b
  control_held a b e =
      subst (KeepsHeld P a) (sym e) (same_held P a (with_own_control a b.resets.own b.control) refl refl)

  data_held : (a : Shown) (now : ℕ) → KeepsHeld P a (data_after a now).0
  unfolding data_polled
  data_held a now = streams_held P a (data_after a now).0 (λ h. data_poll_holds P a now h.streams) refl

  run_held_if : (starts : Bool) (a : Shown) (now : ℕ)
      → KeepsHeld P a
      (if starts then record a { timers = started names.Reconfig now a.estimate.rto a.timers } else a)
  run_held_if true a now = same_held P a _ refl refl
  run_held_if false a now = stays_held P a

  run_held : (a : Shown) (now : ℕ) → KeepsHeld P a (with_reconfig_run a now)
  run_held a now = run_held_if _ a now

  -- the front of a poll, while DATA is exchanged and else
  front_held_if : (exchanges : Bool) (a : Shown) (now : ℕ) → exchanges_data a.state ≡ exchanges
      → KeepsHeld P a (open_polled a now).0
  front_held_if true a now e =
      let p : PolledFrom a now = polled_from a now e in
      let b : Shown = after_requests p.asked in
      subst (KeepsHeld P a) (sym p.there)
      (then_held P (data_held a now)
      (then_held P (control_held (data_after a now).0 p.asked p.requests)
      (then_held P (same_held P p.asked b refl refl) (run_held b now))))
  front_held_if false a now e =
      let b : Shown = (control_polled a).0 in
      subst (KeepsHeld P a) (sym (silent_is a now e))
      (then_held P (control_held a b (control_leaves a)) (run_held b now))

  front_held : (a : Shown) (now : ℕ) → KeepsHeld P a (open_polled a now).0
  front_held a now = front_held_if (exchanges_data a.state) a now refl

  -- its end changes nothing to read, or closes
  pub polled_held : (a : Shown) (now : ℕ) → KeepsHeld P a (polled a now).0
  polled_held a now =
      let m : Shown = (open_polled a now).0 in
      by_poll_end (KeepsHeld P a) a now
      (λ e due timer. then_held P (front_held a now) (same_held P m (with_answer_timed m due timer) refl refl))
      (λ e open_still.
      subst (KeepsHeld P a) (ended_is_closed m open_still)
      (then_held P (front_held a now)
      (then_held P (same_held P m (complete_given m) refl refl)
      (closed_held P (complete_given m) reasons.AssociationClosed))))

  -- Timers

  offered_held : (o : Option Offer) (a : Shown) → KeepsHeld P a (init_queued o a)
  offered_held None a = stays_held P a
  offered_held (Some offer) a = same_held P a _ refl refl

  sends_init_held : (a : Shown) (now : ℕ) → KeepsHeld P a (sends_init a now)
  unfolding sends_init
  sends_init_held a now =
      then_held P (offered_held a.handshake.offer a)
      (same_held P (init_queued a.handshake.offer a) (sends_init a now) refl refl)

  t1_init_held : (expired failure : Bool) (a : Shown) (now : ℕ)
      → KeepsHeld P a
      (if expired then
      (if failure then (let b = t1_init_expired a now in record b { handshake_fault = Some errors.ErrHandshakeInitAck })
      else sends_init (t1_init_expired a now) now) else a)
  t1_init_held false failure a now = stays_held P a
  t1_init_held true true a now = same_held P a _ refl refl
  t1_init_held true false a now =
      let b : Shown = t1_init_expired a now in then_held P (same_held P a b refl refl) (sends_init_held b now)

  t1_cookie_held : (expired failure : Bool) (a : Shown) (now : ℕ)
      → KeepsHeld P a
      (if expired then
      (if failure then (let b =
      t1_cookie_expired a now in record b { handshake_fault = Some errors.ErrHandshakeCookieEcho }) else
      sends_cookie (t1_cookie_expired a now) now) else a)
  t1_cookie_held false failure a now = stays_held P a
  t1_cookie_held true true a now = same_held P a _ refl refl
  t1_cookie_held true false a now =
      let b : Shown = t1_cookie_expired a now in then_held P (same_held P a b refl refl) (sends_cookie_keeps P b now)

  t3_held : (expired failure : Bool) (a : Shown) (now : ℕ)
      → KeepsHeld P a
      (if expired then (if failure then t3_expired a now else retransmits (t3_expired a now) now) else a)
  t3_held false failure a now = stays_held P a
  t3_held true true a now = same_held P a _ refl refl
  t3_held true false a now = same_held P a _ refl refl

  goes_on_held_if : (active : Bool) (a : Shown) (now : ℕ)
      → KeepsHeld P a
      (if active then asks_again a now else record a { timers = with_stopped names.Reconfig a.timers })
  goes_on_held_if true a now = same_held P a _ refl refl
  goes_on_held_if false a now = same_held P a _ refl refl

  goes_on_held : (a : Shown) (now : ℕ) → KeepsHeld P a (goes_on a now)
  goes_on_held a now = goes_on_held_if (is_some a.resets.own.active) a now

  gives_up_held : (a : Shown) (now : ℕ) → KeepsHeld P a (gives_up a now)
  gives_up_held a now =
      let x = given_up a.resets a.streams a.events in
      then_held P (beside_held P a x (given_up_holds P a.resets a.streams a.events))
      (goes_on_held (with_beside a x) now)

  reconfig_held : (expired failure : Bool) (a : Shown) (now : ℕ)
      → KeepsHeld P a
      (if expired then
      (if failure then gives_up (reconfig_expired a now) now else asks_again (reconfig_expired a now) now) else a)
  reconfig_held false failure a now = stays_held P a
  reconfig_held true true a now =
      let b : Shown = reconfig_expired a now in then_held P (same_held P a b refl refl) (gives_up_held b now)
  reconfig_held true false a now = same_held P a _ refl refl

  ack_delay_held : (expired : Bool) (a : Shown) (now : ℕ) → (expiry_of names.Ack now a.timers).expired ≡ expired
      → KeepsHeld P a (after_ack_delay a now)
  ack_delay_held false a now e = rw e (stays_held P a)
  ack_delay_held true a now e = rw e (same_held P a _ refl refl)

  pub timeouts_held : (a : Shown) (now : ℕ) → KeepsHeld P a (after_timeouts a now)
  timeouts_held a now =
      let b : Shown = after_t1_init a now in
      let c : Shown = after_t1_cookie b now in
      let f : Shown = after_t2_shutdown c now in
      let d : Shown = after_t3 f now in
      let e : Shown = after_reconfig_timer d now in
      then_held P
      (t1_init_held (expiry_of names.T1Init now a.timers).expired (expiry_of names.T1Init now a.timers).failed a now)
      (then_held P
      (t1_cookie_held (expiry_of names.T1Cookie now b.timers).expired (expiry_of names.T1Cookie now b.timers).failed b
      now)
      (then_held P (same_held P c f refl refl)
      (then_held P
      (t3_held (expiry_of names.T3RTX now f.timers).expired (expiry_of names.T3RTX now f.timers).failed f now)
      (then_held P
      (reconfig_held (expiry_of names.Reconfig now d.timers).expired (expiry_of names.Reconfig now d.timers).failed d
      now)
      (ack_delay_held (expiry_of names.Ack now e.timers).expired e now refl)))))
