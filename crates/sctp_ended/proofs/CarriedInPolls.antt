-- Polls for packets and timeouts carry what each of the rules carries.
use Rattle.std.proofs.Common.{◌≡◌, refl, sym, subst, ℕ, Bool, true, false, if◌then◌else◌, Option, Some, None, is_some}
use Rattle.sctp_wire_types.specs.declared.error.Error.TheVariants as errors
use Rattle.sctp_streams.specs.Streams.{StreamMap}
use Rattle.sctp_streams.specs.declared.event.AssociationError.TheVariants as reasons
use Rattle.sctp_parts.specs.declared.timer.Timer.TheVariants as names
use Rattle.sctp_parts.specs.Timers.{expiry_of, started, with_stopped}
use Rattle.sctp_generations.specs.Generations.{GenerationsView}
use Rattle.sctp_inbound.specs.declared.handshake.Offer.{Offer}
use Rattle.sctp_reset_requests.specs.Peer.{PeerView}
use Rattle.sctp_resets.specs.Resets.{given_up}
use Rattle.sctp_assoc.specs.Calls.{after_ack_delay, after_t3, exchanges_data, retransmits, t3_expired}
use Rattle.sctp_assoc.specs.Gather.{control_polled, data_after, data_polled, open_polled, polled}
use Rattle.sctp_assoc.specs.Handshake.{after_t1_cookie, after_t1_init, init_queued, sends_cookie, sends_init}
use Rattle.sctp_assoc.specs.Handshake.{t1_cookie_expired, t1_init_expired}
use Rattle.sctp_assoc.specs.Resets.{after_reconfig_timer, asks_again, gives_up, goes_on, reconfig_expired, with_beside}
use Rattle.sctp_assoc.specs.Resets.{with_reconfig_run}
use Rattle.sctp_assoc.specs.Shown.{Shown}
use Rattle.sctp_assoc.specs.Shutdown.{after_t2_shutdown}
use Rattle.sctp_assoc.specs.Timeouts.{after_timeouts}
use Rattle.sctp_assoc.proofs.GivenApart.{ChangesControl, with_own_control}
use Rattle.sctp_sides.proofs.EndedPolls.{by_poll_end, complete_given, ended_is_closed, with_answer_timed}
use Rattle.sctp_sides.proofs.PollsLeave.{PolledFrom, after_requests, control_leaves, polled_from, silent_is}
use Rattle.sctp_ended.proofs.Carried.{Carries, IsCarried, beside_carries, closed_carries, nothing_carries}
use Rattle.sctp_ended.proofs.Carried.{same_carries, streams_carry, then_carries}
use Rattle.sctp_ended.proofs.CarriedInChunks.{sends_cookie_carries}
use Rattle.sctp_ended.proofs.CarriedInResets.{given_up_carries}
use Rattle.sctp_ended.proofs.CarriedInSending.{data_poll_carries}

module _ {Open : GenerationsView → PeerView → Type 0} {T : GenerationsView → PeerView → StreamMap → Type 0}
    (rules : IsCarried Open T) where
  -- Polls

  -- requests of this side, and what waits to go out, are nothing to read
  control_carries : (a b : Shown) → ChangesControl a b → Carries T a b
  control_carries a b e =
      subst (Carries T a) (sym e)
      (same_carries a (with_own_control a b.resets.own b.control) refl refl refl)

  data_carries : (a : Shown) (now : ℕ) → Carries T a (data_after a now).0
  unfolding data_polled
  data_carries a now =
      streams_carry a (data_after a now).0
      (λ h. data_poll_carries (T a.resets.generations a.resets.peer)
      (rules.streams.changes a.resets.generations a.resets.peer) a now h) refl refl

  run_carries_if : (starts : Bool) (a : Shown) (now : ℕ)
      → Carries T a
      (if starts then record a { timers = started names.Reconfig now a.estimate.rto a.timers } else a)
  run_carries_if true a now = same_carries a _ refl refl refl
  run_carries_if false a now = nothing_carries a

  run_carries : (a : Shown) (now : ℕ) → Carries T a (with_reconfig_run a now)
  run_carries a now = run_carries_if _ a now

  -- the front of a poll, while DATA is exchanged and else
  front_carries_if : (exchanges : Bool) (a : Shown) (now : ℕ) → exchanges_data a.state ≡ exchanges
      → Carries T a (open_polled a now).0
  front_carries_if true a now e =
      let p : PolledFrom a now = polled_from a now e in
      let b : Shown = after_requests p.asked in
      subst (Carries T a) (sym p.there)
      (then_carries (data_carries a now)
      (then_carries (control_carries (data_after a now).0 p.asked p.requests)
      (then_carries (same_carries p.asked b refl refl refl) (run_carries b now))))
  front_carries_if false a now e =
      let b : Shown = (control_polled a).0 in
      subst (Carries T a) (sym (silent_is a now e))
      (then_carries (control_carries a b (control_leaves a)) (run_carries b now))

  front_carries : (a : Shown) (now : ℕ) → Carries T a (open_polled a now).0
  front_carries a now = front_carries_if (exchanges_data a.state) a now refl

  -- its end changes nothing to read, or closes
  pub polled_carries : (a : Shown) (now : ℕ) → Carries T a (polled a now).0
  polled_carries a now =
      let m : Shown = (open_polled a now).0 in
      by_poll_end (Carries T a) a now
      (λ e due timer. then_carries (front_carries a now)
      (same_carries m (with_answer_timed m due timer) refl refl refl))
      (λ e open_still.
      subst (Carries T a) (ended_is_closed m open_still)
      (then_carries (front_carries a now)
      (then_carries (same_carries m (complete_given m) refl refl refl)
      (closed_carries rules (complete_given m) reasons.AssociationClosed))))

  -- Timers

  offered_carries : (o : Option Offer) (a : Shown) → Carries T a (init_queued o a)
  offered_carries None a = nothing_carries a
  offered_carries (Some offer) a = same_carries a (init_queued (Some offer) a) refl refl refl

  sends_init_carries : (a : Shown) (now : ℕ) → Carries T a (sends_init a now)
  unfolding sends_init
  sends_init_carries a now =
      then_carries (offered_carries a.handshake.offer a)
      (same_carries (init_queued a.handshake.offer a) (sends_init a now) refl refl refl)

  t1_init_carries : (expired failure : Bool) (a : Shown) (now : ℕ)
      → Carries T a
      (if expired then
      (if failure then (let b = t1_init_expired a now in record b { handshake_fault = Some errors.ErrHandshakeInitAck })
      else sends_init (t1_init_expired a now) now) else a)
  t1_init_carries false failure a now = nothing_carries a
  t1_init_carries true true a now = same_carries a _ refl refl refl
  t1_init_carries true false a now =
      let b : Shown = t1_init_expired a now in then_carries
      (same_carries a b refl refl refl) (sends_init_carries b now)

  t1_cookie_carries : (expired failure : Bool) (a : Shown) (now : ℕ)
      → Carries T a
      (if expired then
      (if failure then (let b =
      t1_cookie_expired a now in record b { handshake_fault = Some errors.ErrHandshakeCookieEcho }) else
      sends_cookie (t1_cookie_expired a now) now) else a)
  t1_cookie_carries false failure a now = nothing_carries a
  t1_cookie_carries true true a now = same_carries a _ refl refl refl
  t1_cookie_carries true false a now =
      let b : Shown = t1_cookie_expired a now in then_carries
      (same_carries a b refl refl refl) (sends_cookie_carries rules b now)

  t3_carries : (expired failure : Bool) (a : Shown) (now : ℕ)
      → Carries T a
      (if expired then (if failure then t3_expired a now else retransmits (t3_expired a now) now) else a)
  t3_carries false failure a now = nothing_carries a
  t3_carries true true a now = same_carries a _ refl refl refl
  t3_carries true false a now = same_carries a _ refl refl refl

  -- a request that is still active goes out again, or its timer stops
  goes_on_carries_if : (active : Bool) (a : Shown) (now : ℕ)
      → Carries T a
      (if active then asks_again a now else record a { timers = with_stopped names.Reconfig a.timers })
  goes_on_carries_if true a now = same_carries a _ refl refl refl
  goes_on_carries_if false a now = same_carries a _ refl refl refl

  goes_on_carries : (a : Shown) (now : ℕ) → Carries T a (goes_on a now)
  goes_on_carries a now = goes_on_carries_if (is_some a.resets.own.active) a now

  gives_up_carries : (a : Shown) (now : ℕ) → Carries T a (gives_up a now)
  gives_up_carries a now =
      let x = given_up a.resets a.streams a.events in
      then_carries
      (beside_carries a x (given_up_carries rules.streams a.resets a.streams a.events))
      (goes_on_carries (with_beside a x) now)

  reconfig_carries : (expired failure : Bool) (a : Shown) (now : ℕ)
      → Carries T a
      (if expired then
      (if failure then gives_up (reconfig_expired a now) now else asks_again (reconfig_expired a now) now) else a)
  reconfig_carries false failure a now = nothing_carries a
  reconfig_carries true true a now =
      let b : Shown = reconfig_expired a now in then_carries
      (same_carries a b refl refl refl) (gives_up_carries b now)
  reconfig_carries true false a now = same_carries a _ refl refl refl

  ack_delay_carries : (expired : Bool) (a : Shown) (now : ℕ) → (expiry_of names.Ack now a.timers).expired ≡ expired
      → Carries T a (after_ack_delay a now)
  ack_delay_carries false a now e = rw e (nothing_carries a)
  ack_delay_carries true a now e = rw e (same_carries a _ refl refl refl)

  pub timeouts_carry : (a : Shown) (now : ℕ) → Carries T a (after_timeouts a now)
  timeouts_carry a now =
      let b : Shown = after_t1_init a now in
      let c : Shown = after_t1_cookie b now in
      let f : Shown = after_t2_shutdown c now in
      let d : Shown = after_t3 f now in
      let e : Shown = after_reconfig_timer d now in
      then_carries
      (t1_init_carries (expiry_of names.T1Init now a.timers).expired (expiry_of names.T1Init now a.timers).failed a now)
      (then_carries
      (t1_cookie_carries (expiry_of names.T1Cookie now b.timers).expired (expiry_of names.T1Cookie now b.timers).failed
      b now)
      (then_carries (same_carries c f refl refl refl)
      (then_carries
      (t3_carries (expiry_of names.T3RTX now f.timers).expired (expiry_of names.T3RTX now f.timers).failed f now)
      (then_carries
      (reconfig_carries (expiry_of names.Reconfig now d.timers).expired (expiry_of names.Reconfig now d.timers).failed d
      now)
      (ack_delay_carries (expiry_of names.Ack now e.timers).expired e now refl)))))
