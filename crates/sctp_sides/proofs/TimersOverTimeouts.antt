-- Timers that expired, and polls, keep the timers where they should run.
use Rattle.std.proofs.Common.{◌≡◌, refl, sym, ap, ◌∙◌, subst, inl, inr, ℕ, Bool, true, false, ◌&&◌, not, if◌then◌else◌}
use Rattle.std.proofs.Common.{List, [], length, map, Option, Some, None, is_some}
use Rattle.std.proofs.lemmas.Bool.{false≢true, true≢false}
use Rattle.std.proofs.lemmas.List.{length-map, nil_from_length}
use Rattle.sctp_wire_types.specs.declared.error.Error.TheVariants as errors
use Rattle.sctp_parts.specs.declared.state.AckState.{AckState}
use Rattle.sctp_parts.specs.declared.state.AssociationState.{AssociationState}
use Rattle.sctp_parts.specs.declared.timer.Timer.TheVariants as names
use Rattle.sctp_parts.specs.Timers.{IsNoneArmed, TimerState, Timers, after_expiry, expired_state, expiry_of, is_due}
use Rattle.sctp_parts.specs.Timers.{passes, started, with_moment, with_timer}
use Rattle.sctp_inbound.specs.declared.handshake.Offer.{Offer}
use Rattle.sctp_outbound_queue.specs.declared.message.InFlight.{InFlight}
use Rattle.sctp_outbound_queue.specs.Message.{marked_again}
use Rattle.sctp_assoc.specs.Calls.{after_ack_delay, after_t3, is_beginning, is_cookie_echoed, is_cookie_wait}
use Rattle.sctp_assoc.specs.Calls.{retransmits, sends_data, t3_expired}
use Rattle.sctp_assoc.specs.Handshake.{after_t1_cookie, after_t1_init, sends_cookie, sends_init, t1_cookie_expired}
use Rattle.sctp_assoc.specs.Handshake.{t1_init_expired}
use Rattle.sctp_assoc.specs.Resets.{after_reconfig_timer}
use Rattle.sctp_assoc.specs.Timeouts.{after_handshake_timers, after_shutdown_timer, after_timeouts}
use Rattle.sctp_assoc.specs.Shown.{Shown}
use Rattle.sctp_assoc.specs.Shutdown.{after_t2_shutdown}
use Rattle.sctp_assoc.specs.declared.shutdown.ShutdownDue.{ShutdownDue}
use Rattle.sctp_sides.specs.OneSide.{is_delayed}
use Rattle.sctp_sides.proofs.TimersRun.{FitsTimers, Flies, IsSameTime, Ticks, Waits, ack_kept, ticks_by, time_by}
use Rattle.sctp_sides.proofs.TimersRun.{ticks_beside, unarmed_is_not_due}
use Rattle.sctp_sides.proofs.ResetsBeside.{reconfig_timer_changes}

pub kept_if : {A : Type 0} (c : Bool) (x y : Timers) (part : Timers → A) → part x ≡ part y
    → part (if c then x else y) ≡ part y
kept_if true x y part e = e
kept_if false x y part e = refl

-- The retries of these timers are limited as before.
record HasLimits (t u : Timers) : Type 0 where
  pub data_limit : u.data_limit ≡ t.data_limit
  pub handshake_limit : u.handshake_limit ≡ t.handshake_limit

limits_kept : (due : Bool) (x t u : Timers) → HasLimits t x → HasLimits (if due then x else t) u → HasLimits t u
limits_kept due x t u same l = record {
  data_limit = l.data_limit ∙ kept_if due x t (λ (z : Timers). z.data_limit) same.data_limit;
  handshake_limit = l.handshake_limit ∙ kept_if due x t (λ (z : Timers). z.handshake_limit) same.handshake_limit;
}

fits_of : (s : AssociationState) (g : List InFlight) (t u : Timers) → HasLimits t u
    → Flies (sends_data s) g u.t3_rtx t.data_limit → Waits (is_cookie_wait s) u.t1_init t.handshake_limit
    → Waits (is_cookie_echoed s) u.t1_cookie t.handshake_limit → (is_beginning s ≡ true → g ≡ [])
    → FitsTimers s g u
fits_of s g t u l flies inits cookies unsent = record {
  flies = subst (λ (z : Option ℕ). Flies (sends_data s) g u.t3_rtx z) (sym l.data_limit) flies;
  inits = subst (λ (z : Option ℕ). Waits (is_cookie_wait s) u.t1_init z) (sym l.handshake_limit) inits;
  cookies = subst (λ (z : Option ℕ). Waits (is_cookie_echoed s) u.t1_cookie z) (sym l.handshake_limit) cookies;
  unsent = unsent;
}

pub flies_still : (sends : Bool) (f : List InFlight) (x y : TimerState) (l : Option ℕ) → y ≡ x
    → Flies sends f x l → Flies sends f y l
flies_still sends f x y l e h = subst (λ (z : TimerState). Flies sends f z l) (sym e) h

pub waits_still : (there : Bool) (x y : TimerState) (l : Option ℕ) → y ≡ x → Waits there x l → Waits there y l
waits_still there x y l e h = subst (λ (z : TimerState). Waits there z l) (sym e) h

-- The timers of INIT and of COOKIE ECHO

-- These timers are those after one expired, but for what became of that one.
module _ (s : AssociationState) (f : List InFlight) (t : Timers) (now : ℕ) (u : Timers) (h : FitsTimers s f t) where
  init_fits : u.t3_rtx ≡ (after_expiry names.T1Init now t).t3_rtx
      → u.t1_cookie ≡ (after_expiry names.T1Init now t).t1_cookie
      → HasLimits (after_expiry names.T1Init now t) u
      → Waits (is_cookie_wait s) u.t1_init t.handshake_limit → FitsTimers s f u
  init_fits a b l w =
      let due = is_due t.t1_init.moment now in
      let x : Timers = with_timer names.T1Init (expired_state t.t1_init) t in
      fits_of s f t u (limits_kept due x t u record { data_limit = refl; handshake_limit = refl } l)
      (flies_still (sends_data s) f t.t3_rtx u.t3_rtx t.data_limit
      (a ∙ kept_if due x t (λ (z : Timers). z.t3_rtx) refl) h.flies) w
      (waits_still (is_cookie_echoed s) t.t1_cookie u.t1_cookie t.handshake_limit
      (b ∙ kept_if due x t (λ (z : Timers). z.t1_cookie) refl) h.cookies) h.unsent

  cookie_fits : u.t3_rtx ≡ (after_expiry names.T1Cookie now t).t3_rtx
      → u.t1_init ≡ (after_expiry names.T1Cookie now t).t1_init
      → HasLimits (after_expiry names.T1Cookie now t) u
      → Waits (is_cookie_echoed s) u.t1_cookie t.handshake_limit → FitsTimers s f u
  cookie_fits a b l w =
      let due = is_due t.t1_cookie.moment now in
      let x : Timers = with_timer names.T1Cookie (expired_state t.t1_cookie) t in
      fits_of s f t u (limits_kept due x t u record { data_limit = refl; handshake_limit = refl } l)
      (flies_still (sends_data s) f t.t3_rtx u.t3_rtx t.data_limit
      (a ∙ kept_if due x t (λ (z : Timers). z.t3_rtx) refl) h.flies)
      (waits_still (is_cookie_wait s) t.t1_init u.t1_init t.handshake_limit
      (b ∙ kept_if due x t (λ (z : Timers). z.t1_init) refl) h.inits) w h.unsent

  t3_fits : (g : List InFlight) → u.t1_init ≡ (after_expiry names.T3RTX now t).t1_init
      → u.t1_cookie ≡ (after_expiry names.T3RTX now t).t1_cookie
      → HasLimits (after_expiry names.T3RTX now t) u
      → Flies (sends_data s) g u.t3_rtx t.data_limit → (is_beginning s ≡ true → g ≡ [])
      → FitsTimers s g u
  t3_fits g a b l flies unsent =
      let due = is_due t.t3_rtx.moment now in
      let x : Timers = with_timer names.T3RTX (expired_state t.t3_rtx) t in
      fits_of s g t u (limits_kept due x t u record { data_limit = refl; handshake_limit = refl } l) flies
      (waits_still (is_cookie_wait s) t.t1_init u.t1_init t.handshake_limit
      (a ∙ kept_if due x t (λ (z : Timers). z.t1_init) refl) h.inits)
      (waits_still (is_cookie_echoed s) t.t1_cookie u.t1_cookie t.handshake_limit
      (b ∙ kept_if due x t (λ (z : Timers). z.t1_cookie) refl) h.cookies) unsent

expiry_keeps_ack : (due : Bool) (x t : Timers) → x.ack ≡ t.ack → (if due then x else t).ack ≡ t.ack
expiry_keeps_ack due x t e = kept_if due x t (λ (z : Timers). z.ack) e

-- the last of three tests
third : (x y z : Bool) → (x && y && z) ≡ true → z ≡ true
third true true z e = e
third true false z e = absurd (false≢true e)
third false y z e = absurd (false≢true e)

-- past the limit
given_up : (there : Bool) (timer : TimerState) (limit : Option ℕ) → is_some timer.moment ≡ false
    → passes timer.retries limit ≡ true → Waits there timer limit
given_up there timer limit e p = record { alone = λ _. e; timed = λ _. inr p }

-- a timer that was due runs again
running : (there : Bool) (before timer : TimerState) (limit : Option ℕ) (now : ℕ) → is_due before.moment now ≡ true
    → Waits there before limit → is_some timer.moment ≡ true
    → Waits there timer limit
running there before timer limit now due h armed = record {
  alone = λ e. absurd (true≢false (sym due ∙ unarmed_is_not_due before.moment now (h.alone e)));
  timed = λ _. inl armed;
}

init_time : (o : Option Offer) (a : Shown) (now : ℕ) → a.handshake.offer ≡ o
    → IsSameTime (record a { timers = started names.T1Init now a.estimate.rto a.timers }) (sends_init a now)
unfolding sends_init
init_time None a now e = rw e (time_by _ _ refl refl refl refl refl refl)
init_time (Some offer) a now e = rw e (time_by _ _ refl refl refl refl refl refl)

cookie_time : (o : Option (List ℕ)) (a : Shown) (now : ℕ) → a.handshake.echo ≡ o
    → IsSameTime (record a { timers = started names.T1Cookie now a.estimate.rto a.timers }) (sends_cookie a now)
unfolding sends_cookie
cookie_time None a now e = rw e (time_by _ _ refl refl refl refl refl refl)
cookie_time (Some cookie) a now e = rw e (time_by _ _ refl refl refl refl refl refl)

t1_init_ticks : (due failure : Bool) (a : Shown) (now : ℕ) → (expiry_of names.T1Init now a.timers).expired ≡ due
    → (expiry_of names.T1Init now a.timers).failed ≡ failure → Ticks a
    → Ticks (if due then (if failure then (let b = t1_init_expired a now in record b {
      handshake_fault = Some errors.ErrHandshakeInitAck;
    }) else sends_init (t1_init_expired a now) now) else a)
t1_init_ticks false failure a now d e h = h
t1_init_ticks true true a now d e h = record {
  working = h.working;
  not_lost = h.not_lost;
  fits = init_fits a.state a.sender.queue.in_flight a.timers now (t1_init_expired a now).timers h.fits refl refl
      record { data_limit = refl; handshake_limit = refl }
      (given_up (is_cookie_wait a.state) (t1_init_expired a now).timers.t1_init a.timers.handshake_limit refl
      (third (is_due a.timers.t1_init.moment now) (not a.timers.t1_init.exempt)
      (passes (after_expiry names.T1Init now a.timers).t1_init.retries a.timers.handshake_limit) e));
  acks = ack_kept (t1_init_expired a now).timers a.timers a.receiver.ack_state
      (expiry_keeps_ack (is_due a.timers.t1_init.moment now)
      (with_timer names.T1Init (expired_state a.timers.t1_init) a.timers) a.timers refl)
      h.acks;
}
t1_init_ticks true false a now d e h =
    let b : Shown = t1_init_expired a now in
    let c : Shown = record b { timers = started names.T1Init now b.estimate.rto b.timers } in
    ticks_by c (sends_init b now) (init_time b.handshake.offer b now refl) (record {
      working = h.working;
      not_lost = h.not_lost;
      fits = init_fits a.state a.sender.queue.in_flight a.timers now c.timers h.fits refl refl
          record { data_limit = refl; handshake_limit = refl }
          (running (is_cookie_wait a.state) a.timers.t1_init c.timers.t1_init a.timers.handshake_limit now d
          h.fits.inits refl);
      acks = ack_kept c.timers a.timers a.receiver.ack_state
          (expiry_keeps_ack (is_due a.timers.t1_init.moment now)
          (with_timer names.T1Init (expired_state a.timers.t1_init) a.timers) a.timers
          refl) h.acks;
    })

t1_cookie_ticks : (due failure : Bool) (a : Shown) (now : ℕ) → (expiry_of names.T1Cookie now a.timers).expired ≡ due
    → (expiry_of names.T1Cookie now a.timers).failed ≡ failure → Ticks a
    → Ticks (if due then (if failure then (let b = t1_cookie_expired a now in record b {
      handshake_fault = Some errors.ErrHandshakeCookieEcho;
    }) else sends_cookie (t1_cookie_expired a now) now) else a)
t1_cookie_ticks false failure a now d e h = h
t1_cookie_ticks true true a now d e h = record {
  working = h.working;
  not_lost = h.not_lost;
  fits = cookie_fits a.state a.sender.queue.in_flight a.timers now (t1_cookie_expired a now).timers h.fits refl refl
      record { data_limit = refl; handshake_limit = refl }
      (given_up (is_cookie_echoed a.state) (t1_cookie_expired a now).timers.t1_cookie a.timers.handshake_limit refl
      (third (is_due a.timers.t1_cookie.moment now) (not a.timers.t1_cookie.exempt)
      (passes (after_expiry names.T1Cookie now a.timers).t1_cookie.retries a.timers.handshake_limit) e));
  acks = ack_kept (t1_cookie_expired a now).timers a.timers a.receiver.ack_state
      (expiry_keeps_ack (is_due a.timers.t1_cookie.moment now)
      (with_timer names.T1Cookie (expired_state a.timers.t1_cookie) a.timers) a.timers refl)
      h.acks;
}
t1_cookie_ticks true false a now d e h =
    let b : Shown = t1_cookie_expired a now in
    let c : Shown = record b { timers = started names.T1Cookie now b.estimate.rto b.timers } in
    ticks_by c (sends_cookie b now) (cookie_time b.handshake.echo b now refl) (record {
      working = h.working;
      not_lost = h.not_lost;
      fits = cookie_fits a.state a.sender.queue.in_flight a.timers now c.timers h.fits refl refl
          record { data_limit = refl; handshake_limit = refl }
          (running (is_cookie_echoed a.state) a.timers.t1_cookie c.timers.t1_cookie a.timers.handshake_limit now d
          h.fits.cookies refl);
      acks = ack_kept c.timers a.timers a.receiver.ack_state
          (expiry_keeps_ack (is_due a.timers.t1_cookie.moment now)
          (with_timer names.T1Cookie (expired_state a.timers.t1_cookie) a.timers) a.timers
          refl) h.acks;
    })

-- The timer of the answer to SHUTDOWN or SHUTDOWN ACK, at which none of this looks

-- it expired, and runs again
abbrev answer_again : Bool → ℕ → ℕ → Timers → Timers
answer_again due now rto t =
    started names.T2Shutdown now rto (with_moment names.T2Shutdown None
    (if due then with_timer names.T2Shutdown (expired_state t.t2_shutdown) t else t))

t2_fits : (expired due : Bool) (s : AssociationState) (f : List InFlight) (t : Timers) (now rto : ℕ)
    → FitsTimers s f t → FitsTimers s f (if expired then answer_again due now rto t else t)
t2_fits true true s f t now rto h =
    record { flies = h.flies; inits = h.inits; cookies = h.cookies; unsent = h.unsent }
t2_fits true false s f t now rto h =
    record { flies = h.flies; inits = h.inits; cookies = h.cookies; unsent = h.unsent }
t2_fits false due s f t now rto h = h

t2_acks : (expired due : Bool) (s : AckState) (t : Timers) (now rto : ℕ) → is_some t.ack.moment ≡ is_delayed s
    → is_some (if expired then answer_again due now rto t else t).ack.moment ≡ is_delayed s
t2_acks true true s t now rto h = h
t2_acks true false s t now rto h = h
t2_acks false due s t now rto h = h

t2_ticks : (a : Shown) (now : ℕ) → Ticks a → Ticks (after_t2_shutdown a now)
t2_ticks a now h =
    let expired = (expiry_of names.T2Shutdown now a.timers).expired in
    let due = is_due a.timers.t2_shutdown.moment now in
    record {
      working = h.working;
      not_lost = h.not_lost;
      fits = t2_fits expired due a.state a.sender.queue.in_flight a.timers now a.estimate.rto h.fits;
      acks = t2_acks expired due a.receiver.ack_state a.timers now a.estimate.rto h.acks;
    }

-- The retransmission timer

map_nil : (f : List InFlight) → map marked_again f ≡ [] → f ≡ []
map_nil f e = nil_from_length f (sym (length-map f marked_again) ∙ ap (λ (xs : List InFlight). length xs) e)

t3_ticks : (due failure : Bool) (a : Shown) (now : ℕ) → (expiry_of names.T3RTX now a.timers).expired ≡ due
    → (expiry_of names.T3RTX now a.timers).failed ≡ failure → Ticks a
    → Ticks (if due then (if failure then t3_expired a now else retransmits (t3_expired a now) now) else a)
t3_ticks false failure a now d e h = h
t3_ticks true true a now d e h = record {
  working = h.working;
  not_lost = h.not_lost;
  fits = t3_fits a.state a.sender.queue.in_flight a.timers now (t3_expired a now).timers h.fits
      a.sender.queue.in_flight refl refl record { data_limit = refl; handshake_limit = refl }
      (record {
        timed = λ _ _. inr (third (is_due a.timers.t3_rtx.moment now) (not a.timers.t3_rtx.exempt)
            (passes (after_expiry names.T3RTX now a.timers).t3_rtx.retries a.timers.data_limit) e);
        none = λ _. refl;
      })
      h.fits.unsent;
  acks = ack_kept (t3_expired a now).timers a.timers a.receiver.ack_state
      (expiry_keeps_ack (is_due a.timers.t3_rtx.moment now)
      (with_timer names.T3RTX (expired_state a.timers.t3_rtx) a.timers)
      a.timers refl) h.acks;
}
t3_ticks true false a now d e h = record {
  working = h.working;
  not_lost = h.not_lost;
  fits = t3_fits a.state a.sender.queue.in_flight a.timers now (retransmits (t3_expired a now) now).timers h.fits _
      refl refl record { data_limit = refl; handshake_limit = refl }
      (record {
        timed = λ _ _. inl refl;
        none = λ z. absurd (true≢false (sym d ∙ unarmed_is_not_due a.timers.t3_rtx.moment now
            (h.fits.flies.none (map_nil a.sender.queue.in_flight z))));
      }) (λ b. ap (λ (f : List InFlight). map marked_again f) (h.fits.unsent b));
  acks = ack_kept (retransmits (t3_expired a now) now).timers a.timers a.receiver.ack_state
      (expiry_keeps_ack (is_due a.timers.t3_rtx.moment now)
      (with_timer names.T3RTX (expired_state a.timers.t3_rtx) a.timers)
      a.timers refl) h.acks;
}

-- The delay of an acknowledgement

ack_fits : (s : AssociationState) (f : List InFlight) (t : Timers) (now : ℕ) → FitsTimers s f t
    → FitsTimers s f (with_moment names.Ack None (after_expiry names.Ack now t))
ack_fits s f t now h =
    let due = is_due t.ack.moment now in
    let x : Timers = with_timer names.Ack (expired_state t.ack) t in
    let u : Timers = with_moment names.Ack None (after_expiry names.Ack now t) in
    fits_of s f t u
    (limits_kept due x t u record { data_limit = refl; handshake_limit = refl } record {
      data_limit = refl;
      handshake_limit = refl;
    })
    (flies_still (sends_data s) f t.t3_rtx u.t3_rtx t.data_limit (kept_if due x t (λ (z : Timers). z.t3_rtx) refl)
    h.flies)
    (waits_still (is_cookie_wait s) t.t1_init u.t1_init t.handshake_limit
    (kept_if due x t (λ (z : Timers). z.t1_init) refl) h.inits)
    (waits_still (is_cookie_echoed s) t.t1_cookie u.t1_cookie t.handshake_limit
    (kept_if due x t (λ (z : Timers). z.t1_cookie) refl) h.cookies) h.unsent

ticks_if : (c : Bool) (x y : Shown) → Ticks x → Ticks y → Ticks (if c then x else y)
ticks_if true x y h k = h
ticks_if false x y h k = k

delay_ticks : (a : Shown) (now : ℕ) → Ticks a → Ticks (after_ack_delay a now)
delay_ticks a now h =
    ticks_if (expiry_of names.Ack now a.timers).expired _ a
    (record {
      working = h.working;
      not_lost = h.not_lost;
      fits = ack_fits a.state a.sender.queue.in_flight a.timers now h.fits;
      acks = refl;
    }) h

pub timeouts_tick : (a : Shown) (now : ℕ) → Ticks a → Ticks (after_timeouts a now)
timeouts_tick a now h =
    let b : Shown = after_t1_init a now in
    let c : Shown = after_handshake_timers a now in
    let f : Shown = after_shutdown_timer a now in
    let d : Shown = after_t3 f now in
    let hb : Ticks b =
    t1_init_ticks (expiry_of names.T1Init now a.timers).expired (expiry_of names.T1Init now a.timers).failed a
    now refl refl h in
    let hc : Ticks c = t1_cookie_ticks (expiry_of names.T1Cookie now b.timers).expired
    (expiry_of names.T1Cookie now b.timers).failed b now refl refl hb in
    let hd : Ticks d =
    t3_ticks (expiry_of names.T3RTX now f.timers).expired (expiry_of names.T3RTX now f.timers).failed f now
    refl refl (t2_ticks c now hc) in
    let e : Shown = after_reconfig_timer d now in
    delay_ticks e now (ticks_beside d e (reconfig_timer_changes d now) hd)

-- Where no timer runs nothing happens

quiet : (c : Bool) (x y : Shown) → c ≡ false → (if c then x else y) ≡ y
quiet true x y e = absurd (true≢false e)
quiet false x y e = refl

undue : (o : Option ℕ) (now : ℕ) → o ≡ None → is_due o now ≡ false
undue o now e = unarmed_is_not_due o now (ap (λ (z : Option ℕ). is_some z) e)

quiet_answer : (expired : Bool) (a : Shown) (t : Timers) (due : ShutdownDue) → expired ≡ false
    → ◌≡◌ {A = Shown} (record a {
      timers = if expired then t else a.timers;
      shutdown_due = if expired then due else a.shutdown_due;
    }) a
quiet_answer true a t due e = absurd (true≢false e)
quiet_answer false a t due e = refl

pub unarmed_timeouts_do_nothing : (a : Shown) (now : ℕ) → IsNoneArmed a.timers → after_timeouts a now ≡ a
unarmed_timeouts_do_nothing a now h =
    ap (λ (z : Shown).
    after_ack_delay (after_reconfig_timer (after_t3 (after_t2_shutdown (after_t1_cookie z now) now) now) now) now)
    (quiet (expiry_of names.T1Init now a.timers).expired _ a (undue a.timers.t1_init.moment now (h names.T1Init)))
    ∙ ap (λ (z : Shown). after_ack_delay (after_reconfig_timer (after_t3 (after_t2_shutdown z now) now) now) now)
    (quiet (expiry_of names.T1Cookie now a.timers).expired _ a (undue a.timers.t1_cookie.moment now (h names.T1Cookie)))
    ∙ ap (λ (z : Shown). after_ack_delay (after_reconfig_timer (after_t3 z now) now) now)
    (quiet_answer (expiry_of names.T2Shutdown now a.timers).expired a _ _
    (undue a.timers.t2_shutdown.moment now (h names.T2Shutdown)))
    ∙ ap (λ (z : Shown). after_ack_delay (after_reconfig_timer z now) now)
    (quiet (expiry_of names.T3RTX now a.timers).expired _ a (undue a.timers.t3_rtx.moment now (h names.T3RTX)))
    ∙ ap (λ (z : Shown). after_ack_delay z now) (quiet (expiry_of names.Reconfig now a.timers).expired _ a
    (undue a.timers.reconfig.moment now (h names.Reconfig)))
    ∙ quiet (expiry_of names.Ack now a.timers).expired _ a (undue a.timers.ack.moment now (h names.Ack))
