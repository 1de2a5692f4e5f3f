-- Polls and timeouts leave the timer of a request of this side running as long as the request is not answered.
use Rattle.std.proofs.Common.{◌≡◌, refl, sym, ap, ◌∙◌, subst, ℕ, ◌&&◌, not, is_some, Bool, true, false, if◌then◌else◌}
use Rattle.std.proofs.Common.{List, Option, Some, None}
use Rattle.std.proofs.lemmas.Bool.{false≢true}
use Rattle.sctp_wire_types.specs.declared.error.Error.TheVariants as errors
use Rattle.sctp_parts.specs.declared.timer.Timer.TheVariants as names
use Rattle.sctp_parts.specs.Timers.{TimerState, Timers, expired_state, expiry_of, is_due, started, with_stopped}
use Rattle.sctp_parts.specs.Timers.{with_timer}
use Rattle.sctp_inbound.specs.declared.handshake.Offer.{Offer}
use Rattle.sctp_resets.specs.Resets.{ResetsView, given_up}
use Rattle.sctp_assoc.specs.Calls.{after_ack_delay, after_t3, retransmits, t3_expired}
use Rattle.sctp_assoc.specs.Gather.{control_polled, exchange_polled, open_polled}
use Rattle.sctp_assoc.specs.Handshake.{after_t1_cookie, after_t1_init, sends_cookie, sends_init, t1_cookie_expired}
use Rattle.sctp_assoc.specs.Handshake.{t1_init_expired}
use Rattle.sctp_assoc.specs.Resets.{after_reconfig_timer, asks_again, gives_up, reconfig_expired, with_beside}
use Rattle.sctp_assoc.specs.Resets.{with_reconfig_run}
use Rattle.sctp_assoc.specs.Shutdown.{after_t2_shutdown, t2_expired}
use Rattle.sctp_assoc.specs.Timeouts.{after_handshake_timers, after_shutdown_timer}
use Rattle.sctp_assoc.specs.Shown.{Shown}
use Rattle.sctp_sides.specs.OneSide.{is_armed}
use Rattle.sctp_sides.specs.Witnesses.{PollsTimeRequests, TimeoutsLeaveRequestsTimed}
use Rattle.sctp_sides.proofs.EndedPolls.{by_poll_end}
use Rattle.sctp_sides.proofs.PollsLeave.{front_leaves}
use Rattle.sctp_sides.proofs.TimersOverTimeouts.{kept_if}

-- Polls

run_times_if : (active armed : Bool) (a : Shown) (now : ℕ) → is_some a.resets.own.active ≡ active
    → is_armed names.Reconfig a.timers ≡ armed
    → is_some (if active && not armed then
    record a { timers = started names.Reconfig now a.estimate.rto a.timers } else a).resets.own.active ≡ true
    → is_armed names.Reconfig (if active && not armed then
    record a { timers = started names.Reconfig now a.estimate.rto a.timers } else a).timers ≡ true
run_times_if true true a now e f some = f
run_times_if true false a now e f some = refl
run_times_if false armed a now e f some = absurd (false≢true (sym e ∙ some))

run_times : (a : Shown) (now : ℕ) → is_some (with_reconfig_run a now).resets.own.active ≡ true
    → is_armed names.Reconfig (with_reconfig_run a now).timers ≡ true
run_times a now some =
    run_times_if (is_some a.resets.own.active) (is_armed names.Reconfig a.timers) a now refl refl some

front_times : (a : Shown) (now : ℕ) → is_some (open_polled a now).0.resets.own.active ≡ true
    → is_armed names.Reconfig (open_polled a now).0.timers ≡ true
front_times a now some =
    let b : Shown = (exchange_polled (control_polled a).0 now).0 in
    let e = front_leaves a now in
    ap (λ (z : Shown). is_armed names.Reconfig z.timers) e
    ∙ run_times b now (sym (ap (λ (z : Shown). is_some z.resets.own.active) e) ∙ some)

-- the end of a poll leaves both, or closes, and then no request is open
pub polls_time_requests : PollsTimeRequests
polls_time_requests a now =
    by_poll_end (λ (z : Shown). is_some z.resets.own.active ≡ true → is_armed names.Reconfig z.timers ≡ true) a now
    (λ e due timer. front_times a now) (λ e open_still some. absurd (false≢true some))

-- Timeouts

-- The resets and the timer of the active request are as they were.
record KeepsRequests (a b : Shown) : Type 0 where
  resets : b.resets ≡ a.resets
  timer : b.timers.reconfig ≡ a.timers.reconfig

keeps_on : (a b c : Shown) → KeepsRequests a b → KeepsRequests b c → KeepsRequests a c
keeps_on a b c m n = record { resets = n.resets ∙ m.resets; timer = n.timer ∙ m.timer }

kept_itself : (a : Shown) → KeepsRequests a a
kept_itself a = record { resets = refl; timer = refl }

init_keeps : (o : Option Offer) (a : Shown) (now : ℕ) → a.handshake.offer ≡ o → KeepsRequests a (sends_init a now)
unfolding sends_init
init_keeps None a now e = rw e (record { resets = refl; timer = refl })
init_keeps (Some offer) a now e = rw e (record { resets = refl; timer = refl })

cookie_keeps : (o : Option (List ℕ)) (a : Shown) (now : ℕ) → a.handshake.echo ≡ o → KeepsRequests a (sends_cookie a now)
unfolding sends_cookie
cookie_keeps None a now e = rw e (record { resets = refl; timer = refl })
cookie_keeps (Some cookie) a now e = rw e (record { resets = refl; timer = refl })

init_expired_keeps : (a : Shown) (now : ℕ) → KeepsRequests a (t1_init_expired a now)
init_expired_keeps a now = record {
  resets = refl;
  timer =
      kept_if (is_due a.timers.t1_init.moment now) (with_timer names.T1Init (expired_state a.timers.t1_init) a.timers)
      a.timers (λ (z : Timers). z.reconfig) refl;
}

cookie_expired_keeps : (a : Shown) (now : ℕ) → KeepsRequests a (t1_cookie_expired a now)
cookie_expired_keeps a now = record {
  resets = refl;
  timer =
      kept_if (is_due a.timers.t1_cookie.moment now)
      (with_timer names.T1Cookie (expired_state a.timers.t1_cookie) a.timers) a.timers (λ (z : Timers). z.reconfig)
      refl;
}

t3_expired_keeps : (a : Shown) (now : ℕ) → KeepsRequests a (t3_expired a now)
t3_expired_keeps a now = record {
  resets = refl;
  timer =
      kept_if (is_due a.timers.t3_rtx.moment now) (with_timer names.T3RTX (expired_state a.timers.t3_rtx) a.timers)
      a.timers (λ (z : Timers). z.reconfig) refl;
}

t1_init_keeps : (expired failure : Bool) (a : Shown) (now : ℕ)
    → KeepsRequests a
    (if expired then
    (if failure then (let b = t1_init_expired a now in record b { handshake_fault = Some errors.ErrHandshakeInitAck })
    else sends_init (t1_init_expired a now) now) else a)
t1_init_keeps false failure a now = kept_itself a
t1_init_keeps true true a now =
    let m = init_expired_keeps a now in record { resets = m.resets; timer = m.timer }
t1_init_keeps true false a now =
    let b : Shown = t1_init_expired a now in
    keeps_on a b (sends_init b now) (init_expired_keeps a now) (init_keeps b.handshake.offer b now refl)

t1_cookie_keeps : (expired failure : Bool) (a : Shown) (now : ℕ)
    → KeepsRequests a
    (if expired then
    (if failure then (let b = t1_cookie_expired a now in record b {
      handshake_fault = Some errors.ErrHandshakeCookieEcho;
    })
    else sends_cookie (t1_cookie_expired a now) now) else a)
t1_cookie_keeps false failure a now = kept_itself a
t1_cookie_keeps true true a now =
    let m = cookie_expired_keeps a now in record { resets = m.resets; timer = m.timer }
t1_cookie_keeps true false a now =
    let b : Shown = t1_cookie_expired a now in
    keeps_on a b (sends_cookie b now) (cookie_expired_keeps a now) (cookie_keeps b.handshake.echo b now refl)

-- that of the answer to SHUTDOWN or SHUTDOWN ACK is not that of a request
t2_keeps : (a : Shown) (now : ℕ) → KeepsRequests a (after_t2_shutdown a now)
t2_keeps a now = record {
  resets = refl;
  timer =
      kept_if (expiry_of names.T2Shutdown now a.timers).expired
      (started names.T2Shutdown now a.estimate.rto (t2_expired now a.timers)) a.timers (λ (z : Timers). z.reconfig)
      (kept_if (is_due a.timers.t2_shutdown.moment now)
      (with_timer names.T2Shutdown (expired_state a.timers.t2_shutdown) a.timers) a.timers (λ (z : Timers). z.reconfig)
      refl);
}

t3_keeps : (expired failure : Bool) (a : Shown) (now : ℕ)
    → KeepsRequests a
    (if expired then (if failure then t3_expired a now else retransmits (t3_expired a now) now) else a)
t3_keeps false failure a now = kept_itself a
t3_keeps true true a now = t3_expired_keeps a now
t3_keeps true false a now = let m = t3_expired_keeps a now in record { resets = m.resets; timer = m.timer }

kept_where : (c : Bool) (a b : Shown) → KeepsRequests a b → KeepsRequests a (if c then b else a)
kept_where true a b m = m
kept_where false a b m = kept_itself a

delay_keeps : (a : Shown) (now : ℕ) → KeepsRequests a (after_ack_delay a now)
delay_keeps a now =
    kept_where (expiry_of names.Ack now a.timers).expired a _
    (record {
      resets = refl;
      timer =
          kept_if (is_due a.timers.ack.moment now) (with_timer names.Ack (expired_state a.timers.ack) a.timers) a.timers
          (λ (z : Timers). z.reconfig) refl;
    })

-- a request that is given up and is still active goes out again, and its timer starts
going_on_times : (active : Bool) (a : Shown) (now : ℕ) → is_some a.resets.own.active ≡ active
    → is_some (if active then asks_again a now else record a {
      timers = with_stopped names.Reconfig a.timers;
    }).resets.own.active ≡ true
    → is_armed names.Reconfig (if active then asks_again a now else record a {
      timers = with_stopped names.Reconfig a.timers;
    }).timers ≡ true
going_on_times true a now e some = refl
going_on_times false a now e some = absurd (false≢true (sym e ∙ some))

giving_up_times : (a : Shown) (now : ℕ) → is_some (gives_up a now).resets.own.active ≡ true
    → is_armed names.Reconfig (gives_up a now).timers ≡ true
giving_up_times a now some =
    let b : Shown = with_beside a (given_up a.resets a.streams a.events) in
    going_on_times (is_some b.resets.own.active) b now refl some

reconfig_times : (expired failure : Bool) (a : Shown) (now : ℕ) → is_armed names.Reconfig a.timers ≡ true
    → is_some (if expired then
    (if failure then gives_up (reconfig_expired a now) now else asks_again (reconfig_expired a now) now)
    else a).resets.own.active ≡ true
    → is_armed names.Reconfig (if expired then
    (if failure then gives_up (reconfig_expired a now) now else asks_again (reconfig_expired a now) now)
    else a).timers ≡ true
reconfig_times false failure a now armed some = armed
reconfig_times true true a now armed some = giving_up_times (reconfig_expired a now) now some
reconfig_times true false a now armed some = refl

pub timeouts_leave_requests_timed : TimeoutsLeaveRequestsTimed
timeouts_leave_requests_timed a now armed some =
    let b : Shown = after_t1_init a now in
    let c : Shown = after_handshake_timers a now in
    let t : Shown = after_shutdown_timer a now in
    let d : Shown = after_t3 t now in
    let e : Shown = after_reconfig_timer d now in
    let first : KeepsRequests a d =
    keeps_on a b d
    (t1_init_keeps (expiry_of names.T1Init now a.timers).expired (expiry_of names.T1Init now a.timers).failed a now)
    (keeps_on b c d
    (t1_cookie_keeps (expiry_of names.T1Cookie now b.timers).expired (expiry_of names.T1Cookie now b.timers).failed b
    now)
    (keeps_on c t d (t2_keeps c now)
    (t3_keeps (expiry_of names.T3RTX now t.timers).expired (expiry_of names.T3RTX now t.timers).failed t now))) in
    let last = delay_keeps e now in
    ap (λ (z : TimerState). is_some z.moment) last.timer
    ∙ reconfig_times (expiry_of names.Reconfig now d.timers).expired (expiry_of names.Reconfig now d.timers).failed d
    now (ap (λ (z : TimerState). is_some z.moment) first.timer ∙ armed)
    (sym (ap (λ (z : ResetsView). is_some z.own.active) last.resets) ∙ some)
