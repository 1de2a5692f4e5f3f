-- Timers run where they should: what holds of an association that works, and of one that failed or was lost.
use Rattle.std.proofs.Common.{if◌then◌else◌, ◌≡◌, refl, sym, ap, ◌∙◌, subst, ◌⊎◌, ⊎_elim, inl, inr, ℕ, ◌<◌, arith, Bool}
use Rattle.std.proofs.Common.{true, false, List, [], ◌∷◌, length, Option, Some, None, is_some}
use Rattle.std.proofs.lemmas.Bool.{false≢true, true≢false}
use Rattle.std.proofs.lemmas.List.{nil_from_length}
use Rattle.sctp_wire_types.specs.declared.error.Error.{Error}
use Rattle.sctp_parts.specs.declared.state.AckState.{AckState}
use Rattle.sctp_parts.specs.declared.state.AssociationState.{AssociationState}
use Rattle.sctp_parts.specs.declared.state.AssociationState.TheVariants as states
use Rattle.sctp_parts.specs.declared.timer.Timer.{Timer}
use Rattle.sctp_parts.specs.declared.timer.Timer.TheVariants as names
use Rattle.sctp_parts.specs.Timers.{IsNoneArmed, TimerState, Timers, is_ahead, is_due, moment_of, passes}
use Rattle.sctp_parts.specs.Timers.{restarted_if_stale, started, with_stopped}
use Rattle.sctp_parts.specs.State.{is_closing}
use Rattle.sctp_outbound_queue.specs.declared.message.InFlight.{InFlight}
use Rattle.sctp_reset_requests.specs.Own.{OwnView}
use Rattle.sctp_assoc.specs.Calls.{exchanges_data, is_beginning, is_cookie_echoed, is_cookie_wait, is_established}
use Rattle.sctp_assoc.specs.Calls.{sends_data}
use Rattle.sctp_assoc.specs.Closing.{is_closed_state}
use Rattle.sctp_sides.specs.OneSide.{is_armed, is_delayed}
use Rattle.sctp_assoc.specs.Shown.{Shown, all_stopped}
use Rattle.sctp_assoc.specs.Shutdown.{all_acknowledged, awaits_answer, shutdown_answered, shutdown_continued}
use Rattle.sctp_assoc.specs.Shutdown.{shutdown_taken, state_at_shutdown, state_behind_data}
use Rattle.sctp_sides.proofs.ResetsBeside.{ChangesResets, with_resets_of}

-- T3-rtx runs where DATA is in flight in a state that sends it, or is past its limit; with nothing in flight it does
-- not run.
pub record Flies (sends : Bool) (flown : List InFlight) (t3 : TimerState) (limit : Option ℕ) : Type 0 where
  pub timed : sends ≡ true → 0 < length flown → (is_some t3.moment ≡ true) ⊎ (passes t3.retries limit ≡ true)
  pub none : flown ≡ [] → is_some t3.moment ≡ false

-- A timer of the handshake runs in its state alone, and there it does, or is past its limit.
pub record Waits (there : Bool) (timer : TimerState) (limit : Option ℕ) : Type 0 where
  pub alone : there ≡ false → is_some timer.moment ≡ false
  pub timed : there ≡ true → (is_some timer.moment ≡ true) ⊎ (passes timer.retries limit ≡ true)

-- the timers of DATA and of the handshake
pub record AreTimersOf (state : AssociationState) (flown : List InFlight) (t3 init cookie : TimerState)
    (data_limit handshake_limit : Option ℕ) : Type 0 where
  pub flies : Flies (sends_data state) flown t3 data_limit
  pub inits : Waits (is_cookie_wait state) init handshake_limit
  pub cookies : Waits (is_cookie_echoed state) cookie handshake_limit
  -- before it is established nothing was sent
  pub unsent : is_beginning state ≡ true → flown ≡ []

abbrev pub FitsTimers : AssociationState → List InFlight → Timers → Type 0
FitsTimers state flown t = AreTimersOf state flown t.t3_rtx t.t1_init t.t1_cookie t.data_limit t.handshake_limit

-- An association that works and was not lost.
pub record Ticks (a : Shown) : Type 0 where
  pub working : a.failed ≡ false
  pub not_lost : a.lost ≡ false
  pub fits : FitsTimers a.state a.sender.queue.in_flight a.timers
  pub acks : is_some a.timers.ack.moment ≡ is_delayed a.receiver.ack_state

-- No request of this side to reset streams was sent and is not answered, and none was made.
abbrev pub IsQuiet : OwnView → Type 0
IsQuiet o = (o.active ≡ None) × (o.queued ≡ [])

-- An association that failed or was lost. One that was lost asks for no reset.
pub record AtRest (a : Shown) : Type 0 where
  pub over : (a.failed ≡ true) ⊎ (a.lost ≡ true)
  pub closed : a.lost ≡ true → is_closed_state a.state ≡ true
  pub stopped : IsNoneArmed a.timers
  pub quiet : a.failed ≡ false → IsQuiet a.resets.own

-- What none of this looks at may change.
pub record IsSameTime (a b : Shown) : Type 0 where
  pub failed : b.failed ≡ a.failed
  pub lost : b.lost ≡ a.lost
  pub state : b.state ≡ a.state
  pub flown : b.sender.queue.in_flight ≡ a.sender.queue.in_flight
  pub timers : b.timers ≡ a.timers
  pub acks : b.receiver.ack_state ≡ a.receiver.ack_state

fits_by : {s s' : AssociationState} {f f' : List InFlight} {t t' : Timers} → s' ≡ s → f' ≡ f → t' ≡ t
    → FitsTimers s f t → FitsTimers s' f' t'
fits_by {s} {s'} {f} {f'} {t} {t'} d e g h =
    subst (λ (z : AssociationState). FitsTimers z f' t') (sym d)
    (subst (λ (z : List InFlight). FitsTimers s z t') (sym e) (subst (λ (z : Timers). FitsTimers s f z) (sym g) h))

pub ticks_by : (a b : Shown) → IsSameTime a b → Ticks a → Ticks b
ticks_by a b e h = record {
  working = e.failed ∙ h.working;
  not_lost = e.lost ∙ h.not_lost;
  fits = fits_by e.state e.flown e.timers h.fits;
  acks = ap (λ (t : Timers). is_some t.ack.moment) e.timers ∙ h.acks ∙ sym (ap is_delayed e.acks);
}

pub same_time : (a : Shown) → IsSameTime a a
same_time a = record { failed = refl; lost = refl; state = refl; flown = refl; timers = refl; acks = refl }

pub time_by : (a b : Shown) → b.failed ≡ a.failed → b.lost ≡ a.lost → b.state ≡ a.state
    → b.sender.queue.in_flight ≡ a.sender.queue.in_flight → b.timers ≡ a.timers
    → b.receiver.ack_state ≡ a.receiver.ack_state → IsSameTime a b
time_by a b failed lost state flown timers acks = record {
  failed = failed;
  lost = lost;
  state = state;
  flown = flown;
  timers = timers;
  acks = acks;
}

pub time_on : (a b c : Shown) → IsSameTime a b → IsSameTime b c → IsSameTime a c
time_on a b c x y = record {
  failed = y.failed ∙ x.failed;
  lost = y.lost ∙ x.lost;
  state = y.state ∙ x.state;
  flown = y.flown ∙ x.flown;
  timers = y.timers ∙ x.timers;
  acks = y.acks ∙ x.acks;
}

-- what resets change leaves the timers that this looks at
pub ticks_beside : (a b : Shown) → ChangesResets a b → Ticks a → Ticks b
ticks_beside a b e h =
    subst Ticks (sym e)
    (record { working = h.working; not_lost = h.not_lost; fits = fits_beside a b h; acks = h.acks })
  where
    fits_beside : (a b : Shown) → Ticks a
        → FitsTimers a.state a.sender.queue.in_flight (with_resets_of a b).timers
    fits_beside a b h = record {
      flies = h.fits.flies;
      inits = h.fits.inits;
      cookies = h.fits.cookies;
      unsent = h.fits.unsent;
    }

pub rest_quietly : (a b : Shown) → b.failed ≡ a.failed → b.lost ≡ a.lost → b.state ≡ a.state → b.timers ≡ a.timers
    → (IsQuiet a.resets.own → IsQuiet b.resets.own) → AtRest a → AtRest b
rest_quietly a b failed lost state timers quiet h = record {
  over = ⊎_elim (λ (e : a.failed ≡ true). inl (failed ∙ e)) (λ (e : a.lost ≡ true). inr (lost ∙ e)) h.over;
  closed = λ e. ap is_closed_state state ∙ h.closed (sym lost ∙ e);
  stopped = subst IsNoneArmed (sym timers) h.stopped;
  quiet = λ e. quiet (h.quiet (sym failed ∙ e));
}

pub rest_by : (a b : Shown) → b.failed ≡ a.failed → b.lost ≡ a.lost → b.state ≡ a.state → b.timers ≡ a.timers
    → b.resets.own ≡ a.resets.own → AtRest a → AtRest b
rest_by a b failed lost state timers own h =
    rest_quietly a b failed lost state timers (λ q. subst IsQuiet (sym own) q) h

-- States

pub established_begins_no_more : (s : AssociationState) → is_established s ≡ true → is_beginning s ≡ false
established_begins_no_more states.Closed e = absurd (false≢true e)
established_begins_no_more states.CookieWait e = absurd (false≢true e)
established_begins_no_more states.CookieEchoed e = absurd (false≢true e)
established_begins_no_more states.Established e = refl
established_begins_no_more states.ShutdownAckSent e = refl
established_begins_no_more states.ShutdownPending e = refl
established_begins_no_more states.ShutdownReceived e = refl
established_begins_no_more states.ShutdownSent e = refl

pub sending_begins_no_more : (s : AssociationState) → sends_data s ≡ true → is_beginning s ≡ false
sending_begins_no_more states.Closed e = absurd (false≢true e)
sending_begins_no_more states.CookieWait e = absurd (false≢true e)
sending_begins_no_more states.CookieEchoed e = absurd (false≢true e)
sending_begins_no_more states.Established e = refl
sending_begins_no_more states.ShutdownAckSent e = refl
sending_begins_no_more states.ShutdownPending e = refl
sending_begins_no_more states.ShutdownReceived e = refl
sending_begins_no_more states.ShutdownSent e = refl

pub exchanging_begins_no_more : (s : AssociationState) → exchanges_data s ≡ true → is_beginning s ≡ false
exchanging_begins_no_more states.Closed e = absurd (false≢true e)
exchanging_begins_no_more states.CookieWait e = absurd (false≢true e)
exchanging_begins_no_more states.CookieEchoed e = absurd (false≢true e)
exchanging_begins_no_more states.Established e = refl
exchanging_begins_no_more states.ShutdownAckSent e = refl
exchanging_begins_no_more states.ShutdownPending e = refl
exchanging_begins_no_more states.ShutdownReceived e = refl
exchanging_begins_no_more states.ShutdownSent e = refl

-- in Closed no DATA is exchanged, and no shutdown goes on
pub closed_gives_nothing : (s : AssociationState) → is_closed_state s ≡ true
    → (exchanges_data s ≡ false) × (is_closing s ≡ false)
closed_gives_nothing states.Closed e = (refl, refl)
closed_gives_nothing states.CookieWait e = absurd (false≢true e)
closed_gives_nothing states.CookieEchoed e = absurd (false≢true e)
closed_gives_nothing states.Established e = absurd (false≢true e)
closed_gives_nothing states.ShutdownAckSent e = absurd (false≢true e)
closed_gives_nothing states.ShutdownPending e = absurd (false≢true e)
closed_gives_nothing states.ShutdownReceived e = absurd (false≢true e)
closed_gives_nothing states.ShutdownSent e = absurd (false≢true e)

pub closed_is_not_established : (s : AssociationState) → is_closed_state s ≡ true → is_established s ≡ false
closed_is_not_established states.Closed e = refl
closed_is_not_established states.CookieWait e = refl
closed_is_not_established states.CookieEchoed e = refl
closed_is_not_established states.Established e = absurd (false≢true e)
closed_is_not_established states.ShutdownAckSent e = refl
closed_is_not_established states.ShutdownPending e = refl
closed_is_not_established states.ShutdownReceived e = refl
closed_is_not_established states.ShutdownSent e = refl

pub closed_waits_for_nothing : (s : AssociationState) → is_closed_state s ≡ true
    → (sends_data s ≡ false) × (is_cookie_wait s ≡ false) × (is_cookie_echoed s ≡ false)
closed_waits_for_nothing states.Closed e = (refl, refl, refl)
closed_waits_for_nothing states.CookieWait e = absurd (false≢true e)
closed_waits_for_nothing states.CookieEchoed e = absurd (false≢true e)
closed_waits_for_nothing states.Established e = absurd (false≢true e)
closed_waits_for_nothing states.ShutdownAckSent e = absurd (false≢true e)
closed_waits_for_nothing states.ShutdownPending e = absurd (false≢true e)
closed_waits_for_nothing states.ShutdownReceived e = absurd (false≢true e)
closed_waits_for_nothing states.ShutdownSent e = absurd (false≢true e)

-- from Established on neither INIT nor COOKIE ECHO waits for an answer
pub begun_shakes_no_hands : (s : AssociationState) → is_beginning s ≡ false
    → (is_cookie_wait s ≡ false) × (is_cookie_echoed s ≡ false)
begun_shakes_no_hands states.Closed e = absurd (true≢false e)
begun_shakes_no_hands states.CookieWait e = absurd (true≢false e)
begun_shakes_no_hands states.CookieEchoed e = absurd (true≢false e)
begun_shakes_no_hands states.Established e = (refl, refl)
begun_shakes_no_hands states.ShutdownAckSent e = (refl, refl)
begun_shakes_no_hands states.ShutdownPending e = (refl, refl)
begun_shakes_no_hands states.ShutdownReceived e = (refl, refl)
begun_shakes_no_hands states.ShutdownSent e = (refl, refl)

-- All timers stopped

pub none_armed : (t : Timers) → IsNoneArmed (all_stopped t)
none_armed t names.T1Init = refl
none_armed t names.T1Cookie = refl
none_armed t names.T2Shutdown = refl
none_armed t names.T3RTX = refl
none_armed t names.Reconfig = refl
none_armed t names.Ack = refl

pub unarmed : (timer : Timer) (t : Timers) → IsNoneArmed t → is_armed timer t ≡ false
unarmed timer t h = ap (λ (o : Option ℕ). is_some o) (h timer)

-- Moments

pub unarmed_is_not_due : (o : Option ℕ) (now : ℕ) → is_some o ≡ false → is_due o now ≡ false
unarmed_is_not_due None now e = refl
unarmed_is_not_due (Some moment) now e = absurd (true≢false e)

pub ahead_is_armed : (o : Option ℕ) (now : ℕ) → is_ahead o now ≡ true → is_some o ≡ true
ahead_is_armed None now e = absurd (false≢true e)
ahead_is_armed (Some moment) now e = refl

pub nothing_is_not_something : (f : List InFlight) → 0 < length f → f ≡ [] → ⊥
nothing_is_not_something [] p e = omega (arith, p)
nothing_is_not_something (x ∷ xs) p e = absurd (omega (arith, ap (λ (z : List InFlight). length z) e))

-- T3-rtx restarted

-- T3-rtx runs, and the other timers are as they were.
pub record IsRestarted (t u : Timers) : Type 0 where
  pub armed : is_some u.t3_rtx.moment ≡ true
  pub init : u.t1_init ≡ t.t1_init
  pub cookie : u.t1_cookie ≡ t.t1_cookie
  pub data_limit : u.data_limit ≡ t.data_limit
  pub handshake_limit : u.handshake_limit ≡ t.handshake_limit

restarted_if : (ahead : Bool) (now rto : ℕ) (t : Timers) → is_ahead (moment_of names.T3RTX t) now ≡ ahead
    → IsRestarted t (restarted_if_stale names.T3RTX now rto t)
restarted_if true now rto t e = rw e (record {
  armed = ahead_is_armed t.t3_rtx.moment now e;
  init = refl;
  cookie = refl;
  data_limit = refl;
  handshake_limit = refl;
})
restarted_if false now rto t e = rw e (record {
  armed = refl;
  init = refl;
  cookie = refl;
  data_limit = refl;
  handshake_limit = refl;
})

pub restarted : (now rto : ℕ) (t : Timers) → IsRestarted t (restarted_if_stale names.T3RTX now rto t)
restarted now rto t = restarted_if (is_ahead (moment_of names.T3RTX t) now) now rto t refl

waits_by : (there : Bool) (x y : TimerState) (l m : Option ℕ) → y ≡ x → m ≡ l → Waits there x l → Waits there y m
waits_by there x y l m e g h = subst (λ (z : TimerState). Waits there z m) (sym e)
    (subst (λ (z : Option ℕ). Waits there x z) (sym g) h)

-- with T3-rtx restarted and DATA in flight, in a state in which something may be
pub fits_restarted : (s : AssociationState) (f g : List InFlight) (t u : Timers) → is_beginning s ≡ false
    → IsRestarted t u → 0 < length g → FitsTimers s f t → FitsTimers s g u
fits_restarted s f g t u b r p h = record {
  flies = record { timed = λ _ _. inl r.armed; none = λ e. absurd (nothing_is_not_something g p e) };
  inits = waits_by (is_cookie_wait s) t.t1_init u.t1_init t.handshake_limit u.handshake_limit r.init r.handshake_limit
      h.inits;
  cookies = waits_by (is_cookie_echoed s) t.t1_cookie u.t1_cookie t.handshake_limit u.handshake_limit r.cookie
      r.handshake_limit h.cookies;
  unsent = λ e. absurd (false≢true (sym b ∙ e));
}

-- with as many pieces in flight
pub fits_as_many : (s : AssociationState) (f g : List InFlight) (t : Timers) → length g ≡ length f → FitsTimers s f t
    → FitsTimers s g t
fits_as_many s f g t e h =
    let emptied : g ≡ [] → f ≡ [] = λ z. nil_from_length f (sym e ∙ ap (λ (xs : List InFlight). length xs) z) in
    record {
      flies = record { timed = λ x p. h.flies.timed x (omega (arith, e, p)); none = λ z. h.flies.none (emptied z) };
      inits = h.inits;
      cookies = h.cookies;
      unsent = λ b. nil_from_length g (e ∙ ap (λ (xs : List InFlight). length xs) (h.unsent b));
    }

-- the timer of acknowledgements stayed
pub ack_kept : (u t : Timers) (s : AckState) → u.ack ≡ t.ack → is_some t.ack.moment ≡ is_delayed s
    → is_some u.ack.moment ≡ is_delayed s
ack_kept u t s e h = ap (λ (z : TimerState). is_some z.moment) e ∙ h

pub restarted_keeps_ack : (now rto : ℕ) (t : Timers) → (restarted_if_stale names.T3RTX now rto t).ack ≡ t.ack
restarted_keeps_ack now rto t = kept (is_ahead (moment_of names.T3RTX t) now)
  where
    kept : (c : Bool) → (if c then t else started names.T3RTX now rto t).ack ≡ t.ack
    kept true = refl
    kept false = refl

-- A shutdown

-- where a shutdown that begins is not refused it is established
pub begins_established : (failed established : Bool) (x y : Error)
    → (if failed then Some x else (if established then None else Some y)) ≡ None → established ≡ true
begins_established true established x y e = absurd (true≢false (ap (λ (o : Option Error). is_some o) e))
begins_established false true x y e = refl
begins_established false false x y e = absurd (true≢false (ap (λ (o : Option Error). is_some o) e))

-- A shutdown may have gone on from one state to the other: where DATA is sent still it was sent before, and the
-- handshake is as far.
pub record IsOnward (s t : AssociationState) : Type 0 where
  pub sends : sends_data t ≡ true → sends_data s ≡ true
  pub waits : is_cookie_wait t ≡ is_cookie_wait s
  pub echoed : is_cookie_echoed t ≡ is_cookie_echoed s
  pub begins : is_beginning t ≡ is_beginning s

still_onward : (s : AssociationState) → IsOnward s s
still_onward s = record { sends = λ e. e; waits = refl; echoed = refl; begins = refl }

behind_data_onward : (s : AssociationState) → IsOnward s (state_behind_data s)
behind_data_onward states.Closed = still_onward states.Closed
behind_data_onward states.CookieWait = still_onward states.CookieWait
behind_data_onward states.CookieEchoed = still_onward states.CookieEchoed
behind_data_onward states.Established = still_onward states.Established
behind_data_onward states.ShutdownAckSent = still_onward states.ShutdownAckSent
behind_data_onward states.ShutdownPending =
    record { sends = λ e. refl; waits = refl; echoed = refl; begins = refl }
behind_data_onward states.ShutdownReceived =
    record { sends = λ e. refl; waits = refl; echoed = refl; begins = refl }
behind_data_onward states.ShutdownSent = still_onward states.ShutdownSent

pub continued_onward : (acknowledged : Bool) (s : AssociationState)
    → IsOnward s (if acknowledged then state_behind_data s else s)
continued_onward true s = behind_data_onward s
continued_onward false s = still_onward s

pub taken_onward : (acknowledged : Bool) (s : AssociationState) → IsOnward s (state_at_shutdown acknowledged s)
taken_onward acknowledged states.Closed = still_onward states.Closed
taken_onward acknowledged states.CookieWait = still_onward states.CookieWait
taken_onward acknowledged states.CookieEchoed = still_onward states.CookieEchoed
taken_onward true states.Established = record { sends = λ e. refl; waits = refl; echoed = refl; begins = refl }
taken_onward false states.Established = record { sends = λ e. refl; waits = refl; echoed = refl; begins = refl }
taken_onward acknowledged states.ShutdownAckSent = still_onward states.ShutdownAckSent
taken_onward acknowledged states.ShutdownPending = still_onward states.ShutdownPending
taken_onward acknowledged states.ShutdownReceived = still_onward states.ShutdownReceived
taken_onward acknowledged states.ShutdownSent =
    record { sends = λ e. absurd (false≢true e); waits = refl; echoed = refl; begins = refl }

pub onward_fits : (s z : AssociationState) (f : List InFlight) (t : Timers) → IsOnward s z → FitsTimers s f t
    → FitsTimers z f t
onward_fits s z f t on h = record {
  flies = record { timed = λ e. h.flies.timed (on.sends e); none = h.flies.none };
  inits = subst (λ (there : Bool). Waits there t.t1_init t.handshake_limit) (sym on.waits) h.inits;
  cookies = subst (λ (there : Bool). Waits there t.t1_cookie t.handshake_limit) (sym on.echoed) h.cookies;
  unsent = λ e. h.unsent (sym on.begins ∙ e);
}

-- a shutdown that goes on behind DATA, SHUTDOWN and SHUTDOWN ACK keep the timers that this looks at
pub continued_ticks : (a : Shown) → Ticks a → Ticks (shutdown_continued a)
continued_ticks a h = record {
  working = h.working;
  not_lost = h.not_lost;
  fits = onward_fits a.state (shutdown_continued a).state a.sender.queue.in_flight a.timers
      (continued_onward (all_acknowledged a) a.state) h.fits;
  acks = h.acks;
}

pub shutdown_taken_ticks : (a : Shown) → Ticks a → Ticks (shutdown_taken a)
shutdown_taken_ticks a h = record {
  working = h.working;
  not_lost = h.not_lost;
  fits = onward_fits a.state (shutdown_taken a).state a.sender.queue.in_flight a.timers
      (taken_onward (all_acknowledged a) a.state) h.fits;
  acks = h.acks;
}

-- the timer of the answer stopped, or not
answer_stopped_fits : (stops : Bool) (s : AssociationState) (f : List InFlight) (t : Timers) → FitsTimers s f t
    → FitsTimers s f (if stops then with_stopped names.T2Shutdown t else t)
answer_stopped_fits true s f t h = record { flies = h.flies; inits = h.inits; cookies = h.cookies; unsent = h.unsent }
answer_stopped_fits false s f t h = h

answer_stopped_acks : (stops : Bool) (s : AckState) (t : Timers) → is_some t.ack.moment ≡ is_delayed s
    → is_some (if stops then with_stopped names.T2Shutdown t else t).ack.moment ≡ is_delayed s
answer_stopped_acks true s t h = h
answer_stopped_acks false s t h = h

pub shutdown_answered_ticks : (a : Shown) → Ticks a → Ticks (shutdown_answered a)
shutdown_answered_ticks a h = record {
  working = h.working;
  not_lost = h.not_lost;
  fits = answer_stopped_fits (awaits_answer a.state) a.state a.sender.queue.in_flight a.timers h.fits;
  acks = answer_stopped_acks (awaits_answer a.state) a.receiver.ack_state a.timers h.acks;
}
