use Rattle.std.specs.Prelude.{◌≡◌, ℕ, ◌+◌, ◌-◌, ◌*◌, ◌^◌, ◌≤◌, min, nat_lt, nat_le, Bool, true, false, ◌&&◌, not}
use Rattle.std.specs.Prelude.{if◌then◌else◌, Option, Some, None, List, [], ◌∷◌, fold}
use Rattle.sctp_parts.specs.declared.timer.Expiry.{Expiry}
use Rattle.sctp_parts.specs.declared.timer.Timer.{Timer}
use Rattle.sctp_parts.specs.declared.timer.Timer.TheVariants.{T1Init, T1Cookie, T2Shutdown, T3RTX, Reconfig, Ack}

-- one timer: the moment, in ns, at which it expires (None where it is not armed), its retries, and whether its next
-- expiry is exempt, that is adds no retry (RFC 4960 sections 6.3.2 and 8.1)
pub record TimerState : Type 0 where
  pub moment : Option ℕ
  pub retries : ℕ
  pub exempt : Bool

-- a map from the six names to their timers, with the limits on retries (None for no limit) of the handshake's timers
-- and of T3RTX, and the greatest interval, in ms, to which a timer backs off (RFC 4960 section 15:
-- Max.Init.Retransmits, Association.Max.Retrans, RTO.Max)
pub record Timers : Type 0 where
  pub t1_init : TimerState
  pub t1_cookie : TimerState
  pub t2_shutdown : TimerState
  pub t3_rtx : TimerState
  pub reconfig : TimerState
  pub ack : TimerState
  pub handshake_limit : Option ℕ
  pub data_limit : Option ℕ
  pub rto_max : ℕ

-- all names, in the order in which they are looked at
abbrev pub all_timers : List Timer
all_timers = T1Init ∷ T1Cookie ∷ T2Shutdown ∷ T3RTX ∷ Reconfig ∷ Ack ∷ []

-- the timer of a name
abbrev pub timer_at : Timer → Timers → TimerState
timer_at T1Init t = t.t1_init
timer_at T1Cookie t = t.t1_cookie
timer_at T2Shutdown t = t.t2_shutdown
timer_at T3RTX t = t.t3_rtx
timer_at Reconfig t = t.reconfig
timer_at Ack t = t.ack

-- the map with another timer at a name
abbrev pub with_timer : Timer → TimerState → Timers → Timers
with_timer T1Init s t = record t { t1_init = s }
with_timer T1Cookie s t = record t { t1_cookie = s }
with_timer T2Shutdown s t = record t { t2_shutdown = s }
with_timer T3RTX s t = record t { t3_rtx = s }
with_timer Reconfig s t = record t { reconfig = s }
with_timer Ack s t = record t { ack = s }

-- a timer that is not armed and has neither retries nor an exemption
abbrev pub stopped : TimerState
stopped = record { moment = None; retries = 0; exempt = false }

-- the map of six stopped timers
abbrev pub stopped_timers : Option ℕ → Option ℕ → ℕ → Timers
stopped_timers handshake_limit data_limit rto_max = record {
  t1_init = stopped;
  t1_cookie = stopped;
  t2_shutdown = stopped;
  t3_rtx = stopped;
  reconfig = stopped;
  ack = stopped;
  handshake_limit = handshake_limit;
  data_limit = data_limit;
  rto_max = rto_max;
}

-- the moment at which a timer expires
abbrev pub moment_of : Timer → Timers → Option ℕ
moment_of timer t = (timer_at timer t).moment

-- a timer armed at another moment, or disarmed by None; its retries and its exemption stay
abbrev pub with_moment : Timer → Option ℕ → Timers → Timers
with_moment timer moment t = with_timer timer (record (timer_at timer t) { moment = moment }) t

-- the earlier of two moments, where None is later than each
abbrev pub earlier : Option ℕ → Option ℕ → Option ℕ
earlier None b = b
earlier (Some a) None = Some a
earlier (Some a) (Some b) = Some (min a b)

-- the least moment of the six
abbrev pub least_moment : Timers → Option ℕ
least_moment t = fold (λ least timer. earlier least (moment_of timer t)) None all_timers

-- no timer is armed
abbrev pub IsNoneArmed : Timers → Type 0
IsNoneArmed t = (timer : Timer) → moment_of timer t ≡ None

-- a timer is armed at this moment, and none at an earlier one
pub record IsLeastArmed (t : Timers) (moment : ℕ) : Type 0 where
  pub armed : (timer : Timer) × (moment_of timer t ≡ Some moment)
  pub least : (timer : Timer) (other : ℕ) → moment_of timer t ≡ Some other → moment ≤ other

-- the timeout, in ms, after a number of retries: doubled for each, up to a greatest one (RFC 4960 section 6.3.3, rule
-- E2)
unfoldable pub backed_off : ℕ → ℕ → ℕ → ℕ
backed_off rto retries rto_max = if nat_lt retries 31 then min (rto * 2 ^ retries) rto_max else rto_max

-- the moment a number of ms after another, up to the greatest moment
unfoldable pub millis_later : ℕ → ℕ → ℕ
millis_later now millis = min (now + millis * 1000000) (2 ^ 64 - 1)

-- how long a timer runs: acknowledgements do not back off
abbrev pub run_of : Timer → ℕ → Timers → ℕ
run_of Ack interval t = interval
run_of timer interval t = backed_off interval (timer_at timer t).retries t.rto_max

-- a timer started: armed from now on
abbrev pub started : Timer → ℕ → ℕ → Timers → Timers
started timer now interval t = with_moment timer (Some (millis_later now (run_of timer interval t))) t

-- a moment that is not before now
abbrev pub is_ahead : Option ℕ → ℕ → Bool
is_ahead None now = false
is_ahead (Some moment) now = nat_le now moment

-- a timer started, unless it is armed at a moment that is not before now
abbrev pub restarted_if_stale : Timer → ℕ → ℕ → Timers → Timers
restarted_if_stale timer now interval t =
    if is_ahead (moment_of timer t) now then t else started timer now interval t

-- a timer without moment, retries and exemption
abbrev pub with_stopped : Timer → Timers → Timers
with_stopped timer t = with_timer timer stopped t

-- a timer whose retries are cleared
abbrev pub without_retries : Timer → Timers → Timers
without_retries timer t = with_timer timer (record (timer_at timer t) { retries = 0 }) t

-- a timer whose next expiry adds no retry
abbrev pub with_exemption : Timer → Timers → Timers
with_exemption timer t = with_timer timer (record (timer_at timer t) { exempt = true }) t

-- the moment is armed and not after another one
abbrev pub is_due : Option ℕ → ℕ → Bool
is_due None after = false
is_due (Some moment) after = nat_le moment after

-- a timer after an expiry: an exempt one uses up its exemption, each other adds one retry
abbrev pub expired_state : TimerState → TimerState
expired_state s =
    if s.exempt then record s { exempt = false } else record s { retries = min (s.retries + 1) (2 ^ 64 - 1) }

-- the timers after one of them was asked whether it expired
abbrev pub after_expiry : Timer → ℕ → Timers → Timers
after_expiry timer after t =
    if is_due (moment_of timer t) after then with_timer timer (expired_state (timer_at timer t)) t else t

-- the limit on a timer's retries; None is no limit
abbrev pub limit_of : Timer → Timers → Option ℕ
limit_of T1Init t = t.handshake_limit
limit_of T1Cookie t = t.handshake_limit
limit_of T2Shutdown t = None
limit_of T3RTX t = t.data_limit
limit_of Reconfig t = t.handshake_limit
limit_of Ack t = None

-- a number of retries passes a limit
abbrev pub passes : ℕ → Option ℕ → Bool
passes retries None = false
passes retries (Some limit) = nat_lt limit retries

-- what is seen of a timer at a moment: whether it expired, whether the retry that this added passes the limit, and the
-- retries
abbrev pub expiry_of : Timer → ℕ → Timers → Expiry
expiry_of timer after t =
    let due = is_due (moment_of timer t) after in
    let retries = (timer_at timer (after_expiry timer after t)).retries in
    record {
      expired = due;
      failed = due && not (timer_at timer t).exempt && passes retries (limit_of timer t);
      retries = retries;
    }
