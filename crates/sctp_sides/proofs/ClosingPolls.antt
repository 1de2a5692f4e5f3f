-- A poll for packets closes an association exactly where it gives SHUTDOWN COMPLETE, and a timeout never does.
use Rattle.std.proofs.Common.{◌≡◌, refl, sym, ap, ◌∙◌, subst, ℕ, arith, ◌==◌, ◌&&◌, not, is_some, Bool, true, false}
use Rattle.std.proofs.Common.{if◌then◌else◌, List, [], ◌∷◌, fold, length, Option, Some, None}
use Rattle.std.proofs.lemmas.Bool.{false≢true, true≢false}
use Rattle.sctp_wire_types.specs.declared.chunk.ChunkPayloadData.{ChunkPayloadData}
use Rattle.sctp_wire_types.specs.declared.error.Error.TheVariants as errors
use Rattle.sctp_wire_types.specs.declared.param.ParamOutgoingResetRequest.{ParamOutgoingResetRequest}
use Rattle.sctp_parts.specs.declared.timer.Timer.TheVariants as names
use Rattle.sctp_parts.specs.Timers.{TimerState, Timers, expiry_of, moment_of, started, with_stopped}
use Rattle.sctp_wire.specs.DataPackets.{datagrams_of}
use Rattle.sctp_inbound.specs.declared.handshake.Offer.{Offer}
use Rattle.sctp_inbound.specs.Handshake.{header_of}
use Rattle.sctp_resets.specs.Resets.{Beside, ResetsView, given_up, request_again, request_asked, request_sent}
use Rattle.sctp_assoc.specs.declared.control.Control.{Control}
use Rattle.sctp_assoc.specs.declared.control.Control.TheVariants as controls
use Rattle.sctp_assoc.specs.declared.shutdown.ShutdownDue.{ShutdownDue}
use Rattle.sctp_assoc.specs.Calls.{after_ack_delay, after_t3, exchanges_data, is_established, retransmits, t3_expired}
use Rattle.sctp_assoc.specs.Closing.{is_closed_state}
use Rattle.sctp_assoc.specs.Gather.{ack_after, ack_polled, after_both, control_polled, data_after, data_polled}
use Rattle.sctp_assoc.specs.Gather.{exchange_after, exchange_polled, fell_in_poll, first_request_behind}
use Rattle.sctp_assoc.specs.Gather.{first_request_polled, forward_after, forward_polled, is_due, open_polled}
use Rattle.sctp_assoc.specs.Gather.{repeat_polled, request_made}
use Rattle.sctp_assoc.specs.Gather.{requests_after, requests_polled, with_control_given, with_request_again}
use Rattle.sctp_assoc.specs.Gather.{with_request_asked, with_request_placed, with_request_sent, without_control}
use Rattle.sctp_assoc.specs.Handshake.{after_t1_cookie, after_t1_init, sends_cookie, sends_init, t1_cookie_expired}
use Rattle.sctp_assoc.specs.Handshake.{t1_init_expired}
use Rattle.sctp_assoc.specs.Resets.{after_reconfig_timer, asks_again, gives_up, reconfig_expired, with_beside}
use Rattle.sctp_assoc.specs.Resets.{with_reconfig_run}
use Rattle.sctp_assoc.specs.Shown.{Shown}
use Rattle.sctp_assoc.specs.Shutdown.{after_t2_shutdown}
use Rattle.sctp_assoc.specs.Timeouts.{after_handshake_timers, after_shutdown_timer}
use Rattle.sctp_streams.specs.declared.event.AssociationError.TheVariants as reasons
use Rattle.sctp_sides.specs.Laws.{DoesNotClose, EndedShutdownsAloneClose, IsClosedIf, TimersDoNotClose, losses}
use Rattle.sctp_sides.specs.Laws.{poll_closes}
use Rattle.sctp_sides.proofs.ClosingPackets.{fault_closes, low_told_tells}
use Rattle.sctp_sides.proofs.EndedPolls.{by_poll_end, complete_given, continued_closed, ended_is_closed}
use Rattle.sctp_sides.proofs.EndedPolls.{ended_shutdown, with_answer_timed}
use Rattle.sctp_sides.proofs.ResetLosses.{given_up_tells}

-- It is closed where it was; the mark of a loss and the losses among the events are as they were.
record IsClosedAsBefore (a b : Shown) : Type 0 where
  closed : is_closed_state b.state ≡ is_closed_state a.state
  lost : b.lost ≡ a.lost
  told : losses b.events ≡ losses a.events

before_on : (a b c : Shown) → IsClosedAsBefore a b → IsClosedAsBefore b c → IsClosedAsBefore a c
before_on a b c m n = record { closed = n.closed ∙ m.closed; lost = n.lost ∙ m.lost; told = n.told ∙ m.told }

-- the state, the mark of a loss and the events are as they were
as_before : (a b : Shown) → b.state ≡ a.state → b.lost ≡ a.lost → b.events ≡ a.events → IsClosedAsBefore a b
as_before a b s l e = record { closed = ap is_closed_state s; lost = l; told = ap losses e }

before_itself : (a : Shown) → IsClosedAsBefore a a
before_itself a = record { closed = refl; lost = refl; told = refl }

-- The parts of a poll

behind_open : (a : Shown) (packets : List (List ℕ)) (x : Shown × List (List ℕ)) → IsClosedAsBefore a x.0
    → IsClosedAsBefore a (after_both packets x).0
behind_open a packets (b, more) m = m

-- a shutdown may go on behind DATA
data_open : (a : Shown) (now : ℕ) → IsClosedAsBefore a (data_after a now).0
unfolding data_polled
data_open a now = record {
  closed = continued_closed (data_polled a now).0;
  lost = refl;
  told = low_told_tells a.events (fell_in_poll a now);
}

again_open : (a : Shown) (x : ResetsView × Option ParamOutgoingResetRequest)
    → IsClosedAsBefore a (with_request_again a x).0
again_open a (r, None) = as_before a (record a { resets = r }) refl refl refl
again_open a (r, Some param) = as_before a (record a { resets = r }) refl refl refl

made_open : (a : Shown) (x : ResetsView × Bool) → IsClosedAsBefore a (with_request_asked a x)
made_open a (r, true) = as_before a (with_request_asked a (r, true)) refl refl refl
made_open a (r, false) = as_before a (record a { resets = r }) refl refl refl

sent_open : (a : Shown) (x : ResetsView × Option ParamOutgoingResetRequest)
    → IsClosedAsBefore a (with_request_sent a x).0
sent_open a (r, None) = as_before a (record a { resets = r }) refl refl refl
sent_open a (r, Some param) = as_before a (with_request_sent a (r, Some param)).0 refl refl refl

first_open_if : (none : Bool) (a : Shown)
    → IsClosedAsBefore a (if none then (a, []) else with_request_sent a (request_sent a.resets a.sender.queue)).0
first_open_if true a = before_itself a
first_open_if false a = sent_open a (request_sent a.resets a.sender.queue)

first_open : (a : Shown) (x : Shown × List (List ℕ)) → IsClosedAsBefore a x.0
    → IsClosedAsBefore a (first_request_behind x).0
first_open a (b, packets) m =
    let c : Shown = request_made b in
    behind_open a packets (first_request_polled c)
    (before_on a c (first_request_polled c).0
    (before_on a b c m (made_open b (request_asked b.resets b.sender.queue))) (first_open_if (length c.control == 0) c))

requests_open_if : (established : Bool) (a : Shown)
    → IsClosedAsBefore a (if established then first_request_behind (repeat_polled a) else (a, [])).0
requests_open_if true a = first_open a (repeat_polled a) (again_open a (request_again a.resets))
requests_open_if false a = before_itself a

requests_open : (a : Shown) → IsClosedAsBefore a (requests_polled a).0
unfolding requests_polled
requests_open a = requests_open_if (is_established a.state) a

requests_behind_open : (a : Shown) (x : Shown × List (List ChunkPayloadData)) → IsClosedAsBefore a x.0
    → IsClosedAsBefore a (requests_after x).0
requests_behind_open a (b, bundles) m =
    behind_open a (datagrams_of (header_of b.handshake) bundles) (requests_polled b)
    (before_on a b (requests_polled b).0 m (requests_open b))

ack_open_if : (due : Bool) (a : Shown) → is_due a.receiver.ack_state ≡ due → IsClosedAsBefore a (ack_polled a).0
unfolding ack_polled
ack_open_if true a e = rw e (as_before a _ refl refl refl)
ack_open_if false a e = rw e (before_itself a)

ack_open : (a : Shown) (x : Shown × List (List ℕ)) → IsClosedAsBefore a x.0 → IsClosedAsBefore a (ack_after x).0
ack_open a (b, packets) m =
    behind_open a packets (ack_polled b) (before_on a b (ack_polled b).0 m (ack_open_if _ b refl))

forward_open : (a : Shown) (x : Shown × List (List ℕ)) → IsClosedAsBefore a x.0 → IsClosedAsBefore a (forward_after x).0
unfolding forward_polled
forward_open a (b, packets) m = record { closed = m.closed; lost = m.lost; told = m.told }

exchange_open_if : (c : Bool) (a : Shown) (now : ℕ)
    → IsClosedAsBefore a (if c then forward_after (ack_after (requests_after (data_after a now))) else (a, [])).0
exchange_open_if true a now =
    let x = requests_after (data_after a now) in
    forward_open a (ack_after x) (ack_open a x (requests_behind_open a (data_after a now) (data_open a now)))
exchange_open_if false a now = before_itself a

exchange_open : (a : Shown) (x : Shown × List (List ℕ)) (now : ℕ) → IsClosedAsBefore a x.0
    → IsClosedAsBefore a (exchange_after x now).0
unfolding exchange_polled
exchange_open a (b, packets) now m =
    behind_open a packets (exchange_polled b now)
    (before_on a b (exchange_polled b now).0 m (exchange_open_if (exchanges_data b.state) b now))

placed_open : (a b : Shown) (packets : List (List ℕ)) (x : ResetsView × Option ParamOutgoingResetRequest)
    → IsClosedAsBefore a b → IsClosedAsBefore a (with_request_placed (b, packets) x).0
placed_open a b packets (r, None) m = record { closed = m.closed; lost = m.lost; told = m.told }
placed_open a b packets (r, Some param) m = record { closed = m.closed; lost = m.lost; told = m.told }

given_open : (a : Shown) (x : Shown × List (List ℕ)) (c : Control) → IsClosedAsBefore a x.0
    → IsClosedAsBefore a (with_control_given x c).0
given_open a (b, packets) (controls.Packet c) m = m
given_open a (b, packets) controls.OwnRequest m =
    placed_open a b packets (request_sent b.resets b.sender.queue) m

all_given_open : (a : Shown) (cs : List Control) (x : Shown × List (List ℕ)) → IsClosedAsBefore a x.0
    → IsClosedAsBefore a (fold with_control_given x cs).0
all_given_open a [] x m = m
all_given_open a (c ∷ cs) x m = all_given_open a cs (with_control_given x c) (given_open a x c m)

control_open : (a : Shown) → IsClosedAsBefore a (control_polled a).0
control_open a =
    all_given_open a a.control (without_control a, []) (as_before a (without_control a) refl refl refl)

reconfig_run_open : (runs : Bool) (a : Shown) (timers : Timers)
    → IsClosedAsBefore a (if runs then record a { timers = timers } else a)
reconfig_run_open true a timers = as_before a (record a { timers = timers }) refl refl refl
reconfig_run_open false a timers = before_itself a

run_open : (a : Shown) (x : Shown × List (List ℕ)) (now : ℕ) → IsClosedAsBefore a x.0
    → IsClosedAsBefore a (with_reconfig_run x.0 now)
run_open a (b, packets) now m =
    before_on a b _ m
    (reconfig_run_open (is_some b.resets.own.active && not (is_some (moment_of names.Reconfig b.timers))) b
    (started names.Reconfig now b.estimate.rto b.timers))

-- the front of a poll closes nothing
front_open : (a : Shown) (now : ℕ) → IsClosedAsBefore a (open_polled a now).0
front_open a now =
    run_open a (exchange_after (control_polled a) now) now
    (exchange_open a (control_polled a) now (control_open a))

-- its end does not either, unless it gives SHUTDOWN COMPLETE
ended_open : (closing : Bool) (a m : Shown) (due : ShutdownDue) (timer : TimerState) → closing ≡ false
    → IsClosedAsBefore a m → IsClosedIf closing a (with_answer_timed m due timer)
ended_open true a m due timer e h = absurd (true≢false e)
ended_open false a m due timer e h = record {
  closed = λ f. absurd (false≢true f);
  still_open = λ _ f. sym h.closed ∙ f;
  lost = h.lost;
  told = h.told ∙ omega arith;
}

ended_closed : (closing : Bool) (a m : Shown) → closing ≡ true → is_closed_state m.state ≡ false → IsClosedAsBefore a m
    → IsClosedIf closing a (ended_shutdown m)
ended_closed false a m e f h = absurd (false≢true e)
ended_closed true a m e f h =
    let b : Shown = complete_given m in
    subst (IsClosedIf true a) (ended_is_closed m f)
    (fault_closes false a b reasons.AssociationClosed f
    (record { still_open = λ c. sym h.closed ∙ c; lost = h.lost; told = h.told }))

pub ended_shutdowns_alone_close : EndedShutdownsAloneClose
ended_shutdowns_alone_close a now =
    let m : Shown = (open_polled a now).0 in
    by_poll_end (IsClosedIf (poll_closes a now) a) a now
    (λ e due timer. ended_open (poll_closes a now) a m due timer e (front_open a now))
    (λ e open_still. ended_closed (poll_closes a now) a m e open_still (front_open a now))

-- Timers

open_on : (a b c : Shown) → DoesNotClose a b → DoesNotClose b c → DoesNotClose a c
open_on a b c m n = record { state = n.state ∙ m.state; lost = n.lost ∙ m.lost; told = n.told ∙ m.told }

-- the state, the mark of a loss and the events are as they were
unclosed : (a b : Shown) → b.state ≡ a.state → b.lost ≡ a.lost → b.events ≡ a.events → DoesNotClose a b
unclosed a b s l e = record { state = s; lost = l; told = ap losses e }

open_itself : (a : Shown) → DoesNotClose a a
open_itself a = record { state = refl; lost = refl; told = refl }

init_open : (o : Option Offer) (a b : Shown) (now : ℕ) → b.handshake.offer ≡ o → b.state ≡ a.state → b.lost ≡ a.lost
    → b.events ≡ a.events → DoesNotClose a (sends_init b now)
unfolding sends_init
init_open None a b now o s l e = rw o (unclosed a _ s l e)
init_open (Some offer) a b now o s l e = rw o (unclosed a _ s l e)

cookie_open : (o : Option (List ℕ)) (a b : Shown) (now : ℕ) → b.handshake.echo ≡ o → b.state ≡ a.state → b.lost ≡ a.lost
    → b.events ≡ a.events → DoesNotClose a (sends_cookie b now)
unfolding sends_cookie
cookie_open None a b now o s l e = rw o (unclosed a _ s l e)
cookie_open (Some cookie) a b now o s l e = rw o (unclosed a _ s l e)

t1_init_open : (expired failure : Bool) (a : Shown) (now : ℕ)
    → DoesNotClose a
    (if expired then
    (if failure then (let b = t1_init_expired a now in record b { handshake_fault = Some errors.ErrHandshakeInitAck })
    else sends_init (t1_init_expired a now) now) else a)
t1_init_open false failure a now = unclosed a _ refl refl refl
t1_init_open true true a now = unclosed a _ refl refl refl
t1_init_open true false a now = init_open a.handshake.offer a (t1_init_expired a now) now refl refl refl refl

t1_cookie_open : (expired failure : Bool) (a : Shown) (now : ℕ)
    → DoesNotClose a
    (if expired then
    (if failure then (let b =
    t1_cookie_expired a now in record b { handshake_fault = Some errors.ErrHandshakeCookieEcho }) else
    sends_cookie (t1_cookie_expired a now) now) else a)
t1_cookie_open false failure a now = unclosed a _ refl refl refl
t1_cookie_open true true a now = unclosed a _ refl refl refl
t1_cookie_open true false a now = cookie_open a.handshake.echo a (t1_cookie_expired a now) now refl refl refl refl

t3_open : (expired failure : Bool) (a : Shown) (now : ℕ)
    → DoesNotClose a (if expired then (if failure then t3_expired a now else retransmits (t3_expired a now) now) else a)
t3_open false failure a now = unclosed a _ refl refl refl
t3_open true true a now = unclosed a _ refl refl refl
t3_open true false a now = unclosed a _ refl refl refl

delay_open : (expired : Bool) (a : Shown) (now : ℕ) → (expiry_of names.Ack now a.timers).expired ≡ expired
    → DoesNotClose a (after_ack_delay a now)
delay_open false a now e = rw e (unclosed a _ refl refl refl)
delay_open true a now e = rw e (unclosed a _ refl refl refl)

beside_open : (a b : Shown) (x : Beside) → b.state ≡ a.state → b.lost ≡ a.lost → losses x.2 ≡ losses a.events
    → DoesNotClose a (with_beside b x)
beside_open a b (r, m, queued) s l e = record { state = s; lost = l; told = e }

-- a request that is given up and is still active goes out again
going_on_open : (active : Bool) (a : Shown) (now : ℕ)
    → DoesNotClose a
    (if active then asks_again a now else record a { timers = with_stopped names.Reconfig a.timers })
going_on_open true a now = unclosed a (asks_again a now) refl refl refl
going_on_open false a now = unclosed a _ refl refl refl

-- requests that are given up are told as failed, which is no loss
request_given_up_open : (a : Shown) (now : ℕ) → DoesNotClose a (gives_up (reconfig_expired a now) now)
request_given_up_open a now =
    let b : Shown = reconfig_expired a now in
    let x = given_up b.resets b.streams b.events in
    let c : Shown = with_beside b x in
    open_on a c (gives_up b now) (beside_open a b x refl refl (given_up_tells b.resets b.streams b.events))
    (going_on_open (is_some c.resets.own.active) c now)

reconfig_open : (expired failure : Bool) (a : Shown) (now : ℕ)
    → DoesNotClose a
    (if expired then
    (if failure then gives_up (reconfig_expired a now) now else asks_again (reconfig_expired a now) now) else a)
reconfig_open false failure a now = open_itself a
reconfig_open true true a now = request_given_up_open a now
reconfig_open true false a now = unclosed a (asks_again (reconfig_expired a now) now) refl refl refl

pub timers_do_not_close : TimersDoNotClose
timers_do_not_close a now =
    let b : Shown = after_t1_init a now in
    let c : Shown = after_handshake_timers a now in
    let t : Shown = after_shutdown_timer a now in
    let d : Shown = after_t3 t now in
    let e : Shown = after_reconfig_timer d now in
    open_on a b _ (t1_init_open (expiry_of names.T1Init now a.timers).expired
    (expiry_of names.T1Init now a.timers).failed a now)
    (open_on b c _ (t1_cookie_open (expiry_of names.T1Cookie now b.timers).expired
    (expiry_of names.T1Cookie now b.timers).failed b now)
    (open_on c t _ (unclosed c (after_t2_shutdown c now) refl refl refl)
    (open_on t d _ (t3_open (expiry_of names.T3RTX now t.timers).expired (expiry_of names.T3RTX now t.timers).failed t
    now) (open_on d e _ (reconfig_open (expiry_of names.Reconfig now d.timers).expired
    (expiry_of names.Reconfig now d.timers).failed d now) (delay_open _ e now refl)))))
