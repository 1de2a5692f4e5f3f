-- What resets of streams change of an association: its resets, its streams and what is told of them, what waits beside
-- DATA, and the timer of the active request.
use Rattle.std.proofs.Common.{◌≡◌, refl, ap, ◌∙◌, ℕ, ◌&&◌, not, is_some, Bool, true, false, if◌then◌else◌}
use Rattle.std.proofs.Common.{Option, Some, None}
use Rattle.sctp_wire_types.specs.Config.{is_rfc}
use Rattle.sctp_wire_types.specs.declared.chunk.ChunkReconfig.{ChunkReconfig}
use Rattle.sctp_wire_types.specs.declared.param.Param.{Param}
use Rattle.sctp_wire_types.specs.declared.param.Param.TheVariants as params
use Rattle.sctp_wire_types.specs.declared.param.ParamOutgoingResetRequest.{ParamOutgoingResetRequest}
use Rattle.sctp_wire_types.specs.declared.param.ParamReconfigResponse.{ParamReconfigResponse}
use Rattle.sctp_wire_types.specs.declared.param.ReconfigResult.{ReconfigResult}
use Rattle.sctp_parts.specs.declared.timer.Timer.TheVariants as names
use Rattle.sctp_parts.specs.Timers.{expired_state, expiry_of, is_due, moment_of, started, with_moment, with_stopped}
use Rattle.sctp_parts.specs.Timers.{with_timer}
use Rattle.sctp_streams.specs.Streams.{StreamMap}
use Rattle.sctp_inbound.specs.declared.receiver.AckTrigger.{AckTrigger}
use Rattle.sctp_resets.specs.declared.answers.TimerChange.{TimerChange}
use Rattle.sctp_resets.specs.declared.answers.TimerChange.TheVariants as changes
use Rattle.sctp_resets.specs.declared.performing.Handled.{Handled}
use Rattle.sctp_resets.specs.declared.performing.Settled.{Settled}
use Rattle.sctp_resets.specs.Channels.{channels}
use Rattle.sctp_resets.specs.Resets.{Beside, Resetting, ResetsView, given_up, handled, is_retiring, read_out}
use Rattle.sctp_resets.specs.Resets.{responded, skips_done, skips_done_of, stopped_reading, waiting_for}
use Rattle.sctp_resets.specs.Resets as resets
use Rattle.sctp_assoc.specs.Calls.{drained_behind, stopped_open, unread_dropped, without_read_half_of}
use Rattle.sctp_assoc.specs.Resets.{after_param, after_reconfig_timer, asking_if, asks_again, behind_first}
use Rattle.sctp_assoc.specs.Resets.{behind_params}
use Rattle.sctp_assoc.specs.Resets.{channels_of, gives_up, handled_with, on_reconfig, on_request, on_response}
use Rattle.sctp_assoc.specs.Resets.{reconfig_expired, responded_with, responding, settled, settled_with, skips_applied}
use Rattle.sctp_assoc.specs.Resets.{skips_applied_of, stopped_if, with_answer, with_beside, with_reconfig_run}
use Rattle.sctp_assoc.specs.Resets.{with_resetting}
use Rattle.sctp_assoc.specs.Shown.{Shown}

-- the one with these parts of the other
abbrev pub with_resets_of : Shown → Shown → Shown
with_resets_of a b = record a {
  resets = b.resets;
  streams = b.streams;
  events = b.events;
  to_accept = b.to_accept;
  control = b.control;
  timers = (let t = a.timers in record t { reconfig = b.timers.reconfig });
}

-- nothing else changed
abbrev pub ChangesResets : Shown → Shown → Type 0
ChangesResets a b = b ≡ with_resets_of a b

pub resets_itself : (a : Shown) → ChangesResets a a
resets_itself a = refl

pub resets_on : (a b c : Shown) → ChangesResets a b → ChangesResets b c → ChangesResets a c
resets_on a b c first next = next ∙ ap (λ (z : Shown). with_resets_of z c) first

pub beside_changes : (a : Shown) (x : Beside) → ChangesResets a (with_beside a x)
beside_changes a (r, m, told) = refl

pub resetting_changes : (a : Shown) (x : Resetting) → ChangesResets a (with_resetting a x)
resetting_changes a (r, c) = refl

pub skips_of_change : (id : ℕ) (a : Shown) → ChangesResets a (skips_applied_of id a)
skips_of_change id a = beside_changes a (skips_done_of id a.resets a.streams a.events)

asking_changes : (asks : Bool) (a : Shown) → ChangesResets a (asking_if asks a)
asking_changes true a = refl
asking_changes false a = refl

responding_changes : (a : Shown) (number : ℕ) (result : ReconfigResult) → ChangesResets a (responding a number result)
responding_changes a number result = refl

answer_changes : (answer : Option Settled) (a : Shown) → ChangesResets a (with_answer answer a)
answer_changes None a = refl
answer_changes (Some q) a =
    resets_on a (asking_if q.asks a) (with_answer (Some q) a) (asking_changes q.asks a) refl

settled_with_changes : (a : Shown) (x : Resetting × Option Settled) → ChangesResets a (settled_with a x)
settled_with_changes a (s, answer) =
    resets_on a (with_resetting a s) (with_answer answer (with_resetting a s)) (resetting_changes a s)
    (answer_changes answer (with_resetting a s))

-- a request of the peer that waited is performed, and skips that were kept are applied
pub settling_changes : (a : Shown) → ChangesResets a (settled a)
unfolding settled
settling_changes a =
    let b =
    settled_with a (resets.settled a.receiver.peer_last_tsn a.sender.queue.next_message_id
    a.receiver.max_receive_message_size a.resets (channels_of a)) in
    resets_on a b (skips_applied b)
    (settled_with_changes a (resets.settled a.receiver.peer_last_tsn a.sender.queue.next_message_id
    a.receiver.max_receive_message_size a.resets (channels_of a)))
    (beside_changes b (skips_done b.resets b.streams b.events))

-- RE-CONFIG

stopping_changes : (confirms : Bool) (a : Shown) → ChangesResets a (stopped_if confirms a)
stopping_changes true a = refl
stopping_changes false a = refl

handled_changes : (a : Shown) (number : ℕ) (x : Resetting × Handled) → ChangesResets a (handled_with a number x)
handled_changes a number (s, h) =
    let b = with_resetting a s in
    let c = stopped_if h.confirms b in
    let d = asking_if h.asks c in
    resets_on a b (responding d number h.answer) (resetting_changes a s)
    (resets_on b c (responding d number h.answer) (stopping_changes h.confirms b)
    (resets_on c d (responding d number h.answer) (asking_changes h.asks c) (responding_changes d number h.answer)))

request_changes : (a : Shown) (param : ParamOutgoingResetRequest) → ChangesResets a (on_request a param)
unfolding on_request
request_changes a param =
    handled_changes a param.reconfig_request_sequence_number
    (handled param a.receiver.peer_last_tsn a.sender.queue.next_message_id a.receiver.max_receive_message_size a.resets
    (channels_of a))

responded_changes : (a : Shown) (x : Beside × TimerChange) → ChangesResets a (responded_with a x)
responded_changes a ((r, m, told), changes.Unchanged) = refl
responded_changes a ((r, m, told), changes.Exempted) = refl
responded_changes a ((r, m, told), changes.Stopped) = refl

response_changes : (a : Shown) (response : ParamReconfigResponse) → ChangesResets a (on_response a response)
unfolding on_response
response_changes a response = responded_changes a (responded response a.resets a.streams a.events)

param_changes : (param : Param) (a : Shown) → ChangesResets a (after_param param a).0
param_changes (params.OutgoingResetRequest request) a = request_changes a request
param_changes (params.ReconfigResponse response) a = response_changes a response
param_changes param a = resets_itself a

second_changes : (a : Shown) (x : Shown × Bool) (trigger : AckTrigger) → ChangesResets a x.0
    → ChangesResets a (behind_params x trigger).0
second_changes a (b, true) trigger e = e
second_changes a (b, false) trigger e = e

first_changes : (a : Shown) (x : Shown × Bool) (second : Option Param) (trigger : AckTrigger) → ChangesResets a x.0
    → ChangesResets a (behind_first x second trigger).0
first_changes a (b, true) None trigger e = e
first_changes a (b, true) (Some second) trigger e =
    second_changes a (after_param second b) trigger
    (resets_on a b (after_param second b).0 e (param_changes second b))
first_changes a (b, false) second trigger e = e

pub reconfig_changes : (a : Shown) (reconfig : ChunkReconfig) (trigger : AckTrigger)
    → ChangesResets a (on_reconfig a reconfig trigger).0
unfolding on_reconfig
reconfig_changes a reconfig trigger =
    first_changes a (after_param reconfig.first a) reconfig.second trigger (param_changes reconfig.first a)

-- Reads

pub draining_changes : (a : Shown) (id : ℕ) (streams : StreamMap) → ChangesResets a (drained_behind a id streams)
draining_changes a id streams =
    resetting_changes a
    (read_out a.sender.queue.next_message_id a.receiver.max_receive_message_size id a.resets
    (channels streams a.events a.to_accept))

-- Stops

stop_changes_if : (retires : Bool) (a : Shown) (id : ℕ) (x : Beside) (n : StreamMap) (r : ResetsView)
    → ChangesResets a
    (if retires then with_beside (without_read_half_of a id) x else
    record (without_read_half_of a id) { streams = n; resets = r })
stop_changes_if true a id (r, m, told) n left = refl
stop_changes_if false a id x n left = refl

pub stop_changes : (a : Shown) (id : ℕ) → ChangesResets a (stopped_open a id)
stop_changes a id =
    let b : Shown = without_read_half_of a id in
    stop_changes_if (is_retiring a.resets id) a id (stopped_reading id b.resets b.streams b.events)
    (unread_dropped (is_rfc a.profile) b.streams id) (waiting_for b.resets id)

-- The timer of the active request

expired_changes_if : (due : Bool) (a : Shown)
    → ChangesResets a (record a {
      timers = with_moment names.Reconfig None
          (if due then with_timer names.Reconfig (expired_state a.timers.reconfig) a.timers else a.timers);
    })
expired_changes_if true a = refl
expired_changes_if false a = refl

expired_changes : (a : Shown) (now : ℕ) → ChangesResets a (reconfig_expired a now)
expired_changes a now = expired_changes_if (is_due a.timers.reconfig.moment now) a

goes_on_changes_if : (active : Bool) (a : Shown) (now : ℕ)
    → ChangesResets a
    (if active then asks_again a now else record a { timers = with_stopped names.Reconfig a.timers })
goes_on_changes_if true a now = refl
goes_on_changes_if false a now = refl

given_up_changes : (a : Shown) (now : ℕ) → ChangesResets a (gives_up a now)
given_up_changes a now =
    let x : Beside = given_up a.resets a.streams a.events in
    let b : Shown = with_beside a x in
    resets_on a b (gives_up a now) (beside_changes a x) (goes_on_changes_if (is_some b.resets.own.active) b now)

reconfig_timer_changes_if : (expired failure : Bool) (a : Shown) (now : ℕ)
    → ChangesResets a (if expired then
    (if failure then gives_up (reconfig_expired a now) now else asks_again (reconfig_expired a now) now) else a)
reconfig_timer_changes_if false failure a now = resets_itself a
reconfig_timer_changes_if true true a now =
    let b = reconfig_expired a now in
    resets_on a b (gives_up b now) (expired_changes a now) (given_up_changes b now)
reconfig_timer_changes_if true false a now =
    let b = reconfig_expired a now in resets_on a b (asks_again b now) (expired_changes a now) refl

pub reconfig_timer_changes : (a : Shown) (now : ℕ) → ChangesResets a (after_reconfig_timer a now)
reconfig_timer_changes a now =
    reconfig_timer_changes_if (expiry_of names.Reconfig now a.timers).expired
    (expiry_of names.Reconfig now a.timers).failed a now

run_changes_if : (runs : Bool) (a : Shown) (now : ℕ)
    → ChangesResets a
    (if runs then record a { timers = started names.Reconfig now a.estimate.rto a.timers } else a)
run_changes_if true a now = refl
run_changes_if false a now = refl

pub run_changes : (a : Shown) (now : ℕ) → ChangesResets a (with_reconfig_run a now)
run_changes a now =
    run_changes_if (is_some a.resets.own.active && not (is_some (moment_of names.Reconfig a.timers))) a now
