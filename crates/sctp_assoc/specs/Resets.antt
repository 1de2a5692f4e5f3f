-- What requests to reset streams do to an association (RFC 6525 section 5, RFC 8831 section 6.7).
use Rattle.std.specs.Prelude.{ℕ, Bool, true, false, ◌&&◌, ◌||◌, if◌then◌else◌, not, is_some, Option, Some, None}
use Rattle.sctp_wire_types.specs.declared.chunk.Chunk.{Chunk}
use Rattle.sctp_wire_types.specs.declared.chunk.Chunk.TheVariants as chunks
use Rattle.sctp_wire_types.specs.declared.chunk.ChunkReconfig.{ChunkReconfig}
use Rattle.sctp_wire_types.specs.declared.error.Error.TheVariants as errors
use Rattle.sctp_wire_types.specs.declared.param.Param.{Param}
use Rattle.sctp_wire_types.specs.declared.param.Param.TheVariants as params
use Rattle.sctp_wire_types.specs.declared.param.ParamOutgoingResetRequest.{ParamOutgoingResetRequest}
use Rattle.sctp_wire_types.specs.declared.param.ParamReconfigResponse.{ParamReconfigResponse}
use Rattle.sctp_wire_types.specs.declared.param.ReconfigResult.{ReconfigResult}
use Rattle.sctp_wire_types.specs.declared.param.ReconfigResult.TheVariants as results
use Rattle.sctp_parts.specs.declared.timer.Timer.TheVariants as names
use Rattle.sctp_parts.specs.Timers.{Timers, after_expiry, expiry_of, moment_of, started}
use Rattle.sctp_parts.specs.Timers.{with_exemption, with_moment, with_stopped}
use Rattle.sctp_inbound.specs.declared.receiver.AckTrigger.{AckTrigger}
use Rattle.sctp_generations.specs.Generations.{has_skips}
use Rattle.sctp_reset_requests.specs.Peer.{is_one_due, response_to}
use Rattle.sctp_resets.specs.declared.answers.TimerChange.{TimerChange}
use Rattle.sctp_resets.specs.declared.answers.TimerChange.TheVariants as changes
use Rattle.sctp_resets.specs.declared.performing.Handled.{Handled}
use Rattle.sctp_resets.specs.declared.performing.Settled.{Settled}
use Rattle.sctp_resets.specs.Channels.{Channels, channels}
use Rattle.sctp_resets.specs.Resets.{Beside, Resetting, given_up, handled, responded, skips_done, skips_done_of}
use Rattle.sctp_resets.specs.Resets.{timer_expired}
use Rattle.sctp_resets.specs.Resets as resets
use Rattle.sctp_assoc.specs.declared.inbound.Flow.{Flow}
use Rattle.sctp_assoc.specs.declared.inbound.Flow.TheVariants as flows
use Rattle.sctp_assoc.specs.Control.{asking, queued}
use Rattle.sctp_assoc.specs.Shown.{Shown}

-- the streams of an association, and what is told of them
abbrev pub channels_of : Shown → Channels
channels_of a = channels a.streams a.events a.to_accept

abbrev pub with_beside : Shown → Beside → Shown
with_beside a (r, m, told) = record a { resets = r; streams = m; events = told }

abbrev pub with_resetting : Shown → Resetting → Shown
with_resetting a (r, c) =
    record a { resets = r; streams = c.streams; events = c.events; to_accept = c.to_accept }

-- the skips that were kept for the generation of a live stream that is read now are applied
abbrev pub skips_applied_of : ℕ → Shown → Shown
skips_applied_of id a = with_beside a (skips_done_of id a.resets a.streams a.events)

-- so are those of all live streams
abbrev pub skips_applied : Shown → Shown
skips_applied a = with_beside a (skips_done a.resets a.streams a.events)

-- RE-CONFIG with one parameter (RFC 6525 section 3.1)
abbrev pub reconfig_of : Param → Chunk
reconfig_of param = chunks.Reconfig (record { first = param; second = None })

-- the response to the request with this number waits to go out (RFC 6525 section 4.4)
abbrev pub responding : Shown → ℕ → ReconfigResult → Shown
responding a number result = queued a (reconfig_of (params.ReconfigResponse (response_to number result)))

abbrev pub asking_if : Bool → Shown → Shown
asking_if asks a = if asks then asking a else a

abbrev pub with_answer : Option Settled → Shown → Shown
with_answer None a = a
with_answer (Some q) a = responding (asking_if q.asks a) q.number results.SuccessPerformed

abbrev pub settled_with : Shown → Resetting × Option Settled → Shown
settled_with a (s, answer) = with_answer answer (with_resetting a s)

-- The last TSN in order may have moved: a request of the peer that waited for that is performed and answered, and then
-- skips that were kept are applied.
unfoldable pub settled : Shown → Shown
settled a =
    skips_applied (settled_with a
    (resets.settled a.receiver.peer_last_tsn a.sender.queue.next_message_id a.receiver.max_receive_message_size a.resets
    (channels_of a)))

-- a request of the peer can be performed now, or a skip is kept
abbrev pub settling_takes_memory : Shown → Bool
settling_takes_memory a =
    is_one_due a.resets.peer.in_progress a.receiver.peer_last_tsn || has_skips a.resets.generations

-- RE-CONFIG that comes

abbrev pub stopped_if : Bool → Shown → Shown
stopped_if confirms a = if confirms then record a { timers = with_stopped names.Reconfig a.timers } else a

-- what a request with this number led to is answered
abbrev pub said_of : Handled → ℕ → Shown → Shown
said_of h number a = responding (asking_if h.asks (stopped_if h.confirms a)) number h.answer

abbrev pub handled_with : Shown → ℕ → Resetting × Handled → Shown
handled_with a number (s, h) = said_of h number (with_resetting a s)

-- a request of the peer, which is answered with the next poll (RFC 6525 section 5.2.2)
unfoldable pub on_request : Shown → ParamOutgoingResetRequest → Shown
on_request a param =
    handled_with a param.reconfig_request_sequence_number
    (handled param a.receiver.peer_last_tsn a.sender.queue.next_message_id a.receiver.max_receive_message_size a.resets
    (channels_of a))

-- its expiry does not count, and it begins anew with the next poll
abbrev pub exempted : Timers → Timers
exempted t = with_exemption names.Reconfig (with_moment names.Reconfig None t)

abbrev pub timers_changed : TimerChange → Timers → Timers
timers_changed changes.Unchanged t = t
timers_changed changes.Exempted t = exempted t
timers_changed changes.Stopped t = with_stopped names.Reconfig t

abbrev pub responded_with : Shown → Beside × TimerChange → Shown
responded_with a (b, change) = (let c = with_beside a b in record c { timers = timers_changed change c.timers })

-- a response of the peer (RFC 6525 section 5.2.7)
unfoldable pub on_response : Shown → ParamReconfigResponse → Shown
on_response a response = responded_with a (responded response a.resets a.streams a.events)

-- a parameter, where it is one of a reset of outgoing streams
abbrev pub after_param : Param → Shown → Shown × Bool
after_param (params.OutgoingResetRequest request) a = (on_request a request, true)
after_param (params.ReconfigResponse response) a = (on_response a response, true)
after_param param a = (a, false)

abbrev pub behind_params : Shown × Bool → AckTrigger → Shown × Flow
behind_params (a, true) trigger = (a, flows.Next trigger)
behind_params (a, false) trigger = (a, flows.Fault errors.ErrParameterType)

abbrev pub behind_first : Shown × Bool → Option Param → AckTrigger → Shown × Flow
behind_first (a, true) None trigger = (a, flows.Next trigger)
behind_first (a, true) (Some second) trigger = behind_params (after_param second a) trigger
behind_first (a, false) second trigger = (a, flows.Fault errors.ErrParameterType)

-- RE-CONFIG: its parameters in order; one that is neither a request to reset outgoing streams nor a response is a fault
unfoldable pub on_reconfig : Shown → ChunkReconfig → AckTrigger → Shown × Flow
on_reconfig a reconfig trigger = behind_first (after_param reconfig.first a) reconfig.second trigger

-- The timer of the active request.

abbrev pub reconfig_expired : Shown → ℕ → Shown
reconfig_expired a now =
    record a { timers = with_moment names.Reconfig None (after_expiry names.Reconfig now a.timers) }

abbrev pub asks_again : Shown → ℕ → Shown
asks_again a now = record a {
  resets = timer_expired a.resets;
  timers = started names.Reconfig now a.estimate.rto a.timers;
}

-- a request that is still active goes out again
abbrev pub goes_on : Shown → ℕ → Shown
goes_on a now =
    if is_some a.resets.own.active then asks_again a now
    else record a { timers = with_stopped names.Reconfig a.timers }

-- the active request is given up; by the rules of the RFCs it goes out again all the same, at timeouts that are doubled
-- up to the greatest one
abbrev pub gives_up : Shown → ℕ → Shown
gives_up a now = goes_on (with_beside a (given_up a.resets a.streams a.events)) now

-- the active request was not answered in time: it goes out again, or past the limit it is given up
abbrev pub after_reconfig_timer : Shown → ℕ → Shown
after_reconfig_timer a now =
    if (expiry_of names.Reconfig now a.timers).expired then
    (if (expiry_of names.Reconfig now a.timers).failed then gives_up (reconfig_expired a now) now
    else asks_again (reconfig_expired a now) now)
    else a

-- the timer runs where a request was sent and not answered
abbrev pub with_reconfig_run : Shown → ℕ → Shown
with_reconfig_run a now =
    if is_some a.resets.own.active && not (is_some (moment_of names.Reconfig a.timers)) then
    record a { timers = started names.Reconfig now a.estimate.rto a.timers }
    else a
