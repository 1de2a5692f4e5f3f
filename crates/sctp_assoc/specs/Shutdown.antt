-- The graceful end of an association (RFC 4960 section 9.2): what waits is sent and acknowledged first, and then both
-- sides agree by SHUTDOWN, SHUTDOWN ACK and SHUTDOWN COMPLETE.
use Rattle.std.specs.Prelude.{ℕ, Bool, true, false, ◌&&◌, ◌||◌, ◌==◌, if◌then◌else◌, not, length, Option, Some, None}
use Rattle.sctp_wire_types.specs.declared.error.Error.{Error}
use Rattle.sctp_wire_types.specs.declared.error.Error.TheVariants as errors
use Rattle.sctp_parts.specs.declared.shared.EndpointEvent.{EndpointEvent}
use Rattle.sctp_parts.specs.declared.state.AssociationState.{AssociationState}
use Rattle.sctp_parts.specs.declared.state.AssociationState.TheVariants as states
use Rattle.sctp_parts.specs.declared.timer.Timer.TheVariants as names
use Rattle.sctp_parts.specs.Shared.{drained_event}
use Rattle.sctp_parts.specs.State.{is_closing}
use Rattle.sctp_parts.specs.Timers.{Timers, after_expiry, expiry_of, started, with_moment, with_stopped}
use Rattle.sctp_inbound.specs.declared.receiver.AckTrigger.{AckTrigger}
use Rattle.sctp_assoc.specs.declared.inbound.Flow.{Flow}
use Rattle.sctp_assoc.specs.declared.inbound.Flow.TheVariants as flows
use Rattle.sctp_assoc.specs.declared.shutdown.ShutdownDue.{ShutdownDue}
use Rattle.sctp_assoc.specs.Calls.{is_established}
use Rattle.sctp_assoc.specs.Shown.{Shown}

-- no chunk of a graceful end is due
abbrev pub nothing_due : ShutdownDue
nothing_due = record { shutdown = false; shutdown_ack = false; shutdown_complete = false }

abbrev pub with_shutdown_due : ShutdownDue → ShutdownDue
with_shutdown_due due = record due { shutdown = true }

abbrev pub with_shutdown_ack_due : ShutdownDue → ShutdownDue
with_shutdown_ack_due due = record due { shutdown_ack = true }

-- nothing that was accepted waits to be sent, and nothing is in flight
abbrev pub all_acknowledged : Shown → Bool
all_acknowledged a = (length a.sender.queue.pending == 0) && (length a.sender.queue.in_flight == 0)

-- Once all DATA is acknowledged, a shutdown that waited for that goes on: SHUTDOWN goes out from ShutdownPending, and
-- SHUTDOWN ACK from ShutdownReceived.

abbrev pub state_behind_data : AssociationState → AssociationState
state_behind_data states.ShutdownPending = states.ShutdownSent
state_behind_data states.ShutdownReceived = states.ShutdownAckSent
state_behind_data state = state

abbrev pub due_behind_data : AssociationState → ShutdownDue → ShutdownDue
due_behind_data states.ShutdownPending due = with_shutdown_due due
due_behind_data states.ShutdownReceived due = with_shutdown_ack_due due
due_behind_data state due = due

abbrev pub shutdown_continued : Shown → Shown
shutdown_continued a = record a {
  state = if all_acknowledged a then state_behind_data a.state else a.state;
  shutdown_due = if all_acknowledged a then due_behind_data a.state a.shutdown_due else a.shutdown_due;
}

-- The application begins a shutdown.

-- why it does not
abbrev pub shutdown_refusal : Shown → Option Error
shutdown_refusal a =
    if a.failed then Some errors.ErrAssociationFailed else
    if is_established a.state then None else Some errors.ErrShutdownNonEstablished

-- with nothing to send or in flight SHUTDOWN is due at once; else all of that is sent and acknowledged first. The
-- endpoint is told at once
abbrev pub shutdown_begun : Shown → Shown
shutdown_begun a =
    shutdown_continued (record a { state = states.ShutdownPending; endpoint_event = Some drained_event })

-- what the endpoint is to be told is told once
abbrev pub endpoint_event_polled : Shown → Shown × Option EndpointEvent
endpoint_event_polled a = (record a { endpoint_event = None }, a.endpoint_event)

-- SHUTDOWN comes: in Established it is answered by SHUTDOWN ACK once all DATA of this side is acknowledged, and in
-- ShutdownSent at once. In any other state it changes nothing.

abbrev pub state_at_shutdown : Bool → AssociationState → AssociationState
state_at_shutdown acknowledged states.Established =
    if acknowledged then states.ShutdownAckSent else states.ShutdownReceived
state_at_shutdown acknowledged states.ShutdownSent = states.ShutdownAckSent
state_at_shutdown acknowledged state = state

abbrev pub due_at_shutdown : Bool → AssociationState → ShutdownDue → ShutdownDue
due_at_shutdown acknowledged states.Established due = if acknowledged then with_shutdown_ack_due due else due
due_at_shutdown acknowledged states.ShutdownSent due = with_shutdown_ack_due due
due_at_shutdown acknowledged state due = due

abbrev pub shutdown_taken : Shown → Shown
shutdown_taken a = record a {
  state = state_at_shutdown (all_acknowledged a) a.state;
  shutdown_due = due_at_shutdown (all_acknowledged a) a.state a.shutdown_due;
}

abbrev pub on_shutdown : Shown → AckTrigger → Shown × Flow
on_shutdown a trigger = (shutdown_taken a, flows.Next trigger)

-- SHUTDOWN or SHUTDOWN ACK waits for its answer
abbrev pub awaits_answer : AssociationState → Bool
awaits_answer states.ShutdownSent = true
awaits_answer states.ShutdownAckSent = true
awaits_answer state = false

-- SHUTDOWN ACK comes: where it answers, SHUTDOWN COMPLETE is due, and the timer of the answer stops
abbrev pub shutdown_answered : Shown → Shown
shutdown_answered a = record a {
  timers = if awaits_answer a.state then with_stopped names.T2Shutdown a.timers else a.timers;
  shutdown_due =
      (let due = a.shutdown_due in
      record due { shutdown_complete = if awaits_answer a.state then true else due.shutdown_complete });
}

abbrev pub on_shutdown_ack : Shown → AckTrigger → Shown × Flow
on_shutdown_ack a trigger = (shutdown_answered a, flows.Next trigger)

-- SHUTDOWN COMPLETE closes in ShutdownAckSent, and counts in no other state
abbrev pub on_shutdown_complete : AssociationState → AckTrigger → Flow
on_shutdown_complete states.ShutdownAckSent trigger = flows.Closed
on_shutdown_complete state trigger = flows.Next trigger

-- The timer of the answer expires: SHUTDOWN or SHUTDOWN ACK goes out again, without a limit, and the timer runs on.

abbrev pub due_again : AssociationState → ShutdownDue → ShutdownDue
due_again states.ShutdownSent due = with_shutdown_due due
due_again states.ShutdownAckSent due = with_shutdown_ack_due due
due_again state due = due

abbrev pub shutdown_again : Shown → Shown
shutdown_again a = record a { shutdown_due = due_again a.state a.shutdown_due }

abbrev pub with_t2_started : Shown → ℕ → Shown
with_t2_started a now = record a { timers = started names.T2Shutdown now a.estimate.rto a.timers }

abbrev pub t2_expired : ℕ → Timers → Timers
t2_expired now t = with_moment names.T2Shutdown None (after_expiry names.T2Shutdown now t)

abbrev pub after_t2_shutdown : Shown → ℕ → Shown
after_t2_shutdown a now = record a {
  timers =
      if (expiry_of names.T2Shutdown now a.timers).expired then
      started names.T2Shutdown now a.estimate.rto (t2_expired now a.timers)
      else a.timers;
  shutdown_due =
      if (expiry_of names.T2Shutdown now a.timers).expired then due_again a.state a.shutdown_due else a.shutdown_due;
}

-- The chunks of a graceful end in a poll.

-- one of them is due, and goes out in the four states of a shutdown alone
abbrev pub gives_shutdown : Shown → Bool
gives_shutdown a =
    is_closing a.state
    && (a.shutdown_due.shutdown || a.shutdown_due.shutdown_ack || a.shutdown_due.shutdown_complete)

-- the first one that is due is SHUTDOWN COMPLETE
abbrev pub completes_shutdown : Shown → Bool
completes_shutdown a =
    is_closing a.state && not a.shutdown_due.shutdown && not a.shutdown_due.shutdown_ack
    && a.shutdown_due.shutdown_complete

abbrev pub shutdown_sent : Shown → ℕ → Shown
shutdown_sent a now =
    with_t2_started (record a { shutdown_due = (let due = a.shutdown_due in record due { shutdown = false }) }) now

abbrev pub shutdown_ack_sent : Shown → ℕ → Shown
shutdown_ack_sent a now =
    with_t2_started (record a { shutdown_due = (let due = a.shutdown_due in record due { shutdown_ack = false }) }) now
