-- One side over every list of calls: what each public call may do, and the runs that are made of them.
use Rattle.std.specs.Prelude.{◌≡◌, ◌⊎◌, ℕ, Bool, true, false, List, [], ◌∷◌, ◌++◌, length, is_some}
use Rattle.std.specs.Prelude.{Option, Some, None}
use Rattle.sctp_wire_types.specs.declared.error.Error.{Error}
use Rattle.sctp_wire_types.specs.declared.ids.PayloadProtocolIdentifier.{PayloadProtocolIdentifier}
use Rattle.sctp_wire.specs.declared.packet.Packet.{Packet}
use Rattle.sctp_parts.specs.declared.state.AckState.{AckState}
use Rattle.sctp_parts.specs.declared.state.AckState.TheVariants as acks
use Rattle.sctp_parts.specs.declared.timer.Timer.TheVariants as names
use Rattle.sctp_parts.specs.declared.timer.Timer.{Timer}
use Rattle.sctp_parts.specs.Timers.{Timers, moment_of}
use Rattle.sctp_streams.specs.declared.event.AssociationError.TheVariants as reasons
use Rattle.sctp_streams.specs.declared.event.Event.{Event}
use Rattle.sctp_streams.specs.declared.setting.Setting.TheVariants as settings
use Rattle.sctp_streams.specs.declared.setting.Setting.{Setting}
use Rattle.sctp_assoc.specs.Calls.{accepted_stream, adjusted, event_polled, failed_refusal, gone_refusal}
use Rattle.sctp_assoc.specs.Calls.{is_cookie_echoed, is_cookie_wait, open_refusal, opened, read_from_stream}
use Rattle.sctp_assoc.specs.Calls.{read_refusal, stop_refusal, stopped, with_max_send_message_size, write_refusal}
use Rattle.sctp_assoc.specs.Calls.{written}
use Rattle.sctp_assoc.specs.Closing.{closed_by}
use Rattle.sctp_assoc.specs.Chunks.{after_packet}
use Rattle.sctp_sides.specs.Laws.{losses}
use Rattle.sctp_assoc.specs.Gather.{polled}
use Rattle.sctp_assoc.specs.Shown.{HasFailed, Shown, answers_of}
use Rattle.sctp_assoc.specs.Shutdown.{endpoint_event_polled, nothing_due, shutdown_begun, shutdown_refusal}
use Rattle.sctp_parts.specs.State.{is_closing}
use Rattle.sctp_assoc.specs.Timeouts.{after_timeouts}

-- a timer runs
abbrev pub is_armed : Timer → Timers → Bool
is_armed timer t = is_some (moment_of timer t)

-- the acknowledgement of what came is put off for a time (RFC 4960 section 6.2)
abbrev pub is_delayed : AckState → Bool
is_delayed acks.Idle = false
is_delayed acks.Immediate = false
is_delayed acks.Delay = true

-- A call of the application, or of whoever carries its datagrams and its moments.
pub data Call : Type 0 where
  -- a stream of this identifier is to be opened, whose messages have this payload type
  OpenStream : ℕ → PayloadProtocolIdentifier → Call
  -- these bytes are to be sent on a stream, under the payload type that is named, or else the stream's
  Write : ℕ → Option PayloadProtocolIdentifier → List ℕ → Call
  -- this is to be set on a stream
  Set : ℕ → Setting → Call
  -- the oldest stream that the peer opened is asked for
  AcceptStream : Call
  -- writes are to take messages of up to so many bytes
  SetMaxSendMessageSize : ℕ → Call
  -- the association is to be ended once all that was accepted is acknowledged (RFC 4960 section 9.2)
  Shutdown : Call
  -- the association is to be closed
  Close : Call
  -- the next message of a stream is asked for
  Read : ℕ → Call
  -- the oldest event is asked for
  Poll : Call
  -- it is asked what the endpoint is to be told
  PollEndpointEvent : Call
  -- the packets that are due at this moment are asked for
  PollTransmit : ℕ → Call
  -- it is this moment
  HandleTimeout : ℕ → Call
  -- a datagram came at this moment; there is a packet where it spells one
  HandleEvent : Option Packet → ℕ → Call
  -- no more is to be read of a stream, and it is to be reset (RFC 6525 section 5.1)
  Stop : ℕ → Call
  -- nor is more to be written on it
  CloseStream : ℕ → Call

abbrev pub told_by : Option Event → List Event
told_by None = []
told_by (Some event) = event ∷ []

abbrev pub with_told : Shown × Option Event → Shown × List Event
with_told (a, event) = (a, told_by event)

-- what a call that is carried out leaves, and the events that it tells
abbrev pub carried_out : Call → Shown → Shown × List Event
carried_out (Call.OpenStream id kind) a = (opened a id kind, [])
carried_out (Call.Write id named bytes) a = (written a id named bytes, [])
carried_out (Call.Set id setting) a = (adjusted a id setting, [])
carried_out Call.AcceptStream a = ((accepted_stream a).0, [])
carried_out (Call.SetMaxSendMessageSize size) a = (with_max_send_message_size a size, [])
carried_out Call.Shutdown a = (shutdown_begun a, [])
carried_out Call.Close a = (closed_by a reasons.AssociationClosed, [])
carried_out (Call.Read id) a = ((read_from_stream a id).0, [])
carried_out Call.Poll a = with_told (event_polled a)
carried_out Call.PollEndpointEvent a = ((endpoint_event_polled a).0, [])
carried_out (Call.PollTransmit now) a = ((polled a now).0, [])
carried_out (Call.HandleTimeout now) a = (after_timeouts a now, [])
carried_out (Call.HandleEvent packet now) a = (after_packet a packet now, [])
carried_out (Call.Stop id) a = (stopped a id, [])
carried_out (Call.CloseStream id) a = (stopped (adjusted a id settings.WriteHalfClosed) id, [])

-- why a call is refused, want of memory aside: a failed association refuses each, but for the question for a stream
-- that the peer opened, of which it has none, that for what its endpoint is to be told, and a limit that is set,
-- which it leaves
abbrev pub call_refusal : Call → Shown → Option Error
call_refusal (Call.OpenStream id kind) a = open_refusal a id
call_refusal (Call.Write id named bytes) a = write_refusal a id (length bytes)
call_refusal (Call.Set id setting) a = gone_refusal a id
call_refusal Call.AcceptStream a = None
call_refusal (Call.SetMaxSendMessageSize size) a = None
call_refusal Call.Shutdown a = shutdown_refusal a
call_refusal Call.PollEndpointEvent a = None
call_refusal (Call.Read id) a = read_refusal a id
call_refusal (Call.Stop id) a = stop_refusal a id
call_refusal (Call.CloseStream id) a = stop_refusal a id
call_refusal call a = failed_refusal a

-- a call that may find no memory in its middle (a stop does only where the read half of the stream is open, a read only
-- where it closes or ends a generation; neither is asked here)
abbrev pub has_a_middle : Call → Bool
has_a_middle (Call.Read id) = true
has_a_middle Call.Close = true
has_a_middle (Call.PollTransmit now) = true
has_a_middle (Call.HandleTimeout now) = true
has_a_middle (Call.HandleEvent packet now) = true
has_a_middle (Call.Stop id) = true
has_a_middle (Call.CloseStream id) = true
has_a_middle call = false

-- a call that found no memory in its middle left b of the association a
abbrev pub FailsFrom : Shown → Shown → Type 0
FailsFrom a b = HasFailed (answers_of a) b

-- The call was carried out.
pub record IsCarriedOut (call : Call) (told : List Event) (a b : Shown) : Type 0 where
  pub accepted : call_refusal call a ≡ None
  pub there : carried_out call a ≡ (b, told)

-- The call was refused, by a rule or for want of memory: nothing changed.
pub record IsUnchanged (told : List Event) (a b : Shown) : Type 0 where
  pub same : b ≡ a
  pub silent : told ≡ []

-- Memory was refused in the middle of the call: the association failed.
pub record FailsInside (call : Call) (told : List Event) (a b : Shown) : Type 0 where
  pub working : a.failed ≡ false
  pub middle : has_a_middle call ≡ true
  pub failed : FailsFrom a b
  pub silent : told ≡ []

-- This call led from a to b, and told these events.
abbrev pub Calls : Call → List Event → Shown → Shown → Type 0
Calls call told a b = IsCarriedOut call told a b ⊎ (IsUnchanged told a b ⊎ FailsInside call told a b)

-- The first call of more led to an association from which the others lead on.
pub record RunsOn (call : Call) (Others : List Event → Shown → Type 0) (told : List Event) (a : Shown) : Type 0 where
  pub middle : Shown
  pub first : List Event
  pub later : List Event
  pub called : Calls call first a middle
  pub others : Others later middle
  pub in_order : told ≡ first ++ later

-- These calls, in order, led from a to b, and told these events.
abbrev pub IsRun : List Call → List Event → Shown → Shown → Type 0
IsRun [] told a b = IsUnchanged told a b
IsRun (call ∷ calls) told a b = RunsOn call (λ later c. IsRun calls later c b) told a

-- An association as a constructor leaves it: it works, no loss waits to be told, no DATA was sent and T3-rtx does not
-- run; the timer of INIT runs in CookieWait alone, that of COOKIE ECHO in CookieEchoed alone (RFC 4960 section 5.1),
-- and that of an acknowledgement where one is delayed. No shutdown began.
pub record IsFresh (a : Shown) : Type 0 where
  pub working : a.failed ≡ false
  pub not_lost : a.lost ≡ false
  pub untold : losses a.events ≡ 0
  pub unsent : a.sender.queue.in_flight ≡ []
  pub retransmission : is_armed names.T3RTX a.timers ≡ false
  pub init : is_armed names.T1Init a.timers ≡ is_cookie_wait a.state
  pub cookie : is_armed names.T1Cookie a.timers ≡ is_cookie_echoed a.state
  pub acknowledgement : is_armed names.Ack a.timers ≡ is_delayed a.receiver.ack_state
  pub in_use : is_closing a.state ≡ false
  pub no_shutdown : a.shutdown_due ≡ nothing_due
  pub answer : is_armed names.T2Shutdown a.timers ≡ false
