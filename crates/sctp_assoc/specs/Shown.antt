-- An association as its contracts see it.
use Rattle.std.specs.Prelude.{◌≡◌, ℕ, ◌+◌, ◌-◌, ◌^◌, Bool, true, List, Option, min}
use Rattle.std.specs.declared.net.ip_addr.IpAddr.{IpAddr}
use Rattle.std.specs.declared.net.socket_addr.SocketAddr.{SocketAddr}
use Rattle.sctp_wire_types.specs.declared.config.Profile.{Profile}
use Rattle.sctp_wire_types.specs.declared.error.Error.{Error}
use Rattle.sctp_wire_types.specs.declared.ids.Side.{Side}
use Rattle.sctp_parts.specs.declared.shared.EndpointEvent.{EndpointEvent}
use Rattle.sctp_parts.specs.declared.state.AssociationState.{AssociationState}
use Rattle.sctp_parts.specs.declared.timer.Timer.TheVariants as names
use Rattle.sctp_parts.specs.Timers.{Timers, with_stopped}
use Rattle.sctp_parts.specs.Estimate.{Estimate}
use Rattle.sctp_parts.specs.Stats.{Counts}
use Rattle.sctp_streams.specs.declared.event.Event.{Event}
use Rattle.sctp_receive_queues.specs.Pieces.{bytes_of}
use Rattle.sctp_streams.specs.Streams.{StreamMap, bytes_waiting}
use Rattle.sctp_inbound.specs.declared.handshake.Handshake.{Handshake}
use Rattle.sctp_inbound.specs.declared.receiver.Receiver.{Receiver}
use Rattle.sctp_outbound.specs.declared.sender.Sender.{Sender}
use Rattle.sctp_resets.specs.Resets.{ResetsView}
use Rattle.sctp_assoc.specs.declared.control.Control.{Control}
use Rattle.sctp_assoc.specs.declared.effects.Answers.{Answers}
use Rattle.sctp_assoc.specs.declared.shutdown.ShutdownDue.{ShutdownDue}

pub record Shown : Type 0 where
  pub side : Side
  pub remote_addr : SocketAddr
  pub local_ip : Option IpAddr
  pub state : AssociationState
  -- it was open, established or with its handshake under way, and was closed
  pub lost : Bool
  -- an earlier call found no memory in its middle
  pub failed : Bool
  pub max_send_message_size : ℕ
  -- the rules that it keeps where the port and the RFCs part
  pub profile : Profile
  pub handshake : Handshake
  pub receiver : Receiver
  pub sender : Sender
  pub streams : StreamMap
  -- the identifiers of streams that the peer's DATA or its FORWARD TSN made and that were not accepted yet, oldest
  -- first; such a stream may have ended since
  pub to_accept : List ℕ
  -- the events that nobody asked for yet, oldest first
  pub events : List Event
  -- that the handshake failed and nobody was told yet
  pub handshake_fault : Option Error
  -- what its endpoint is to be told and did not ask for yet
  pub endpoint_event : Option EndpointEvent
  -- what goes out before any DATA, oldest first: packets, and places of this side's requests to reset streams
  pub control : List Control
  -- the chunks of a graceful end that go out behind all others
  pub shutdown_due : ShutdownDue
  pub timers : Timers
  pub estimate : Estimate
  pub counts : Counts
  -- requests to reset streams, and the generations of streams that ended and are still read
  pub resets : ResetsView

-- the bytes that came and were not read, of all generations of streams, at most the greatest number of 64 bits
abbrev pub all_waiting : Shown → ℕ
all_waiting a = min (bytes_waiting a.streams + bytes_of a.resets.generations.deferred) (2 ^ 64 - 1)

-- messages may be skipped by FORWARD TSN: the peer lists it among its extensions, as this side does (RFC 3758
-- section 3.3)
abbrev pub uses_forward_tsn : Shown → Bool
uses_forward_tsn a = a.handshake.use_forward_tsn

-- the timers with each of them stopped
abbrev pub all_stopped : Timers → Timers
all_stopped t =
    with_stopped names.Ack (with_stopped names.Reconfig (with_stopped names.T3RTX
    (with_stopped names.T2Shutdown (with_stopped names.T1Cookie (with_stopped names.T1Init t)))))

-- what the questions about an association's state, its side, its addresses and its counts answer
abbrev pub answers_of : Shown → Answers
answers_of a = record {
  side = a.side;
  remote_addr = a.remote_addr;
  local_ip = a.local_ip;
  state = a.state;
  lost = a.lost;
  completed = a.handshake.completed;
  stats = a.counts;
}

-- a call found no memory in its middle: no timer runs on, and these questions answer what they answered before it
pub record HasFailed (before : Answers) (a : Shown) : Type 0 where
  pub marked : a.failed ≡ true
  pub answers : answers_of a ≡ before
  pub disarmed : a.timers ≡ all_stopped a.timers
