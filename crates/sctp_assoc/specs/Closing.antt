-- How an association closes: by a fault, by its application, or since nothing that waits in its receive buffer can ever
-- be read.
use Rattle.std.specs.Prelude.{Bool, true, false, [], ◌∷◌, ◌++◌, ◌&&◌, ◌==◌, if◌then◌else◌, not, map}
use Rattle.std.specs.Prelude.{◌-◌, length, nat_lt, slice_get, Option, Some, None}
use Rattle.sctp_wire_types.specs.declared.chunk.Chunk.{Chunk}
use Rattle.sctp_wire_types.specs.declared.chunk.Chunk.TheVariants as chunks
use Rattle.sctp_parts.specs.declared.state.AssociationState.{AssociationState}
use Rattle.sctp_parts.specs.declared.state.AssociationState.TheVariants as states
use Rattle.sctp_streams.specs.declared.event.AssociationError.{AssociationError}
use Rattle.sctp_streams.specs.declared.event.AssociationError.TheVariants as reasons
use Rattle.sctp_streams.specs.declared.event.Event.{Event}
use Rattle.sctp_streams.specs.declared.event.Event.TheVariants.{AssociationLost, DataChannelStatsFinal}
use Rattle.sctp_streams.specs.Streams.{last_stats, some_gives_messages, without_streams}
use Rattle.sctp_inbound.specs.Held.{has_gap}
use Rattle.sctp_inbound.specs.Receiver.{credit_of}
use Rattle.sctp_resets.specs.Resets.{all_closed}
use Rattle.sctp_assoc.specs.Control.{queued}
use Rattle.sctp_assoc.specs.Shown.{Shown, all_stopped, all_waiting}

abbrev pub is_closed_state : AssociationState → Bool
is_closed_state states.Closed = true
is_closed_state states.CookieWait = false
is_closed_state states.CookieEchoed = false
is_closed_state states.Established = false
is_closed_state states.ShutdownAckSent = false
is_closed_state states.ShutdownPending = false
is_closed_state states.ShutdownReceived = false
is_closed_state states.ShutdownSent = false

abbrev pub closed_open : Shown → AssociationError → Shown
closed_open a reason = record a {
  state = states.Closed;
  lost = true;
  timers = all_stopped a.timers;
  streams = without_streams a.streams;
  control = [];
  resets = all_closed a.resets;
  events = a.events ++ map DataChannelStatsFinal (last_stats a.streams) ++ AssociationLost reason ∷ [];
}

-- an open association was closed: no timer runs on, no packet waits to go out, each live stream gives its last
-- counters, and the loss is the last of the queued events (a fault of the handshake that nobody was told yet is told
-- behind them); a closed one stays as it is
abbrev pub closed_by : Shown → AssociationError → Shown
closed_by a reason = if is_closed_state a.state then a else closed_open a reason

-- Nothing that waits in the receive buffer can be read, and nothing more can come: bytes wait and leave no credit, no
-- TSN is held past a gap, and of no stream whose read half is open a message is ready.
abbrev pub is_exhausted : Shown → Bool
is_exhausted a =
    (credit_of a.receiver (all_waiting a) == 0) && not (has_gap a.receiver.held)
    && nat_lt 0 (all_waiting a) && not (some_gives_messages a.streams)

-- an ABORT with the cause Out of Resource (RFC 4960 section 3.3.10.4)
abbrev pub out_of_resource : Chunk
out_of_resource = chunks.Abort (record { error_causes = record { code = 4; value = [] } ∷ [] })

-- an exhausted receive buffer closes an open association, and the peer is told in any state
abbrev pub exhausted : Shown → Shown
exhausted a = queued (closed_by a reasons.ReceiveBufferExhausted) out_of_resource

-- the same where the receive buffer is exhausted
abbrev pub relieved : Shown → Shown
relieved a = if is_exhausted a then exhausted a else a

-- the event tells that the receive buffer was exhausted
abbrev pub is_exhaustion : Event → Bool
is_exhaustion (AssociationLost reasons.ReceiveBufferExhausted) = true
is_exhaustion event = false

abbrev pub is_exhaustion_at : Option Event → Bool
is_exhaustion_at None = false
is_exhaustion_at (Some event) = is_exhaustion event

-- that is the newest of the events that wait
abbrev pub tells_exhaustion : Shown → Bool
tells_exhaustion a = is_exhaustion_at (slice_get a.events (length a.events - 1))
