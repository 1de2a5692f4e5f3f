-- The numbers of events.
use Rattle.std.specs.Prelude.{◌≡◌, ℕ, Option, Some, None}
use Rattle.sctp_wire_types.specs.declared.event.StreamEvent.{StreamEvent}
use Rattle.sctp_wire_types.specs.declared.event.StreamEvent.TheVariants as happenings
use Rattle.sctp_wire_types.specs.declared.event.StreamResetError.{StreamResetError}
use Rattle.sctp_wire_types.specs.declared.event.StreamResetError.TheVariants as failures
use Rattle.sctp_streams.specs.declared.event.Event.{Event}
use Rattle.sctp_streams.specs.declared.event.Event.TheVariants as events
use Rattle.sctp_streams.specs.declared.stats.DataChannelStats.{DataChannelStats}
use Rattle.sctp_slots.specs.Numbers.{reason_number}
use Rattle.sctp_c.specs.declared.events.Counters.{Counters}
use Rattle.sctp_c.specs.declared.events.Told.{Told}

-- how the reset of a stream failed
abbrev pub failure_number : StreamResetError → ℕ
failure_number failures.Denied = 6
failure_number failures.Failed = 7

abbrev pub no_counters : Counters
no_counters = record { messages_sent = 0; bytes_sent = 0; messages_received = 0; bytes_received = 0 }

abbrev pub counters_of : DataChannelStats → Counters
counters_of s = record {
  messages_sent = s.messages_sent;
  bytes_sent = s.bytes_sent;
  messages_received = s.messages_received;
  bytes_received = s.bytes_received;
}

-- an event of this kind, for this reason and on this stream
abbrev pub event_with : ℕ → ℕ → ℕ → Told
event_with kind reason stream = record { kind = kind; reason = reason; stream = stream; counters = no_counters }

abbrev pub happening : StreamEvent → Told
happening (happenings.Opened id) = event_with 6 0 id
happening (happenings.Readable id) = event_with 7 0 id
happening (happenings.BufferedAmountLow id) = event_with 8 0 id
happening (happenings.BufferedAmountHigh id) = event_with 9 0 id
happening (happenings.Finished id) = event_with 10 0 id
happening (happenings.ResetComplete id) = event_with 11 0 id
happening (happenings.ResetFailed id reason) = event_with 12 (failure_number reason) id
happening other = event_with 13 0 0

abbrev pub told_of : Event → Told
told_of events.Connected = event_with 1 0 0
told_of (events.HandshakeFailed reason) = event_with 2 (reason_number reason) 0
told_of (events.AssociationLost reason) = event_with 3 (reason_number reason) 0
told_of events.DatagramReceived = event_with 4 0 0
told_of (events.DataChannelStatsFinal s) =
    record { kind = 5; reason = 0; stream = s.stream_identifier; counters = counters_of s }
told_of (events.Stream event) = happening event

-- the code says whether an event waited, and it was written
abbrev pub Tells : Option Event → ℕ → Told → Told → Type 0
Tells None code before after = (code ≡ 3) × (after ≡ before)
Tells (Some event) code before after = (code ≡ 0) × (after ≡ told_of event)
