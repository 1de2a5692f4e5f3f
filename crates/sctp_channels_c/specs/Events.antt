-- The numbers of events of channels.
use Rattle.std.specs.Prelude.{◌≡◌, ℕ, Option, Some, None, Result, Ok, Err}
use Rattle.channel_table.specs.declared.error.ChannelError.{ChannelError}
use Rattle.sctp_channels.specs.declared.event.ChannelEvent.{ChannelEvent}
use Rattle.sctp_channels.specs.declared.event.ChannelEvent.TheVariants as events
use Rattle.sctp_slots.specs.Numbers.{reason_number}
use Rattle.sctp_channels_c.specs.Answers.{fault_code}
use Rattle.sctp_channels_c.specs.declared.events.Told.{Told}

abbrev pub event_with : ℕ → ℕ → ℕ → Told
event_with kind reason id = record { kind = kind; reason = reason; id = id }

abbrev pub told_of : ChannelEvent → Told
told_of events.Connected = event_with 1 0 0
told_of (events.Announced id) = event_with 2 0 id
told_of (events.Opened id) = event_with 3 0 id
told_of (events.Message id) = event_with 4 0 id
told_of (events.BufferedLow id) = event_with 5 0 id
told_of (events.Closed id) = event_with 6 0 id
told_of (events.Failed id) = event_with 7 0 id
told_of (events.Lost reason) = event_with 8 (reason_number reason) 0
told_of (events.HandshakeFailed reason) = event_with 9 (reason_number reason) 0

-- the code says whether an event waited, and it was written
abbrev pub Tells : Result (Option ChannelEvent) ChannelError → ℕ → Told → Told → Type 0
Tells (Ok (Some event)) code before after = (code ≡ 0) × (after ≡ told_of event)
Tells (Ok None) code before after = (code ≡ 3) × (after ≡ before)
Tells (Err fault) code before after = (code ≡ fault_code fault) × (after ≡ before)
