-- What the events say of a stream.
use Rattle.std.specs.Prelude.{ℕ, Bool, false, ◌==◌}
use Rattle.sctp_wire_types.specs.declared.event.StreamEvent.{StreamEvent}
use Rattle.sctp_wire_types.specs.declared.event.StreamEvent.TheVariants as told
use Rattle.sctp_streams.specs.declared.event.Event.{Event}
use Rattle.sctp_streams.specs.declared.event.Event.TheVariants as events

-- it says that this stream was opened or can be read
abbrev pub says_of : ℕ → StreamEvent → Bool
says_of id (told.Opened i) = i == id
says_of id (told.Readable i) = i == id
says_of id (told.Writable i) = false
says_of id (told.Finished i) = false
says_of id (told.ResetComplete i) = false
says_of id (told.ResetFailed i reason) = false
says_of id (told.Stopped i code) = false
says_of id (told.BufferedAmountLow i) = false
says_of id (told.BufferedAmountHigh i) = false
says_of id told.Available = false

-- the event tells that this stream was opened or that it can be read
abbrev pub is_told_of : ℕ → Event → Bool
is_told_of id events.Connected = false
is_told_of id (events.HandshakeFailed reason) = false
is_told_of id (events.AssociationLost reason) = false
is_told_of id (events.Stream e) = says_of id e
is_told_of id (events.DataChannelStatsFinal stats) = false
is_told_of id events.DatagramReceived = false
