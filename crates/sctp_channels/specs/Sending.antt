-- Messages of an application.
use Rattle.std.specs.Prelude.{◌≡◌, ℕ, Bool, true, false, if◌then◌else◌, List, length}
use Rattle.std.specs.Prelude.{Option, Some, None, Result, Ok, Err}
use Rattle.sctp_wire_types.specs.declared.ids.PayloadProtocolIdentifier.{PayloadProtocolIdentifier}
use Rattle.sctp_assoc.specs.Calls.{RefusesOrLacksMemory, refusal_to_write, written}
use Rattle.sctp_driver.specs.Driving.{Driving, with_association}
use Rattle.channel_table.specs.declared.error.ChannelError.{ChannelError}
use Rattle.channel_table.specs.declared.error.ChannelError.TheVariants as faults
use Rattle.channel_table.specs.Channels.{ChannelView, may_send}
use Rattle.channel_table.specs.Payloads.{payload}
use Rattle.channel_table.specs.Tables.{channel_at}
use Rattle.sctp_channels.specs.Channels.{ChannelsView}

-- one message is written on a stream, or the driver refuses that and stays as it is
abbrev pub Writes : ℕ → PayloadProtocolIdentifier → List ℕ → Driving → Result (Unit {0}) ChannelError → Driving → Type 0
Writes id kind bytes d (Ok answer) e =
    (refusal_to_write d.association id (length bytes) ≡ None)
    × (e ≡ with_association d (written d.association id (Some kind) bytes))
Writes id kind bytes d (Err (faults.Beneath error)) e =
    RefusesOrLacksMemory {T = ℕ} (Err error) (refusal_to_write d.association id (length bytes)) × (e ≡ d)
Writes id kind bytes d (Err _) e = ⊥

abbrev pub SendsWhere : Bool → ℕ → PayloadProtocolIdentifier → List ℕ → Driving → Result (Unit {0}) ChannelError
    → Driving → Type 0
SendsWhere true id kind bytes d r e = Writes id kind (payload bytes) d r e
SendsWhere false id kind bytes d r e = (r ≡ Err faults.NotOpen) × (e ≡ d)

abbrev pub SendsAt : Option ChannelView → ℕ → PayloadProtocolIdentifier → List ℕ → Driving
    → Result (Unit {0}) ChannelError → Driving → Type 0
SendsAt None id kind bytes d r e = (r ≡ Err faults.NoChannel) × (e ≡ d)
SendsAt (Some c) id kind bytes d r e = SendsWhere (may_send c.stage) id kind bytes d r e

-- why nothing is sent on a channel, if so
abbrev pub send_check : Option ChannelView → Result (Unit {0}) ChannelError
send_check None = Err faults.NoChannel
send_check (Some c) = if may_send c.stage then Ok tt else Err faults.NotOpen

-- A message is sent on a channel under this payload type: it is written, whole, an empty one as a byte 0. Without such
-- a channel, or where its OPEN was not written or it ends, nothing happens.
abbrev pub Sends : ℕ → PayloadProtocolIdentifier → List ℕ → ChannelsView → Driving → Result (Unit {0}) ChannelError
    → Driving → Type 0
Sends id kind bytes c d r e = SendsAt (channel_at c.table id) id kind bytes d r e
