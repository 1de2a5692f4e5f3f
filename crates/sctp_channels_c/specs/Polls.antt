-- What calls of channels do whose contracts have several clauses, in one.
use Rattle.std.specs.Prelude.{◌≡◌, ◌⊎◌, ℕ, true, false, List, [], is_some, Option, Some, None, Result, Ok, Err}
use Rattle.std.specs.Prelude.{IfSome}
use Rattle.sctp_wire_types.specs.declared.error.Error.TheVariants as errors
use Rattle.sctp_driver.specs.Driving.{Driving}
use Rattle.dcep_messages.specs.Codec.{is_too_long}
use Rattle.channel_table.specs.declared.error.ChannelError.{ChannelError}
use Rattle.channel_table.specs.declared.error.ChannelError.TheVariants as faults
use Rattle.channel_table.specs.declared.kind.ChannelKind.{ChannelKind}
use Rattle.channel_table.specs.Tables.{Chooses, KeepsOrEnds}
use Rattle.sctp_channels.specs.declared.event.ChannelEvent.{ChannelEvent}
use Rattle.sctp_channels.specs.Channels.{ChannelsView}
use Rattle.sctp_channels.specs.Looking.{IsAcknowledged, IsTold}
use Rattle.sctp_channels.specs.Opening.{RefusesOpen, end_refusal, established, open_of, outbound, with_opened}
use Rattle.sctp_channels.specs.Polling.{IsIdle}

-- a channel is made of this kind, label and protocol, or refused with nothing changed
abbrev pub Opens : ChannelKind → List ℕ → List ℕ → ChannelsView → Driving → Result ℕ ChannelError → ChannelsView
    → Type 0
Opens kind label protocol c d (Ok id) f =
    (is_too_long label protocol ≡ false) × (end_refusal d ≡ None)
    × Chooses c.table c.role (outbound d) kind.negotiated (Ok id)
    × (f ≡ with_opened (established d) c id (open_of kind label protocol) (is_some kind.negotiated))
Opens kind label protocol c d (Err fault) f =
    (is_too_long label protocol ≡ true → fault ≡ faults.LabelTooLong)
    × IfSome (end_refusal d) (λ e. is_too_long label protocol ≡ false → fault ≡ e)
    × RefusesOpen c d kind label protocol fault × (f ≡ c)

-- What a poll for events gave is so, and a channel that is announced was acknowledged. Where no event waits no stream
-- is to be looked at, nor does an event wait at the driver.
abbrev pub Finds : Result (Option ChannelEvent) ChannelError → ChannelsView → Driving → Type 0
Finds (Ok (Some event)) f e = IsTold event f.table × IsAcknowledged event f.table e
Finds (Ok None) f e = (f.due ≡ []) × IsIdle e
Finds (Err fault) f e =
    (fault ≡ faults.Beneath errors.ErrNoMemory) ⊎ (fault ≡ faults.Beneath errors.ErrAssociationFailed)

-- each channel stays what it is, or is gone
abbrev pub Polls : Result (Option ChannelEvent) ChannelError → ChannelsView → ChannelsView → Driving → Type 0
Polls answer c f e = Finds answer f e × KeepsOrEnds c.table f.table × (f.role ≡ c.role)
