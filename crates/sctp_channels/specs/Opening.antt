-- Channels are opened and closed.
use Rattle.std.specs.Prelude.{◌≡◌, ◌⊎◌, ℕ, Bool, true, if◌then◌else◌, List, [], ◌∷◌, ◌++◌}
use Rattle.std.specs.Prelude.{Option, Some, None, Result, Ok, Err}
use Rattle.std.specs.BTreeMap.{insert_entry, is_at}
use Rattle.std.specs.Map.{remove_entry}
use Rattle.std.specs.Ordering.{nat_cmp}
use Rattle.sctp_wire_types.specs.declared.error.Error.TheVariants as errors
use Rattle.dcep_messages.specs.Codec.{is_too_long, open_bytes}
use Rattle.sctp_assoc.specs.Calls.{RefusesOrLacksMemory, is_established}
use Rattle.sctp_driver.specs.Driving.{Driving}
use Rattle.sctp_driver.specs.Streams.{refusal_to_stop, stream_closed, with_stopped}
use Rattle.channel_table.specs.declared.channel.Stage.{Stage}
use Rattle.channel_table.specs.declared.channel.Stage.TheVariants as stages
use Rattle.channel_table.specs.declared.error.ChannelError.{ChannelError}
use Rattle.channel_table.specs.declared.error.ChannelError.TheVariants as faults
use Rattle.channel_table.specs.declared.kind.ChannelKind.{ChannelKind}
use Rattle.channel_table.specs.Channels.{ChannelView, opened}
use Rattle.channel_table.specs.Tables.{Chooses, at_stage, stage_at}
use Rattle.sctp_channels.specs.Channels.{ChannelsView, with_table}

-- the OPEN of a channel of this kind, label and protocol
abbrev pub open_of : ChannelKind → List ℕ → List ℕ → List ℕ
open_of kind label protocol = open_bytes kind.ordered kind.persistence kind.priority label protocol

-- A channel joins those of its side. In an established association its stream is to be looked at after those that are
-- already, and else it waits for the association.
abbrev pub placed : Bool → ChannelsView → ℕ → ChannelView → ChannelsView
placed established c id channel =
    if established
    then record c { table = insert_entry nat_cmp c.table id channel; due = c.due ++ id ∷ [] }
    else record c { table = insert_entry nat_cmp c.table id channel; waiting = c.waiting ++ id ∷ [] }

-- a new channel, of which nothing was sent
abbrev pub with_opened : Bool → ChannelsView → ℕ → List ℕ → Bool → ChannelsView
with_opened established c id message negotiated = placed established c id (opened message negotiated)

-- the association of a driver is established
abbrev pub established : Driving → Bool
established d = is_established d.association.state

-- on how many streams this side may send: as many as both sides agreed on, and before that as many as this one offers
abbrev pub outbound : Driving → ℕ
outbound d = d.association.handshake.num_outbound_streams

-- why an association takes no more channels, if so: it failed, or was lost
abbrev pub end_refusal : Driving → Option ChannelError
end_refusal d =
    if d.association.failed then Some (faults.Beneath errors.ErrAssociationFailed) else
    if d.association.lost then Some faults.Lost else None

-- why a channel is not opened: its words are too long, the association is over, no identifier serves, or memory is
-- refused
abbrev pub RefusesOpen : ChannelsView → Driving → ChannelKind → List ℕ → List ℕ → ChannelError → Type 0
RefusesOpen c d kind label protocol e =
    ((is_too_long label protocol ≡ true) × (e ≡ faults.LabelTooLong))
    ⊎ ((end_refusal d ≡ Some e)
    ⊎ (Chooses c.table c.role (outbound d) kind.negotiated (Err e) ⊎ (e ≡ faults.Beneath errors.ErrNoMemory)))

-- a stream of a channel is reset, or the driver refuses that
abbrev pub Resets : ℕ → Driving → ChannelsView → Result (Unit {0}) ChannelError → Driving → ChannelsView → Type 0
Resets id d c (Ok answer) e f =
    (refusal_to_stop d.association id ≡ None) × (e ≡ with_stopped d id (stream_closed d.association id))
    × (f ≡ with_table c (at_stage c.table id stages.Closing))
Resets id d c (Err (faults.Beneath error)) e f =
    RefusesOrLacksMemory {T = Unit {0}} (Err error) (refusal_to_stop d.association id) × (f ≡ c)
Resets id d c (Err _) e f = ⊥

abbrev pub ClosesAt : Option Stage → ℕ → Driving → ChannelsView → Result (Unit {0}) ChannelError → Driving
    → ChannelsView → Type 0
ClosesAt None id d c r e f = (r ≡ Err faults.NoChannel) × (e ≡ d) × (f ≡ c)
ClosesAt (Some stages.Waiting) id d c r e f =
    (r ≡ Ok tt) × (e ≡ d) × (f ≡ with_table c (remove_entry (is_at (nat_cmp id)) c.table))
ClosesAt (Some stages.Closing) id d c r e f = (r ≡ Ok tt) × (e ≡ d) × (f ≡ c)
ClosesAt (Some stages.Begun) id d c r e f = Resets id d c r e f
ClosesAt (Some stages.Announcing) id d c r e f = Resets id d c r e f
ClosesAt (Some stages.Open) id d c r e f = Resets id d c r e f

-- A channel is closed: one whose OPEN was not written is gone, one that ends goes on to, and else its stream is reset
-- and it ends.
abbrev pub Closes : ℕ → Driving → ChannelsView → Result (Unit {0}) ChannelError → Driving → ChannelsView → Type 0
Closes id d c r e f = ClosesAt (stage_at c.table id) id d c r e f
