-- What is done for a channel when something came for it.
use Rattle.std.specs.Prelude.{◌≡◌, ◌≢◌, ◌⊎◌, ℕ, Bool, true, false, not, List, [], Some, None}
use Rattle.std.specs.Prelude.{Result, Ok, Err}
use Rattle.sctp_wire_types.specs.declared.error.Error.{Error}
use Rattle.sctp_wire_types.specs.declared.error.Error.TheVariants.{ErrNoMemory, ErrAssociationFailed}
use Rattle.sctp_wire_types.specs.declared.error.Error.TheVariants.{ErrStreamClosed, ErrStreamNotExisted}
use Rattle.sctp_wire_types.specs.declared.error.Error.TheVariants.{ErrStreamResetPending}
use Rattle.sctp_wire_types.specs.declared.ids.PayloadProtocolIdentifier.TheVariants as kinds
use Rattle.sctp_streams.specs.Stream.{params_of}
use Rattle.sctp_streams.specs.declared.setting.Setting.TheVariants as settings
use Rattle.sctp_assoc.specs.Calls.{RefusesOrLacksMemory, adjusted, opened, refusal_to_write, written}
use Rattle.sctp_driver.specs.Driving.{Driving, with_association}
use Rattle.dcep_messages.specs.Codec.{ack_bytes, ordered_in, persistence_in}
use Rattle.channel_table.specs.declared.channel.Stage.TheVariants as stages
use Rattle.channel_table.specs.Channels.{ChannelView}
use Rattle.channel_table.specs.Kinds.{reliability_type, reliability_value}
use Rattle.channel_table.specs.Tables.{Keeps, KeepsOrEnds, channel_at, has_ended, is_taken, stage_at}
use Rattle.sctp_channels.specs.declared.event.ChannelEvent.{ChannelEvent}
use Rattle.sctp_channels.specs.declared.event.ChannelEvent.TheVariants as told
use Rattle.sctp_channels.specs.declared.looking.Looked.{Looked}
use Rattle.sctp_channels.specs.declared.looking.Looked.TheVariants as looks

-- a stream sends what is written from now on in order or not, and as often or as long as its channel says
abbrev pub with_sending : Driving → ℕ → Bool → ChannelView → Driving
with_sending d id unordered c =
    with_association d (adjusted d.association id (settings.Reliability (params_of unordered
    (reliability_type (persistence_in c.open_message)) (reliability_value (persistence_in c.open_message)))))

-- a DCEP message is written on a stream
abbrev pub with_dcep : Driving → ℕ → List ℕ → Driving
with_dcep d id message = with_association d (written d.association id (Some kinds.Dcep) message)

-- this side's stream is made
abbrev pub with_stream : Driving → ℕ → Driving
with_stream d id = with_association d (opened d.association id kinds.Binary)

-- A channel begins on a stream that is there. One that is negotiated sends as it says. Else its OPEN is written, and
-- what is written then goes in order, for the peer has to read the OPEN first (RFC 8832 section 6).
abbrev pub begun : Bool → Driving → ℕ → ChannelView → Driving
begun true d id c = with_sending d id (not (ordered_in c.open_message)) c
begun false d id c = with_sending (with_dcep d id c.open_message) id false c

-- its stream is made first, unless the peer made it
abbrev pub Begins : Driving → ℕ → ChannelView → Driving → Type 0
Begins d id c e = (e ≡ begun c.negotiated d id c) ⊎ (e ≡ begun c.negotiated (with_stream d id) id c)

-- the peer's channel is acknowledged, and sends as it says
abbrev pub acknowledged : Driving → ℕ → ChannelView → Driving
acknowledged d id c = with_sending (with_dcep d id ack_bytes) id (not (ordered_in c.open_message)) c

-- a call may be made again, or the association failed
abbrev pub may_pass : Error → Bool
may_pass ErrNoMemory = true
may_pass ErrAssociationFailed = true
may_pass _ = false

-- a stream is gone or ends at this side, which is told by itself
abbrev pub names_stream : Error → Bool
names_stream ErrStreamNotExisted = true
names_stream ErrStreamClosed = true
names_stream ErrStreamResetPending = true
names_stream _ = false

-- a channel goes on by what was done at its stream
abbrev pub goes_on : Result (Unit {0}) Error → Bool
goes_on (Ok answer) = true
goes_on (Err error) = names_stream error

-- why the ACK was not written, with nothing changed; or it was, and its stream refused the rest
abbrev pub Unacknowledged : Driving → ℕ → Error → Driving → Type 0
Unacknowledged d id error e =
    (RefusesOrLacksMemory {T = ℕ} (Err error) (refusal_to_write d.association id 1) × (e ≡ d))
    ⊎ (e ≡ with_dcep d id ack_bytes)

-- The peer's channel is announced: its ACK was written, or its stream is gone or ends, so that none can be.
abbrev pub Announces : Driving → ℕ → ChannelView → Driving → Type 0
Announces d id c e =
    (e ≡ acknowledged d id c) ⊎ ((e ≡ with_dcep d id ack_bytes)
    ⊎ ((error : Error) × (names_stream error ≡ true) × (refusal_to_write d.association id 1 ≡ Some error) × (e ≡ d)))

-- where this tells that a channel of these is announced, it was acknowledged so
abbrev pub AcksBy : ChannelEvent → Driving → List (ℕ × ChannelView) → Driving → Type 0
AcksBy (told.Announced id) d t e = (c : ChannelView) × (channel_at t id ≡ Some c) × Announces d id c e
AcksBy _ d t e = Unit {0}

-- the same of a look
abbrev pub Acks : Driving → List (ℕ × ChannelView) → Looked → Driving → Type 0
Acks d t (looks.Tells event) e = AcksBy event d t e
Acks d t (looks.Ends event) e = AcksBy event d t e
Acks d t _ e = Unit {0}

-- A channel that is told as announced was acknowledged just before: nothing was done to the driver since.
abbrev pub IsAcknowledged : ChannelEvent → List (ℕ × ChannelView) → Driving → Type 0
IsAcknowledged event u e =
    (d : Driving) × (t : List (ℕ × ChannelView)) × KeepsOrEnds t u × AcksBy event d t e

-- no channel is told as announced
abbrev pub IsNoBeginning : ChannelEvent → Type 0
IsNoBeginning (told.Announced id) = ⊥
IsNoBeginning _ = Unit {0}

-- the same of a look
abbrev pub AnnouncesNone : Looked → Type 0
AnnouncesNone (looks.Tells event) = IsNoBeginning event
AnnouncesNone (looks.Ends event) = IsNoBeginning event
AnnouncesNone _ = Unit {0}

-- what an event tells is so
abbrev pub IsTold : ChannelEvent → List (ℕ × ChannelView) → Type 0
IsTold told.Connected t = Unit {0}
IsTold (told.Announced id) t = stage_at t id ≡ Some stages.Open
IsTold (told.Opened id) t = stage_at t id ≡ Some stages.Open
IsTold (told.Message id) t = stage_at t id ≡ Some stages.Open
IsTold (told.BufferedLow id) t = is_taken t id ≡ true
IsTold (told.Closed id) t = has_ended (stage_at t id) ≡ true
IsTold (told.Failed id) t = stage_at t id ≡ None
IsTold (told.Lost reason) t = t ≡ []
IsTold (told.HandshakeFailed reason) t = t ≡ []

-- no channel is told as closed
abbrev pub IsNoEnd : ChannelEvent → Type 0
IsNoEnd event = (id : ℕ) → event ≢ told.Closed id

-- what a look at a channel gave and left of the channels
abbrev pub Looks : List (ℕ × ChannelView) → Looked → List (ℕ × ChannelView) → Type 0
Looks t looks.Done u = u ≡ t
Looks t looks.Again u = Keeps t u
Looks t (looks.Tells event) u = Keeps t u × IsTold event u × IsNoEnd event
Looks t (looks.Ends event) u = KeepsOrEnds t u × IsTold event u × IsNoEnd event
