-- What the calls of a channel at one side do to the side's seat, by which deeds, and what they reply.
use Rattle.std.specs.Prelude.{◌≡◌, ℕ, ◌==◌, ◌||◌, Bool, true, false, if◌then◌else◌, List, [], Some, None, Ok, Err}
use Rattle.sctp_wire_types.specs.Errors.{refusal_number}
use Rattle.sctp_wire_types.specs.declared.error.Error.TheVariants as errors
use Rattle.dcep_channel.specs.declared.error.ChannelError.{ChannelError}
use Rattle.dcep_channel.specs.declared.error.ChannelError.TheVariants as faults
use Rattle.dcep_channel.specs.Channels.{AcceptsBy, AcknowledgesBy, BeginsBy, ReceivesBy, SendsBy}
use Rattle.dcep_channel.specs.Deeds.{Deed}
use Rattle.channel_pair.specs.declared.seat.Seat.{Seat}
use Rattle.channel_pair.specs.declared.seat.Seat.TheVariants as seats
use Rattle.channel_pair.specs.declared.step.ChannelReply.{ChannelReply}
use Rattle.channel_pair.specs.declared.step.ChannelReply.TheVariants as replies

-- a is what the seat was, b what it is then, and ds are the deeds of the call

-- why no channel is opened at a spoiled seat, of an association that failed or not
abbrev pub spoiled_refusal : Bool → ChannelError
spoiled_refusal true = faults.Beneath (refusal_number errors.ErrAssociationFailed)
spoiled_refusal false = faults.Beneath (refusal_number errors.ErrStreamAlreadyExist)

abbrev pub OpensAt : Bool → ℕ → List ℕ → List ℕ → Seat → List Deed → ChannelReply → Seat → Type 0
OpensAt failed priority label protocol (seats.Vacant false) ds replies.Opened (seats.Taken c) =
    BeginsBy priority label protocol ds (Ok c)
OpensAt failed priority label protocol (seats.Vacant false) ds (replies.Refused e) b =
    BeginsBy priority label protocol ds (Err e) × (b ≡ seats.Vacant false)
OpensAt failed priority label protocol (seats.Vacant true) ds r b =
    (ds ≡ []) × (r ≡ replies.Refused (spoiled_refusal failed)) × (b ≡ seats.Vacant true)
OpensAt failed priority label protocol (seats.Taken c) ds r b =
    (ds ≡ []) × (r ≡ replies.NotHere) × (b ≡ seats.Taken c)
OpensAt failed priority label protocol a ds r b = ⊥

-- a call of `accept` that is refused so may have read a message; of want of memory it is not known
abbrev pub is_spoiling : ChannelError → Bool
is_spoiling (faults.Beneath n) = n == 4
is_spoiling e = true

abbrev pub AcceptsAt : Seat → List Deed → ChannelReply → Seat → Type 0
AcceptsAt (seats.Taken c) ds r b = (ds ≡ []) × (r ≡ replies.NotHere) × (b ≡ seats.Taken c)
AcceptsAt (seats.Vacant spoiled) ds (replies.Accepted true) (seats.Taken c) = AcceptsBy ds (Ok (Some c))
AcceptsAt (seats.Vacant spoiled) ds (replies.Accepted false) b = AcceptsBy ds (Ok None) × (b ≡ seats.Vacant spoiled)
AcceptsAt (seats.Vacant spoiled) ds (replies.Refused e) b =
    AcceptsBy ds (Err e) × (b ≡ seats.Vacant (spoiled || is_spoiling e))
AcceptsAt a ds r b = ⊥

abbrev pub AcknowledgesAt : Seat → List Deed → ChannelReply → Seat → Type 0
AcknowledgesAt (seats.Vacant spoiled) ds r b = (ds ≡ []) × (r ≡ replies.NotHere) × (b ≡ seats.Vacant spoiled)
AcknowledgesAt (seats.Taken c) ds replies.Acknowledged (seats.Taken after) = AcknowledgesBy c ds (Ok tt) after
AcknowledgesAt (seats.Taken c) ds (replies.Refused e) (seats.Taken after) = AcknowledgesBy c ds (Err e) after
AcknowledgesAt a ds r b = ⊥

abbrev pub SendsAt : List ℕ → Seat → List Deed → ChannelReply → Seat → Type 0
SendsAt bytes (seats.Vacant spoiled) ds r b = (ds ≡ []) × (r ≡ replies.NotHere) × (b ≡ seats.Vacant spoiled)
SendsAt bytes (seats.Taken c) ds (replies.Sent n) b = SendsBy c bytes ds (Ok n) × (b ≡ seats.Taken c)
SendsAt bytes (seats.Taken c) ds (replies.Refused e) b = SendsBy c bytes ds (Err e) × (b ≡ seats.Taken c)
SendsAt bytes a ds r b = ⊥

abbrev pub ReceivesAt : Seat → List Deed → ChannelReply → Seat → Type 0
ReceivesAt (seats.Vacant spoiled) ds r b = (ds ≡ []) × (r ≡ replies.NotHere) × (b ≡ seats.Vacant spoiled)
ReceivesAt (seats.Taken c) ds (replies.Received message) (seats.Taken after) = ReceivesBy c ds (Ok message) after
ReceivesAt (seats.Taken c) ds (replies.Refused e) (seats.Taken after) = ReceivesBy c ds (Err e) after
ReceivesAt a ds r b = ⊥
