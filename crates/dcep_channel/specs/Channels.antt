-- What each call of a channel does, as deeds of its port, what it answers, and what channel it leaves.
use Rattle.std.specs.Prelude.{◌≡◌, ◌⊎◌, ℕ, ◌&&◌, ◌||◌, Bool, true, false, not, if◌then◌else◌, List, [], ◌∷◌}
use Rattle.std.specs.Prelude.{Option, Some, None, Result, Ok, Err}
use Rattle.sctp_wire_types.specs.declared.ids.PayloadProtocolIdentifier.{PayloadProtocolIdentifier}
use Rattle.sctp_wire_types.specs.declared.ids.PayloadProtocolIdentifier.TheVariants as kinds
use Rattle.sctp_receive_queues.specs.Messages.{ReceivedMessage, bytes_left}
use Rattle.dcep_channel.specs.declared.error.ChannelError.{ChannelError}
use Rattle.dcep_channel.specs.declared.error.ChannelError.TheVariants as faults
use Rattle.dcep_channel.specs.Codec.{ack_bytes, is_ack, is_too_long, open_bytes, open_refusal}
use Rattle.dcep_channel.specs.Deeds.{Deed}

-- A channel: whether this side opened it, whether its OPEN was acknowledged (an ACK came to the opener, or the accepter
-- wrote it), whether it failed, and the OPEN.
pub record ChannelState : Type 0 where
  pub is_opener : Bool
  pub acknowledged : Bool
  pub failed : Bool
  pub open_message : List ℕ

-- the channel of the side that wrote this OPEN
abbrev pub opener : List ℕ → ChannelState
opener message = record { is_opener = true; acknowledged = false; failed = false; open_message = message }

-- the channel of the side that read this OPEN
abbrev pub accepter : List ℕ → ChannelState
accepter message = record { is_opener = false; acknowledged = false; failed = false; open_message = message }

abbrev pub with_acknowledgement : ChannelState → ChannelState
with_acknowledgement c = record c { acknowledged = true }

abbrev pub with_failure : ChannelState → ChannelState
with_failure c = record c { failed = true }

-- this side opened the channel or acknowledged it
abbrev pub may_send : ChannelState → Bool
may_send c = c.is_opener || c.acknowledged

-- the answer of a call beneath, as the channel's
abbrev pub from_beneath : {A : Type 0} → Result A ℕ → Result A ChannelError
from_beneath (Ok answer) = Ok answer
from_beneath (Err fault) = Err (faults.Beneath fault)

abbrev pub is_dcep : PayloadProtocolIdentifier → Bool
is_dcep kinds.Dcep = true
is_dcep kinds.String = false
is_dcep kinds.Binary = false
is_dcep kinds.StringEmpty = false
is_dcep kinds.BinaryEmpty = false
is_dcep kinds.Unknown = false

abbrev pub is_binary : PayloadProtocolIdentifier → Bool
is_binary kinds.Dcep = false
is_binary kinds.String = false
is_binary kinds.Binary = true
is_binary kinds.StringEmpty = false
is_binary kinds.BinaryEmpty = false
is_binary kinds.Unknown = false

-- the answer of a write, without its length
abbrev pub without_length : Result ℕ ℕ → Result (Unit {0}) ChannelError
without_length (Ok n) = Ok tt
without_length (Err fault) = Err (faults.Beneath fault)

-- the last deed of a call: a DCEP message is written, or the write is refused
abbrev pub WritesDcep : List ℕ → List Deed → Result (Unit {0}) ChannelError → Type 0
WritesDcep message (Deed.Wrote kind bytes answer ∷ ds) r =
    (kind ≡ kinds.Dcep) × (bytes ≡ message) × (ds ≡ []) × (r ≡ without_length answer)
WritesDcep message _ r = ⊥

-- the stream is made ordered and reliable, and then a DCEP message is written; the first refusal ends that
abbrev pub WritesReliably : List ℕ → List Deed → Result (Unit {0}) ChannelError → Type 0
WritesReliably message (Deed.Kept (Some n) ∷ ds) r = (ds ≡ []) × (r ≡ Err (faults.Beneath n))
WritesReliably message (Deed.Kept None ∷ ds) r = WritesDcep message ds r
WritesReliably message _ r = ⊥

-- the stream is opened first
abbrev pub OpensAndWrites : List ℕ → List Deed → Result (Unit {0}) ChannelError → Type 0
OpensAndWrites message (Deed.Opened (Some n) ∷ ds) r = (ds ≡ []) × (r ≡ Err (faults.Beneath n))
OpensAndWrites message (Deed.Opened None ∷ ds) r = WritesReliably message ds r
OpensAndWrites message _ r = ⊥

-- the stream is opened and this OPEN is written
abbrev pub BeginsWith : List ℕ → List Deed → Result ChannelState ChannelError → Type 0
BeginsWith message ds (Ok c) = (c ≡ opener message) × OpensAndWrites message ds (Ok tt)
BeginsWith message ds (Err e) = OpensAndWrites message ds (Err e)

-- `Channel::open` of an OPEN: its own refusal, or want of memory for the OPEN, or what opening the stream and writing
-- the OPEN answers

abbrev pub BeginsAs : List ℕ → List Deed → Result ChannelState ChannelError → Type 0
BeginsAs message ds (Ok c) = (c ≡ opener message) × OpensAndWrites message ds (Ok tt)
BeginsAs message ds (Err e) = ((ds ≡ []) × (e ≡ faults.Beneath 4)) ⊎ OpensAndWrites message ds (Err e)

abbrev pub BeginsWhere : Bool → List ℕ → List Deed → Result ChannelState ChannelError → Type 0
BeginsWhere true message ds r = (ds ≡ []) × (r ≡ Err faults.ErrLabelTooLong)
BeginsWhere false message ds r = BeginsAs message ds r

abbrev pub BeginsBy : ℕ → List ℕ → List ℕ → List Deed → Result ChannelState ChannelError → Type 0
BeginsBy priority label protocol ds r =
    BeginsWhere (is_too_long label protocol) (open_bytes priority label protocol) ds r

-- why a message that was read does not begin a channel, want of memory aside
abbrev pub accept_refusal : ReceivedMessage → Option ChannelError
accept_refusal m =
    if is_dcep m.payload_type then open_refusal (bytes_left m) else Some faults.ErrNotOpenMessage

-- the bytes of a DCEP message begin a channel, or not
abbrev pub AcceptsBytes : List ℕ → Result ChannelState ChannelError → Type 0
AcceptsBytes bytes (Ok c) = (open_refusal bytes ≡ None) × (c ≡ accepter bytes)
AcceptsBytes bytes (Err e) = open_refusal bytes ≡ Some e

-- `Channel::accept` of a message that was read. Memory is wanted for a DCEP message alone.

abbrev pub AcceptsMessage : ReceivedMessage → Result ChannelState ChannelError → Type 0
AcceptsMessage m (Ok c) = (accept_refusal m ≡ None) × (c ≡ accepter (bytes_left m))
AcceptsMessage m (Err e) =
    (accept_refusal m ≡ Some e) ⊎ ((is_dcep m.payload_type ≡ true) × (e ≡ faults.Beneath 4))

abbrev pub AcceptsSome : ReceivedMessage → Result (Option ChannelState) ChannelError → Type 0
AcceptsSome m (Ok None) = ⊥
AcceptsSome m (Ok (Some c)) = AcceptsMessage m (Ok c)
AcceptsSome m (Err e) = AcceptsMessage m (Err e)

abbrev pub AcceptsAnswer : Result (Option ReceivedMessage) ℕ → Result (Option ChannelState) ChannelError → Type 0
AcceptsAnswer (Err n) r = r ≡ Err (faults.Beneath n)
AcceptsAnswer (Ok None) r = r ≡ Ok None
AcceptsAnswer (Ok (Some m)) r = AcceptsSome m r

abbrev pub AcceptsBy : List Deed → Result (Option ChannelState) ChannelError → Type 0
AcceptsBy (Deed.Read answer ∷ ds) r = (ds ≡ []) × AcceptsAnswer answer r
AcceptsBy _ r = ⊥

-- `Channel::acknowledge`: 35 on a failed channel, nothing on an opened or acknowledged one, and else ACK is written

abbrev pub AcknowledgesAs : ChannelState → Result (Unit {0}) ChannelError → ChannelState → Type 0
AcknowledgesAs c (Ok _) after = after ≡ with_acknowledgement c
AcknowledgesAs c (Err e) after = after ≡ c

abbrev pub AcknowledgesWhere : Bool → Bool → ChannelState → List Deed → Result (Unit {0}) ChannelError → ChannelState
    → Type 0
AcknowledgesWhere true done c ds r after = (ds ≡ []) × (r ≡ Err faults.ErrChannelFailed) × (after ≡ c)
AcknowledgesWhere false true c ds r after = (ds ≡ []) × (r ≡ Ok tt) × (after ≡ c)
AcknowledgesWhere false false c ds r after = WritesReliably ack_bytes ds r × AcknowledgesAs c r after

abbrev pub AcknowledgesBy : ChannelState → List Deed → Result (Unit {0}) ChannelError → ChannelState → Type 0
AcknowledgesBy c ds r after = AcknowledgesWhere c.failed (may_send c) c ds r after

-- why the channel itself refuses to send
abbrev pub send_refusal : ChannelState → Option ChannelError
send_refusal c =
    if c.failed then Some faults.ErrChannelFailed else
    if may_send c then None else Some faults.ErrNotAcknowledged

-- `Channel::send`: the channel's own refusal, or the bytes are written under the payload type 53, once. It leaves the
-- channel as it was.

abbrev pub SendsWhere : Option ChannelError → List ℕ → List Deed → Result ℕ ChannelError → Type 0
SendsWhere (Some e) bytes ds r = (ds ≡ []) × (r ≡ Err e)
SendsWhere None bytes (Deed.Wrote kind sent answer ∷ ds) r =
    (kind ≡ kinds.Binary) × (sent ≡ bytes) × (ds ≡ []) × (r ≡ from_beneath answer)
SendsWhere None bytes _ r = ⊥

abbrev pub SendsBy : ChannelState → List ℕ → List Deed → Result ℕ ChannelError → Type 0
SendsBy c bytes ds r = SendsWhere (send_refusal c) bytes ds r

-- a message is an ACK
abbrev pub is_ack_message : ReceivedMessage → Bool
is_ack_message m = is_dcep m.payload_type && is_ack (bytes_left m)

-- what a read gave is the ACK that an opener waits for
abbrev pub is_awaited : ChannelState → Result (Option ReceivedMessage) ℕ → Bool
is_awaited c (Err n) = false
is_awaited c (Ok None) = false
is_awaited c (Ok (Some m)) = is_ack_message m && (c.is_opener && not c.acknowledged)

-- what `receive` leaves and answers by its last read: a message of type 53; any other message fails the channel
abbrev pub received : ChannelState → Result (Option ReceivedMessage) ℕ
    → ChannelState × Result (Option ReceivedMessage) ChannelError
received c (Err n) = (c, Err (faults.Beneath n))
received c (Ok None) = (c, Ok None)
received c (Ok (Some m)) =
    if is_binary m.payload_type then (c, Ok (Some m)) else (with_failure c, Err faults.ErrUnexpectedMessage)

-- `Channel::receive`: 35 on a failed channel; else one read, and one more where the first gave the ACK that the opener
-- waits for

abbrev pub ReceivesBehind : Bool → ChannelState → Result (Option ReceivedMessage) ℕ → List Deed
    → Result (Option ReceivedMessage) ChannelError → ChannelState → Type 0
ReceivesBehind false c first ds r after = (ds ≡ []) × (received c first ≡ (after, r))
ReceivesBehind true c first (Deed.Read second ∷ ds) r after =
    (ds ≡ []) × (received (with_acknowledgement c) second ≡ (after, r))
ReceivesBehind true c first _ r after = ⊥

abbrev pub ReceivesWhere : Bool → ChannelState → List Deed → Result (Option ReceivedMessage) ChannelError
    → ChannelState → Type 0
ReceivesWhere true c ds r after = (ds ≡ []) × (r ≡ Err faults.ErrChannelFailed) × (after ≡ c)
ReceivesWhere false c (Deed.Read first ∷ ds) r after = ReceivesBehind (is_awaited c first) c first ds r after
ReceivesWhere false c _ r after = ⊥

abbrev pub ReceivesBy : ChannelState → List Deed → Result (Option ReceivedMessage) ChannelError → ChannelState
    → Type 0
ReceivesBy c ds r after = ReceivesWhere c.failed c ds r after
