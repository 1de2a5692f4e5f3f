-- Messages of an application on the wire (RFC 8831 sections 6.6 and 8).
use Rattle.std.specs.Prelude.{ℕ, ◌==◌, ◌^◌, ◌-◌, Bool, if◌then◌else◌, List, [], ◌∷◌, length, Option, Some, None}
use Rattle.sctp_wire_types.specs.declared.ids.PayloadProtocolIdentifier.{PayloadProtocolIdentifier}
use Rattle.sctp_wire_types.specs.declared.ids.PayloadProtocolIdentifier.TheVariants as kinds
use Rattle.channel_table.specs.declared.payload.Received.{Received}
use Rattle.channel_table.specs.declared.payload.Received.TheVariants as receipts

abbrev pub is_empty : List ℕ → Bool
is_empty bytes = length bytes == 0

-- an empty message goes as one byte 0, since SCTP has no empty messages
abbrev pub payload : List ℕ → List ℕ
payload bytes = if is_empty bytes then 0 ∷ [] else bytes

-- WebRTC String, or WebRTC String Empty
abbrev pub text_type : Bool → PayloadProtocolIdentifier
text_type empty = if empty then kinds.StringEmpty else kinds.String

-- WebRTC Binary, or WebRTC Binary Empty
abbrev pub binary_type : Bool → PayloadProtocolIdentifier
binary_type empty = if empty then kinds.BinaryEmpty else kinds.Binary

-- what an application receives of a message of a payload type and a length
abbrev pub received_as : PayloadProtocolIdentifier → ℕ → Option Received
received_as kinds.Dcep n = None
received_as kinds.String n = Some (receipts.Text n)
received_as kinds.Binary n = Some (receipts.Binary n)
received_as kinds.StringEmpty n = Some (receipts.Text 0)
received_as kinds.BinaryEmpty n = Some (receipts.Binary 0)
received_as kinds.Unknown n = Some (receipts.Other n)

-- the greatest message by the attribute max-message-size (RFC 8841 section 6)
abbrev pub send_limit : Option ℕ → ℕ
send_limit None = 65536
send_limit (Some bytes) = if bytes == 0 then 2 ^ 32 - 1 else bytes
