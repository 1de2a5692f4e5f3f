-- DCEP messages (RFC 8832 sections 5.1 and 5.2). Numbers have the high byte first.
use Rattle.std.specs.Prelude.{◌≡◌, ◌≤◌, ℕ, ◌+◌, ◌==◌, ◌&&◌, ◌||◌, Bool, false, if◌then◌else◌, nat_lt}
use Rattle.std.specs.Prelude.{List, [], ◌∷◌, ◌++◌, length, take, drop, slice_index, Option, Some, None}
use Rattle.std.specs.Int.{w16, to_be_bytes, from_be_bytes}
use Rattle.dcep_channel.specs.declared.error.ChannelError.{ChannelError}
use Rattle.dcep_channel.specs.declared.error.ChannelError.TheVariants as faults

-- the number of the two bytes at a place
abbrev pub u16_at : List ℕ → ℕ → ℕ
u16_at bytes at = from_be_bytes w16 (take 2 (drop at bytes))

-- the first twelve bytes of a DATA_CHANNEL_OPEN: its type, the channel type of a reliable and ordered channel, its
-- priority, a reliability parameter of 0, and the lengths of label and protocol
abbrev pub open_header : ℕ → ℕ → ℕ → List ℕ
open_header priority label_length protocol_length =
    3 ∷ 0 ∷ (to_be_bytes w16 priority
    ++ 0 ∷ 0 ∷ 0 ∷ 0 ∷ (to_be_bytes w16 label_length ++ to_be_bytes w16 protocol_length))

-- a DATA_CHANNEL_OPEN with this priority, label and protocol
abbrev pub open_bytes : ℕ → List ℕ → List ℕ → List ℕ
open_bytes priority label protocol = open_header priority (length label) (length protocol) ++ label ++ protocol

-- DATA_CHANNEL_ACK
abbrev pub ack_bytes : List ℕ
ack_bytes = 2 ∷ []

-- label or protocol has no length of two bytes
abbrev pub is_too_long : List ℕ → List ℕ → Bool
is_too_long label protocol = nat_lt 65535 (length label) || nat_lt 65535 (length protocol)

abbrev pub label_length_in : List ℕ → ℕ
label_length_in bytes = u16_at bytes 8

abbrev pub protocol_length_in : List ℕ → ℕ
protocol_length_in bytes = u16_at bytes 10

-- what an OPEN says

abbrev pub priority_in : List ℕ → ℕ
priority_in bytes = u16_at bytes 2

abbrev pub label_in : List ℕ → List ℕ
label_in bytes = take (label_length_in bytes) (drop 12 bytes)

abbrev pub protocol_in : List ℕ → List ℕ
protocol_in bytes = take (protocol_length_in bytes) (drop (label_length_in bytes) (drop 12 bytes))

-- The bytes have the form of an OPEN: its header, and then label and protocol of the lengths that the header says, with
-- nothing behind them.
abbrev pub has_open_form : List ℕ → Bool
has_open_form bytes =
    if nat_lt (length bytes) 12 then false else
    ((slice_index bytes 0 == 3) && (length bytes == 12 + label_length_in bytes + protocol_length_in bytes))

-- Why these bytes are not read as an OPEN of a reliable and ordered channel: first their form is looked at, and then
-- the channel type. The reliability parameter is not looked at (RFC 8832 section 5.1).
abbrev pub open_refusal : List ℕ → Option ChannelError
open_refusal bytes =
    if has_open_form bytes then (if slice_index bytes 1 == 0 then None else Some faults.ErrChannelType)
    else Some faults.ErrNotOpenMessage

-- the bytes are read as an OPEN of a reliable and ordered channel
abbrev pub IsOpenMessage : List ℕ → Type 0
IsOpenMessage bytes =
    (12 ≤ length bytes) × (slice_index bytes 0 ≡ 3) × (slice_index bytes 1 ≡ 0)
    × (length bytes ≡ 12 + label_length_in bytes + protocol_length_in bytes)

-- these bytes are an ACK
abbrev pub is_ack : List ℕ → Bool
is_ack bytes = (length bytes == 1) && (slice_index bytes 0 == 2)

-- these bytes are read as an OPEN that says this
abbrev pub IsOpenOf : ℕ → List ℕ → List ℕ → List ℕ → Type 0
IsOpenOf priority label protocol bytes =
    (open_refusal bytes ≡ None) × (priority_in bytes ≡ priority) × (label_in bytes ≡ label)
    × (protocol_in bytes ≡ protocol)

abbrev pub parameter_in : List ℕ → List ℕ
parameter_in bytes = take 4 (drop 4 bytes)

-- an OPEN of a reliable and ordered channel with these four bytes of reliability parameter
abbrev pub spelling_of : ℕ → List ℕ → List ℕ → List ℕ → List ℕ
spelling_of priority parameter label protocol =
    3 ∷ 0 ∷ (to_be_bytes w16 priority ++ parameter
    ++ to_be_bytes w16 (length label) ++ to_be_bytes w16 (length protocol) ++ label ++ protocol)

-- these bytes are spelled by what they say
abbrev pub IsSpelled : List ℕ → Type 0
IsSpelled bytes =
    bytes ≡ spelling_of (priority_in bytes) (parameter_in bytes) (label_in bytes) (protocol_in bytes)
