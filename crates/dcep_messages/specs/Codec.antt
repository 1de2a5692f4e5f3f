-- DCEP messages (RFC 8832 sections 5.1 and 5.2). Numbers have the high byte first.
use Rattle.std.specs.Prelude.{◌≡◌, ◌≤◌, ◌<◌, ℕ, ◌+◌, ◌%◌, ◌==◌, ◌&&◌, ◌||◌, Bool, true, false, if◌then◌else◌, nat_lt}
use Rattle.std.specs.Prelude.{List, [], ◌∷◌, ◌++◌, length, take, drop, slice_index, Option, Some, None, Result, Ok, Err}
use Rattle.std.specs.Int.{w16, w32, to_be_bytes, from_be_bytes}
use Rattle.dcep_messages.specs.declared.error.OpenError.{OpenError}
use Rattle.dcep_messages.specs.declared.error.OpenError.TheVariants as faults
use Rattle.dcep_messages.specs.declared.persistence.Persistence.{Persistence}
use Rattle.dcep_messages.specs.declared.persistence.Persistence.TheVariants as persistences

-- the number of the two bytes at a place
abbrev pub u16_at : List ℕ → ℕ → ℕ
u16_at bytes at = from_be_bytes w16 (take 2 (drop at bytes))

-- the number of the four bytes at a place
abbrev pub u32_at : List ℕ → ℕ → ℕ
u32_at bytes at = from_be_bytes w32 (take 4 (drop at bytes))

-- the channel type of an ordered channel
abbrev pub ordered_type : Persistence → ℕ
ordered_type persistences.Reliable = 0
ordered_type (persistences.Retransmits n) = 1
ordered_type (persistences.LifeTime ms) = 2

-- the channel type: that of an unordered channel has its highest bit set
abbrev pub channel_type : Bool → Persistence → ℕ
channel_type ordered persistence =
    if ordered then ordered_type persistence else ordered_type persistence + 128

-- the reliability parameter: a number of retransmissions, a life time in ms, or 0
abbrev pub parameter_of : Persistence → ℕ
parameter_of persistences.Reliable = 0
parameter_of (persistences.Retransmits n) = n
parameter_of (persistences.LifeTime ms) = ms

-- the first twelve bytes of a DATA_CHANNEL_OPEN: its type, the channel type, the priority, the reliability parameter,
-- and the lengths of label and protocol
abbrev pub open_header : ℕ → ℕ → ℕ → ℕ → ℕ → List ℕ
open_header kind priority parameter label_length protocol_length =
    3 ∷ kind ∷ (to_be_bytes w16 priority ++ to_be_bytes w32 parameter
    ++ to_be_bytes w16 label_length ++ to_be_bytes w16 protocol_length)

-- a DATA_CHANNEL_OPEN of such a channel
abbrev pub open_bytes : Bool → Persistence → ℕ → List ℕ → List ℕ → List ℕ
open_bytes ordered persistence priority label protocol =
    open_header (channel_type ordered persistence) priority (parameter_of persistence) (length label) (length protocol)
    ++ label ++ protocol

-- DATA_CHANNEL_ACK
abbrev pub ack_bytes : List ℕ
ack_bytes = 2 ∷ []

-- these bytes are an ACK
abbrev pub is_ack : List ℕ → Bool
is_ack bytes = (length bytes == 1) && (slice_index bytes 0 == 2)

-- label or protocol has no length of two bytes
abbrev pub is_too_long : List ℕ → List ℕ → Bool
is_too_long label protocol = nat_lt 65535 (length label) || nat_lt 65535 (length protocol)

-- what an OPEN says

abbrev pub label_length_in : List ℕ → ℕ
label_length_in bytes = u16_at bytes 8

abbrev pub protocol_length_in : List ℕ → ℕ
protocol_length_in bytes = u16_at bytes 10

abbrev pub ordered_in : List ℕ → Bool
ordered_in bytes = nat_lt (slice_index bytes 1) 128

abbrev pub persistence_at : ℕ → ℕ → Persistence
persistence_at kind parameter =
    if kind % 128 == 1 then persistences.Retransmits parameter else
    if kind % 128 == 2 then persistences.LifeTime parameter else persistences.Reliable

abbrev pub persistence_in : List ℕ → Persistence
persistence_in bytes = persistence_at (slice_index bytes 1) (u32_at bytes 4)

abbrev pub priority_in : List ℕ → ℕ
priority_in bytes = u16_at bytes 2

abbrev pub label_in : List ℕ → List ℕ
label_in bytes = take (label_length_in bytes) (drop 12 bytes)

abbrev pub protocol_in : List ℕ → List ℕ
protocol_in bytes = take (protocol_length_in bytes) (drop (label_length_in bytes) (drop 12 bytes))

-- The bytes have the form of an OPEN: its header, and then label and protocol of the lengths that the header says, with
-- nothing behind them.
abbrev pub has_open_form : List ℕ → Bool
has_open_form bytes =
    if nat_lt (length bytes) 12 then false else
    ((slice_index bytes 0 == 3) && (length bytes == 12 + label_length_in bytes + protocol_length_in bytes))

-- why these bytes are not read as an OPEN: first their form is looked at, and then the channel type
abbrev pub open_refusal : List ℕ → Option OpenError
open_refusal bytes =
    if has_open_form bytes then
    (if nat_lt 2 (slice_index bytes 1 % 128) then Some faults.UnknownChannelType else None)
    else Some faults.NotOpenMessage

-- the bytes are read as an OPEN
abbrev pub IsOpenMessage : List ℕ → Type 0
IsOpenMessage bytes =
    (12 ≤ length bytes) × (slice_index bytes 0 ≡ 3) × (slice_index bytes 1 % 128 < 3)
    × (length bytes ≡ 12 + label_length_in bytes + protocol_length_in bytes)

-- these bytes are read as an OPEN that says this
abbrev pub IsOpenOf : Bool → Persistence → ℕ → List ℕ → List ℕ → List ℕ → Type 0
IsOpenOf ordered persistence priority label protocol bytes =
    (open_refusal bytes ≡ None) × (ordered_in bytes ≡ ordered) × (persistence_in bytes ≡ persistence)
    × (priority_in bytes ≡ priority) × (label_in bytes ≡ label) × (protocol_in bytes ≡ protocol)

abbrev pub parameter_in : List ℕ → List ℕ
parameter_in bytes = take 4 (drop 4 bytes)

-- an OPEN of such a channel with these four bytes of reliability parameter
abbrev pub spelling_of : Bool → Persistence → ℕ → List ℕ → List ℕ → List ℕ → List ℕ
spelling_of ordered persistence priority parameter label protocol =
    3 ∷ channel_type ordered persistence ∷ (to_be_bytes w16 priority ++ parameter
    ++ to_be_bytes w16 (length label) ++ to_be_bytes w16 (length protocol) ++ label ++ protocol)

-- these bytes are spelled by what they say
abbrev pub IsSpelled : List ℕ → Type 0
IsSpelled bytes =
    bytes ≡ spelling_of (ordered_in bytes) (persistence_in bytes) (priority_in bytes) (parameter_in bytes)
    (label_in bytes) (protocol_in bytes)

-- the call is refused exactly with this refusal, if there is one
abbrev pub Refuses : {T : Type 0} → Result T OpenError → Option OpenError → Type 0
Refuses (Ok answer) refusal = refusal ≡ None
Refuses (Err e) refusal = refusal ≡ Some e

-- an OPEN of these bytes is made, unless label or protocol is too long or memory is refused
abbrev pub Spells : Bool → List ℕ → Result (List ℕ) OpenError → Type 0
Spells true bytes (Ok message) = ⊥
Spells true bytes (Err e) = e ≡ faults.LabelTooLong
Spells false bytes (Ok message) = message ≡ bytes
Spells false bytes (Err e) = e ≡ faults.NoMemory
