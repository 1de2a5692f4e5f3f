-- What a channel refuses.
use Rattle.std.specs.Prelude.{◌≡◌, ℕ, Bool, true, false, List, Option, Some, None, Result, Ok, Err}
use Rattle.dcep_channel.specs.declared.error.ChannelError.{ChannelError}
use Rattle.dcep_channel.specs.declared.error.ChannelError.TheVariants as faults

-- the number under which a channel's refusal is reported
abbrev pub fault_number : ChannelError → ℕ
fault_number (faults.Beneath n) = n
fault_number faults.ErrLabelTooLong = 30
fault_number faults.ErrNotOpenMessage = 31
fault_number faults.ErrChannelType = 32
fault_number faults.ErrNotAcknowledged = 33
fault_number faults.ErrUnexpectedMessage = 34
fault_number faults.ErrChannelFailed = 35

-- the call is refused exactly with this refusal, if there is one
abbrev pub Refuses : {T : Type 0} → Result T ChannelError → Option ChannelError → Type 0
Refuses (Ok answer) refusal = refusal ≡ None
Refuses (Err e) refusal = refusal ≡ Some e

-- an OPEN of these bytes is made, unless label or protocol is too long or memory is refused
abbrev pub Spells : Bool → List ℕ → Result (List ℕ) ChannelError → Type 0
Spells true bytes (Ok message) = ⊥
Spells true bytes (Err e) = e ≡ faults.ErrLabelTooLong
Spells false bytes (Ok message) = message ≡ bytes
Spells false bytes (Err e) = e ≡ faults.Beneath 4
