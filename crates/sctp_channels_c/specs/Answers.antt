-- What a call answers to C, as a number, and what it wrote then.
use Rattle.std.specs.Prelude.{◌≡◌, ℕ, Bool, true, false, List, ◌++◌, drop, length, nat_lt}
use Rattle.std.specs.Prelude.{Option, Some, None, Result, Ok, Err}
use Rattle.channel_table.specs.declared.error.ChannelError.{ChannelError}
use Rattle.channel_table.specs.declared.error.ChannelError.TheVariants as faults
use Rattle.channel_table.specs.declared.payload.Received.{Received}
use Rattle.channel_table.specs.declared.payload.Received.TheVariants as receipts
use Rattle.sctp_slots.specs.Codes.{refusal_code}

-- the code of a refusal: the driver's own, or one of channels
abbrev pub fault_code : ChannelError → ℕ
fault_code (faults.Beneath error) = refusal_code error
fault_code faults.LabelTooLong = 40
fault_code faults.NoIdentifierLeft = 41
fault_code faults.IdentifierTaken = 42
fault_code faults.NoChannel = 43
fault_code faults.NotOpen = 44
fault_code faults.IdentifierPastStreams = 45
fault_code faults.Lost = 46

-- 0 where the call was done
abbrev pub code_of : {T : Type 0} → Result T ChannelError → ℕ
code_of (Ok answer) = 0
code_of (Err fault) = fault_code fault

-- the code tells an answer of which this is so
abbrev pub Answers : {T : Type 0} → ℕ → (Result T ChannelError → Type 0) → Type 0
Answers {T} code P = (answer : Result T ChannelError) × (code ≡ code_of answer) × P answer

-- a number was written, or the call was refused and wrote nothing
abbrev pub WritesNumber : Result ℕ ChannelError → ℕ → ℕ → ℕ → Type 0
WritesNumber (Ok number) code before after = (code ≡ 0) × (after ≡ number)
WritesNumber (Err fault) code before after = (code ≡ fault_code fault) × (after ≡ before)

-- what was received is told by the code, a length and whether it is a text
abbrev pub Gives : Result Received ChannelError → ℕ → ℕ → ℕ → Bool → Bool → Type 0
Gives (Ok (receipts.Text n)) code before length text_before text = (code ≡ 0) × (length ≡ n) × (text ≡ true)
Gives (Ok (receipts.Binary n)) code before length text_before text = (code ≡ 0) × (length ≡ n) × (text ≡ false)
Gives (Ok (receipts.Other n)) code before length text_before text = (code ≡ 47) × (length ≡ n) × (text ≡ text_before)
Gives (Ok receipts.Nothing) code before length text_before text =
    (code ≡ 3) × (length ≡ before) × (text ≡ text_before)
Gives (Ok (receipts.NoRoom n)) code before length text_before text = (code ≡ 4) × (length ≡ n) × (text ≡ text_before)
Gives (Err fault) code before length text_before text =
    (code ≡ fault_code fault) × (length ≡ before) × (text ≡ text_before)

-- bytes stand at the front of a buffer where it has room for them, and how many they are is written
abbrev pub CopiesWhere : Bool → List ℕ → ℕ → List ℕ → List ℕ → Type 0
CopiesWhere true bytes code before after = (code ≡ 4) × (after ≡ before)
CopiesWhere false bytes code before after = (code ≡ 0) × (after ≡ bytes ++ drop (length bytes) before)

abbrev pub Copies : Option (List ℕ) → ℕ → List ℕ → List ℕ → ℕ → ℕ → Type 0
Copies None code before after length_before length_after =
    (code ≡ 43) × (after ≡ before) × (length_after ≡ length_before)
Copies (Some bytes) code before after length_before length_after =
    CopiesWhere (nat_lt (length before) (length bytes)) bytes code before after × (length_after ≡ length bytes)
