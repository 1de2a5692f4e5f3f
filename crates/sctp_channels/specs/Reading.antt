-- The first message of a stream.
use Rattle.std.specs.Prelude.{◌≡◌, ◌⊎◌, ◌≢◌, ℕ, nat_lt, Bool, true, false, List, [], length, None, Result, Ok, Err}
use Rattle.sctp_wire_types.specs.declared.ids.PayloadProtocolIdentifier.{PayloadProtocolIdentifier}
use Rattle.sctp_wire_types.specs.declared.ids.PayloadProtocolIdentifier.TheVariants as kinds
use Rattle.sctp_wire_types.specs.declared.error.Error.{Error}
use Rattle.sctp_driver.specs.declared.messages.ReadAnswer.{ReadAnswer}
use Rattle.sctp_driver.specs.declared.messages.ReadAnswer.TheVariants as answers
use Rattle.sctp_driver.specs.Driving.{Driving}
use Rattle.sctp_driver.specs.Messages.{ReadFails, Reads, with_message}
use Rattle.dcep_messages.specs.Codec.{open_refusal}
use Rattle.sctp_channels.specs.Looking.{may_pass}
use Rattle.sctp_channels.specs.declared.reading.First.{First}
use Rattle.sctp_channels.specs.declared.reading.First.TheVariants as firsts

abbrev pub is_dcep : PayloadProtocolIdentifier → Bool
is_dcep kinds.Dcep = true
is_dcep kinds.String = false
is_dcep kinds.Binary = false
is_dcep kinds.StringEmpty = false
is_dcep kinds.BinaryEmpty = false
is_dcep kinds.Unknown = false

-- a message that was read first is an OPEN, of the payload type 50, or something else
abbrev pub BeginsWith : PayloadProtocolIdentifier → List ℕ → First → Type 0
BeginsWith kind bytes firsts.Nothing = ⊥
BeginsWith kind bytes (firsts.Open message) =
    (is_dcep kind ≡ true) × (open_refusal bytes ≡ None) × (message ≡ bytes)
BeginsWith kind bytes firsts.Other = (is_dcep kind ≡ false) ⊎ (open_refusal bytes ≢ None)

-- a stream that is gone, or whose read half is closed, has no message
abbrev pub HasEnded : ℕ → Driving → Driving → Type 0
HasEnded id d e = (error : Error) × ReadFails d id error e × (may_pass error ≡ false)

-- the driver's answer, or that there is no message where the stream ended
abbrev pub ReadsOrEnded : ℕ → Driving → List ℕ → ReadAnswer → Driving → List ℕ → Type 0
ReadsOrEnded id d buffer answer e filled =
    Reads (with_message d id) id buffer answer e filled
    ⊎ ((answer ≡ answers.Nothing) × HasEnded id d e × (filled ≡ buffer))

-- what a message is that was read whole into these bytes
unfoldable pub IsFirst : ReadAnswer → List ℕ → First → Type 0
IsFirst answers.Nothing bytes first = first ≡ firsts.Other
IsFirst (answers.Message kind n) bytes first = BeginsWith kind bytes first
IsFirst (answers.NoRoom n) bytes first = first ≡ firsts.Other

-- a message of so many bytes is read, into a buffer of that length
unfoldable pub ReadsWhole : ℕ → ℕ → Driving → Result First Error → Driving → Type 0
ReadsWhole n id d (Ok first) e =
    (buffer : List ℕ) × (answer : ReadAnswer) × (bytes : List ℕ) × (length buffer ≡ n)
    × ReadsOrEnded id d buffer answer e bytes × IsFirst answer bytes first
ReadsWhole n id d (Err error) e = ReadFails d id error e

abbrev pub FirstOfLength : Bool → ℕ → ℕ → Driving → Result First Error → Driving → Type 0
FirstOfLength true n id d r e = (r ≡ Ok firsts.Other) × (e ≡ d)
FirstOfLength false n id d r e = ReadsWhole n id d r e

-- What is done behind a read without a buffer: no OPEN is longer than 131,082 bytes, so that a longer message is not
-- read.
unfoldable pub FirstBy : ReadAnswer → ℕ → Driving → Result First Error → Driving → Type 0
FirstBy answers.Nothing id d r e = (r ≡ Ok firsts.Nothing) × (e ≡ d)
FirstBy (answers.Message kind n) id d r e = (r ≡ Ok firsts.Other) × (e ≡ d)
FirstBy (answers.NoRoom n) id d r e = FirstOfLength (nat_lt 131082 n) n id d r e

abbrev pub ReadsThenFirst : ℕ → Driving → Result First Error → Driving → Type 0
ReadsThenFirst id d r e =
    (answer : ReadAnswer) × (x : Driving) × (bytes : List ℕ) × ReadsOrEnded id d [] answer x bytes
    × FirstBy answer id x r e

-- the first message of a stream of the peer is read, if there is one
unfoldable pub ReadsFirst : ℕ → Driving → Result First Error → Driving → Type 0
ReadsFirst id d (Ok first) e = ReadsThenFirst id d (Ok first) e
ReadsFirst id d (Err error) e = ReadFails d id error e ⊎ ReadsThenFirst id d (Err error) e
