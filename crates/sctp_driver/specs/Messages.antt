-- Messages that were taken out of the association and wait for a buffer.
use Rattle.std.specs.Prelude.{◌≡◌, ◌<◌, ◌≤◌, ◌⊎◌, ◌==◌, ℕ, true, List, [], ◌∷◌, ◌++◌, drop, length, nat_lt, position}
use Rattle.std.specs.Prelude.{Option, Some, None, if◌then◌else◌, remove, slice_index_or}
use Rattle.sctp_wire_types.specs.declared.error.Error.{Error}
use Rattle.sctp_wire_types.specs.declared.error.Error.TheVariants as errors
use Rattle.sctp_wire_types.specs.declared.ids.PayloadProtocolIdentifier.TheVariants as kinds
use Rattle.sctp_receive_queues.specs.Messages.{ReceivedMessage, bytes_left}
use Rattle.sctp_assoc.specs.Calls.{read_from_stream, read_takes_memory, refusal_to_read}
use Rattle.sctp_assoc.specs.Shown.{HasFailed, Shown, answers_of}
use Rattle.sctp_driver.specs.declared.messages.ReadAnswer.{ReadAnswer}
use Rattle.sctp_driver.specs.declared.messages.ReadAnswer.TheVariants as answers
use Rattle.sctp_driver.specs.Driving.{Driving, KeptMessage, with_association}

-- the bytes at the front of a buffer, where it is long enough
abbrev pub put_front : List ℕ → List ℕ → List ℕ
put_front bytes buffer = if nat_lt (length buffer) (length bytes) then buffer else bytes ++ drop (length bytes) buffer

-- a message of a stream, as it is kept
abbrev pub kept_of : ℕ → ReceivedMessage → KeptMessage
kept_of id m = record { stream = id; payload_type = m.payload_type; bytes = bytes_left m }

-- where the first message of this stream stands
abbrev pub index_of : ℕ → List KeptMessage → Option ℕ
index_of id kept = position (λ (m : KeptMessage). m.stream == id) kept

abbrev pub without_message_at : Option ℕ → List KeptMessage → List KeptMessage
without_message_at None kept = kept
without_message_at (Some index) kept = remove kept index

-- the message of this stream is no longer kept
abbrev pub without_message_of : ℕ → List KeptMessage → List KeptMessage
without_message_of id kept = without_message_at (index_of id kept) kept

abbrev pub no_message : KeptMessage
no_message = record { stream = 0; payload_type = kinds.Unknown; bytes = [] }

-- the message at an index; one without bytes past the last
abbrev pub message_at : List KeptMessage → ℕ → KeptMessage
message_at kept index = slice_index_or kept index no_message

abbrev pub keeping : Driving → ℕ → Shown × Option ReceivedMessage → Driving
keeping d id (a, None) = with_association d a
keeping d id (a, Some message) = record d { association = a; kept = d.kept ++ kept_of id message ∷ [] }

abbrev pub with_message_at : Option ℕ → Driving → ℕ → Driving
with_message_at (Some index) d id = d
with_message_at None d id = keeping d id (read_from_stream d.association id)

-- where no message of a stream is kept, the association is asked for the next one
abbrev pub with_message : Driving → ℕ → Driving
with_message d id = with_message_at (index_of id d.kept) d id

-- A message is read: it stands at the front of the buffer, whole, and is no longer kept. It stays where the buffer is
-- shorter.
abbrev pub GivesOne : KeptMessage → ℕ → List KeptMessage → List ℕ → ReadAnswer → List KeptMessage → List ℕ → Type 0
GivesOne m index kept buffer (answers.Message kind n) left filled =
    (kind ≡ m.payload_type) × (n ≡ length m.bytes) × (n ≤ length buffer)
    × (left ≡ remove kept index) × (filled ≡ m.bytes ++ drop n buffer)
GivesOne m index kept buffer (answers.NoRoom n) left filled =
    (n ≡ length m.bytes) × (length buffer < n) × (left ≡ kept) × (filled ≡ buffer)
GivesOne m index kept buffer answers.Nothing left filled = ⊥

abbrev pub GivesAt : Option ℕ → List KeptMessage → List ℕ → ReadAnswer → List KeptMessage → List ℕ → Type 0
GivesAt None kept buffer answers.Nothing left filled = (left ≡ kept) × (filled ≡ buffer)
GivesAt None kept buffer answer left filled = ⊥
GivesAt (Some index) kept buffer answer left filled =
    GivesOne (message_at kept index) index kept buffer answer left filled

-- of the messages that are kept the first one of a stream is given
abbrev pub Gives : ℕ → List KeptMessage → List ℕ → ReadAnswer → List KeptMessage → List ℕ → Type 0
Gives id kept buffer answer left filled = GivesAt (index_of id kept) kept buffer answer left filled

-- A message of a stream of which none is kept is given as it comes, and what is kept stays. Where the buffer is shorter
-- it is kept behind the others.
abbrev pub GivesNew : KeptMessage → List KeptMessage → List ℕ → ReadAnswer → List KeptMessage → List ℕ → Type 0
GivesNew m kept buffer (answers.Message kind n) left filled =
    (kind ≡ m.payload_type) × (n ≡ length m.bytes) × (n ≤ length buffer)
    × (left ≡ kept) × (filled ≡ m.bytes ++ drop n buffer)
GivesNew m kept buffer (answers.NoRoom n) left filled =
    (n ≡ length m.bytes) × (length buffer < n) × (left ≡ kept ++ m ∷ []) × (filled ≡ buffer)
GivesNew m kept buffer answers.Nothing left filled = ⊥

-- what `Gives` says, of a driver, in which nothing but what is kept changes
abbrev pub Reads : Driving → ℕ → List ℕ → ReadAnswer → Driving → List ℕ → Type 0
Reads d id buffer answer e filled =
    Gives id d.kept buffer answer e.kept filled × (e ≡ record d { kept = e.kept })

-- the association refused the read with nothing changed; or the read was to close it or to end a generation of the
-- stream, and memory was refused for that: the association failed
abbrev pub StopsRead : Shown → ℕ → Error → Shown → Type 0
StopsRead a id error b =
    ((refusal_to_read a id ≡ Some error) × (b ≡ a))
    ⊎ ((refusal_to_read a id ≡ None) × (read_takes_memory a id ≡ true) × (error ≡ errors.ErrNoMemory)
    × HasFailed (answers_of a) b)

-- memory was refused: with nothing changed, or when the message was kept, whole
abbrev pub LacksMemory : Driving → ℕ → Error → Driving → Type 0
LacksMemory d id error e = (error ≡ errors.ErrNoMemory) × ((e ≡ d) ⊎ (e ≡ with_message d id))

-- why a read gave no answer, and what it left
abbrev pub ReadFails : Driving → ℕ → Error → Driving → Type 0
ReadFails d id error e =
    LacksMemory d id error e
    ⊎ (StopsRead d.association id error e.association × (e ≡ with_association d e.association))
