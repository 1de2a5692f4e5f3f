-- What a call answers to C, as a number, and what the numbers that it wrote stand for then.
use Rattle.std.specs.Prelude.{◌≡◌, ℕ, ◌==◌, ◌||◌, Bool, if◌then◌else◌, Option, Some, None, Result, Ok, Err}
use Rattle.sctp_wire_types.specs.declared.error.Error.{Error}
use Rattle.sctp_wire_types.specs.declared.ids.PayloadProtocolIdentifier.{PayloadProtocolIdentifier}
use Rattle.sctp_wire_types.specs.Ids.{identifier_of, number_of}
use Rattle.sctp_parts.specs.declared.shared.EndpointEvent.{EndpointEvent}
use Rattle.sctp_parts.specs.Shared.{drained_event}
use Rattle.sctp_driver.specs.declared.messages.ReadAnswer.{ReadAnswer}
use Rattle.sctp_driver.specs.declared.messages.ReadAnswer.TheVariants as reads
use Rattle.sctp_driver.specs.declared.sending.PollAnswer.{PollAnswer}
use Rattle.sctp_driver.specs.declared.sending.PollAnswer.TheVariants as sendings
use Rattle.sctp_driver.specs.declared.tags.DatagramAnswer.{DatagramAnswer}
use Rattle.sctp_driver.specs.declared.tags.DatagramAnswer.TheVariants as fates
use Rattle.sctp_slots.specs.Codes.{refusal_code}

-- the code of a call whose answer has a code itself
abbrev pub code_with : {T : Type 0} → (T → ℕ) → Result T Error → ℕ
code_with code (Ok answer) = code answer
code_with code (Err e) = refusal_code e

abbrev pub sent_code : PollAnswer → ℕ
sent_code (sendings.Datagram n) = 0
sent_code sendings.Nothing = 3
sent_code (sendings.NoRoom n) = 4

abbrev pub read_code : ReadAnswer → ℕ
read_code (reads.Message kind n) = 0
read_code reads.Nothing = 3
read_code (reads.NoRoom n) = 4

-- a call wrote its answer in this form, or was refused and wrote nothing
abbrev pub Writes : {T U : Type 0} → (T → U) → Result T Error → ℕ → U → U → Type 0
Writes of (Ok answer) code before after = (code ≡ 0) × (after ≡ of answer)
Writes of (Err e) code before after = (code ≡ refusal_code e) × (after ≡ before)

-- a call that is asked for a number wrote it, or was refused and wrote nothing
abbrev pub WritesNumber : Result ℕ Error → ℕ → ℕ → ℕ → Type 0
WritesNumber answer code before after = Writes (λ (n : ℕ). n) answer code before after

-- what a call answered, where it was not refused
abbrev pub answer_in : {T : Type 0} → Result T Error → Option T
answer_in (Ok answer) = Some answer
answer_in (Err e) = None

-- the numbers of what becomes of a datagram
abbrev pub fate_of : ℕ → DatagramAnswer
fate_of fate =
    if fate == 0 then fates.Taken else
    if fate == 1 then fates.NoPacket else
    if fate == 2 then fates.OtherTag else
    if fate == 3 then fates.RepeatedInit else fates.OtherInit

abbrev pub received_by : ℕ → ℕ → Option DatagramAnswer
received_by code fate = if code == 0 then Some (fate_of fate) else None

-- what the code and the length say that a poll for datagrams gave; None where it was refused
abbrev pub sent_by : ℕ → ℕ → Option PollAnswer
sent_by code length =
    if code == 0 then Some (sendings.Datagram length) else
    if code == 3 then Some sendings.Nothing else
    if code == 4 then Some (sendings.NoRoom length) else None

-- what the code, the length and the payload protocol identifier say that a read gave; None where it was refused
abbrev pub read_by : ℕ → ℕ → ℕ → Option ReadAnswer
read_by code length payload_type =
    if code == 0 then Some (reads.Message (identifier_of payload_type) length) else
    if code == 3 then Some reads.Nothing else
    if code == 4 then Some (reads.NoRoom length) else None

-- a moment or a number that a call wrote, where there was one
abbrev pub found_by : ℕ → ℕ → Option ℕ
found_by code number = if code == 0 then Some number else None

-- what the code says that the endpoint was to be told
abbrev pub endpoint_event_by : ℕ → Option EndpointEvent
endpoint_event_by code = if code == 0 then Some drained_event else None

-- A payload protocol identifier goes out as it is: it has a name (RFC 8831 section 8), or is 0. Any other would go out as
-- 0.
abbrev pub names_payload_type : ℕ → Bool
names_payload_type number = number_of (identifier_of number) == number

-- a write may name it, or the payload protocol identifier of the stream
abbrev pub may_be_written : ℕ → Bool
may_be_written number = number == 4294967295 || names_payload_type number

-- what a write names as its payload protocol identifier: the greatest number of 32 bits is that of the stream
abbrev pub payload_type_by : ℕ → Option PayloadProtocolIdentifier
payload_type_by number = if number == 4294967295 then None else Some (identifier_of number)
