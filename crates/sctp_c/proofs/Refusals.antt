-- What codes say of the answers that they stand for.
use Rattle.std.specs.Prelude.{◌≡◌, ◌≢◌, ◌⊎◌, ℕ, List, [], ◌∷◌, Option, Some, None, Result, Ok, Err, IfOk, IfSome}
use Rattle.std.specs.Prelude.{is_ok, IsErrOf, IsOkAnd, IsSomeAnd, OnOk, OnErr}
use Rattle.std.proofs.Common.{refl, sym, ap, ◌∙◌, subst, inl, inr, arith}
use Rattle.std.proofs.lemmas.Bool.{true≢false}
use Rattle.std.proofs.lemmas.Option.{none-some, same_Some}
use Rattle.sctp_wire_types.specs.declared.error.Error.{Error}
use Rattle.sctp_wire_types.specs.declared.error.Error.TheVariants as errors
use Rattle.sctp_wire_types.specs.declared.ids.PayloadProtocolIdentifier.{PayloadProtocolIdentifier}
use Rattle.sctp_wire_types.specs.declared.ids.PayloadProtocolIdentifier.TheVariants as kinds
use Rattle.sctp_wire_types.specs.Ids.{identifier_of, number_of}
use Rattle.sctp_assoc.specs.Calls.{Refuses, RefusesOrLacksMemory}
use Rattle.sctp_driver.specs.declared.messages.ReadAnswer.{ReadAnswer}
use Rattle.sctp_driver.specs.declared.messages.ReadAnswer.TheVariants as reads
use Rattle.sctp_driver.specs.declared.sending.PollAnswer.{PollAnswer}
use Rattle.sctp_driver.specs.declared.sending.PollAnswer.TheVariants as sendings
use Rattle.sctp_driver.specs.Driving.{Driving, KeptMessage}
use Rattle.sctp_driver.specs.Messages.{GivesAt, Reads, index_of}
use Rattle.sctp_driver.specs.Sending.{Sends, Takes}
use Rattle.sctp_slots.specs.Codes.{code_of, refusal_code}
use Rattle.sctp_c.specs.Codes.{answer_in, code_with, read_by, read_code, sent_by, sent_code}
use Rattle.sctp_driver.specs.Driving.{with_association}
use Rattle.sctp_driver.specs.Silence.{timed_out}
use Rattle.sctp_c.specs.Slots.{IsCode, IsCodeOrLacksMemory, IsPlaced, OnHeld}

-- the code of a refusal is not that of a call that was done
pub never_done : (e : Error) → refusal_code e ≢ 0
never_done errors.ErrBadPayloadSize = λ same. omega (arith, same)
never_done errors.ErrBadInitialTsn = λ same. omega (arith, same)
never_done errors.ErrBadToken = λ same. omega (arith, same)
never_done errors.ErrBadTimeout = λ same. omega (arith, same)
never_done errors.ErrNoMemory = λ same. omega (arith, same)
never_done errors.ErrAssociationFailed = λ same. omega (arith, same)
never_done errors.ErrStreamAlreadyExist = λ same. omega (arith, same)
never_done errors.ErrStreamResetPending = λ same. omega (arith, same)
never_done errors.ErrStreamCreateFailed = λ same. omega (arith, same)
never_done errors.ErrStreamNotExisted = λ same. omega (arith, same)
never_done errors.ErrShutdownNonEstablished = λ same. omega (arith, same)
never_done errors.ErrPayloadDataStateNotExist = λ same. omega (arith, same)
never_done errors.ErrResetPacketInStateNotExist = λ same. omega (arith, same)
never_done errors.ErrHandleInitState = λ same. omega (arith, same)
never_done errors.ErrInitAckNoCookie = λ same. omega (arith, same)
never_done errors.ErrAbortChunk = λ same. omega (arith, same)
never_done errors.ErrChunkTypeUnhandled = λ same. omega (arith, same)
never_done errors.ErrParameterType = λ same. omega (arith, same)
never_done errors.ErrInflightQueueTsnPop = λ same. omega (arith, same)
never_done errors.ErrTsnRequestNotExist = λ same. omega (arith, same)
never_done errors.ErrReceiveBufferExhausted = λ same. omega (arith, same)
never_done errors.ErrStreamClosed = λ same. omega (arith, same)
never_done errors.ErrOutboundPacketTooLarge = λ same. omega (arith, same)
never_done errors.ErrEmptyMessage = λ same. omega (arith, same)
never_done errors.ErrHandshakeInitAck = λ same. omega (arith, same)
never_done errors.ErrHandshakeCookieEcho = λ same. omega (arith, same)
never_done errors.ErrContradictoryPieces = λ same. omega (arith, same)
never_done errors.ErrInboundMessageTooLarge = λ same. omega (arith, same)
never_done (errors.Malformed fault) = λ same. omega (arith, same)

-- only want of memory has the code 2
memory_code : (e : Error) → refusal_code e ≡ 2 → e ≡ errors.ErrNoMemory
memory_code errors.ErrBadPayloadSize same = absurd (omega (arith, same))
memory_code errors.ErrBadInitialTsn same = absurd (omega (arith, same))
memory_code errors.ErrBadToken same = absurd (omega (arith, same))
memory_code errors.ErrBadTimeout same = absurd (omega (arith, same))
memory_code errors.ErrNoMemory same = refl
memory_code errors.ErrAssociationFailed same = absurd (omega (arith, same))
memory_code errors.ErrStreamAlreadyExist same = absurd (omega (arith, same))
memory_code errors.ErrStreamResetPending same = absurd (omega (arith, same))
memory_code errors.ErrStreamCreateFailed same = absurd (omega (arith, same))
memory_code errors.ErrStreamNotExisted same = absurd (omega (arith, same))
memory_code errors.ErrShutdownNonEstablished same = absurd (omega (arith, same))
memory_code errors.ErrPayloadDataStateNotExist same = absurd (omega (arith, same))
memory_code errors.ErrResetPacketInStateNotExist same = absurd (omega (arith, same))
memory_code errors.ErrHandleInitState same = absurd (omega (arith, same))
memory_code errors.ErrInitAckNoCookie same = absurd (omega (arith, same))
memory_code errors.ErrAbortChunk same = absurd (omega (arith, same))
memory_code errors.ErrChunkTypeUnhandled same = absurd (omega (arith, same))
memory_code errors.ErrParameterType same = absurd (omega (arith, same))
memory_code errors.ErrInflightQueueTsnPop same = absurd (omega (arith, same))
memory_code errors.ErrTsnRequestNotExist same = absurd (omega (arith, same))
memory_code errors.ErrReceiveBufferExhausted same = absurd (omega (arith, same))
memory_code errors.ErrStreamClosed same = absurd (omega (arith, same))
memory_code errors.ErrOutboundPacketTooLarge same = absurd (omega (arith, same))
memory_code errors.ErrEmptyMessage same = absurd (omega (arith, same))
memory_code errors.ErrHandshakeInitAck same = absurd (omega (arith, same))
memory_code errors.ErrHandshakeCookieEcho same = absurd (omega (arith, same))
memory_code errors.ErrContradictoryPieces same = absurd (omega (arith, same))
memory_code errors.ErrInboundMessageTooLarge same = absurd (omega (arith, same))
memory_code (errors.Malformed fault) same = absurd (omega (arith, same))

-- only a failed association has the code 10
failed_code : (e : Error) → refusal_code e ≡ 10 → e ≡ errors.ErrAssociationFailed
failed_code errors.ErrBadPayloadSize same = absurd (omega (arith, same))
failed_code errors.ErrBadInitialTsn same = absurd (omega (arith, same))
failed_code errors.ErrBadToken same = absurd (omega (arith, same))
failed_code errors.ErrBadTimeout same = absurd (omega (arith, same))
failed_code errors.ErrNoMemory same = absurd (omega (arith, same))
failed_code errors.ErrAssociationFailed same = refl
failed_code errors.ErrStreamAlreadyExist same = absurd (omega (arith, same))
failed_code errors.ErrStreamResetPending same = absurd (omega (arith, same))
failed_code errors.ErrStreamCreateFailed same = absurd (omega (arith, same))
failed_code errors.ErrStreamNotExisted same = absurd (omega (arith, same))
failed_code errors.ErrShutdownNonEstablished same = absurd (omega (arith, same))
failed_code errors.ErrPayloadDataStateNotExist same = absurd (omega (arith, same))
failed_code errors.ErrResetPacketInStateNotExist same = absurd (omega (arith, same))
failed_code errors.ErrHandleInitState same = absurd (omega (arith, same))
failed_code errors.ErrInitAckNoCookie same = absurd (omega (arith, same))
failed_code errors.ErrAbortChunk same = absurd (omega (arith, same))
failed_code errors.ErrChunkTypeUnhandled same = absurd (omega (arith, same))
failed_code errors.ErrParameterType same = absurd (omega (arith, same))
failed_code errors.ErrInflightQueueTsnPop same = absurd (omega (arith, same))
failed_code errors.ErrTsnRequestNotExist same = absurd (omega (arith, same))
failed_code errors.ErrReceiveBufferExhausted same = absurd (omega (arith, same))
failed_code errors.ErrStreamClosed same = absurd (omega (arith, same))
failed_code errors.ErrOutboundPacketTooLarge same = absurd (omega (arith, same))
failed_code errors.ErrEmptyMessage same = absurd (omega (arith, same))
failed_code errors.ErrHandshakeInitAck same = absurd (omega (arith, same))
failed_code errors.ErrHandshakeCookieEcho same = absurd (omega (arith, same))
failed_code errors.ErrContradictoryPieces same = absurd (omega (arith, same))
failed_code errors.ErrInboundMessageTooLarge same = absurd (omega (arith, same))
failed_code (errors.Malformed fault) same = absurd (omega (arith, same))

pub none_sent : (e : Error) (length : ℕ) → sent_by (refusal_code e) length ≡ None
none_sent errors.ErrBadPayloadSize length = refl
none_sent errors.ErrBadInitialTsn length = refl
none_sent errors.ErrBadToken length = refl
none_sent errors.ErrBadTimeout length = refl
none_sent errors.ErrNoMemory length = refl
none_sent errors.ErrAssociationFailed length = refl
none_sent errors.ErrStreamAlreadyExist length = refl
none_sent errors.ErrStreamResetPending length = refl
none_sent errors.ErrStreamCreateFailed length = refl
none_sent errors.ErrStreamNotExisted length = refl
none_sent errors.ErrShutdownNonEstablished length = refl
none_sent errors.ErrPayloadDataStateNotExist length = refl
none_sent errors.ErrResetPacketInStateNotExist length = refl
none_sent errors.ErrHandleInitState length = refl
none_sent errors.ErrInitAckNoCookie length = refl
none_sent errors.ErrAbortChunk length = refl
none_sent errors.ErrChunkTypeUnhandled length = refl
none_sent errors.ErrParameterType length = refl
none_sent errors.ErrInflightQueueTsnPop length = refl
none_sent errors.ErrTsnRequestNotExist length = refl
none_sent errors.ErrReceiveBufferExhausted length = refl
none_sent errors.ErrStreamClosed length = refl
none_sent errors.ErrOutboundPacketTooLarge length = refl
none_sent errors.ErrEmptyMessage length = refl
none_sent errors.ErrHandshakeInitAck length = refl
none_sent errors.ErrHandshakeCookieEcho length = refl
none_sent errors.ErrContradictoryPieces length = refl
none_sent errors.ErrInboundMessageTooLarge length = refl
none_sent (errors.Malformed fault) length = refl

pub none_read : (e : Error) (length payload_type : ℕ) → read_by (refusal_code e) length payload_type ≡ None
none_read errors.ErrBadPayloadSize length payload_type = refl
none_read errors.ErrBadInitialTsn length payload_type = refl
none_read errors.ErrBadToken length payload_type = refl
none_read errors.ErrBadTimeout length payload_type = refl
none_read errors.ErrNoMemory length payload_type = refl
none_read errors.ErrAssociationFailed length payload_type = refl
none_read errors.ErrStreamAlreadyExist length payload_type = refl
none_read errors.ErrStreamResetPending length payload_type = refl
none_read errors.ErrStreamCreateFailed length payload_type = refl
none_read errors.ErrStreamNotExisted length payload_type = refl
none_read errors.ErrShutdownNonEstablished length payload_type = refl
none_read errors.ErrPayloadDataStateNotExist length payload_type = refl
none_read errors.ErrResetPacketInStateNotExist length payload_type = refl
none_read errors.ErrHandleInitState length payload_type = refl
none_read errors.ErrInitAckNoCookie length payload_type = refl
none_read errors.ErrAbortChunk length payload_type = refl
none_read errors.ErrChunkTypeUnhandled length payload_type = refl
none_read errors.ErrParameterType length payload_type = refl
none_read errors.ErrInflightQueueTsnPop length payload_type = refl
none_read errors.ErrTsnRequestNotExist length payload_type = refl
none_read errors.ErrReceiveBufferExhausted length payload_type = refl
none_read errors.ErrStreamClosed length payload_type = refl
none_read errors.ErrOutboundPacketTooLarge length payload_type = refl
none_read errors.ErrEmptyMessage length payload_type = refl
none_read errors.ErrHandshakeInitAck length payload_type = refl
none_read errors.ErrHandshakeCookieEcho length payload_type = refl
none_read errors.ErrContradictoryPieces length payload_type = refl
none_read errors.ErrInboundMessageTooLarge length payload_type = refl
none_read (errors.Malformed fault) length payload_type = refl

-- a payload protocol identifier is what its number names
pub number_names : (kind : PayloadProtocolIdentifier) → identifier_of (number_of kind) ≡ kind
number_names kinds.Dcep = refl
number_names kinds.String = refl
number_names kinds.Binary = refl
number_names kinds.StringEmpty = refl
number_names kinds.BinaryEmpty = refl
number_names kinds.Unknown = refl

pub of_refusal : {T : Type 0} (answer : Result T Error) (refusal : Option Error)
    → Refuses answer refusal → IsCode refusal (code_of answer)
of_refusal (Ok answer) None same = refl
of_refusal (Err e) (Some f) same = ap refusal_code (sym (same_Some f e same))
of_refusal (Ok answer) (Some f) same = absurd (none-some f (sym same))
of_refusal (Err e) None same = absurd (none-some e same)

pub of_refusal_or_memory : {T : Type 0} (answer : Result T Error) (refusal : Option Error)
    → RefusesOrLacksMemory answer refusal → IsCodeOrLacksMemory refusal (code_of answer)
of_refusal_or_memory (Ok answer) None same = inl refl
of_refusal_or_memory (Err e) None same = inr (ap refusal_code same)
of_refusal_or_memory (Err e) (Some f) same = ap refusal_code same
of_refusal_or_memory (Ok answer) (Some f) same = absurd (none-some f (sym same))

pub when_done : {T : Type 0} (answer : Result T Error) (P : Type 0) → OnOk answer P → code_of answer ≡ 0 → P
when_done (Ok answer) P holds same = holds
when_done (Err e) P holds same = absurd (never_done e same)

pub when_refused : {T : Type 0} (answer : Result T Error) (P : Type 0) → OnErr answer P → code_of answer ≢ 0 → P
when_refused (Ok answer) P holds other = absurd (other refl)
when_refused (Err e) P holds other = holds

pub when_memory : {T : Type 0} (answer : Result T Error) (P : Type 0)
    → (answer ≡ Err errors.ErrNoMemory → P) → code_of answer ≡ 2 → P
when_memory (Ok answer) P so same = absurd (omega (arith, same))
when_memory (Err e) P so same = so (ap Err (memory_code e same))

-- a call that is refused by a rule changes nothing
pub when_unchanged : {T : Type 0} (answer : Result T Error) (refusal : Option Error) (P : Type 0)
    → RefusesOrLacksMemory answer refusal → IfSome refusal (λ e. P) → code_of answer ≢ 0 → code_of answer ≢ 2 → P
when_unchanged (Ok answer) refusal P same holds undone lacks = absurd (undone refl)
when_unchanged (Err e) None P same holds undone lacks = absurd (lacks (ap refusal_code same))
when_unchanged (Err e) (Some f) P same holds undone lacks = holds

pub when_failed : {T : Type 0} (answer : Result T Error) (P : Type 0)
    → (answer ≡ Err errors.ErrAssociationFailed → P) → code_of answer ≡ 10 → P
when_failed (Ok answer) P so same = absurd (omega (arith, same))
when_failed (Err e) P so same = so (ap Err (failed_code e same))

pub when_answered : {T : Type 0} (answer : Result T Error) (P : T → Type 0) → IfOk answer P
    → IfSome (answer_in answer) P
when_answered (Ok answer) P holds = holds
when_answered (Err e) P holds = tt

pub sent_memory : (answer : Result PollAnswer Error) (P : Type 0)
    → (answer ≡ Err errors.ErrNoMemory → P) → code_with sent_code answer ≡ 2 → P
sent_memory (Ok (sendings.Datagram n)) P so same = absurd (omega (arith, same))
sent_memory (Ok sendings.Nothing) P so same = absurd (omega (arith, same))
sent_memory (Ok (sendings.NoRoom n)) P so same = absurd (omega (arith, same))
sent_memory (Err e) P so same = so (ap Err (memory_code e same))

pub sent_failed : (answer : Result PollAnswer Error) (P : Type 0)
    → (answer ≡ Err errors.ErrAssociationFailed → P) → code_with sent_code answer ≡ 10 → P
sent_failed (Ok (sendings.Datagram n)) P so same = absurd (omega (arith, same))
sent_failed (Ok sendings.Nothing) P so same = absurd (omega (arith, same))
sent_failed (Ok (sendings.NoRoom n)) P so same = absurd (omega (arith, same))
sent_failed (Err e) P so same = so (ap Err (failed_code e same))

-- where no datagram is given the buffer stays as it was
takes_none : (waiting : List (List ℕ)) (buffer : List ℕ) (a : PollAnswer) (left : List (List ℕ)) (filled : List ℕ)
    → Takes waiting buffer a left filled → sent_code a ≢ 0 → filled ≡ buffer
takes_none waiting buffer (sendings.Datagram n) left filled holds other = absurd (other refl)
takes_none [] buffer sendings.Nothing left filled holds other = holds.1
takes_none (w ∷ ws) buffer sendings.Nothing left filled holds other = absurd holds
takes_none [] buffer (sendings.NoRoom n) left filled holds other = absurd holds
takes_none (w ∷ ws) buffer (sendings.NoRoom n) left filled holds other = holds.3

pub unfilled_sent : (d e : Driving) (buffer filled : List ℕ) (answer : Result PollAnswer Error)
    → IfOk answer (λ a. Sends d buffer a e filled) → OnErr answer (filled ≡ buffer)
    → code_with sent_code answer ≢ 0 → filled ≡ buffer
unfilled_sent d e buffer filled (Ok a) holds refused other =
    takes_none d.waiting buffer a e.waiting filled holds.0 other
unfilled_sent d e buffer filled (Err f) holds refused other = refused

-- the same of a message
gives_none : (index : Option ℕ) (kept : List KeptMessage) (buffer : List ℕ) (a : ReadAnswer) (left : List KeptMessage)
    (filled : List ℕ) → GivesAt index kept buffer a left filled → read_code a ≢ 0 → filled ≡ buffer
gives_none index kept buffer (reads.Message kind n) left filled holds other = absurd (other refl)
gives_none None kept buffer reads.Nothing left filled holds other = holds.1
gives_none (Some i) kept buffer reads.Nothing left filled holds other = absurd holds
gives_none None kept buffer (reads.NoRoom n) left filled holds other = absurd holds
gives_none (Some i) kept buffer (reads.NoRoom n) left filled holds other = holds.3

pub unfilled_read : (d e : Driving) (id : ℕ) (buffer filled : List ℕ) (answer : Result ReadAnswer Error)
    → IfOk answer (λ a. Reads d id buffer a e filled) → OnErr answer (filled ≡ buffer)
    → code_with read_code answer ≢ 0 → filled ≡ buffer
unfilled_read d e id buffer filled (Ok a) holds refused other =
    gives_none (index_of id d.kept) d.kept buffer a e.kept filled holds.0 other
unfilled_read d e id buffer filled (Err f) holds refused other = refused

-- the code of a driver that was made and put into a slot
pub when_placed : (made : Result Driving Error) (refusal : Option Error) (code : ℕ)
    → RefusesOrLacksMemory made refusal → IsPlaced made code → IsCodeOrLacksMemory refusal code
when_placed (Ok d) None code same placed = placed
when_placed (Ok d) (Some f) code same placed = absurd (none-some f (sym same))
when_placed (Err e) None code same placed = inr (placed ∙ ap refusal_code same)
when_placed (Err e) (Some f) code same placed = placed ∙ ap refusal_code same

-- a call that is refused by a rule or for want of memory lacks memory, or is refused by that rule
pub lacks_or_refuses : {T : Type 0} (answer : Result T Error) (refusal : Option Error)
    → RefusesOrLacksMemory answer refusal → IsErrOf answer errors.ErrNoMemory ⊎ Refuses answer refusal
lacks_or_refuses (Ok answer) refusal same = inr same
lacks_or_refuses (Err e) None same = inl (ap Err same)
lacks_or_refuses (Err e) (Some f) same = inr (ap Some (sym same))

error_in : Error → Result Driving Error → Error
error_in other (Ok d) = other
error_in other (Err e) = e

same_error : (e f : Error) (made : Result Driving Error) → made ≡ Err f → made ≡ Err e → e ≡ f
unfolding error_in
same_error e f made is_f is_e = sym (ap (error_in e) is_e) ∙ ap (error_in e) is_f

pub when_joined : (made : Result Driving Error) (refusal : Option Error) (code : ℕ)
    → IsErrOf made errors.ErrNoMemory ⊎ Refuses made refusal → IsPlaced made code → (code ≡ 2) ⊎ IsCode refusal code
when_joined (Ok d) None code same (inl done) = inr done
when_joined (Ok d) None code same (inr lacks) = inl lacks
when_joined (Ok d) (Some f) code (inr same) placed = absurd (none-some f (sym same))
when_joined (Ok d) (Some f) code (inl same) placed = absurd (true≢false (ap is_ok same))
when_joined (Err e) refusal code (inl same) placed =
    inl (placed ∙ ap refusal_code (same_error e errors.ErrNoMemory (Err e) same refl))
when_joined (Err e) None code (inr same) placed = absurd (none-some e same)
when_joined (Err e) (Some f) code (inr same) placed = inr (placed ∙ ap refusal_code (sym (same_Some f e same)))

pub when_made : (made : Result Driving Error) (P : Driving → Type 0) (held : Option Driving)
    → IfOk made P → IsOkAnd made (λ d. held ≡ Some d) → IsSomeAnd held P
when_made (Ok d) P held holds same = subst (λ (o : Option Driving). IsSomeAnd o P) (sym same) holds
when_made (Err e) P held holds same = absurd same

-- what the timers asked for was done to the driver that lies in a box: `d` and `e` are what the box holds before and
-- after, and `o` and `n` what the call was lent and what it left
module _ (now : ℕ) {before after : Option Driving} {d o e n : Driving} (is_d : before ≡ Some d) (is_e : after ≡ Some e)
    (lent : o ≡ d) (left : e ≡ n)
  where
    pub when_timed : (answer : Result Unit Error) {code : ℕ}
        → OnOk answer (n ≡ with_association o (timed_out o.association o.shutdown_limit now)) → code ≡ code_of answer
        → code ≡ 0
        → OnHeld before after (λ d e. e ≡ with_association d (timed_out d.association d.shutdown_limit now))
    when_timed answer holds same done =
        subst
        (λ (b : Option Driving). OnHeld b after
        (λ d e. e ≡ with_association d (timed_out d.association d.shutdown_limit now)))
        (sym is_d)
        (subst (λ (a : Option Driving). OnHeld (Some d) a
        (λ d e. e ≡ with_association d (timed_out d.association d.shutdown_limit now)))
        (sym is_e)
        (left ∙ subst
        (λ (b : Driving). n ≡ with_association b (timed_out b.association b.shutdown_limit now)) lent
        (when_done answer (n ≡ with_association o (timed_out o.association o.shutdown_limit now)) holds
        (sym same ∙ done))))
