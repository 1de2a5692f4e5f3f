use Rattle.std.specs.Prelude.{ℕ}
use Rattle.sctp_wire_types.specs.declared.error.Error.{Error}
use Rattle.sctp_wire_types.specs.declared.error.Error.TheVariants as errors

-- the number under which a refusal is reported; 0 for an error that has none
abbrev pub refusal_number : Error → ℕ
refusal_number errors.ErrBadPayloadSize = 1
refusal_number errors.ErrBadInitialTsn = 2
refusal_number errors.ErrBadToken = 3
refusal_number errors.ErrNoMemory = 4
refusal_number errors.ErrAssociationFailed = 5
refusal_number errors.ErrStreamAlreadyExist = 6
refusal_number errors.ErrStreamResetPending = 7
refusal_number errors.ErrStreamCreateFailed = 8
refusal_number errors.ErrStreamNotExisted = 9
refusal_number errors.ErrShutdownNonEstablished = 10
refusal_number errors.ErrPayloadDataStateNotExist = 11
refusal_number errors.ErrResetPacketInStateNotExist = 12
refusal_number errors.ErrHandleInitState = 13
refusal_number errors.ErrInitAckNoCookie = 14
refusal_number errors.ErrAbortChunk = 15
refusal_number errors.ErrChunkTypeUnhandled = 16
refusal_number errors.ErrParameterType = 17
refusal_number errors.ErrInflightQueueTsnPop = 18
refusal_number errors.ErrTsnRequestNotExist = 19
refusal_number errors.ErrReceiveBufferExhausted = 20
refusal_number errors.ErrStreamClosed = 21
refusal_number errors.ErrOutboundPacketTooLarge = 22
refusal_number errors.ErrEmptyMessage = 23
refusal_number errors.ErrBadTimeout = 0
refusal_number errors.ErrHandshakeInitAck = 0
refusal_number errors.ErrHandshakeCookieEcho = 0
refusal_number errors.ErrContradictoryPieces = 0
refusal_number errors.ErrInboundMessageTooLarge = 0
refusal_number (errors.Malformed f) = 0
