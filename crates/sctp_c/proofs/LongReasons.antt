-- What the code of a reason that is too long says of the answer.
use Rattle.std.proofs.Common.{◌≡◌, refl, ap, arith, Result, Ok, Err}
use Rattle.sctp_wire_types.specs.declared.error.Error.{Error}
use Rattle.sctp_wire_types.specs.declared.error.Error.TheVariants as errors
use Rattle.sctp_slots.specs.Codes.{code_of, refusal_code}

-- only a reason that is too long has the code 27
long_code : (e : Error) → refusal_code e ≡ 27 → e ≡ errors.ErrOutboundPacketTooLarge
long_code errors.ErrBadPayloadSize same = absurd (omega (arith, same))
long_code errors.ErrBadInitialTsn same = absurd (omega (arith, same))
long_code errors.ErrBadToken same = absurd (omega (arith, same))
long_code errors.ErrBadTimeout same = absurd (omega (arith, same))
long_code errors.ErrNoMemory same = absurd (omega (arith, same))
long_code errors.ErrAssociationFailed same = absurd (omega (arith, same))
long_code errors.ErrStreamAlreadyExist same = absurd (omega (arith, same))
long_code errors.ErrStreamResetPending same = absurd (omega (arith, same))
long_code errors.ErrStreamCreateFailed same = absurd (omega (arith, same))
long_code errors.ErrStreamNotExisted same = absurd (omega (arith, same))
long_code errors.ErrShutdownNonEstablished same = absurd (omega (arith, same))
long_code errors.ErrPayloadDataStateNotExist same = absurd (omega (arith, same))
long_code errors.ErrResetPacketInStateNotExist same = absurd (omega (arith, same))
long_code errors.ErrHandleInitState same = absurd (omega (arith, same))
long_code errors.ErrInitAckNoCookie same = absurd (omega (arith, same))
long_code errors.ErrAbortChunk same = absurd (omega (arith, same))
long_code errors.ErrChunkTypeUnhandled same = absurd (omega (arith, same))
long_code errors.ErrParameterType same = absurd (omega (arith, same))
long_code errors.ErrInflightQueueTsnPop same = absurd (omega (arith, same))
long_code errors.ErrTsnRequestNotExist same = absurd (omega (arith, same))
long_code errors.ErrReceiveBufferExhausted same = absurd (omega (arith, same))
long_code errors.ErrStreamClosed same = absurd (omega (arith, same))
long_code errors.ErrOutboundPacketTooLarge same = refl
long_code errors.ErrEmptyMessage same = absurd (omega (arith, same))
long_code errors.ErrHandshakeInitAck same = absurd (omega (arith, same))
long_code errors.ErrHandshakeCookieEcho same = absurd (omega (arith, same))
long_code errors.ErrContradictoryPieces same = absurd (omega (arith, same))
long_code errors.ErrInboundMessageTooLarge same = absurd (omega (arith, same))
long_code (errors.Malformed fault) same = absurd (omega (arith, same))

pub when_long : {T : Type 0} (answer : Result T Error) (P : Type 0)
    → (answer ≡ Err errors.ErrOutboundPacketTooLarge → P) → code_of answer ≡ 27 → P
when_long (Ok answer) P so same = absurd (omega (arith, same))
when_long (Err e) P so same = so (ap Err (long_code e same))
