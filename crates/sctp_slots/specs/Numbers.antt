-- What numbers stand for that C hands over or is told.
use Rattle.std.specs.Prelude.{ℕ, ◌==◌, Bool, if◌then◌else◌, nat_lt}
use Rattle.sctp_wire_types.specs.declared.error.Error.TheVariants as errors
use Rattle.sctp_wire_types.specs.declared.reliability.ReliabilityType.{ReliabilityType}
use Rattle.sctp_wire_types.specs.declared.reliability.ReliabilityType.TheVariants as kinds
use Rattle.sctp_streams.specs.declared.event.AssociationError.{AssociationError}
use Rattle.sctp_streams.specs.declared.event.AssociationError.TheVariants as reasons

-- none, a number of retransmissions, or a time
abbrev pub names_reliability : ℕ → Bool
names_reliability kind = nat_lt kind 3

-- how long a message is sent again
abbrev pub reliability_by : ℕ → ReliabilityType
reliability_by kind = if kind == 1 then kinds.Rexmit else if kind == 2 then kinds.Timed else kinds.Reliable

-- why an association ended, or its handshake failed
abbrev pub reason_number : AssociationError → ℕ
reason_number (reasons.HandshakeFailed errors.ErrHandshakeInitAck) = 1
reason_number (reasons.HandshakeFailed errors.ErrHandshakeCookieEcho) = 2
reason_number reasons.AssociationClosed = 3
reason_number reasons.ReceiveBufferExhausted = 4
reason_number reason = 5
