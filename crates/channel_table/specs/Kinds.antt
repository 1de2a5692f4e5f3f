-- Roles, and how a stream is told how long a message is tried.
use Rattle.std.specs.Prelude.{ℕ}
use Rattle.sctp_wire_types.specs.declared.reliability.ReliabilityType.{ReliabilityType}
use Rattle.sctp_wire_types.specs.declared.reliability.ReliabilityType.TheVariants as reliabilities
use Rattle.dcep_messages.specs.declared.persistence.Persistence.{Persistence}
use Rattle.dcep_messages.specs.declared.persistence.Persistence.TheVariants as persistences
use Rattle.channel_table.specs.declared.kind.Role.{Role}
use Rattle.channel_table.specs.declared.kind.Role.TheVariants as roles

-- a client's own identifiers are even, a server's odd (RFC 8832 section 6)
abbrev pub own_parity : Role → ℕ
own_parity roles.Client = 0
own_parity roles.Server = 1

-- retransmissions are limited for `Retransmits`, the time for `LifeTime`
abbrev pub reliability_type : Persistence → ReliabilityType
reliability_type persistences.Reliable = reliabilities.Reliable
reliability_type (persistences.Retransmits n) = reliabilities.Rexmit
reliability_type (persistences.LifeTime ms) = reliabilities.Timed

abbrev pub reliability_value : Persistence → ℕ
reliability_value persistences.Reliable = 0
reliability_value (persistences.Retransmits n) = n
reliability_value (persistences.LifeTime ms) = ms
