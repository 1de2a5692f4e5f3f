-- A side asks its peer whether it is there (RFC 4960 section 8.3).
use Rattle.std.specs.Prelude.{ℕ, if◌then◌else◌, [], ◌∷◌, Option, Some, None}
use Rattle.std.specs.Int.{w64, to_be_bytes}
use Rattle.sctp_wire_types.specs.declared.chunk.Chunk.{Chunk}
use Rattle.sctp_wire_types.specs.declared.chunk.Chunk.TheVariants as chunks
use Rattle.sctp_wire_types.specs.declared.error.Error.{Error}
use Rattle.sctp_wire_types.specs.declared.error.Error.TheVariants as errors
use Rattle.sctp_wire_types.specs.declared.param.Param.TheVariants as params
use Rattle.sctp_wire_types.specs.Config.{is_rfc}
use Rattle.sctp_assoc.specs.Calls.{is_established}
use Rattle.sctp_assoc.specs.Shown.{Shown}
use Rattle.sctp_driver.specs.Driving.{Driving}
use Rattle.sctp_driver.specs.Late.{behind, datagram_of}

-- messages and HEARTBEATs are accepted in Established alone
abbrev pub heartbeat_refusal : Shown → Option Error
heartbeat_refusal a =
    if a.failed then Some errors.ErrAssociationFailed else
    if is_established a.state then None else Some errors.ErrPayloadDataStateNotExist

-- a HEARTBEAT whose information is this time, in eight bytes with the high one first (section 3.3.5)
abbrev pub heartbeat : ℕ → Chunk
heartbeat now = chunks.Heartbeat (record { params = params.HeartbeatInfo (to_be_bytes w64 now) ∷ [] })

-- it waits behind the others
abbrev pub asking : Driving → ℕ → Driving
asking d now = record d { waiting = behind d.waiting (datagram_of d.association (heartbeat now)) }

-- by the rules of the RFCs; by those of the port its answer would end the association, and nothing goes out
abbrev pub with_heartbeat : Driving → ℕ → Driving
with_heartbeat d now = if is_rfc d.association.profile then asking d now else d
