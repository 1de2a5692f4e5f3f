-- A side ends an association by an ABORT that says why (RFC 4960 sections 9.1 and 3.3.10.12).
use Rattle.std.specs.Prelude.{◌≡◌, ◌==◌, ℕ, Bool, true, false, List, [], ◌∷◌, ◌++◌, Result, Ok, Err}
use Rattle.sctp_wire_types.specs.declared.chunk.Chunk.{Chunk}
use Rattle.sctp_wire_types.specs.declared.chunk.Chunk.TheVariants as chunks
use Rattle.sctp_wire_types.specs.declared.error.Fault.{Fault}
use Rattle.sctp_wire.specs.Packets.{packet_with, written}
use Rattle.sctp_inbound.specs.Handshake.{header_of}
use Rattle.sctp_streams.specs.declared.event.AssociationError.TheVariants as reasons
use Rattle.sctp_assoc.specs.Closing.{closed_by, is_closed_state}
use Rattle.sctp_assoc.specs.Shown.{Shown}
use Rattle.sctp_driver.specs.Driving.{Driving, with_association}

-- an ABORT with the cause User-Initiated Abort, which has these bytes as its reason
abbrev pub user_abort : List ℕ → Chunk
user_abort reason = chunks.Abort (record { error_causes = record { code = 12; value = reason } ∷ [] })

-- the datagram that an association tells it by, or that the reason is too long for the length of a chunk
abbrev pub abort_of : Shown → List ℕ → Result (List ℕ) Fault
abort_of a reason = written (packet_with (header_of a.handshake) (user_abort reason ∷ []))

-- the association as its application closes it
abbrev pub closed : Shown → Shown
closed a = closed_by a reasons.AssociationClosed

-- it closes, and this datagram waits behind the others
abbrev pub ClosesWith : Result (List ℕ) Fault → Driving → Driving → Type 0
ClosesWith (Ok datagram) d e =
    e ≡ record d { association = closed d.association; waiting = d.waiting ++ datagram ∷ [] }
ClosesWith (Err fault) d e = ⊥

-- In Closed nothing changes. Before the peer's tag is known nobody can be told, and it closes; else it closes, and an
-- ABORT with this reason goes out.
abbrev pub AbortsWhere : Bool → Bool → Driving → List ℕ → Driving → Type 0
AbortsWhere true unknown d reason e = e ≡ d
AbortsWhere false true d reason e = e ≡ with_association d (closed d.association)
AbortsWhere false false d reason e = ClosesWith (abort_of d.association reason) d e

-- an association is aborted
abbrev pub Aborts : Driving → List ℕ → Driving → Type 0
Aborts d reason e =
    AbortsWhere (is_closed_state d.association.state) (d.association.handshake.peer_verification_tag == 0) d reason e

-- the reason does not fit an ABORT
abbrev pub IsTooLong : Shown → List ℕ → Type 0
IsTooLong a reason = (fault : Fault) × (abort_of a reason ≡ Err fault)
