-- What a driver makes of a datagram that it takes, also of one that comes to an association that is over.
use Rattle.std.specs.Prelude.{ℕ, Bool, true, false, ◌==◌, ◌&&◌, if◌then◌else◌, not, length, List, [], ◌∷◌, ◌++◌}
use Rattle.std.specs.Prelude.{Option, Some, None, Result, Ok, Err}
use Rattle.sctp_wire_types.specs.declared.chunk.Chunk.{Chunk}
use Rattle.sctp_wire_types.specs.declared.chunk.Chunk.TheVariants as chunks
use Rattle.sctp_wire_types.specs.declared.error.Fault.{Fault}
use Rattle.sctp_wire_types.specs.Config.{is_rfc}
use Rattle.sctp_wire.specs.declared.partial.PartialDecode.{PartialDecode}
use Rattle.sctp_wire.specs.Packets.{packet_with, partial_at, written}
use Rattle.sctp_inbound.specs.Handshake.{header_of}
use Rattle.sctp_assoc.specs.Chunks.{after_packet}
use Rattle.sctp_assoc.specs.Shown.{Shown}
use Rattle.sctp_driver.specs.declared.tags.FirstChunk.{FirstChunk}
use Rattle.sctp_driver.specs.declared.tags.FirstChunk.TheVariants as firsts
use Rattle.sctp_driver.specs.Driving.{Driving}
use Rattle.sctp_driver.specs.Tags.{first_chunk_of, packet_in}

abbrev pub spelled : Result (List ℕ) Fault → Option (List ℕ)
spelled (Ok datagram) = Some datagram
spelled (Err fault) = None

-- the datagram of a side with this chunk alone
abbrev pub datagram_of : Shown → Chunk → Option (List ℕ)
datagram_of a chunk = spelled (written (packet_with (header_of a.handshake) (chunk ∷ [])))

-- that with a SHUTDOWN COMPLETE
abbrev pub complete_of : Shown → Option (List ℕ)
complete_of a = datagram_of a chunks.ShutdownComplete

abbrev pub behind : List (List ℕ) → Option (List ℕ) → List (List ℕ)
behind waiting None = waiting
behind waiting (Some datagram) = waiting ++ datagram ∷ []

abbrev pub is_shutdown_ack : FirstChunk → Bool
is_shutdown_ack firsts.ShutdownAck = true
is_shutdown_ack first = false

-- By the rules of the RFCs a SHUTDOWN ACK is answered that comes to an association which is over, unless something
-- waits: the SHUTDOWN COMPLETE before may have been lost, and the peer would ask for ever (RFC 4960 section 8.4).
abbrev pub answers_late : Driving → PartialDecode → Bool
answers_late d packet =
    d.association.lost && is_rfc d.association.profile && is_shutdown_ack (first_chunk_of packet.remaining)
    && not (d.association.handshake.peer_verification_tag == 0) && (length d.waiting == 0)

abbrev pub late_answer : Driving → Result PartialDecode Fault → List (List ℕ)
late_answer d (Ok packet) = if answers_late d packet then behind d.waiting (complete_of d.association) else d.waiting
late_answer d (Err fault) = d.waiting

-- a datagram was taken: the association has its packet, or answers it late
abbrev pub with_datagram : Driving → List ℕ → ℕ → Driving
with_datagram d bytes now = record d {
  association = after_packet d.association (packet_in bytes) now;
  waiting = late_answer d (partial_at bytes);
}
