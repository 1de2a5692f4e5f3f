-- The packets that go out in front of DATA: those of the handshake, and answers (RFC 4960 sections 5.1 and 8.3).
use Rattle.std.specs.Prelude.{◌∷◌, ◌++◌, []}
use Rattle.sctp_wire_types.specs.declared.chunk.Chunk.{Chunk}
use Rattle.sctp_wire_types.specs.declared.packet.CommonHeader.{CommonHeader}
use Rattle.sctp_inbound.specs.Handshake.{header_of}
use Rattle.sctp_assoc.specs.declared.control.Control.TheVariants as controls
use Rattle.sctp_assoc.specs.Shown.{Shown}

-- a packet of this chunk waits to go out under this header, behind those that wait already
abbrev pub queued_under : CommonHeader → Shown → Chunk → Shown
queued_under header a chunk = record a {
  control = a.control ++ controls.Packet (record { header = header; chunk = chunk }) ∷ [];
}

-- the same under the ports and the tag of this moment
abbrev pub queued : Shown → Chunk → Shown
queued a chunk = queued_under (header_of a.handshake) a chunk

-- the same header with the verification tag 0, as a packet with INIT has it (RFC 4960 section 8.5.1)
abbrev pub untagged : CommonHeader → CommonHeader
untagged header = record header { verification_tag = 0 }

-- a request of this side to reset streams has its place behind what waits (RFC 6525 section 5.1.2)
abbrev pub asking : Shown → Shown
asking a = record a { control = a.control ++ controls.OwnRequest ∷ [] }
