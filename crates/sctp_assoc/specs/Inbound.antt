-- What a datagram brings to an association.
use Rattle.std.specs.Prelude.{Bool, true, false, is_ok, if◌then◌else◌, Result, Ok, Err, Option, Some, None}
use Rattle.sctp_wire_types.specs.declared.error.Error.{Error}
use Rattle.sctp_wire_types.specs.declared.error.Fault.{Fault}
use Rattle.sctp_wire.specs.declared.packet.Packet.{Packet}
use Rattle.sctp_wire.specs.declared.transmit.Transmit.{Transmit}
use Rattle.sctp_wire.specs.declared.transmit.Payload.{Payload}
use Rattle.sctp_wire.specs.declared.transmit.Payload.TheVariants as payloads
use Rattle.sctp_wire.specs.Packets.{finished, checked}
use Rattle.sctp_assoc.specs.declared.shared.AssociationEvent.{AssociationEvent}

-- what an event hands in
abbrev pub transmit_of : AssociationEvent → Transmit
transmit_of event = event.transmit

-- the packet that a datagram's bytes spell; none where they spell none, or it is refused as a packet
abbrev pub taken_packet : Result Packet Fault → Option Packet
taken_packet (Ok packet) = if is_ok (checked packet) then Some packet else None
taken_packet (Err fault) = None

-- the packet that reading gave; none where nothing was read, or it is refused as a packet
abbrev pub packet_read : Result Packet Error → Option Packet
packet_read (Ok packet) = if is_ok (checked packet) then Some packet else None
packet_read (Err error) = None

-- a datagram came, that is still to be read
abbrev pub is_datagram : Payload → Bool
is_datagram (payloads.PartialDecode datagram) = true
is_datagram (payloads.RawEncode packets) = false

abbrev pub packet_within : Payload → Option Packet
packet_within (payloads.PartialDecode datagram) = taken_packet (finished datagram)
packet_within (payloads.RawEncode packets) = None

-- the packet that an event brings; none where the datagram does not decode or is refused as a packet
abbrev pub packet_of_event : AssociationEvent → Option Packet
packet_of_event event = packet_within (transmit_of event).payload
