-- What a line of hex stands for.
use Rattle.std.specs.Prelude.{◌≡◌, ℕ, List, Option, Some, None, Result, Ok, Err, eqb}
use Rattle.std.specs.List.{after_first}
use Rattle.hex.specs.Hex.{decode_of}
use Rattle.hex.specs.declared.error.FromHexError.{FromHexError}
use Rattle.sctp_wire_types.specs.declared.error.Error.TheVariants as errors
use Rattle.sctp_wire_types.specs.declared.error.Fault.{Fault}
use Rattle.sctp_wire.specs.declared.packet.Packet.{Packet}
use Rattle.sctp_wire.specs.Packets.{packet_at}
use Rattle.packet_dump.specs.declared.reading.Reading.{Reading}
use Rattle.packet_dump.specs.declared.reading.Reading.TheVariants as readings

abbrev pub packet_in : Result (List ℕ) FromHexError → Option (Result Packet Fault)
packet_in (Ok bytes) = Some (packet_at bytes)
packet_in (Err e) = None

-- the packet that a line spells in hex, or its first fault; None where the line is no hex
abbrev pub packet_of_line : List ℕ → Option (Result Packet Fault)
packet_of_line line = packet_in (decode_of line)

-- the reading is what stands in the line
abbrev pub Shows : List ℕ → Reading → Type 0
Shows line readings.NotHex = packet_of_line line ≡ None
Shows line (readings.Refused (errors.Malformed f)) = packet_of_line line ≡ Some (Err f)
Shows line (readings.Refused _) = ⊥
Shows line (readings.Read packet) = packet_of_line line ≡ Some (Ok packet)

-- what stands behind the first space of a line
abbrev pub behind_space : List ℕ → List ℕ
behind_space line = after_first (λ byte. eqb byte 32) line
