-- Files of packets in the form pcap, version 2.4, whose numbers stand high byte first.
use Rattle.std.specs.Prelude.{ℕ, ◌++◌, ◌/◌, ◌%◌, ◌*◌, List, Option, Some, None, Result, Ok, Err, length, nat_lt, if◌then◌else◌}
use Rattle.std.specs.Int.{w16, w32, to_be_bytes}
use Rattle.hex.specs.declared.error.FromHexError.{FromHexError}

-- the datagram that was decoded; None where there is none, or it is longer than the packets of a file may be
abbrev pub fitting : Result (List ℕ) FromHexError → Option (List ℕ)
fitting (Ok bytes) = if nat_lt 262144 (length bytes) then None else Some bytes
fitting (Err e) = None

abbrev pub four : ℕ → List ℕ
four number = to_be_bytes w32 number

-- what a file begins with: the magic number, the version, the time zone, the accuracy of moments, the length of the
-- longest packet, and that the packets are of SCTP
abbrev pub file_head_of : ℕ → List ℕ
file_head_of longest =
    four 2712847316 ++ to_be_bytes w16 2 ++ to_be_bytes w16 4 ++ four 0 ++ four 0 ++ four longest ++ four 248

-- what stands in front of a packet: its moment, in seconds and microseconds, how many of its bytes follow, and how many
-- it had
abbrev pub record_head_of : ℕ → ℕ → List ℕ
record_head_of millis count = four (millis / 1000) ++ four (millis % 1000 * 1000) ++ four count ++ four count
