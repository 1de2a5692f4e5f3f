-- CRC32c bit by bit, with the polynomial 0x1EDC6F41 reflected (RFC 4960 appendix B).
use Rattle.std.specs.Prelude.{ℕ, zero, suc, ◌-◌, ◌/◌, ◌%◌, ◌^◌, ◌==◌, if◌then◌else◌, List, [], ◌∷◌, ◌++◌, take, drop}
use Rattle.std.specs.Int.Bits.{bit_xor}

-- one bit: the state moves right, and where a one falls out the polynomial is taken off
unfoldable pub crc_bit : ℕ → ℕ
crc_bit state = if state % 2 == 1 then bit_xor (state / 2) 0x82F63B78 else state / 2

unfoldable pub crc_bits : ℕ → ℕ → ℕ
crc_bits zero state = state
crc_bits (suc n) state = crc_bits n (crc_bit state)

-- one byte, low bit first
unfoldable pub crc_byte : ℕ → ℕ → ℕ
crc_byte state byte = crc_bits 8 (bit_xor state (byte % 256))

unfoldable pub crc_run : ℕ → List ℕ → ℕ
crc_run state [] = state
crc_run state (byte ∷ bytes) = crc_run (crc_byte state byte) bytes

-- begun with all ones, inverted at the end
unfoldable pub crc32c : List ℕ → ℕ
crc32c bytes = 2 ^ 32 - 1 - crc_run (2 ^ 32 - 1) bytes

-- the checksum of a packet: its field, bytes 8 to 11, counts as 0 (RFC 4960 section 6.8)
unfoldable pub sum_of_packet : List ℕ → ℕ
sum_of_packet packet = crc32c (take 8 packet ++ (0 ∷ 0 ∷ 0 ∷ 0 ∷ []) ++ drop 12 packet)
