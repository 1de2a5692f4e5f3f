use Rattle.std.specs.Prelude.{ℕ, ◌%◌, ◌==◌, if◌then◌else◌, Option, Some, None}
use Rattle.sctp_wire_types.specs.declared.instant.EcnCodepoint.{EcnCodepoint}
use Rattle.sctp_wire_types.specs.declared.instant.EcnCodepoint.TheVariants.{Ect0, Ect1, Ce}

-- the codepoint of the low two bits of a traffic class (RFC 3168 section 5)
abbrev pub codepoint_of : ℕ → Option EcnCodepoint
codepoint_of bits =
    if bits % 4 == 1 then Some Ect1 else
    if bits % 4 == 2 then Some Ect0 else
    if bits % 4 == 3 then Some Ce else None
