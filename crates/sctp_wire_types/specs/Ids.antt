use Rattle.std.specs.Prelude.{ℕ, ◌==◌, if◌then◌else◌}
use Rattle.sctp_wire_types.specs.declared.ids.PayloadProtocolIdentifier.{PayloadProtocolIdentifier}
use Rattle.sctp_wire_types.specs.declared.ids.PayloadProtocolIdentifier.TheVariants as kinds

-- the number that stands for a payload protocol identifier in DATA (RFC 8831 section 8); 0 for an unknown one
abbrev pub number_of : PayloadProtocolIdentifier → ℕ
number_of kinds.Dcep = 50
number_of kinds.String = 51
number_of kinds.Binary = 53
number_of kinds.StringEmpty = 56
number_of kinds.BinaryEmpty = 57
number_of kinds.Unknown = 0

-- the payload protocol identifier that a number in DATA names
abbrev pub identifier_of : ℕ → PayloadProtocolIdentifier
identifier_of number =
    if number == 50 then kinds.Dcep else
    if number == 51 then kinds.String else
    if number == 53 then kinds.Binary else
    if number == 56 then kinds.StringEmpty else
    if number == 57 then kinds.BinaryEmpty else kinds.Unknown
