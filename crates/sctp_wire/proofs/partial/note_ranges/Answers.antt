use Rattle.std.proofs.Common.{arith}
use Rattle.sctp_wire.proofs.partial.note_ranges.Goals as goal

pub returns-clause-bytes : goal.returns-clause-bytes
returns-clause-bytes c = λ i. omega (arith, c.type_inv.bytes i)
