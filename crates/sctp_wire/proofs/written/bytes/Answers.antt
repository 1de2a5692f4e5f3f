use Rattle.std.proofs.Common.{arith}
use Rattle.sctp_wire.proofs.Marshalled.{marshalled}
use Rattle.sctp_wire.proofs.written.bytes.Goals as goal

pub returns-clause-exact : goal.returns-clause-exact
returns-clause-exact c =
    marshalled (record { common_header = c.args.common_header.now; chunks = c.args.chunks.now }) c.in_ok-out.out.items
    c.set_sum.new.bytes c.in_ok-from_vec.field-0
    c.packet_sum-sum.result c.in_ok-out.out.len c.in_ok-out.ensures.bytes.0 c.in_ok-out.ensures.bytes.1
    (rw c.as_slice.ensures.value at c.packet_sum-sum.ensures) (rw c.as_mut_slice.ensures.value at c.set_sum.ensures)
    c.in_ok-from_vec.ensures.ok (omega (arith, c.in_ok-out.out.ok))
