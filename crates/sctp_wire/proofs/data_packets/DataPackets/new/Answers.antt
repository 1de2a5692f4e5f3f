use Rattle.std.proofs.Common.{refl}
use Rattle.sctp_wire.proofs.DataWritten.{nothing_in, nothing_yet}
use Rattle.sctp_wire.proofs.data_packets.DataPackets.new.Goals as goal

pub invariant_of-result : goal.invariant_of-result
invariant_of-result c = (
  nothing_yet c.args.header c.new-2.result.items c.new-2.ensures.items,
  rw c.new.ensures.items tt,
)

pub returns : goal.returns
returns c = rw (c.new.ensures.items, c.new-2.ensures.items, nothing_in) refl
