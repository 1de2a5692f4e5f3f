use Rattle.std.proofs.Common.{arith}
use Rattle.sctp_crc.proofs.BlockRuns.{four_run}
use Rattle.sctp_crc.proofs.sum.run_four.Goals as goal

pub returns : goal.returns
returns c =
    rw (
      c.looked_up-x0.ensures,
      c.looked_up-x1.ensures,
      c.looked_up-x2.ensures,
      c.looked_up-x3.ensures,
    ) (four_run c.args.state c.args.block.now (omega arith) c.requires (λ i. omega (arith, c.type_inv.block i)))
