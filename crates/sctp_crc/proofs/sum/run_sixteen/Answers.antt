use Rattle.std.proofs.Common.{arith}
use Rattle.sctp_crc.proofs.BlockRuns.{sixteen_run}
use Rattle.sctp_crc.proofs.sum.run_sixteen.Goals as goal

pub returns : goal.returns
returns c =
    rw (
      c.looked_up-x0.ensures,
      c.looked_up-x1.ensures,
      c.looked_up-x2.ensures,
      c.looked_up-x3.ensures,
      c.looked_up-x4.ensures,
      c.looked_up-x5.ensures,
      c.looked_up-x6.ensures,
      c.looked_up-x7.ensures,
      c.looked_up-x8.ensures,
      c.looked_up-x9.ensures,
      c.looked_up-x10.ensures,
      c.looked_up-x11.ensures,
      c.looked_up-x12.ensures,
      c.looked_up-x13.ensures,
      c.looked_up-x14.ensures,
      c.looked_up-x15.ensures,
    ) (sixteen_run c.args.state c.args.block.now (omega arith) c.requires (λ i. omega (arith, c.type_inv.block i)))
