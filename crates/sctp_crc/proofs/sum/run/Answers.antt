use Rattle.std.proofs.Common.{length, ◌%◌}
use Rattle.sctp_crc.proofs.BlockRuns.{run-parts}
use Rattle.sctp_crc.proofs.sum.run.Goals as goal

pub returns : goal.returns
returns c =
    rw (
      c.run_folded.ensures,
      c.run_looked_up-2.ensures,
      c.split_at.ensures.front,
      c.split_at.ensures.back,
    ) (run-parts (length c.args.bytes.now % 16) c.args.bytes.now c.args.start)
