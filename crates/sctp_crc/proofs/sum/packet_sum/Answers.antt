use Rattle.std.proofs.Common.{ℕ, ◌-◌, ap}
use Rattle.sctp_crc.specs.Crc.{crc32c, sum_of_packet}
use Rattle.sctp_crc.proofs.BlockRuns.{packet_run}
use Rattle.sctp_crc.proofs.sum.packet_sum.Goals as goal

pub returns : goal.returns
unfolding crc32c sum_of_packet
returns c =
    rw (
      c.run-3.ensures,
      c.run-2.ensures,
      c.run.ensures,
      c.split_at-2.ensures.back,
      c.split_at.ensures.back,
      c.split_at.ensures.front,
    ) (ap (λ (z : ℕ). 4294967295 - z) (packet_run 4294967295 c.args.packet.now))
