use Rattle.std.proofs.Common.{arith}
use Rattle.sctp_crc.proofs.BlockRuns.{byte_run}
use Rattle.sctp_crc.proofs.sum.run_byte.Goals as goal

pub returns : goal.returns
returns c = byte_run c.args.state c.args.byte c.looked_up.result (omega arith) c.looked_up.ensures
