use Rattle.std.proofs.Common.{arith}
use Rattle.sctp_crc.proofs.TableEntries.{table_is}
use Rattle.sctp_crc.proofs.sum.looked_up.Goals as goal

pub returns : goal.returns
returns c = table_is c.args.index c.args.byte c.requires (omega arith)
