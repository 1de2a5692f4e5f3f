use Rattle.std.proofs.Common.{◌∙◌, ap, length}
use Rattle.sctp_crc.proofs.FoldedLanes.{lanes_are, taken-length}
use Rattle.sctp_crc.proofs.fold.Kept.taken.Goals as goal

pub returns-clause-bytes : goal.returns-clause-bytes
returns-clause-bytes c = lanes_are c.args.self c.args.block c.requires.0 c.requires.1

pub returns-clause-length : goal.returns-clause-length
returns-clause-length c =
    ap length (lanes_are c.args.self c.args.block c.requires.0 c.requires.1)
    ∙ taken-length c.args.self c.args.block
    ∙ c.requires.1
