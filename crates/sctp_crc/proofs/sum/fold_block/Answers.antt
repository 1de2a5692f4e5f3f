use Rattle.std.proofs.Common.{sym, subst, arith}
use Rattle.sctp_crc.specs.Fold.{IsKept}
use Rattle.sctp_crc.proofs.FoldedLanes.{moved-long, fold_parts}
use Rattle.sctp_crc.proofs.sum.fold_block.Goals as goal

pub returns-clause-kept : goal.returns-clause-kept
returns-clause-kept c =
    subst IsKept (sym c.followed_by.ensures)
    (moved-long c.args.kept c.taken-newest.result c.requires.kept c.taken-newest.ensures.length)

pub returns-clause-same : goal.returns-clause-same
returns-clause-same c =
    rw (c.followed_by.ensures, c.taken-newest.ensures.bytes, c.split_at.ensures.front, c.split_at.ensures.back)
    (fold_parts c.args.kept c.args.bytes.now c.requires.kept (omega (arith, c.requires.enough)))
