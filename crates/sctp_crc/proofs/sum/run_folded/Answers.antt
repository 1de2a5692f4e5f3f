use Rattle.std.proofs.Common.{arith}
use Rattle.sctp_crc.proofs.FoldedLanes.{begin-long, begin_parts}
use Rattle.sctp_crc.proofs.sum.run_folded.Goals as goal

pub sevens-init : goal.sevens-init
sevens-init c =
    let enough = c.requires.enough in (
      rw (c.followed_by-kept.ensures, c.new.ensures, c.state_bytes.ensures, c.split_at.ensures.front)
          (begin-long c.args.start c.args.blocks.now (omega (arith, enough))),
      omega (arith, enough, c.split_at.ensures.back_len),
      omega (arith, c.requires.whole, c.split_at.ensures.back_len),
      rw (
        c.followed_by-kept.ensures,
        c.new.ensures,
        c.state_bytes.ensures,
        c.split_at.ensures.front,
        c.split_at.ensures.back,
      ) (begin_parts c.args.start c.args.blocks.now (omega arith) (omega (arith, enough))),
    )

pub returns : goal.returns
returns c = rw (c.run_looked_up.ensures, c.last_taken.ensures) c.folds.invariant.3
