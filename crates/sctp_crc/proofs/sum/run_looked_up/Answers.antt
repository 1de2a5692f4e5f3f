use Rattle.std.proofs.Common.{◌∙◌, sym, arith}
use Rattle.sctp_crc.proofs.BlockRuns.{run-parts, run_next, run_end}
use Rattle.sctp_crc.proofs.sum.run_looked_up.Goals as goal

pub sixteens-preserved : goal.sixteens-preserved
sixteens-preserved c =
    rw (c.run_sixteen-state.ensures, c.split_at.ensures.front, c.split_at.ensures.back)
    (run-parts 16 c.sixteens.rest.now c.sixteens.state ∙ c.sixteens.invariant)

pub fours-preserved : goal.fours-preserved
fours-preserved c =
    rw (c.run_four-state.ensures, c.split_at-in-fours.ensures.front, c.split_at-in-fours.ensures.back)
    (run-parts 4 c.fours.rest.now c.fours.state ∙ c.fours.invariant)

pub loop-byte-preserved : goal.loop-byte-preserved
loop-byte-preserved c =
    rw c.run_byte-state.ensures
    (run_next c.fours.rest.now c.loop-byte.byte-index c.loop-byte.state (omega arith) ∙ c.loop-byte.invariant)

pub returns : goal.returns
returns c =
    sym (run_end c.fours.rest.now c.loop-byte.byte-index c.loop-byte.state (omega arith)) ∙ c.loop-byte.invariant
