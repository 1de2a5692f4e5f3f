use Rattle.std.proofs.Common.{◌+◌, ◌-◌, ◌/◌, arith, sym}
use Rattle.sctp_ranges.proofs.Halving.{spent_more, ended_here, not_ended_here}
use Rattle.sctp_ranges.proofs.row.Row.halve.Goals as goal

pub loop-low-preserved-then-run-offset : goal.loop-low-preserved-then-run-offset
loop-low-preserved-then-run-offset c =
    let i = c.loop-low.invariant in
    let low = c.loop-low.low in
    let high = c.loop-low.high in
    let here =
    ended_here 0 c.args.offset (low + (high - low) / 2) c.at-run.result c.args.self.now.list c.requires.apart
    c.at-run.ensures.run c.if-run-offset.true in
    record {
      high = i.high;
      above = i.above;
      from = omega (arith, here);
      to = i.to;
      spent = λ k b.
          let was = i.spent k b in
          spent_more c.args.looks.now k c.loop-low.looks c.at-run.new.looks (high - low)
          (high - (low + (high - low) / 2 + 1)) was.0 was.1 (omega (arith, c.loop-low-test.true)) (omega arith)
          (omega (arith, c.at-run.ensures.looks));
    }

pub loop-low-preserved : goal.loop-low-preserved
loop-low-preserved c =
    let i = c.loop-low.invariant in
    let low = c.loop-low.low in
    let high = c.loop-low.high in
    let here =
    not_ended_here c.args.offset (low + (high - low) / 2) c.at-run.result c.args.self.now.list c.at-run.ensures.run
    c.if-run-offset.false in
    record {
      high = omega (arith, i.high, c.loop-low-test.true);
      above = sym c.at-run.ensures.run;
      from = i.from;
      to = here;
      spent = λ k b.
          let was = i.spent k b in
          spent_more c.args.looks.now k c.loop-low.looks c.at-run.new.looks (high - low)
          (low + (high - low) / 2 - low) was.0 was.1 (omega (arith, c.loop-low-test.true)) (omega arith)
          (omega (arith, c.at-run.ensures.looks));
    }
