use Rattle.std.proofs.Common.{arith}
use Rattle.sctp_received.proofs.Taken.{up_to_high, up_to_low, up_to_middle}
use Rattle.sctp_received.proofs.ranges.Ranges.pop_up_to.Goals as goal

pub returns-then-offset-ge-HALF-clause-tsns : goal.returns-then-offset-ge-HALF-clause-tsns
returns-then-offset-ge-HALF-clause-tsns c =
    let e = c.remove_between.ensures in
    up_to_high c.args.self.now c.remove_between.new.self c.args.tsn _ c.offset-offset.result c.offset-offset.ensures
    e.fits c.ranges.tsn.fits e.apart e.base (omega (arith, c.if-offset-ge-HALF.true)) e.removed

pub returns-then-offset-clause-tsns : goal.returns-then-offset-clause-tsns
returns-then-offset-clause-tsns c =
    let e = c.remove_between-2.ensures in
    let f = c.remove_between-then-offset.ensures in
    up_to_low c.args.self.now c.remove_between-2.new.self c.remove_between-then-offset.new.self c.args.tsn _
    c.offset-offset.result c.offset-offset.ensures e.fits c.ranges.tsn.fits e.apart e.base f.base
    (omega (arith, c.if-offset-ge-HALF.false)) (omega arith) e.removed f.removed

pub returns-else-offset-clause-tsns : goal.returns-else-offset-clause-tsns
returns-else-offset-clause-tsns c =
    let e = c.remove_between-2.ensures in
    up_to_middle c.args.self.now c.remove_between-2.new.self c.args.tsn c.offset-offset.result c.offset-offset.ensures
    e.fits c.ranges.tsn.fits e.apart e.base (omega (arith, c.if-offset-ge-HALF.false, c.if-offset.false)) e.removed
