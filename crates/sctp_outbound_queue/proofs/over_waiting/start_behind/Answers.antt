use Rattle.std.proofs.Common.{arith}
use Rattle.sctp_outbound_queue.proofs.Deadlines.{started_first, started_on}
use Rattle.sctp_outbound_queue.proofs.over_waiting.start_behind.Goals as goal

pub loop-index-init : goal.loop-index-init
loop-index-init c = started_first c.args.now c.args.from c.args.messages.now.items c.requires.run

pub loop-index-preserved : goal.loop-index-preserved
loop-index-preserved c =
    started_on c.args.now c.args.messages.now.items c.loop-index.messages.items c.start_at.new.messages.items
    c.loop-index.index
    (omega (arith, c.loop-index-test.true, c.len-index-end.ensures, c.args.messages.now.ok.0))
    c.loop-index.invariant c.start_at.ensures
