use Rattle.std.proofs.Common.{arith}
use Rattle.sctp_outbound_queue.specs.Stretches.{total}
use Rattle.sctp_outbound_queue.proofs.Covered.{rest_started}
use Rattle.sctp_outbound_queue.proofs.Deadlines.{waiting_runs}
use Rattle.sctp_outbound_queue.proofs.over_waiting.start_waiting.Goals as goal

pub returns-clause-run : goal.returns-clause-run
returns-clause-run c = rw c.start_behind.ensures (waiting_runs c.args.now c.args.messages.now.items)

pub returns-clause-from : goal.returns-clause-from
returns-clause-from c =
    let timely = c.requires in
    rw c.start_behind.ensures
    (rest_started c.args.now (total c.args.clocks.now.stretches) c.args.clocks.now.running c.least_behind.result
    c.args.messages.now.items (omega (arith, timely.6)) timely.1 timely.7
    (rw (← c.start_behind.ensures) c.least_behind.ensures))
