use Rattle.std.proofs.Common.{rules, ◌≡◌}
use Rattle.sctp_driver.proofs.StreamsStopped.{stopped_on}
use Rattle.sctp_driver.proofs.lending.stop.Goals as goal

pub returns-clause-ok : goal.returns-clause-ok
returns-clause-ok c =
    stopped_on {x = c.stop.new.self.association.now} {a = c.in_ok-stream.stream.association.now}
    {b = c.args.association.now} {i = c.in_ok-stream.stream.id} {j = c.args.id} c.in_ok-stream.ensures.ok
    c.in_ok-stream.ensures.id (search rules) c.stop.result c.stop.ensures.ok
