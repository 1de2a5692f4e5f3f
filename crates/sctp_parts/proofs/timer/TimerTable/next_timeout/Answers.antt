use Rattle.std.proofs.Common.{rules, ◌≡◌}
use Rattle.sctp_parts.specs.Timers.{least_moment}
use Rattle.sctp_parts.proofs.LeastMoment.{none_armed, least_armed}
use Rattle.sctp_parts.proofs.timer.TimerTable.next_timeout.Goals as goal

pub returns-clause-none : goal.returns-clause-none
returns-clause-none c =
    let e : c.least_of-2.result ≡ least_moment c.args.self.now = search rules in rw e (none_armed c.args.self.now)

pub returns-clause-least : goal.returns-clause-least
returns-clause-least c =
    let e : c.least_of-2.result ≡ least_moment c.args.self.now = search rules in rw e (least_armed c.args.self.now)
