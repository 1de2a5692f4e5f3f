use Rattle.std.proofs.Common.{◌≡◌, ◌-◌, length, get_or, rules}
use Rattle.sctp_receive_queues.proofs.Ascending.{newest_has}
use Rattle.sctp_receive_queues.proofs.groups.Groups.is_newest.Goals as goal

pub returns-then-self-clause-last : goal.returns-then-self-clause-last
returns-then-self-clause-last c t =
    let gs = c.self.inside.list.items in
    let last = c.in-Some.last.now in
    let is : last ≡ get_or gs (length gs - 1) last = search rules in
    let same : last.ssn ≡ c.args.ssn = search rules in
    rw (← c.self.view_is, ← same)
    (newest_has gs last (c.self.invariant (search rules)) (search rules) (search rules) is)
