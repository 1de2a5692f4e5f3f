use Rattle.std.proofs.Common.{rules}
use Rattle.sctp_receive_queues.specs.Ascending.{Ascend}
use Rattle.sctp_receive_queues.proofs.Ascending.{none_has, end_is_index}
use Rattle.sctp_receive_queues.proofs.groups.Groups.is_past_all.Goals as goal

pub returns-then-ascends-clause-none : goal.returns-then-ascends-clause-none
returns-then-ascends-clause-none c t =
    let ascend : Ascend c.self.inside.list.items = rw c.self.view_is (c.ascends.ensures (search rules)) in
    rw (← c.self.view_is)
    (none_has c.self.inside.list.items c.args.ssn ascend (search rules) (c.is_past_ends.ensures t))

pub returns-then-ascends-clause-last : goal.returns-then-ascends-clause-last
returns-then-ascends-clause-last c t =
    let ascend : Ascend c.self.inside.list.items = rw c.self.view_is (c.ascends.ensures (search rules)) in
    rw (← c.self.view_is)
    (end_is_index c.self.inside.list.items c.args.ssn ascend (search rules) (c.is_past_ends.ensures t))

pub returns-then-ascends-clause-ascend : goal.returns-then-ascends-clause-ascend
returns-then-ascends-clause-ascend c t = c.ascends.ensures (search rules)
