use Rattle.sctp_receive_queues.proofs.Ascending.{rest_ascends}
use Rattle.sctp_receive_queues.proofs.groups.Groups.pop_first.Goals as goal

pub invariant_of-self : goal.invariant_of-self
invariant_of-self c t =
    rest_ascends c.pop_front.result c.self.inside.list.items c.pop_front.new.self.items c.pop_front.ensures.items
    (c.self.invariant t)
