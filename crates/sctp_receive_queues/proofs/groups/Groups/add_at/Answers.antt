use Rattle.std.proofs.Common.{rules}
use Rattle.sctp_receive_queues.proofs.Ascending.{put_ascends}
use Rattle.sctp_receive_queues.proofs.groups.Groups.add_at.Goals as goal

pub invariant_of-self : goal.invariant_of-self
invariant_of-self c t =
    put_ascends c.add_to.result c.self.inside.list.items c.add_to.new.groups.items c.args.index c.args.piece
    c.add_to.ensures.put c.add_to.ensures.unchanged (search rules) (c.self.invariant t)
