use Rattle.std.proofs.Common.{◌≡◌, ◌++◌, ◌∷◌, [], rules}
use Rattle.sctp_receive_queues.specs.Reassembly.{group_of}
use Rattle.sctp_receive_queues.proofs.Ascending.{push_ascends}
use Rattle.sctp_receive_queues.proofs.groups.Groups.add_behind.Goals as goal

pub invariant_of-self : goal.invariant_of-self
invariant_of-self c t =
    let e : c.make_room.new.groups.items ≡ c.self.inside.list.items = search rules in
    rw e (c.self.invariant t)

pub invariant_of-self-2 : goal.invariant_of-self-2
invariant_of-self-2 c t =
    let e : c.push_back_reserved.new.self.items ≡ c.self.inside.list.items ++ group_of c.args.piece ∷ [] =
    search rules in
    rw (e, c.self.view_is)
    (push_ascends c.args.self.now (group_of c.args.piece) c.requires.ascend (search rules) c.requires.before)
