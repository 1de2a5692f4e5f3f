use Rattle.std.proofs.Common.{◌≡◌, insert, rules}
use Rattle.sctp_receive_queues.specs.Ascending.{AreEndsBefore, AreEndsBehind}
use Rattle.sctp_receive_queues.proofs.Ascending.{insert_ascends}
use Rattle.sctp_receive_queues.proofs.groups.Groups.insert.Goals as goal

pub invariant_of-self : goal.invariant_of-self
invariant_of-self c t =
    let e : c.insert.new.self.items ≡ c.self.inside.list.items = search rules in
    rw e (c.self.invariant t)

pub invariant_of-self-2 : goal.invariant_of-self-2
invariant_of-self-2 c t =
    let e : c.insert.new.self.items ≡ insert c.self.inside.list.items c.args.index c.args.group = search rules in
    let k : c.ssn.result ≡ c.args.group.ssn = c.ssn.ensures in
    let gs = c.args.self.now in
    let before : AreEndsBefore gs c.args.index c.args.group.ssn = rw (← k) (c.ascends_with-ascends.ensures.before t) in
    let behind : AreEndsBehind gs c.args.index c.args.group.ssn = rw (← k) (c.ascends_with-ascends.ensures.behind t) in
    rw (e, c.self.view_is)
    (insert_ascends gs c.args.index c.args.group (c.ascends_with-ascends.ensures.ascends t) c.requires (search rules)
    before behind)
