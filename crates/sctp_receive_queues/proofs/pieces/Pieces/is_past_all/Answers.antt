use Rattle.std.proofs.Common.{◌^◌, ◌<◌, rules}
use Rattle.sctp_receive_queues.specs.Reach.{AreWithin}
use Rattle.sctp_receive_queues.proofs.Reach.{none_has, end_is_slot, is_farther, is_near}
use Rattle.sctp_receive_queues.proofs.pieces.Pieces.is_past_all.Goals as goal

pub returns-then-reach-distance-clause-none : goal.returns-then-reach-distance-clause-none
returns-then-reach-distance-clause-none c t =
    let q = c.self.inside in
    let within : AreWithin q.base q.list c.in-Some.reach = search rules in
    let small : q.base < 2 ^ 32 = search rules in
    rw (← c.self.view_is)
    (none_has q.base c.args.tsn c.in-Some.reach q.list within
    (is_farther q.base c.args.tsn c.in-Some.reach small c.if-reach-distance.true))

pub returns-then-reach-distance-clause-last : goal.returns-then-reach-distance-clause-last
returns-then-reach-distance-clause-last c t =
    let q = c.self.inside in
    let within : AreWithin q.base q.list c.in-Some.reach = search rules in
    let small : q.base < 2 ^ 32 = search rules in
    rw (← c.self.view_is)
    (end_is_slot q.base c.args.tsn c.in-Some.reach q.list small (search rules) within
    (is_farther q.base c.args.tsn c.in-Some.reach small c.if-reach-distance.true)
    (is_near q.base c.args.tsn small t))
