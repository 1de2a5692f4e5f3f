use Rattle.std.proofs.Common.{arith, ap, ◌∙◌}
use Rattle.sctp_outbound_queue.specs.Stretches.{total}
use Rattle.sctp_outbound_queue.proofs.StretchLists.{total_push}
use Rattle.sctp_outbound_queue.proofs.Covered.{cover_push}
use Rattle.sctp_outbound_queue.proofs.stretches.Stretches.add.Goals as goal

pub join_last-requires : goal.join_last-requires
join_last-requires c =
    let push = ap total c.push.ensures ∙ total_push c.make_room.new.self c.args.stretch in
    omega (arith, push, c.make_room.ensures.total, c.requires)

pub returns-clause-total : goal.returns-clause-total
returns-clause-total c =
    let push = ap total c.push.ensures ∙ total_push c.make_room.new.self c.args.stretch in
    omega (arith, push, c.make_room.ensures.total, c.join_last.ensures.total)

pub returns-clause-cover : goal.returns-clause-cover
returns-clause-cover c ms cover le from =
    let same = c.make_room.ensures.total in
    c.join_last.ensures.cover ms
    (rw c.push.ensures (cover_push c.make_room.new.self c.args.stretch ms (c.make_room.ensures.cover ms cover)
    (omega (arith, same, le)) (rw same from)))
