use Rattle.std.proofs.Common.{arith, refl, ◌+◌}
use Rattle.sctp_outbound_queue.proofs.StretchLists.{total_joined, total_pair}
use Rattle.sctp_outbound_queue.proofs.Covered.{cover_joined}
use Rattle.sctp_outbound_queue.proofs.stretches.Stretches.join_at.Goals as goal

pub join-both-requires : goal.join-both-requires
join-both-requires c =
    let pair = total_pair c.args.place c.index-as_slice-place.result c.index-as_slice-place-2.result c.args.self.now
    c.requires.place (rw c.as_slice.ensures at c.index-as_slice-place.is)
    (rw c.as_slice-2.ensures at c.index-as_slice-place-2.is) in
    omega (arith, pair, c.requires.total)

pub returns-clause-total : goal.returns-clause-total
returns-clause-total c =
    rw (c.remove.ensures, c.set.ensures, c.join-both.ensures)
    (total_joined c.args.place (c.args.place + 1) c.index-as_slice-place.result c.index-as_slice-place-2.result
    c.args.self.now refl c.requires.place (rw c.as_slice.ensures at c.index-as_slice-place.is)
    (rw c.as_slice-2.ensures at c.index-as_slice-place-2.is))

pub returns-clause-cover : goal.returns-clause-cover
returns-clause-cover c ms cover =
    rw (c.remove.ensures, c.set.ensures, c.join-both.ensures)
    (cover_joined c.args.place (c.args.place + 1) c.index-as_slice-place.result c.index-as_slice-place-2.result
    c.args.self.now ms refl c.requires.place (rw c.as_slice.ensures at c.index-as_slice-place.is)
    (rw c.as_slice-2.ensures at c.index-as_slice-place-2.is) cover)
