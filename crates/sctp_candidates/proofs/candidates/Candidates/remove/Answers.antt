use Rattle.std.proofs.Common.{◌∙◌, ap, sym, arith}
use Rattle.sctp_candidates.specs.Candidates.{Members}
use Rattle.sctp_candidates.proofs.Members.{member_told, absent, room_left}
use Rattle.sctp_candidates.proofs.candidates.Candidates.remove.Goals as goal

pub remove_offsets-requires-clause-room : goal.remove_offsets-requires-clause-room
remove_offsets-requires-clause-room c =
    let places = ap (λ (s : Members). s.places) c.self.view_is in
    λ over.
    room_left c.self.inside.begun c.self.inside.end c.self.inside.bound c.self.inside.row.room
    c.self.inside.row.list c.self.invariant.0 c.self.invariant.1 c.self.invariant.3 c.self.invariant.4
    (omega (arith, c.requires, places))

pub returns-else-is_begun-clause-removed : goal.returns-else-is_begun-clause-removed
returns-else-is_begun-clause-removed c =
    let told =
    member_told c.args.index c.number-number.result c.locate-place.result.run c.args.self.now
    c.locate-place.ensures.apart c.number-number.ensures c.locate-place.ensures.run in
    absent c.args.index c.args.self.now (sym told ∙ sym c.is_begun.ensures ∙ c.if-is_begun.false)
