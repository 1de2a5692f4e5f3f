use Rattle.std.proofs.Common.{◌∙◌, ap, sym, arith}
use Rattle.sctp_candidates.specs.Candidates.{Members}
use Rattle.sctp_candidates.proofs.Members.{member_told, already, room_left}
use Rattle.sctp_candidates.proofs.candidates.Candidates.insert.Goals as goal

pub returns-then-is_begun-clause-added : goal.returns-then-is_begun-clause-added
returns-then-is_begun-clause-added c =
    let told =
    member_told c.args.index c.number-number.result c.locate-place.result.run c.args.self.now
    c.locate-place.ensures.apart c.number-number.ensures c.locate-place.ensures.run in
    already c.args.index c.args.self.now (sym told ∙ sym c.is_begun.ensures ∙ c.if-is_begun.true)

pub add_at-requires-clause-room : goal.add_at-requires-clause-room
add_at-requires-clause-room c =
    let places = ap (λ (s : Members). s.places) c.self.view_is in
    room_left c.self.inside.begun c.self.inside.end c.self.inside.bound c.self.inside.row.room
    c.self.inside.row.list c.self.invariant.0 c.self.invariant.1 c.self.invariant.3 c.self.invariant.4
    (omega (arith, c.requires, places))
