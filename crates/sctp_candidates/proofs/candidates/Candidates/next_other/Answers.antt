use Rattle.std.proofs.Common.{◌∙◌, ap, sym, arith}
use Rattle.sctp_ranges.proofs.Parts.{reaches_here}
use Rattle.sctp_candidates.specs.Candidates.{Members}
use Rattle.sctp_candidates.proofs.Members.{member_told, other_found, other_here}
use Rattle.sctp_candidates.proofs.candidates.Candidates.next_other.Goals as goal

pub overflow_sub-result : goal.overflow_sub-result
overflow_sub-result c =
    let begun = ap (λ (s : Members). s.begun) c.self.view_is in
    let some = c.in-Some.ensures.some in
    let reach = reaches_here c.number-number.result c.in-Some.run' _ (sym c.locate.ensures.run ∙ some.0) in
    omega (arith, reach, c.number-number.ensures, begun)

pub returns-in-Some : goal.returns-in-Some
returns-in-Some c =
    let some = c.in-Some.ensures.some in
    other_found c.args.from c.number-number.result c.self.inside.begun c.in-Some.run' c.args.self.now
    c.locate.ensures.apart c.number-number.ensures (sym c.locate.ensures.run ∙ some.0) some.1
    (ap (λ (s : Members). s.begun) c.self.view_is)

pub returns-in-None : goal.returns-in-None
returns-in-None c =
    let told =
    member_told c.args.from c.number-number.result c.locate.result.run c.args.self.now c.locate.ensures.apart
    c.number-number.ensures c.locate.ensures.run in
    other_here c.args.from c.args.self.now (sym told ∙ c.begun.ensures.none c.in-None.is)
