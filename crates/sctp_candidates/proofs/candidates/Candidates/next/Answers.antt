use Rattle.std.proofs.Common.{◌∙◌, ap, sym}
use Rattle.sctp_candidates.specs.Candidates.{Members}
use Rattle.sctp_candidates.proofs.Members.{next_found, none_next}
use Rattle.sctp_candidates.proofs.candidates.Candidates.next.Goals as goal

pub returns-in-Some-clause-next : goal.returns-in-Some-clause-next
returns-in-Some-clause-next c =
    next_found c.args.from c.number-number.result c.max.result c.self.inside.begun c.in-Some.run' c.args.self.now
    c.locate.ensures.apart c.number-number.ensures (sym c.locate.ensures.run ∙ c.in-Some.is) c.max.ensures
    (ap (λ (s : Members). s.begun) c.self.view_is)

pub returns-in-None-clause-next : goal.returns-in-None-clause-next
returns-in-None-clause-next c =
    none_next c.args.from c.number-number.result c.args.self.now c.locate.ensures.apart c.number-number.ensures
    (sym c.locate.ensures.run ∙ c.in-None.is)
