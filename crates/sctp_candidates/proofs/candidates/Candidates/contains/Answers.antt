use Rattle.std.proofs.Common.{◌∙◌}
use Rattle.sctp_candidates.proofs.Members.{member_told}
use Rattle.sctp_candidates.proofs.candidates.Candidates.contains.Goals as goal

pub returns : goal.returns
returns c =
    c.is_begun.ensures ∙
    member_told c.args.index c.number-number.result c.locate.result.run c.args.self.now c.locate.ensures.apart
    c.number-number.ensures c.locate.ensures.run
