use Rattle.sctp_assoc.proofs.PartsOfPolls.{made_on}
use Rattle.sctp_assoc.proofs.association.Association.make_request.Goals as goal

pub returns-clause-exact : goal.returns-clause-exact
returns-clause-exact c =
    made_on c.place_if.result _ c.args.self.now c.place_if.new.self _ _ c.self.view_is c.in_ok-made.ensures.exact
    c.place_if.ensures.exact
