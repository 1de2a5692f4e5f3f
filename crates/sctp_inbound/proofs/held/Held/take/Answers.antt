use Rattle.std.proofs.Common.{◌∙◌, rules}
use Rattle.sctp_inbound.proofs.NewTsnsHeld.{next_moves}
use Rattle.sctp_inbound.proofs.held.Held.take.Goals as goal

pub returns-clause-moved : goal.returns-clause-moved
returns-clause-moved c =
    next_moves c.args.self.now c.args.peer_last_tsn c.args.tsn c.if-tsn-peer_last_tsn.false c.requires ∙ search rules
