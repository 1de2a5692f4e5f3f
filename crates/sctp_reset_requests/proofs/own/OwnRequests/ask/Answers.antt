use Rattle.std.proofs.Common.{rules}
use Rattle.sctp_reset_requests.proofs.NothingAsked.{nothing_asked}
use Rattle.sctp_reset_requests.proofs.own.OwnRequests.ask.Goals as goal

pub returns-then-is_empty-clause-ok : goal.returns-then-is_empty-clause-ok
returns-then-is_empty-clause-ok c = nothing_asked c.args.self.now c.args.queue.now c.args.peer.now (search rules)
