use Rattle.std.proofs.Common.{rules}
use Rattle.sctp_receive_queues.proofs.groups.Groups.ascends_with.Goals as goal

pub returns-then-is_past_before-clause-ascends : goal.returns-then-is_past_before-clause-ascends
returns-then-is_past_before-clause-ascends c t = c.ascends.ensures (search rules)
