use Rattle.std.proofs.Common.{rules}
use Rattle.sctp_receive_queues.proofs.groups.Groups.put.Goals as goal

pub add_behind-requires-clause-ascend : goal.add_behind-requires-clause-ascend
add_behind-requires-clause-ascend c = c.if-is_past_all.ensures.ascend (search rules)
