use Rattle.std.proofs.Common.{rules}
use Rattle.sctp_receive_queues.proofs.groups.Groups.ascends.Goals as goal

pub returns-then-self : goal.returns-then-self
returns-then-self c t = rw (← c.self.view_is) (c.self.invariant (search rules))
