use Rattle.std.proofs.Common.{◌≡◌}
use Rattle.sctp_receive_queues.proofs.ReadyMessages.{read_leaves_the_others}
use Rattle.sctp_receive_queues.proofs.reassembly.ReassemblyQueue.read.Goals as goal

pub returns-clause-others : goal.returns-clause-others
returns-clause-others c =
    read_leaves_the_others c.args.self.now c.take_next.new.self c.take_next.result c.take_next.ensures
