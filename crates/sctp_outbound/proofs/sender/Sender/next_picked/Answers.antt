use Rattle.std.proofs.Common.{◌∙◌}
use Rattle.sctp_outbound.proofs.Passes.{next_missing}
use Rattle.sctp_outbound.proofs.sender.Sender.next_picked.Goals as goal

pub returns-in-None-clause-index : goal.returns-in-None-clause-index
returns-in-None-clause-index c =
    c.inflight_len.ensures
    ∙ next_missing c.args.by c.args.from c.args.self.now.queue.in_flight c.requires c.in-None.ensures.next
