use Rattle.std.proofs.Common.{◌∙◌}
use Rattle.sctp_outbound_queue.proofs.OwedSsns.{all_only}
use Rattle.sctp_outbound_queue.proofs.owed.Owed.settle.Goals as goal

pub returns-in-Some : goal.returns-in-Some
returns-in-Some c =
    c.lower_each.ensures
    ∙ all_only c.in-Some.stream c.in-Some.generation c.in-Some.count c.args.self.now.counts.entries c.args.messages.now
    c.in-Some.ensures
