use Rattle.std.proofs.Common.{arith}
use Rattle.sctp_outbound_queue.proofs.OwedSsns.{one_entry}
use Rattle.sctp_outbound_queue.proofs.owed.Owed.only.Goals as goal

pub returns : goal.returns
returns c = one_entry c.args.self.now.counts.entries _ (omega (arith, c.len.ensures.len, c.if-len-ne1.false))
    c.in_ok-key.ensures.first
