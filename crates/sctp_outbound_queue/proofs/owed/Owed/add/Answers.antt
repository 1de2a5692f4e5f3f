use Rattle.std.proofs.Common.{ℕ, arith}
use Rattle.sctp_outbound_queue.proofs.OwedSsns.{lowered_more, counts_more}
use Rattle.sctp_outbound_queue.proofs.owed.Owed.add.Goals as goal

pub returns-clause-ok : goal.returns-clause-ok
returns-clause-ok c m =
    let key : ℕ × ℕ = (c.args.dropped.now.stream_identifier, c.args.dropped.now.generation) in
    lowered_more c.args.self.now.counts.entries c.insert.new.self.entries c.args.dropped.now m c.requires
    (omega (arith, c.count_of-count.ensures, c.if-count.false))
    (counts_more key c.count_of-count.result c.args.self.now.counts.entries c.insert.new.self.entries
    c.count_of-count.ensures (λ q. c.in_ok-insert.ensures.updates.0 q))
