use Rattle.std.proofs.Common.{ap, arith, sym}
use Rattle.sctp_wire.specs.DataPackets.{with_all}
use Rattle.sctp_outbound.proofs.Passes.{none_marked, unmarked_stay}
use Rattle.sctp_outbound.proofs.sender.Sender.resend_marked.Goals as goal

pub returns-then-marked_len-eq0-clause-sender : goal.returns-then-marked_len-eq0-clause-sender
returns-then-marked_len-eq0-clause-sender c =
    sym (unmarked_stay c.args.self.now (omega (arith, c.marked_len.ensures, c.if-marked_len-eq0.true)))

pub returns-then-marked_len-eq0-clause-chunks : goal.returns-then-marked_len-eq0-clause-chunks
returns-then-marked_len-eq0-clause-chunks c =
    ap (with_all c.args.out.now)
    (sym (none_marked c.args.self.now (omega (arith, c.marked_len.ensures, c.if-marked_len-eq0.true))))
