use Rattle.std.proofs.Common.{rules, ◌≡◌, false}
use Rattle.sctp_outbound.proofs.SenderSteps.{err_then, probe_sends}
use Rattle.sctp_outbound.specs.Sender.{can_send_next}
use Rattle.sctp_outbound.proofs.sender.Sender.send_probing.Goals as goal

pub returns-then-not-next_fits-clause-grows : goal.returns-then-not-next_fits-clause-grows
returns-then-not-next_fits-clause-grows c =
    let full : can_send_next c.args.self.now ≡ false = search rules in
    err_then c.send_one.result c.send_one.ensures.grows
    (λ waits. probe_sends c.args.self.now c.args.now (search rules) full waits)
