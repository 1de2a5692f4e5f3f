use Rattle.std.proofs.Common.{◌≤◌, arith, rules}
use Rattle.sctp_outbound_queue.proofs.Fronts.{earlier_over}
use Rattle.sctp_outbound_queue.proofs.front.Front.passed_by.Goals as goal

pub returns-then-le : goal.returns-then-le
returns-then-le c ps front =
    let le : c.args.now ≤ c.args.self.now.passed_at = search rules in
    omega (arith, front.1, earlier_over c.args.now c.args.self.now.passed_at ps le)
