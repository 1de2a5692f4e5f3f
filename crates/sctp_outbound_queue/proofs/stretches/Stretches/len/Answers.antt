use Rattle.std.proofs.Common.{◌∙◌, ap, sym, length, arith}
use Rattle.std.proofs.Common.{length-take-le}
use Rattle.sctp_outbound_queue.proofs.stretches.Stretches.len.Goals as goal

pub returns-clause-len : goal.returns-clause-len
returns-clause-len c =
    sym (
    length-take-le c.self.inside.len c.self.inside.places (omega (arith, c.self.invariant.0, c.self.invariant.1))
    ) ∙
    ap length c.self.view_is
