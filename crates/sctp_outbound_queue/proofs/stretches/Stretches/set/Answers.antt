use Rattle.std.proofs.Common.{◌∙◌, ap, sym, length, arith, slice_set, length-take-le}
use Rattle.std.proofs.Math.Seq.{take-set-lt}
use Rattle.sctp_outbound_queue.proofs.stretches.Stretches.set.Goals as goal

pub returns : goal.returns
returns c =
    let len =
    sym (
    length-take-le c.self.inside.len c.self.inside.places (omega (arith, c.self.invariant.0, c.self.invariant.1))
    ) ∙
    ap length c.self.view_is in
    take-set-lt c.self.inside.len c.self.inside.places c.args.place c.args.stretch (omega (arith, len, c.requires)) ∙
    ap (λ rs. slice_set rs c.args.place c.args.stretch) c.self.view_is
