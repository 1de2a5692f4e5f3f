use Rattle.std.proofs.Common.{◌∙◌, ap, arith, sym}
use Rattle.sctp_outbound_queue.specs.Owed.{as_they_are, standing}
use Rattle.sctp_outbound_queue.proofs.EmptyPlaces.{settled_beside}
use Rattle.sctp_outbound_queue.proofs.settling.pass.Goals as goal

pub returns-clause-same : goal.returns-clause-same
returns-clause-same c =
    let counts = c.args.owed.now.counts.entries in
    ap (as_they_are c.args.to counts) c.move_over.ensures.same
    ∙ settled_beside c.args.from c.args.to c.args.dead counts c.settle_part.new.items.items c.requires.from
    ∙ ap (standing c.args.from c.args.dead) c.settle_part.ensures.same
    ∙ sym (settled_beside c.args.from c.args.from c.args.dead counts c.args.items.now.items (omega arith))
