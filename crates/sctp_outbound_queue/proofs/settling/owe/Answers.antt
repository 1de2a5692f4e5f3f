use Rattle.std.proofs.Common.{◌∙◌, ap, arith}
use Rattle.sctp_outbound_queue.specs.Owed.{as_they_are, standing}
use Rattle.sctp_outbound_queue.proofs.EmptyPlaces.{all_there, many_standing}
use Rattle.sctp_outbound_queue.proofs.TrueSsns.{moved_at_once, none_moves, owed_more}
use Rattle.sctp_outbound_queue.proofs.settling.owe.Goals as goal

pub returns-then-dropped-clause-moved : goal.returns-then-dropped-clause-moved
returns-then-dropped-clause-moved c =
    none_moves c.args.from c.args.owed.now.counts.entries c.args.dropped.now
    (standing c.args.from c.args.dead.now c.args.items.now.items) c.if-dropped.true

pub returns-in-Ok-clause-moved : goal.returns-in-Ok-clause-moved
returns-in-Ok-clause-moved c =
    owed_more c.args.from c.args.owed.now.counts.entries c.add.new.self.counts.entries c.args.dropped.now
    (standing c.args.from c.args.dead.now c.args.items.now.items) c.in-Ok.ensures.ok

pub returns-in-Err-clause-moved : goal.returns-in-Err-clause-moved
returns-in-Err-clause-moved c =
    let all = standing c.args.from c.args.dead.now c.args.items.now.items in
    let many = many_standing c.args.from c.args.dead.now c.args.items.now.items c.requires in
    all_there c.args.from c.settle.new.dead c.settle.new.owed.counts.entries c.move_down.new.items.items
    c.settle.ensures.none c.settle.ensures.closed
    ∙ c.move_down.ensures
    ∙ moved_at_once c.args.from c.args.owed.now.counts.entries c.args.dropped.now all c.settle.new.items.items
    (omega (arith, many, c.len.ensures, c.if-len-dead.false))
    (c.settle.ensures.items ∙ ap (λ z. as_they_are c.args.from z all) c.in-Err.ensures.err)
