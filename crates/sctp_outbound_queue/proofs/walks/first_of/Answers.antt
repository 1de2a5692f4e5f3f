use Rattle.std.proofs.Common.{◌-◌, arith, sym, ◌∙◌}
use Rattle.sctp_outbound_queue.proofs.InOrder.{none_before}
use Rattle.sctp_outbound_queue.proofs.walks.first_of.Goals as goal

pub returns-then-not-is_of_at-clause-before : goal.returns-then-not-is_of_at-clause-before
returns-then-not-is_of_at-clause-before c =
    none_before c.args.message_id (c.args.index - 1 - c.loop-passed.passed) c.args.index c.args.pieces.now.items
    c.requires.order (omega arith) c.requires.at (sym c.is_of_at.ensures ∙ c.if-not-is_of_at.true)
