use Rattle.std.proofs.Common.{arith, sym}
use Rattle.sctp_outbound_queue.proofs.TrueSsns.{all_settled, none_kept, owed_nothing}
use Rattle.sctp_outbound_queue.proofs.settling.settle_behind.Goals as goal
use Rattle.sctp_outbound_queue.proofs.settling.settle_behind.Goals.{then-is_empty-via-then-is_empty, then-is_empty-via-else-is_empty+then-len-from}

pub returns-then-is_empty : goal.returns-then-is_empty
returns-then-is_empty c =
    elim c.then-is_empty.branch [
      | then-is_empty-via-then-is_empty w ↦ sym (owed_nothing c.args.from c.args.owed.now.counts.entries c.args.items.now.items
          (none_kept c.args.owed.now.counts.entries c.is_empty.ensures w.if-is_empty.true))
      | then-is_empty-via-else-is_empty+then-len-from w ↦ sym (all_settled c.args.from c.args.owed.now.counts.entries c.args.items.now.items
          (omega (arith, w.len.ensures, w.if-len-from.true)))
    ]
