use Rattle.std.proofs.Common.{ap, arith, ◌∙◌}
use Rattle.sctp_outbound_queue.specs.Outbound.{outstanding_of_message}
use Rattle.sctp_outbound_queue.proofs.InOrder.{before_flagged, flagged_on, past_flagged}
use Rattle.sctp_outbound_queue.proofs.QueuedBytes.{left_of_message, none_of_message}
use Rattle.sctp_outbound_queue.proofs.walks.flag_from.Goals as goal

pub loop-index-init : goal.loop-index-init
loop-index-init c = record {
  behind = omega arith;
  flagged = before_flagged c.args.message_id c.args.first c.args.pieces.now.items c.requires.before;
  sets = c.requires.sets;
  bytes = omega arith;
  most = omega arith;
  flying = omega arith;
  marks = omega arith;
}

pub loop-index-preserved : goal.loop-index-preserved
loop-index-preserved c = record {
  behind = omega (arith, c.loop-index.invariant.behind);
  flagged =
      flagged_on c.args.message_id c.loop-index.index c.args.pieces.now.items c.loop-index.pieces.items
      c.flag_at.new.pieces.items
      (omega (arith, c.loop-index-test.true, c.len-index-end.ensures, c.args.pieces.now.ok.0))
      c.loop-index.invariant.flagged c.flag_at.ensures.flagged;
  sets = c.flag_at.ensures.sets;
  bytes = c.flag_at.ensures.bytes ∙ c.loop-index.invariant.bytes;
  most = c.flag_at.ensures.most;
  flying = c.flag_at.ensures.flying ∙ c.loop-index.invariant.flying;
  marks = c.flag_at.ensures.marks ∙ c.loop-index.invariant.marks;
}

pub returns-then-not-flag_at-clause-flagged : goal.returns-then-not-flag_at-clause-flagged
returns-then-not-flag_at-clause-flagged c =
    past_flagged c.args.message_id c.args.first c.loop-index.index c.args.pieces.now.items c.loop-index.pieces.items
    c.flag_at.new.pieces.items c.requires.order c.requires.at c.loop-index.invariant.behind
    (omega (arith, c.loop-index-test.true, c.len-index-end.ensures, c.args.pieces.now.ok.0))
    c.loop-index.invariant.flagged c.flag_at.ensures.is c.if-not-flag_at.true c.flag_at.ensures.flagged

pub returns-then-not-flag_at-clause-bytes : goal.returns-then-not-flag_at-clause-bytes
returns-then-not-flag_at-clause-bytes c =
    let flagged = past_flagged c.args.message_id c.args.first c.loop-index.index c.args.pieces.now.items
    c.loop-index.pieces.items c.flag_at.new.pieces.items c.requires.order c.requires.at
    c.loop-index.invariant.behind
    (omega (arith, c.loop-index-test.true, c.len-index-end.ensures, c.args.pieces.now.ok.0))
    c.loop-index.invariant.flagged c.flag_at.ensures.is c.if-not-flag_at.true c.flag_at.ensures.flagged in
    let none = ap (outstanding_of_message c.args.message_id) flagged
    ∙ none_of_message c.args.message_id c.args.pieces.now.items in
    omega (arith, none, c.flag_at.ensures.bytes, c.flag_at.ensures.most, c.loop-index.invariant.bytes)

pub returns-clause-bytes : goal.returns-clause-bytes
returns-clause-bytes c =
    let none =
    ap (outstanding_of_message c.args.message_id) c.loop-index.invariant.flagged
    ∙ left_of_message c.args.message_id c.loop-index.index c.args.pieces.now.items
    (omega (arith, c.loop-index-test.false, c.len-index-end.ensures, c.args.pieces.now.ok.0)) in
    omega (arith, none, c.loop-index.invariant.bytes, c.loop-index.invariant.most)
