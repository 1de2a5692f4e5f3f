use Rattle.std.proofs.Common.{◌∙◌, sym}
use Rattle.sctp_resets.proofs.GenerationsPassed.{none_is_left, none_passes_more, others_pass}
use Rattle.sctp_resets.proofs.draining.drain.Goals as goal

pub returns-then-not-passed-clause-exact : goal.returns-then-not-passed-clause-exact
returns-then-not-passed-clause-exact c =
    sym (none_passes_more c.args.first_message_id c.args.limit c.args.id c.args.in_progress c.loop-left.left _ _ _
    c.loop-left-test.true c.in_ok-passed.ensures c.if-not-passed.true)
    ∙ c.loop-left.invariant.same

pub loop-left-preserved : goal.loop-left-preserved
loop-left-preserved c = record {
  same =
      others_pass c.args.first_message_id c.args.limit c.args.id c.args.in_progress c.loop-left.left _ _ _
      c.loop-left-test.true c.in_ok-passed.ensures c.if-not-passed.false
      ∙ c.loop-left.invariant.same;
  grows = λ more. c.loop-left.invariant.grows c.loop-left-test.true;
}

pub returns-clause-exact : goal.returns-clause-exact
returns-clause-exact c =
    sym (none_is_left c.args.first_message_id c.args.limit c.args.id c.args.in_progress c.loop-left.left _
    c.loop-left-test.false)
    ∙ c.loop-left.invariant.same
