use Rattle.sctp_pair.specs.Callers.{ReadsAreFronts}
use Rattle.pair_callers.proofs.FewAccepted.{law_of_one_more}
use Rattle.pair_callers.proofs.telling.run_and_step.Goals as goal

pub returns : goal.returns
returns c = record {
  front = λ few. law_of_one_more c.in_ok-pair.ensures.new c.args.steps.now c.in_ok-replies.replies.items c.run.new.self
      c.in_ok-replies.ensures.ok ReadsAreFronts c.args.last.now c.step-reply.result c.step-reply.new.self
      c.step-reply.ensures.exact c.in_ok-replies.ensures.came c.step-reply.ensures.front few;
}
