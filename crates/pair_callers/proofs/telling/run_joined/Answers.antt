use Rattle.pair_callers.proofs.FewAccepted.{hold_from_new, if_ok_all}
use Rattle.pair_callers.proofs.telling.run_joined.Goals as goal

pub returns : goal.returns
returns c =
    if_ok_all c.run.result c.run.ensures.ok c.run.ensures.front c.run.ensures.written
    c.run.ensures.undelivered (λ replies led front written undelivered.
    hold_from_new c.in_ok-pair.ensures.new c.args.steps.now replies.items c.run.new.self led front written undelivered)
