use Rattle.pair_callers.proofs.TakenAndAssigned.{timers_take_none}
use Rattle.pair_callers.proofs.delivering.expire_timers.Goals as goal

pub returns : goal.returns
returns c =
    timers_take_none c.args.side c.args.now c.step.result c.args.pair.now c.step.new.self c.step.ensures.headline
