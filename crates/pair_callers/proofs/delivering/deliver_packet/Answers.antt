use Rattle.pair_callers.proofs.TakenAndAssigned.{other_takes_none_on, passes_on, takes_none_refused, takes_none_without}
use Rattle.pair_callers.proofs.TakenAndAssigned.{takes_on}
use Rattle.pair_callers.proofs.delivering.deliver_packet.Goals as goal

pub returns-clause-taken : goal.returns-clause-taken
returns-clause-taken c =
    takes_on c.args.side c.args.number c.args.now c.step.result c.args.pair.now c.step.new.self c.step.ensures.headline

pub returns-clause-without_data : goal.returns-clause-without_data
returns-clause-without_data c =
    takes_none_without c.args.side c.args.number c.args.now c.step.result c.args.pair.now c.step.new.self
    c.step.ensures.headline

pub returns-clause-refused : goal.returns-clause-refused
returns-clause-refused c =
    takes_none_refused c.args.side c.args.number c.args.now c.step.result c.args.pair.now c.step.new.self
    c.step.ensures.headline

pub returns-clause-other : goal.returns-clause-other
returns-clause-other c =
    other_takes_none_on c.args.side c.args.number c.args.now c.step.result c.args.pair.now c.step.new.self
    c.step.ensures.headline

pub returns-clause-passed : goal.returns-clause-passed
returns-clause-passed c =
    passes_on c.args.side c.args.number c.args.now c.step.result c.args.pair.now c.step.new.self c.step.ensures.headline
