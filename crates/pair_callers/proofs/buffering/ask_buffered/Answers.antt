use Rattle.pair_callers.proofs.ReadyOrBuffered.{amount_told, asked_same, kept_on}
use Rattle.pair_callers.proofs.buffering.ask_buffered.Goals as goal

pub returns-clause-amount : goal.returns-clause-amount
returns-clause-amount c =
    rw c.amount_of.ensures (amount_told c.args.side c.args.id c.step.result c.args.pair.now c.step.new.self
    c.step.ensures.exact)

pub returns-clause-unchanged : goal.returns-clause-unchanged
returns-clause-unchanged c =
    asked_same c.args.side c.args.id c.step.result c.args.pair.now c.step.new.self c.step.ensures.exact

pub returns-clause-kept : goal.returns-clause-kept
returns-clause-kept c =
    rw c.amount_of.ensures
    (kept_on c.args.side c.args.id c.step.result c.args.pair.now c.step.new.self c.step.ensures.exact
    c.step.ensures.headline)
