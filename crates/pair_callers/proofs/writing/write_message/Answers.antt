use Rattle.std.proofs.Common.{sym, ◌∙◌}
use Rattle.pair_callers.proofs.AcceptedWrites.{accepts_on, refused_on, wrote_all}
use Rattle.pair_callers.proofs.writing.write_message.Goals as goal

pub returns-clause-count : goal.returns-clause-count
returns-clause-count c =
    rw c.count_of.ensures (wrote_all c.args.side c.args.id c.args.bytes c.step.result c.args.pair.now c.step.new.self
    c.step.ensures.exact)

pub returns-clause-accepted : goal.returns-clause-accepted
returns-clause-accepted c =
    rw c.count_of.ensures (accepts_on c.args.side c.args.id c.args.bytes c.step.result c.args.pair.now c.step.new.self
    c.step.ensures.headline)

pub returns-clause-refused : goal.returns-clause-refused
returns-clause-refused c = λ none.
    refused_on c.args.side c.args.id c.args.bytes c.step.result c.args.pair.now c.step.new.self
    c.step.ensures.headline (sym c.count_of.ensures ∙ none)
