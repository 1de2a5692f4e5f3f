use Rattle.sctp_boundaries.specs.Laws.{RunKeepsBoundaries}
use Rattle.sctp_closed_between.specs.Between.{EndOnlyClosed}
use Rattle.sctp_pair.specs.Callers.{ComesOn, HoldsOn, NothingIsReadBeforeADelivery, ReadsAreFronts, ReadsWereWritten}
use Rattle.sctp_steps.specs.Steps.{Runs}
use Rattle.sctp_pair.proofs.Callers.{comes_on, fronts_on, unbrought_on, were_written_on}
use Rattle.sctp_pair.proofs.AnsweredValues.{if_ok}
use Rattle.sctp_pair.specs.Across.{EndsOn, ReadsOn}
use Rattle.sctp_pair.proofs.AcrossResets.{reads_on}
use Rattle.sctp_pair.proofs.EndsAcross.{ends_on}
use Rattle.sctp_pair.proofs.pair.Pair.run.Goals as goal

pub returns-clause-came : goal.returns-clause-came
returns-clause-came c =
    if_ok c.carry_out_all.result
    (λ replies. Runs c.args.steps.now replies.items c.args.self.now c.carry_out_all.new.self)
    (λ replies. ComesOn c.args.steps.now replies.items c.args.self.now c.carry_out_all.new.self)
    c.carry_out_all.ensures.ok
    (λ replies led. comes_on c.args.steps.now replies.items c.args.self.now c.carry_out_all.new.self led)

pub returns-clause-front : goal.returns-clause-front
returns-clause-front c =
    if_ok c.carry_out_all.result
    (λ replies. Runs c.args.steps.now replies.items c.args.self.now c.carry_out_all.new.self)
    (λ replies. HoldsOn ReadsAreFronts c.args.steps.now replies.items c.args.self.now) c.carry_out_all.ensures.ok
    (λ replies led. fronts_on c.args.steps.now replies.items c.args.self.now c.carry_out_all.new.self led)

pub returns-clause-undelivered : goal.returns-clause-undelivered
returns-clause-undelivered c =
    if_ok c.carry_out_all.result
    (λ replies. Runs c.args.steps.now replies.items c.args.self.now c.carry_out_all.new.self)
    (λ replies. HoldsOn NothingIsReadBeforeADelivery c.args.steps.now replies.items c.args.self.now)
    c.carry_out_all.ensures.ok
    (λ replies led. unbrought_on c.args.steps.now replies.items c.args.self.now c.carry_out_all.new.self led)

pub returns-clause-written : goal.returns-clause-written
returns-clause-written c =
    if_ok c.carry_out_all.result
    (λ replies. Runs c.args.steps.now replies.items c.args.self.now c.carry_out_all.new.self)
    (λ replies. HoldsOn ReadsWereWritten c.args.steps.now replies.items c.args.self.now) c.carry_out_all.ensures.ok
    (λ replies led. were_written_on c.args.steps.now replies.items c.args.self.now c.carry_out_all.new.self led)

pub returns-clause-boundaries : goal.returns-clause-boundaries
returns-clause-boundaries c =
    if_ok c.carry_out_all.result
    (λ replies. Runs c.args.steps.now replies.items c.args.self.now c.carry_out_all.new.self)
    (λ replies. RunKeepsBoundaries c.args.steps.now replies.items c.args.self.now c.carry_out_all.new.self)
    c.carry_out_all.ensures.ok
    (λ replies led.
    c.boundaries_are_kept.ensures.runs c.args.steps.now replies.items c.args.self.now c.carry_out_all.new.self led)

pub returns-clause-closed : goal.returns-clause-closed
returns-clause-closed c =
    if_ok c.carry_out_all.result
    (λ replies. Runs c.args.steps.now replies.items c.args.self.now c.carry_out_all.new.self)
    (λ replies. EndOnlyClosed c.args.steps.now replies.items c.args.self.now c.carry_out_all.new.self)
    c.carry_out_all.ensures.ok
    (λ replies led.
    c.only_closed_streams_end_between.ensures.runs c.args.steps.now replies.items c.args.self.now
    c.carry_out_all.new.self led)

pub returns-clause-across : goal.returns-clause-across
returns-clause-across c =
    if_ok c.carry_out_all.result
    (λ replies. Runs c.args.steps.now replies.items c.args.self.now c.carry_out_all.new.self)
    (λ replies. ReadsOn c.args.steps.now replies.items c.args.self.now c.carry_out_all.new.self)
    c.carry_out_all.ensures.ok
    (λ replies led.
    reads_on c.boundaries_are_kept.ensures.steps c.args.steps.now replies.items c.args.self.now
    c.carry_out_all.new.self led)

pub returns-clause-ended : goal.returns-clause-ended
returns-clause-ended c =
    if_ok c.carry_out_all.result
    (λ replies. Runs c.args.steps.now replies.items c.args.self.now c.carry_out_all.new.self)
    (λ replies. EndsOn c.args.steps.now replies.items c.args.self.now c.carry_out_all.new.self)
    c.carry_out_all.ensures.ok
    (λ replies led.
    ends_on c.boundaries_are_kept.ensures.steps c.args.steps.now replies.items c.args.self.now
    c.carry_out_all.new.self led)
