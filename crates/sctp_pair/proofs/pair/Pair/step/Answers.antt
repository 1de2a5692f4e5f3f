use Rattle.std.proofs.Common.{refl, [], ◌∷◌}
use Rattle.sctp_pair.proofs.AcrossResets.{reads_on}
use Rattle.sctp_pair.proofs.Callers.{comes_on, fronts_on, unbrought_on, were_written_on}
use Rattle.sctp_pair.proofs.Counted.{step_leads_counted}
use Rattle.sctp_pair.proofs.EndsAcross.{ends_on}
use Rattle.sctp_pair.proofs.pair.Pair.step.Goals as goal

pub returns-clause-counted : goal.returns-clause-counted
returns-clause-counted c t w fits =
    step_leads_counted c.args.step.now c.args.self.now c.carry_out.new.self c.carry_out.result
    c.carry_out.ensures t w fits

-- the step is a run of one
pub returns-clause-came : goal.returns-clause-came
returns-clause-came c =
    comes_on (c.args.step.now ∷ []) (c.carry_out.result ∷ []) c.args.self.now c.carry_out.new.self
    (c.carry_out.new.self, c.carry_out.ensures, refl)

pub returns-clause-front : goal.returns-clause-front
returns-clause-front c =
    fronts_on (c.args.step.now ∷ []) (c.carry_out.result ∷ []) c.args.self.now c.carry_out.new.self
    (c.carry_out.new.self, c.carry_out.ensures, refl)

pub returns-clause-undelivered : goal.returns-clause-undelivered
returns-clause-undelivered c =
    unbrought_on (c.args.step.now ∷ []) (c.carry_out.result ∷ []) c.args.self.now c.carry_out.new.self
    (c.carry_out.new.self, c.carry_out.ensures, refl)

pub returns-clause-written : goal.returns-clause-written
returns-clause-written c =
    were_written_on (c.args.step.now ∷ []) (c.carry_out.result ∷ []) c.args.self.now c.carry_out.new.self
    (c.carry_out.new.self, c.carry_out.ensures, refl)

pub returns-clause-boundaries : goal.returns-clause-boundaries
returns-clause-boundaries c =
    c.boundaries_are_kept.ensures.steps c.args.step.now c.args.self.now c.carry_out.result c.carry_out.new.self
    c.carry_out.ensures

pub returns-clause-closed : goal.returns-clause-closed
returns-clause-closed c =
    c.only_closed_streams_end_between.ensures.runs (c.args.step.now ∷ []) (c.carry_out.result ∷ []) c.args.self.now
    c.carry_out.new.self
    (c.carry_out.new.self, c.carry_out.ensures, refl)

pub returns-clause-across : goal.returns-clause-across
returns-clause-across c =
    reads_on c.boundaries_are_kept.ensures.steps (c.args.step.now ∷ []) (c.carry_out.result ∷ []) c.args.self.now
    c.carry_out.new.self
    (c.carry_out.new.self, c.carry_out.ensures, refl)

pub returns-clause-ended : goal.returns-clause-ended
returns-clause-ended c =
    ends_on c.boundaries_are_kept.ensures.steps (c.args.step.now ∷ []) (c.carry_out.result ∷ []) c.args.self.now
    c.carry_out.new.self
    (c.carry_out.new.self, c.carry_out.ensures, refl)
