use Rattle.std.proofs.Common.{ap}
use Rattle.sctp_steps.specs.Ends.{Ends}
use Rattle.sctp_boundaries.specs.Laws.{RunKeepsBoundaries}
use Rattle.sctp_steps.specs.Steps.{Runs}
use Rattle.sctp_pair.specs.Across.{EndsOn, ReadsOn}
use Rattle.pair_callers.specs.Resetting.{AcrossFromNew, EndedFromNew, WrittenFromNew}
use Rattle.pair_callers.proofs.ReadAcrossResets.{across_from_new, ended_from_new, if_both_ok, if_three_ok}
use Rattle.pair_callers.proofs.ReadAcrossResets.{written_from_new}
use Rattle.pair_callers.proofs.resetting.run_across_resets.Goals as goal

pub returns-clause-across : goal.returns-clause-across
returns-clause-across c =
    if_three_ok c.run.result
    (λ replies. Runs c.args.steps.now replies.items c.in_ok-pair.pair c.run.new.self)
    (λ replies. ReadsOn c.args.steps.now replies.items c.in_ok-pair.pair c.run.new.self)
    (λ replies. RunKeepsBoundaries c.args.steps.now replies.items c.in_ok-pair.pair c.run.new.self)
    (λ replies. AcrossFromNew c.args.max_payload_size c.args.token_a.now.initial_tsn c.args.token_b.now.initial_tsn
    c.args.steps.now replies.items)
    c.run.ensures.ok c.run.ensures.across c.run.ensures.boundaries
    (λ replies led across keep.
    across_from_new c.in_ok-pair.ensures.fresh c.args.steps.now replies.items c.run.new.self led across (
      ap (λ (p : Ends). p.packets_a) c.in_ok-pair.ensures.joined,
      ap (λ (p : Ends). p.packets_b) c.in_ok-pair.ensures.joined,
    ) keep)

pub returns-clause-written : goal.returns-clause-written
returns-clause-written c =
    if_both_ok c.run.result
    (λ replies. Runs c.args.steps.now replies.items c.in_ok-pair.pair c.run.new.self)
    (λ replies. ReadsOn c.args.steps.now replies.items c.in_ok-pair.pair c.run.new.self)
    (λ replies. WrittenFromNew c.args.max_payload_size c.args.steps.now replies.items)
    c.run.ensures.ok c.run.ensures.across
    (λ replies led across.
    written_from_new c.in_ok-pair.ensures.fresh c.args.steps.now replies.items c.run.new.self led across)

pub returns-clause-ended : goal.returns-clause-ended
returns-clause-ended c =
    if_three_ok c.run.result
    (λ replies. Runs c.args.steps.now replies.items c.in_ok-pair.pair c.run.new.self)
    (λ replies. ReadsOn c.args.steps.now replies.items c.in_ok-pair.pair c.run.new.self)
    (λ replies. EndsOn c.args.steps.now replies.items c.in_ok-pair.pair c.run.new.self)
    (λ replies. EndedFromNew c.args.max_payload_size c.args.steps.now replies.items)
    c.run.ensures.ok c.run.ensures.across c.run.ensures.ended
    (λ replies led across ended.
    ended_from_new c.in_ok-pair.ensures.fresh c.args.steps.now replies.items c.run.new.self led across
    c.in_ok-pair.ensures.unclosed ended)
