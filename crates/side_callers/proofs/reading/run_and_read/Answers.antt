use Rattle.side_callers.proofs.LostRuns.{nothing_behind_a_loss}
use Rattle.side_callers.proofs.ReadMessages.{each_is_replied, if_ok, reads_give_what_came}
use Rattle.side_callers.proofs.reading.run_and_read.Goals as goal

pub returns-clause-each : goal.returns-clause-each
returns-clause-each c =
    if_ok c.run.result _ _ c.run.ensures.ok (λ replies run h stands. each_is_replied c.args.calls.now replies.items
    c.args.association.now c.run.new.association c.args.packets.now.items c.run.new.packets.items run h stands)

pub returns-clause-came : goal.returns-clause-came
returns-clause-came c =
    if_ok c.run.result _ _ c.run.ensures.ok (λ replies run h stands none. reads_give_what_came c.args.calls.now
    replies.items c.args.association.now c.run.new.association c.args.packets.now.items c.run.new.packets.items run h
    stands none)

pub returns-clause-ended : goal.returns-clause-ended
returns-clause-ended c =
    if_ok c.run.result _ _ c.run.ensures.ok (λ replies run h stands fresh. nothing_behind_a_loss c.args.calls.now
    replies.items c.args.association.now c.run.new.association c.args.packets.now.items c.run.new.packets.items run h
    stands fresh)
