use Rattle.std.proofs.Common.{sym, subst}
use Rattle.std.specs.Option.{option_copied}
use Rattle.sctp_directions.specs.Acts.{begun}
use Rattle.sctp_sides.specs.OneSide.{IsFresh}
use Rattle.sctp_sides.proofs.Proved.{created_sides_are_fresh}
use Rattle.side_callers.specs.Reading.{HoldsNothing}
use Rattle.side_callers.proofs.ReadMessages.{created_holds, if_ok}
use Rattle.side_callers.proofs.reading.run_new.Goals as goal

-- the association stands on the past on which a constructor lets it begin, holds nothing, and is fresh

pub returns-clause-each : goal.returns-clause-each
returns-clause-each c =
    let made = c.in_ok-association.ensures in
    if_ok c.run_and_read.result _ _ c.run_and_read.ensures.each (λ replies replied. replied (begun c.args.initial_tsn 1)
    (λ works. made.begins))

pub returns-clause-came : goal.returns-clause-came
returns-clause-came c =
    let made = c.in_ok-association.ensures in
    if_ok c.run_and_read.result _ _ c.run_and_read.ensures.came (λ replies gives. gives (begun c.args.initial_tsn 1)
    (λ works. made.begins) (subst HoldsNothing (sym made.created) (created_holds (option_copied c.args.server_config)
    c.args.config.now c.args.max_payload_size c.args.local_aid c.args.initial_tsn c.args.cookie c.args.remote_addr
    c.args.local_ip c.args.now)))

pub returns-clause-ended : goal.returns-clause-ended
returns-clause-ended c =
    let made = c.in_ok-association.ensures in
    if_ok c.run_and_read.result _ _ c.run_and_read.ensures.ended (λ replies ends. ends (begun c.args.initial_tsn 1)
    (λ works. made.begins) (subst IsFresh (sym made.created) (created_sides_are_fresh
    (option_copied c.args.server_config) c.args.config.now c.args.max_payload_size c.args.local_aid
    c.args.initial_tsn c.args.cookie c.args.remote_addr c.args.local_ip c.args.now)))
