use Rattle.sctp_sides.proofs.GenerationsOverRuns.{created_sides_have_no_generation, finals_are_told_once}
use Rattle.sctp_sides.proofs.GenerationsOverRuns.{generations_are_live_or_final, joined_sides_have_no_generation}
use Rattle.sctp_sides.proofs.generations_end_once.Goals as goal

pub returns-clause-created : goal.returns-clause-created
returns-clause-created c = created_sides_have_no_generation

pub returns-clause-joined : goal.returns-clause-joined
returns-clause-joined c = joined_sides_have_no_generation

pub returns-clause-live_or_final : goal.returns-clause-live_or_final
returns-clause-live_or_final c = generations_are_live_or_final

pub returns-clause-told_once : goal.returns-clause-told_once
returns-clause-told_once c = finals_are_told_once
