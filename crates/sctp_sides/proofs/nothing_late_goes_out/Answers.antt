use Rattle.sctp_sides.proofs.FirstBegunRuns.{created_sides_have_nothing_to_send, joined_sides_have_nothing_to_send}
use Rattle.sctp_sides.proofs.PollsInTime.{nothing_late_goes_out}
use Rattle.sctp_sides.proofs.nothing_late_goes_out.Goals as goal

pub returns-clause-created : goal.returns-clause-created
returns-clause-created c = created_sides_have_nothing_to_send

pub returns-clause-joined : goal.returns-clause-joined
returns-clause-joined c = joined_sides_have_nothing_to_send

pub returns-clause-late : goal.returns-clause-late
returns-clause-late c = nothing_late_goes_out
