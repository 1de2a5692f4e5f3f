-- The boundaries of a stream between two associations are kept: by each step, and by all one after another.
use Rattle.sctp_reset_requests.specs.Laws.{DataHoldsBack, NamesAreThoseListed}
use Rattle.sctp_course_sides.proofs.SentBeside.{sent_beside}
use Rattle.sctp_boundaries.specs.Laws.{RunsKeepBoundaries, StepsKeepBoundaries}
use Rattle.sctp_boundaries.proofs.RunsLead.{steps_lead_on}
use Rattle.sctp_boundaries.proofs.StepsLead.{steps_lead_by}

pub steps_keep_boundaries : DataHoldsBack → NamesAreThoseListed → StepsKeepBoundaries
steps_keep_boundaries held those_listed = steps_lead_by sent_beside held those_listed

pub runs_keep_boundaries : DataHoldsBack → NamesAreThoseListed → RunsKeepBoundaries
runs_keep_boundaries held those_listed = steps_lead_on (steps_keep_boundaries held those_listed)
