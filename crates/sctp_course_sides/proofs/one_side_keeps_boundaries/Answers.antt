use Rattle.sctp_reset_fit.specs.Laws.{Passes}
use Rattle.sctp_course_sides.proofs.KeepsBoundaries.{joined_sides_keep_boundaries, one_side_keeps_boundaries}
use Rattle.sctp_course_sides.proofs.WaitingOnce.{what_waits_waits_once}
use Rattle.sctp_course_sides.proofs.one_side_keeps_boundaries.Goals as goal

pub returns-clause-along : goal.returns-clause-along
returns-clause-along c = λ test. one_side_keeps_boundaries (Passes test)

pub returns-clause-joined : goal.returns-clause-joined
returns-clause-joined c = λ test. joined_sides_keep_boundaries (Passes test)

pub returns-clause-waits : goal.returns-clause-waits
returns-clause-waits c = λ test. what_waits_waits_once (Passes test)
