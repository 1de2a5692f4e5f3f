use Rattle.std.proofs.Common.{refl}
use Rattle.sctp_courses.proofs.runs_compute.Goals as goal

pub returns-clause-kept : goal.returns-clause-kept
returns-clause-kept c = (refl, refl)

pub returns-clause-sent : goal.returns-clause-sent
returns-clause-sent c = refl

pub returns-clause-between : goal.returns-clause-between
returns-clause-between c = (refl, refl)
