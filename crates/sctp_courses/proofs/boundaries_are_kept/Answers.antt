use Rattle.sctp_courses.proofs.Proved.{boundaries_are_kept}
use Rattle.sctp_courses.proofs.boundaries_are_kept.Goals as goal

pub returns : goal.returns
returns c = record { kept = boundaries_are_kept }
