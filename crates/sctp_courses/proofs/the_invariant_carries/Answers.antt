use Rattle.sctp_courses.proofs.Proved.{each_event_keeps_the_invariant, the_invariant_is_enough}
use Rattle.sctp_courses.proofs.the_invariant_carries.Goals as goal

pub returns-clause-kept : goal.returns-clause-kept
returns-clause-kept c = each_event_keeps_the_invariant

pub returns-clause-enough : goal.returns-clause-enough
returns-clause-enough c = the_invariant_is_enough
