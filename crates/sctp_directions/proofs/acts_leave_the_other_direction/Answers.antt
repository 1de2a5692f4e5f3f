use Rattle.sctp_directions.proofs.Proved.{acts_keep_the_initial_tsns, only_ends_close_reads, only_settings_loosen}
use Rattle.sctp_directions.proofs.Proved.{own_acts_leave_what_comes, what_comes_leaves_its_own}
use Rattle.sctp_directions.proofs.acts_leave_the_other_direction.Goals as goal

pub returns-clause-own : goal.returns-clause-own
returns-clause-own c = own_acts_leave_what_comes

pub returns-clause-comes : goal.returns-clause-comes
returns-clause-comes c = what_comes_leaves_its_own

pub returns-clause-initials : goal.returns-clause-initials
returns-clause-initials c = acts_keep_the_initial_tsns

pub returns-clause-loose : goal.returns-clause-loose
returns-clause-loose c = only_settings_loosen

pub returns-clause-reads : goal.returns-clause-reads
returns-clause-reads c = only_ends_close_reads
