use Rattle.sctp_sides.proofs.DataIntake.{data_is_taken_in, later_data_is_kept_apart, unread_data_is_left}
use Rattle.sctp_sides.proofs.NothingElseTaken.{nothing_else_is_kept_apart, nothing_else_is_taken_in}
use Rattle.sctp_sides.proofs.data_is_taken_in.Goals as goal

pub returns-clause-taken : goal.returns-clause-taken
returns-clause-taken c = data_is_taken_in

pub returns-clause-unread : goal.returns-clause-unread
returns-clause-unread c = unread_data_is_left

pub returns-clause-no_other : goal.returns-clause-no_other
returns-clause-no_other c = nothing_else_is_taken_in

pub returns-clause-kept : goal.returns-clause-kept
returns-clause-kept c = later_data_is_kept_apart

pub returns-clause-no_other_kept : goal.returns-clause-no_other_kept
returns-clause-no_other_kept c = nothing_else_is_kept_apart
