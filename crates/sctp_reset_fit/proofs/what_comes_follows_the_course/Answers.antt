use Rattle.sctp_reset_fit.specs.Laws.{Passes}
use Rattle.sctp_reset_fit.proofs.Proved.{later_data_waits, left_data_is_taken, new_data_is_taken}
use Rattle.sctp_reset_fit.proofs.Proved.{nothing_stands_for_the_start, what_is_hidden_is_hidden}
use Rattle.sctp_reset_fit.proofs.what_comes_follows_the_course.Goals as goal

pub returns-clause-start : goal.returns-clause-start
returns-clause-start c = λ test. nothing_stands_for_the_start (Passes test)

pub returns-clause-hidden : goal.returns-clause-hidden
returns-clause-hidden c = λ test. what_is_hidden_is_hidden (Passes test)

pub returns-clause-taken : goal.returns-clause-taken
returns-clause-taken c = λ test. new_data_is_taken (Passes test)

pub returns-clause-left : goal.returns-clause-left
returns-clause-left c = λ test. left_data_is_taken (Passes test)

pub returns-clause-kept : goal.returns-clause-kept
returns-clause-kept c = λ test. later_data_waits (Passes test)
