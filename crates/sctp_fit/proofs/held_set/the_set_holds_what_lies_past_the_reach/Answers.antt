use Rattle.sctp_fit.proofs.HeldTsns.{blocks_name_what_came, new_tsns_did_not_come, nothing_is_held_at_first}
use Rattle.sctp_fit.proofs.ReachClimbs.{the_set_follows, the_set_is_passed_over, tsns_ahead_are_not_behind}
use Rattle.sctp_fit.proofs.held_set.the_set_holds_what_lies_past_the_reach.Goals as goal

pub returns-clause-new : goal.returns-clause-new
returns-clause-new c = new_tsns_did_not_come

pub returns-clause-follows : goal.returns-clause-follows
returns-clause-follows c = the_set_follows

pub returns-clause-ahead : goal.returns-clause-ahead
returns-clause-ahead c = tsns_ahead_are_not_behind

pub returns-clause-passed : goal.returns-clause-passed
returns-clause-passed c = the_set_is_passed_over

pub returns-clause-blocks : goal.returns-clause-blocks
returns-clause-blocks c = blocks_name_what_came

pub returns-clause-first : goal.returns-clause-first
returns-clause-first c = nothing_is_held_at_first
