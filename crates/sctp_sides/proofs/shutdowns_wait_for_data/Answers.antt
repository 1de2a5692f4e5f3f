use Rattle.sctp_sides.proofs.ShutdownsOverRuns.{shutdowns_follow_all_data, shutdowns_go_on_behind_data}
use Rattle.sctp_sides.proofs.ShutdownsStayInOrder.{polls_complete_what_is_due, shutdowns_stay_in_order}
use Rattle.sctp_sides.proofs.shutdowns_wait_for_data.Goals as goal

pub returns-clause-follow : goal.returns-clause-follow
returns-clause-follow c = shutdowns_follow_all_data

pub returns-clause-go_on : goal.returns-clause-go_on
returns-clause-go_on c = shutdowns_go_on_behind_data

pub returns-clause-order : goal.returns-clause-order
returns-clause-order c = shutdowns_stay_in_order

pub returns-clause-complete : goal.returns-clause-complete
returns-clause-complete c = polls_complete_what_is_due
