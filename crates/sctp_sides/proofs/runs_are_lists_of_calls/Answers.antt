use Rattle.sctp_sides.proofs.RunsByActs.{runs_do_their_acts, runs_keep_retries, runs_send_nothing_late}
use Rattle.sctp_sides.proofs.RunsListed.{lost_runs_end_closed, runs_are_lists_of_calls, runs_tell_finals_once}
use Rattle.sctp_sides.proofs.RunsListed.{runs_tell_one_loss}
use Rattle.sctp_sides.proofs.runs_are_lists_of_calls.Goals as goal

pub returns-clause-calls : goal.returns-clause-calls
returns-clause-calls c = runs_are_lists_of_calls

pub returns-clause-losses : goal.returns-clause-losses
returns-clause-losses c = runs_tell_one_loss

pub returns-clause-lost : goal.returns-clause-lost
returns-clause-lost c = lost_runs_end_closed

pub returns-clause-finals : goal.returns-clause-finals
returns-clause-finals c = runs_tell_finals_once

pub returns-clause-acts : goal.returns-clause-acts
returns-clause-acts c = runs_do_their_acts

pub returns-clause-retries : goal.returns-clause-retries
returns-clause-retries c = runs_keep_retries

pub returns-clause-in_time : goal.returns-clause-in_time
returns-clause-in_time c = runs_send_nothing_late
