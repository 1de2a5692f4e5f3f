use Rattle.sctp_pair.proofs.SidesRun.{fresh_sides_stand, sides_keep_retries, sides_run_by_their_calls}
use Rattle.sctp_pair.proofs.SidesRun.{sides_send_nothing_late}
use Rattle.sctp_pair.proofs.sides.sides_run_by_their_calls.Goals as goal

pub returns-clause-runs : goal.returns-clause-runs
returns-clause-runs c = sides_run_by_their_calls

pub returns-clause-stand : goal.returns-clause-stand
returns-clause-stand c = fresh_sides_stand

pub returns-clause-retries : goal.returns-clause-retries
returns-clause-retries c = sides_keep_retries

pub returns-clause-in_time : goal.returns-clause-in_time
returns-clause-in_time c = sides_send_nothing_late
