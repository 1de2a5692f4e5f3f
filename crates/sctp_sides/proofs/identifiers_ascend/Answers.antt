use Rattle.sctp_sides.proofs.AscendingOverRuns.{created_streams_ascend, joined_streams_ascend}
use Rattle.sctp_sides.proofs.AscendingOverRuns.{runs_keep_streams_ascending}
use Rattle.sctp_sides.proofs.AscendingTold.{closes_tell_ascending, forwards_ascend}
use Rattle.sctp_sides.proofs.identifiers_ascend.Goals as goal

pub returns-clause-created : goal.returns-clause-created
returns-clause-created c = created_streams_ascend

pub returns-clause-joined : goal.returns-clause-joined
returns-clause-joined c = joined_streams_ascend

pub returns-clause-streams : goal.returns-clause-streams
returns-clause-streams c = runs_keep_streams_ascending

pub returns-clause-finals : goal.returns-clause-finals
returns-clause-finals c = closes_tell_ascending

pub returns-clause-forwards : goal.returns-clause-forwards
returns-clause-forwards c = forwards_ascend
