use Rattle.sctp_sides.proofs.ActiveOverRuns.{calls_restart_quietly, chunks_restart_quietly, created_sides_are_quiet}
use Rattle.sctp_sides.proofs.ActiveOverRuns.{writes_wait_for_resets}
use Rattle.sctp_sides.proofs.RestartedStreams.{parameters_restart_quietly, unperformed_restart_nothing}
use Rattle.sctp_sides.proofs.streams_restart_quietly.Goals as goal

pub returns-clause-created : goal.returns-clause-created
returns-clause-created c = created_sides_are_quiet

pub returns-clause-writes : goal.returns-clause-writes
returns-clause-writes c = writes_wait_for_resets

pub returns-clause-calls : goal.returns-clause-calls
returns-clause-calls c = calls_restart_quietly c.requests_are_held_back.ensures.data_waits

pub returns-clause-chunks : goal.returns-clause-chunks
returns-clause-chunks c = chunks_restart_quietly

pub returns-clause-parameters : goal.returns-clause-parameters
returns-clause-parameters c = parameters_restart_quietly

pub returns-clause-unperformed : goal.returns-clause-unperformed
returns-clause-unperformed c = unperformed_restart_nothing
