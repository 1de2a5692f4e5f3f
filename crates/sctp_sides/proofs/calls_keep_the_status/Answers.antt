use Rattle.sctp_sides.proofs.ShutdownCalls.{endpoint_events_keep_the_status, shutdowns_keep_the_stage}
use Rattle.sctp_sides.proofs.Proved.{opened_streams_keep_the_status, polls_keep_the_stage, reads_keep_the_status}
use Rattle.sctp_sides.proofs.Proved.{the_same_status_is_the_same_stage}
use Rattle.sctp_sides.proofs.Proved.{accepted_streams_keep_the_status, limits_keep_the_status, settings_keep_the_status}
use Rattle.sctp_sides.proofs.Proved.{timers_keep_the_status, told_events_keep_the_status, writes_keep_the_status}
use Rattle.sctp_sides.proofs.Proved.{reads_change_streams_alone}
use Rattle.sctp_sides.proofs.Proved.{reads_lead_on, stops_are_in_established, stops_keep_the_status}
use Rattle.sctp_sides.proofs.calls_keep_the_status.Goals as goal

pub returns-clause-opened : goal.returns-clause-opened
returns-clause-opened c = opened_streams_keep_the_status

pub returns-clause-written : goal.returns-clause-written
returns-clause-written c = writes_keep_the_status

pub returns-clause-set : goal.returns-clause-set
returns-clause-set c = settings_keep_the_status

pub returns-clause-accepted : goal.returns-clause-accepted
returns-clause-accepted c = accepted_streams_keep_the_status

pub returns-clause-limits : goal.returns-clause-limits
returns-clause-limits c = limits_keep_the_status

pub returns-clause-read : goal.returns-clause-read
returns-clause-read c = reads_keep_the_status

pub returns-clause-read_plainly : goal.returns-clause-read_plainly
returns-clause-read_plainly c = reads_change_streams_alone

pub returns-clause-read_on : goal.returns-clause-read_on
returns-clause-read_on c = reads_lead_on

pub returns-clause-stopped : goal.returns-clause-stopped
returns-clause-stopped c = stops_keep_the_status

pub returns-clause-stopped_where : goal.returns-clause-stopped_where
returns-clause-stopped_where c = stops_are_in_established

pub returns-clause-told : goal.returns-clause-told
returns-clause-told c = told_events_keep_the_status

pub returns-clause-timers : goal.returns-clause-timers
returns-clause-timers c = timers_keep_the_status

pub returns-clause-polled : goal.returns-clause-polled
returns-clause-polled c = polls_keep_the_stage

pub returns-clause-stage : goal.returns-clause-stage
returns-clause-stage c = the_same_status_is_the_same_stage

pub returns-clause-endpoint : goal.returns-clause-endpoint
returns-clause-endpoint c = endpoint_events_keep_the_status

pub returns-clause-shutdowns : goal.returns-clause-shutdowns
returns-clause-shutdowns c = shutdowns_keep_the_stage
