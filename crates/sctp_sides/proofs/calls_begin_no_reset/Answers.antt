use Rattle.sctp_sides.proofs.ShutdownCalls.{endpoint_events_begin_no_reset, shutdowns_begin_no_reset}
use Rattle.sctp_sides.proofs.BeginsNoReset.{accepted_streams_begin_no_reset, closes_begin_no_reset}
use Rattle.sctp_sides.proofs.BeginsNoReset.{created_sides_reset_nothing, exhaustion_begins_no_reset}
use Rattle.sctp_sides.proofs.BeginsNoReset.{joined_sides_reset_nothing, limits_begin_no_reset}
use Rattle.sctp_sides.proofs.BeginsNoReset.{opened_streams_begin_no_reset, other_chunks_begin_no_reset}
use Rattle.sctp_sides.proofs.BeginsNoReset.{packet_ends_begin_no_reset, polls_begin_no_reset, reads_begin_no_reset}
use Rattle.sctp_sides.proofs.BeginsNoReset.{settings_begin_no_reset, timers_begin_no_reset}
use Rattle.sctp_sides.proofs.BeginsNoReset.{told_events_begin_no_reset, writes_begin_no_reset}
use Rattle.sctp_sides.proofs.calls_begin_no_reset.Goals as goal

pub returns-clause-created : goal.returns-clause-created
returns-clause-created c = created_sides_reset_nothing

pub returns-clause-joined : goal.returns-clause-joined
returns-clause-joined c = joined_sides_reset_nothing

pub returns-clause-opened : goal.returns-clause-opened
returns-clause-opened c = opened_streams_begin_no_reset

pub returns-clause-written : goal.returns-clause-written
returns-clause-written c = writes_begin_no_reset

pub returns-clause-set : goal.returns-clause-set
returns-clause-set c = settings_begin_no_reset

pub returns-clause-limits : goal.returns-clause-limits
returns-clause-limits c = limits_begin_no_reset

pub returns-clause-accepted : goal.returns-clause-accepted
returns-clause-accepted c = accepted_streams_begin_no_reset

pub returns-clause-read : goal.returns-clause-read
returns-clause-read c = reads_begin_no_reset

pub returns-clause-told : goal.returns-clause-told
returns-clause-told c = told_events_begin_no_reset

pub returns-clause-closed : goal.returns-clause-closed
returns-clause-closed c = closes_begin_no_reset

pub returns-clause-exhausted : goal.returns-clause-exhausted
returns-clause-exhausted c = exhaustion_begins_no_reset

pub returns-clause-timers : goal.returns-clause-timers
returns-clause-timers c = timers_begin_no_reset

pub returns-clause-polled : goal.returns-clause-polled
returns-clause-polled c = polls_begin_no_reset

pub returns-clause-chunks : goal.returns-clause-chunks
returns-clause-chunks c = other_chunks_begin_no_reset

pub returns-clause-ends : goal.returns-clause-ends
returns-clause-ends c = packet_ends_begin_no_reset

pub returns-clause-shutdowns : goal.returns-clause-shutdowns
returns-clause-shutdowns c = shutdowns_begin_no_reset

pub returns-clause-endpoint : goal.returns-clause-endpoint
returns-clause-endpoint c = endpoint_events_begin_no_reset
