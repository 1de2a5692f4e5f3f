use Rattle.sctp_sides.proofs.ShutdownCalls.{endpoint_events_do_not_close, shutdowns_do_not_close}
use Rattle.sctp_sides.proofs.ClosingCalls.{closes_close, writes_do_not_close}
use Rattle.sctp_sides.proofs.ClosingCalls.{accepted_streams_do_not_close, limits_do_not_close, settings_do_not_close}
use Rattle.sctp_sides.proofs.ClosingPackets.{exhausting_reads_alone_close, exhausting_stops_alone_close}
use Rattle.sctp_sides.proofs.ClosingPackets.{faults_alone_close}
use Rattle.sctp_sides.proofs.ClosingPolls.{ended_shutdowns_alone_close, timers_do_not_close}
use Rattle.sctp_sides.proofs.faults_alone_close.Goals as goal

pub returns-clause-packets : goal.returns-clause-packets
returns-clause-packets c = faults_alone_close

pub returns-clause-writes : goal.returns-clause-writes
returns-clause-writes c = writes_do_not_close

pub returns-clause-settings : goal.returns-clause-settings
returns-clause-settings c = settings_do_not_close

pub returns-clause-accepted : goal.returns-clause-accepted
returns-clause-accepted c = accepted_streams_do_not_close

pub returns-clause-limits : goal.returns-clause-limits
returns-clause-limits c = limits_do_not_close

pub returns-clause-reads : goal.returns-clause-reads
returns-clause-reads c = exhausting_reads_alone_close

pub returns-clause-stops : goal.returns-clause-stops
returns-clause-stops c = exhausting_stops_alone_close

pub returns-clause-closes : goal.returns-clause-closes
returns-clause-closes c = closes_close

pub returns-clause-polls : goal.returns-clause-polls
returns-clause-polls c = ended_shutdowns_alone_close

pub returns-clause-timers : goal.returns-clause-timers
returns-clause-timers c = timers_do_not_close

pub returns-clause-shutdowns : goal.returns-clause-shutdowns
returns-clause-shutdowns c = shutdowns_do_not_close

pub returns-clause-endpoint : goal.returns-clause-endpoint
returns-clause-endpoint c = endpoint_events_do_not_close
