use Rattle.sctp_sides.proofs.ShutdownCalls.{endpoint_events_reset_no_more, shutdowns_reset_no_more}
use Rattle.sctp_sides.proofs.ChunksPast.{chunks_reset_no_more}
use Rattle.sctp_sides.proofs.PastOnly.{more_are_past, more_is_asked_past, no_reset_is_past_only}
use Rattle.sctp_sides.proofs.ResetsNoMore.{accepted_streams_reset_no_more, closes_end_resets, closes_reset_no_more}
use Rattle.sctp_sides.proofs.ResetsNoMore.{exhaustion_ends_resets, exhaustion_resets_no_more, limits_reset_no_more}
use Rattle.sctp_sides.proofs.ResetsNoMore.{open_stops_reset_that_stream, opened_streams_reset_no_more}
use Rattle.sctp_sides.proofs.ResetsNoMore.{packet_ends_reset_no_more, polls_reset_no_more, reads_end_past}
use Rattle.sctp_sides.proofs.ResetsNoMore.{reads_reset_no_more, settings_reset_no_more, stops_reset_that_stream}
use Rattle.sctp_sides.proofs.ResetsNoMore.{timers_reset_no_more, told_events_reset_no_more, writes_reset_no_more}
use Rattle.sctp_sides.proofs.resets_stay_past_the_span.Goals as goal

pub returns-clause-more : goal.returns-clause-more
returns-clause-more c = more_are_past

pub returns-clause-asked : goal.returns-clause-asked
returns-clause-asked c = more_is_asked_past

pub returns-clause-none : goal.returns-clause-none
returns-clause-none c = no_reset_is_past_only

pub returns-clause-opened : goal.returns-clause-opened
returns-clause-opened c = opened_streams_reset_no_more

pub returns-clause-written : goal.returns-clause-written
returns-clause-written c = writes_reset_no_more

pub returns-clause-set : goal.returns-clause-set
returns-clause-set c = settings_reset_no_more

pub returns-clause-limits : goal.returns-clause-limits
returns-clause-limits c = limits_reset_no_more

pub returns-clause-accepted : goal.returns-clause-accepted
returns-clause-accepted c = accepted_streams_reset_no_more

pub returns-clause-read : goal.returns-clause-read
returns-clause-read c = reads_reset_no_more

pub returns-clause-read_past : goal.returns-clause-read_past
returns-clause-read_past c = reads_end_past

pub returns-clause-told : goal.returns-clause-told
returns-clause-told c = told_events_reset_no_more

pub returns-clause-closed : goal.returns-clause-closed
returns-clause-closed c = closes_reset_no_more

pub returns-clause-exhausted : goal.returns-clause-exhausted
returns-clause-exhausted c = exhaustion_resets_no_more

pub returns-clause-stopped : goal.returns-clause-stopped
returns-clause-stopped c = stops_reset_that_stream

pub returns-clause-stopped_open : goal.returns-clause-stopped_open
returns-clause-stopped_open c = open_stops_reset_that_stream

pub returns-clause-timers : goal.returns-clause-timers
returns-clause-timers c = timers_reset_no_more

pub returns-clause-polled : goal.returns-clause-polled
returns-clause-polled c = polls_reset_no_more

pub returns-clause-chunks : goal.returns-clause-chunks
returns-clause-chunks c = chunks_reset_no_more

pub returns-clause-ends : goal.returns-clause-ends
returns-clause-ends c = packet_ends_reset_no_more

pub returns-clause-over : goal.returns-clause-over
returns-clause-over c = closes_end_resets

pub returns-clause-exhaustion : goal.returns-clause-exhaustion
returns-clause-exhaustion c = exhaustion_ends_resets

pub returns-clause-shutdowns : goal.returns-clause-shutdowns
returns-clause-shutdowns c = shutdowns_reset_no_more

pub returns-clause-endpoint : goal.returns-clause-endpoint
returns-clause-endpoint c = endpoint_events_reset_no_more
