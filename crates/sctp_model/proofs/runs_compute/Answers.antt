use Rattle.sctp_model.proofs.ExampleRuns.{closed_reads_nothing, dropped_unsent, first_abandoned_and_skipped}
use Rattle.sctp_model.proofs.ExampleRuns.{late_forward_changes_nothing, late_number_leaves_the_cursor}
use Rattle.sctp_model.proofs.ExampleRuns.{pieces_out_of_order, sacks_release_once, sequence_numbers_wrap}
use Rattle.sctp_model.proofs.ExampleRuns.{stream_begins_anew, streams_do_not_wait, unordered_is_dropped}
use Rattle.sctp_model.proofs.ExampleRuns.{unordered_is_read_first}
use Rattle.sctp_model.proofs.runs_compute.Goals as goal

pub returns-clause-pieces : goal.returns-clause-pieces
returns-clause-pieces c = pieces_out_of_order

pub returns-clause-skipped : goal.returns-clause-skipped
returns-clause-skipped c = first_abandoned_and_skipped

pub returns-clause-late : goal.returns-clause-late
returns-clause-late c = late_forward_changes_nothing

pub returns-clause-unordered : goal.returns-clause-unordered
returns-clause-unordered c = unordered_is_read_first

pub returns-clause-wrap : goal.returns-clause-wrap
returns-clause-wrap c = sequence_numbers_wrap

pub returns-clause-cursor : goal.returns-clause-cursor
returns-clause-cursor c = late_number_leaves_the_cursor

pub returns-clause-released : goal.returns-clause-released
returns-clause-released c = sacks_release_once

pub returns-clause-dropped : goal.returns-clause-dropped
returns-clause-dropped c = unordered_is_dropped

pub returns-clause-streams : goal.returns-clause-streams
returns-clause-streams c = streams_do_not_wait

pub returns-clause-unsent : goal.returns-clause-unsent
returns-clause-unsent c = dropped_unsent

pub returns-clause-closed : goal.returns-clause-closed
returns-clause-closed c = closed_reads_nothing

pub returns-clause-anew : goal.returns-clause-anew
returns-clause-anew c = stream_begins_anew
