use Rattle.sctp_fit.proofs.DataTaken.{data_past_its_span_comes, new_tsns_spell_their_offsets, opened_streams_are_alike}
use Rattle.sctp_fit.proofs.DataTaken.{reports_change_nothing}
use Rattle.sctp_fit.proofs.DataTaken.{what_is_taken_in_comes}
use Rattle.sctp_fit.proofs.QueuesPinned.{readers_are_pinned}
use Rattle.sctp_fit.proofs.ReadsAnswered.{reads_are_alike, the_same_streams_are_ready}
use Rattle.sctp_fit.proofs.arrivals.what_comes_is_alike.Goals as goal

pub returns-clause-offsets : goal.returns-clause-offsets
returns-clause-offsets c = new_tsns_spell_their_offsets

pub returns-clause-taken : goal.returns-clause-taken
returns-clause-taken c = what_is_taken_in_comes

pub returns-clause-past : goal.returns-clause-past
returns-clause-past c = data_past_its_span_comes

pub returns-clause-opened : goal.returns-clause-opened
returns-clause-opened c = opened_streams_are_alike

pub returns-clause-reports : goal.returns-clause-reports
returns-clause-reports c = reports_change_nothing

pub returns-clause-reads : goal.returns-clause-reads
returns-clause-reads c = reads_are_alike

pub returns-clause-ready : goal.returns-clause-ready
returns-clause-ready c = the_same_streams_are_ready

pub returns-clause-pinned : goal.returns-clause-pinned
returns-clause-pinned c = readers_are_pinned
