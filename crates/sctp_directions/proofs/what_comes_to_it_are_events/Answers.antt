use Rattle.sctp_directions.proofs.Proved.{peer_known_is_no_event, reports_say_what_was_taken, what_it_takes_in_comes}
use Rattle.sctp_directions.proofs.Proved.{forwards_it_takes_come, spans_of_what_comes_end, what_it_defers_comes}
use Rattle.sctp_directions.proofs.Proved.{what_it_takes_in_past_its_span_comes}
use Rattle.sctp_directions.proofs.what_comes_to_it_are_events.Goals as goal

pub returns-clause-taken : goal.returns-clause-taken
returns-clause-taken c = what_it_takes_in_comes

pub returns-clause-past : goal.returns-clause-past
returns-clause-past c = what_it_takes_in_past_its_span_comes

pub returns-clause-deferred : goal.returns-clause-deferred
returns-clause-deferred c = what_it_defers_comes

pub returns-clause-spans : goal.returns-clause-spans
returns-clause-spans c = spans_of_what_comes_end

pub returns-clause-reports : goal.returns-clause-reports
returns-clause-reports c = reports_say_what_was_taken

pub returns-clause-peer_known : goal.returns-clause-peer_known
returns-clause-peer_known c = peer_known_is_no_event

pub returns-clause-passed : goal.returns-clause-passed
returns-clause-passed c = forwards_it_takes_come
