use Rattle.sctp_sides.proofs.ShutdownsOverRuns.{shutdowns_are_timed_in_their_states_alone}
use Rattle.sctp_sides.proofs.RequestsTimed.{polls_time_requests, timeouts_leave_requests_timed}
use Rattle.sctp_sides.proofs.TimersOverRuns.{cookies_are_timed_in_cookie_echoed_alone, delayed_sacks_are_timed}
use Rattle.sctp_sides.proofs.TimersOverRuns.{echoed_cookies_are_timed, failed_sides_wait_for_nothing}
use Rattle.sctp_sides.proofs.TimersOverRuns.{failures_stop_the_timers, inits_are_timed_in_cookie_wait_alone}
use Rattle.sctp_sides.proofs.TimersOverRuns.{losses_stop_the_timers, lost_sides_wait_for_nothing}
use Rattle.sctp_sides.proofs.TimersOverRuns.{no_handshake_timer_runs_once_established, nothing_in_flight_is_not_timed}
use Rattle.sctp_sides.proofs.TimersOverRuns.{outstanding_data_is_timed, sent_inits_are_timed}
use Rattle.sctp_sides.proofs.timers_run_where_they_should.Goals as goal

pub returns-clause-data : goal.returns-clause-data
returns-clause-data c = outstanding_data_is_timed

pub returns-clause-no_data : goal.returns-clause-no_data
returns-clause-no_data c = nothing_in_flight_is_not_timed

pub returns-clause-inits : goal.returns-clause-inits
returns-clause-inits c = sent_inits_are_timed

pub returns-clause-cookies : goal.returns-clause-cookies
returns-clause-cookies c = echoed_cookies_are_timed

pub returns-clause-inits_alone : goal.returns-clause-inits_alone
returns-clause-inits_alone c = inits_are_timed_in_cookie_wait_alone

pub returns-clause-cookies_alone : goal.returns-clause-cookies_alone
returns-clause-cookies_alone c = cookies_are_timed_in_cookie_echoed_alone

pub returns-clause-established : goal.returns-clause-established
returns-clause-established c = no_handshake_timer_runs_once_established

pub returns-clause-acknowledgements : goal.returns-clause-acknowledgements
returns-clause-acknowledgements c = delayed_sacks_are_timed

pub returns-clause-failures : goal.returns-clause-failures
returns-clause-failures c = failures_stop_the_timers

pub returns-clause-losses : goal.returns-clause-losses
returns-clause-losses c = losses_stop_the_timers

pub returns-clause-failed : goal.returns-clause-failed
returns-clause-failed c = failed_sides_wait_for_nothing

pub returns-clause-lost : goal.returns-clause-lost
returns-clause-lost c = lost_sides_wait_for_nothing

pub returns-clause-requests : goal.returns-clause-requests
returns-clause-requests c = polls_time_requests

pub returns-clause-requests_again : goal.returns-clause-requests_again
returns-clause-requests_again c = timeouts_leave_requests_timed

pub returns-clause-shutdowns : goal.returns-clause-shutdowns
returns-clause-shutdowns c = shutdowns_are_timed_in_their_states_alone
