use Rattle.sctp_sides.proofs.Proved.{data_opens_or_takes, greetings_make_the_peer_known, other_chunks_do_nothing}
use Rattle.sctp_sides.proofs.Proved.{other_polls_do_nothing_in_front, other_sacks_do_nothing, polls_end_last}
use Rattle.sctp_sides.proofs.Proved.{polls_lead_on_in_front}
use Rattle.sctp_sides.proofs.Proved.{polls_give_and_report, polls_outside_an_exchange_give_what_waits}
use Rattle.sctp_sides.proofs.Proved.{polls_say_their_acts, sacks_acknowledge, taken_sacks_acknowledge}
use Rattle.sctp_sides.proofs.Proved.{timeouts_mark_at_most, what_waits_goes_out_as_it_is}
use Rattle.sctp_sides.proofs.Proved.{forwards_pass_over, i_forwards_pass_over, only_forwards_ahead_pass_over}
use Rattle.sctp_sides.proofs.Proved.{unused_forwards_do_nothing}
use Rattle.sctp_sides.proofs.Proved.{no_reset_goes_out, reconfigs_end_past}
use Rattle.sctp_sides.proofs.calls_are_made_of_acts.Goals as goal

pub returns-clause-data : goal.returns-clause-data
returns-clause-data c = data_opens_or_takes

pub returns-clause-reconfig : goal.returns-clause-reconfig
returns-clause-reconfig c = reconfigs_end_past

pub returns-clause-sack : goal.returns-clause-sack
returns-clause-sack c = sacks_acknowledge

pub returns-clause-taken : goal.returns-clause-taken
returns-clause-taken c = taken_sacks_acknowledge

pub returns-clause-older : goal.returns-clause-older
returns-clause-older c = other_sacks_do_nothing

pub returns-clause-other : goal.returns-clause-other
returns-clause-other c = other_chunks_do_nothing

pub returns-clause-poll : goal.returns-clause-poll
returns-clause-poll c = polls_give_and_report

pub returns-clause-other_poll : goal.returns-clause-other_poll
returns-clause-other_poll c = other_polls_do_nothing_in_front

pub returns-clause-ending : goal.returns-clause-ending
returns-clause-ending c = polls_end_last

pub returns-clause-front : goal.returns-clause-front
returns-clause-front c = polls_lead_on_in_front

pub returns-clause-silent : goal.returns-clause-silent
returns-clause-silent c = polls_outside_an_exchange_give_what_waits

pub returns-clause-packets : goal.returns-clause-packets
returns-clause-packets c = polls_say_their_acts

pub returns-clause-timeouts : goal.returns-clause-timeouts
returns-clause-timeouts c = timeouts_mark_at_most

pub returns-clause-greeting : goal.returns-clause-greeting
returns-clause-greeting c = greetings_make_the_peer_known

pub returns-clause-waiting : goal.returns-clause-waiting
returns-clause-waiting c = what_waits_goes_out_as_it_is

pub returns-clause-forward : goal.returns-clause-forward
returns-clause-forward c = forwards_pass_over

pub returns-clause-i_forward : goal.returns-clause-i_forward
returns-clause-i_forward c = i_forwards_pass_over

pub returns-clause-unused : goal.returns-clause-unused
returns-clause-unused c = unused_forwards_do_nothing

pub returns-clause-ahead : goal.returns-clause-ahead
returns-clause-ahead c = only_forwards_ahead_pass_over

pub returns-clause-no_reset : goal.returns-clause-no_reset
returns-clause-no_reset c = no_reset_goes_out
