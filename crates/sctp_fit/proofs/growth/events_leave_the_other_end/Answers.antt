use Rattle.sctp_fit.proofs.BegunCounts.{events_keep_the_count}
use Rattle.sctp_fit.proofs.OtherEnd.{fresh_ones_receive_nothing, initial_tsns_are_no_events}
use Rattle.sctp_fit.proofs.OtherEnd.{receivers_events_leave_what_is_sent, senders_events_leave_what_comes}
use Rattle.sctp_fit.proofs.growth.events_leave_the_other_end.Goals as goal

pub returns-clause-incoming : goal.returns-clause-incoming
returns-clause-incoming c = senders_events_leave_what_comes

pub returns-clause-outgoing : goal.returns-clause-outgoing
returns-clause-outgoing c = receivers_events_leave_what_is_sent

pub returns-clause-counted : goal.returns-clause-counted
returns-clause-counted c = events_keep_the_count

pub returns-clause-initials : goal.returns-clause-initials
returns-clause-initials c = initial_tsns_are_no_events

pub returns-clause-fresh : goal.returns-clause-fresh
returns-clause-fresh c = fresh_ones_receive_nothing
