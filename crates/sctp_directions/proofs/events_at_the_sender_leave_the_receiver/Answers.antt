use Rattle.sctp_directions.proofs.Proved.{only_beginnings_assign, only_writes_accept, senders_events_are_sent}
use Rattle.sctp_directions.proofs.Proved.{senders_events_keep_the_invariant, writes_are_accepted_last}
use Rattle.sctp_directions.proofs.Proved.{abandonments_assign_one_offset, only_forward_made_gives_forwards}
use Rattle.sctp_directions.proofs.Proved.{forwards_pass_over_the_front}
use Rattle.sctp_directions.proofs.events_at_the_sender_leave_the_receiver.Goals as goal

pub returns-clause-sent : goal.returns-clause-sent
returns-clause-sent c = senders_events_are_sent

pub returns-clause-accepted : goal.returns-clause-accepted
returns-clause-accepted c = only_writes_accept

pub returns-clause-last : goal.returns-clause-last
returns-clause-last c = writes_are_accepted_last

pub returns-clause-assigned : goal.returns-clause-assigned
returns-clause-assigned c = only_beginnings_assign

pub returns-clause-invariant : goal.returns-clause-invariant
returns-clause-invariant c = senders_events_keep_the_invariant

pub returns-clause-marker : goal.returns-clause-marker
returns-clause-marker c = abandonments_assign_one_offset

pub returns-clause-forwards : goal.returns-clause-forwards
returns-clause-forwards c = only_forward_made_gives_forwards

pub returns-clause-front : goal.returns-clause-front
returns-clause-front c = forwards_pass_over_the_front
