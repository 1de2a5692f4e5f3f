use Rattle.sctp_directions.proofs.Proved.{closed_receivers_are_not_open, only_reads_give_messages}
use Rattle.sctp_directions.proofs.Proved.{only_what_is_brought_is_taken_in, receivers_events_are_received}
use Rattle.sctp_directions.proofs.Proved.{only_forwards_pass_over}
use Rattle.sctp_directions.proofs.events_at_the_receiver_leave_the_sender.Goals as goal

pub returns-clause-received : goal.returns-clause-received
returns-clause-received c = receivers_events_are_received

pub returns-clause-taken : goal.returns-clause-taken
returns-clause-taken c = only_what_is_brought_is_taken_in

pub returns-clause-reads : goal.returns-clause-reads
returns-clause-reads c = only_reads_give_messages

pub returns-clause-closed : goal.returns-clause-closed
returns-clause-closed c = closed_receivers_are_not_open

pub returns-clause-passed : goal.returns-clause-passed
returns-clause-passed c = only_forwards_pass_over
