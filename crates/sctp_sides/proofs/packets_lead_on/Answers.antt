use Rattle.sctp_sides.proofs.Proved.{closed_sides_exchange_nothing}
use Rattle.sctp_sides.proofs.Proved.{chunks_lead_on, established_is_not_closed, exhaustion_closes, faults_close}
use Rattle.sctp_sides.proofs.Proved.{lost_associations_take_nothing, no_packet_changes_nothing, packets_end}
use Rattle.sctp_sides.proofs.packets_lead_on.Goals as goal

pub returns-clause-chunks : goal.returns-clause-chunks
returns-clause-chunks c = chunks_lead_on

pub returns-clause-ends : goal.returns-clause-ends
returns-clause-ends c = packets_end

pub returns-clause-faults : goal.returns-clause-faults
returns-clause-faults c = faults_close

pub returns-clause-exhausted : goal.returns-clause-exhausted
returns-clause-exhausted c = exhaustion_closes

pub returns-clause-closed : goal.returns-clause-closed
returns-clause-closed c = established_is_not_closed

pub returns-clause-exchanges : goal.returns-clause-exchanges
returns-clause-exchanges c = closed_sides_exchange_nothing

pub returns-clause-lost : goal.returns-clause-lost
returns-clause-lost c = lost_associations_take_nothing

pub returns-clause-none : goal.returns-clause-none
returns-clause-none c = no_packet_changes_nothing
