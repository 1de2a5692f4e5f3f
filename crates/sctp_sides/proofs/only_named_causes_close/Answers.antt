use Rattle.sctp_sides.proofs.ClosingCauses.{causes_close, closing_packets_have_causes}
use Rattle.sctp_sides.proofs.FaultCauses.{faults_are_causes}
use Rattle.sctp_sides.proofs.only_named_causes_close.Goals as goal

pub returns-clause-chunk : goal.returns-clause-chunk
returns-clause-chunk c = faults_are_causes

pub returns-clause-packet : goal.returns-clause-packet
returns-clause-packet c = closing_packets_have_causes

pub returns-clause-causes : goal.returns-clause-causes
returns-clause-causes c = causes_close
