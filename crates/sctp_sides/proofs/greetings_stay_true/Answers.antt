use Rattle.sctp_sides.proofs.Proved.{established_sides_talk, greetings_stay_true, the_same_handshake_is_the_same_stage}
use Rattle.sctp_sides.proofs.greetings_stay_true.Goals as goal

pub returns-clause-same : goal.returns-clause-same
returns-clause-same c = the_same_handshake_is_the_same_stage

pub returns-clause-established : goal.returns-clause-established
returns-clause-established c = established_sides_talk

pub returns-clause-greetings : goal.returns-clause-greetings
returns-clause-greetings c = greetings_stay_true
