use Rattle.sctp_directions.proofs.Proved.{its_acknowledgements_are_alike, its_marks_are_no_events, its_pieces_are_given}
use Rattle.sctp_directions.proofs.Proved.{sacks_mean_the_same, settings_are_no_events, its_writes_are_accepted}
use Rattle.sctp_directions.proofs.Proved.{its_abandonments_are_alike, its_drops_are_alike, its_forwards_say_the_same}
use Rattle.sctp_directions.proofs.Proved.{its_spans_end, its_starts_are_no_events, its_tails_are_abandoned_alike}
use Rattle.sctp_directions.proofs.its_own_acts_are_events.Goals as goal

pub returns-clause-writes : goal.returns-clause-writes
returns-clause-writes c = its_writes_are_accepted

pub returns-clause-pieces : goal.returns-clause-pieces
returns-clause-pieces c = its_pieces_are_given

pub returns-clause-marks : goal.returns-clause-marks
returns-clause-marks c = its_marks_are_no_events

pub returns-clause-settings : goal.returns-clause-settings
returns-clause-settings c = settings_are_no_events

pub returns-clause-acknowledgements : goal.returns-clause-acknowledgements
returns-clause-acknowledgements c = its_acknowledgements_are_alike

pub returns-clause-sacks : goal.returns-clause-sacks
returns-clause-sacks c = sacks_mean_the_same

pub returns-clause-abandonments : goal.returns-clause-abandonments
returns-clause-abandonments c = its_abandonments_are_alike

pub returns-clause-tails : goal.returns-clause-tails
returns-clause-tails c = its_tails_are_abandoned_alike

pub returns-clause-drops : goal.returns-clause-drops
returns-clause-drops c = its_drops_are_alike

pub returns-clause-spans : goal.returns-clause-spans
returns-clause-spans c = its_spans_end

pub returns-clause-starts : goal.returns-clause-starts
returns-clause-starts c = its_starts_are_no_events

pub returns-clause-forwards : goal.returns-clause-forwards
returns-clause-forwards c = its_forwards_say_the_same
