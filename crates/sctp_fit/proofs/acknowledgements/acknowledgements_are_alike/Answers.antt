use Rattle.sctp_fit.proofs.FlightAcknowledged.{acknowledgements_are_alike}
use Rattle.sctp_fit.proofs.SendersPinned.{senders_are_pinned, what_is_released_is_not_buffered}
use Rattle.sctp_fit.proofs.acknowledgements.acknowledgements_are_alike.Goals as goal

pub returns-clause-acknowledged : goal.returns-clause-acknowledged
returns-clause-acknowledged c = acknowledgements_are_alike

pub returns-clause-released : goal.returns-clause-released
returns-clause-released c = what_is_released_is_not_buffered

pub returns-clause-pinned : goal.returns-clause-pinned
returns-clause-pinned c = senders_are_pinned
