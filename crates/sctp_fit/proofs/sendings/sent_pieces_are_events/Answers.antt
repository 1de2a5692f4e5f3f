use Rattle.sctp_fit.proofs.MarksSayNothing.{marks_are_no_events}
use Rattle.sctp_fit.proofs.NextPiece.{sent_pieces_are_events}
use Rattle.sctp_fit.proofs.SentAgain.{pieces_are_given}
use Rattle.sctp_fit.proofs.TimesStarted.{starts_are_no_events}
use Rattle.sctp_fit.proofs.sendings.sent_pieces_are_events.Goals as goal

pub returns-clause-sent : goal.returns-clause-sent
returns-clause-sent c = sent_pieces_are_events

pub returns-clause-again : goal.returns-clause-again
returns-clause-again c = pieces_are_given

pub returns-clause-marks : goal.returns-clause-marks
returns-clause-marks c = marks_are_no_events

pub returns-clause-starts : goal.returns-clause-starts
returns-clause-starts c = starts_are_no_events
