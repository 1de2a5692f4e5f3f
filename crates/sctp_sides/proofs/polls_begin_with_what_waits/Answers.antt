use Rattle.sctp_sides.proofs.PendingPieces.{created_sides_begin_to_send, joined_sides_begin_to_send, pending_pieces_fit}
use Rattle.sctp_sides.proofs.PendingPieces.{polls_begin_with_next_pieces}
use Rattle.sctp_sides.proofs.WaitingGoesOut.{polls_begin_with_what_waits, what_waits_is_given, what_waits_is_polled}
use Rattle.sctp_sides.proofs.polls_begin_with_what_waits.Goals as goal

pub returns-clause-polled : goal.returns-clause-polled
returns-clause-polled c = what_waits_is_polled

pub returns-clause-given : goal.returns-clause-given
returns-clause-given c = what_waits_is_given

pub returns-clause-packet : goal.returns-clause-packet
returns-clause-packet c = polls_begin_with_what_waits

pub returns-clause-fit : goal.returns-clause-fit
returns-clause-fit c = pending_pieces_fit

pub returns-clause-next : goal.returns-clause-next
returns-clause-next c = polls_begin_with_next_pieces

pub returns-clause-created : goal.returns-clause-created
returns-clause-created c = created_sides_begin_to_send

pub returns-clause-joined : goal.returns-clause-joined
returns-clause-joined c = joined_sides_begin_to_send
