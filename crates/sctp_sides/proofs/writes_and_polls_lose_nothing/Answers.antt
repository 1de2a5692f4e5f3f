use Rattle.sctp_sides.proofs.WrittenIsHeld.{polls_keep_what_is_held, writes_are_held}
use Rattle.sctp_sides.proofs.writes_and_polls_lose_nothing.Goals as goal

pub returns-clause-written : goal.returns-clause-written
returns-clause-written c = writes_are_held

pub returns-clause-polled : goal.returns-clause-polled
returns-clause-polled c = polls_keep_what_is_held
