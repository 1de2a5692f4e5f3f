use Rattle.sctp_sides.proofs.HeldOverCalls.{calls_hold_what_came, lists_hold_what_came, reads_give_what_is_held}
use Rattle.sctp_sides.proofs.what_is_read_came.Goals as goal

pub returns-clause-held : goal.returns-clause-held
returns-clause-held c = calls_hold_what_came

pub returns-clause-lists : goal.returns-clause-lists
returns-clause-lists c = lists_hold_what_came

pub returns-clause-read : goal.returns-clause-read
returns-clause-read c = reads_give_what_is_held
