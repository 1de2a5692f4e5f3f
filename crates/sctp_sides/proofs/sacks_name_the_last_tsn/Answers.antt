use Rattle.sctp_sides.proofs.DueSacks.{due_forwards_go_out, due_sacks_go_out, sacks_are_spelled, sacks_offer_the_buffer}
use Rattle.sctp_sides.proofs.DueSacks.{sacks_name_the_last_tsn, sacks_say_what_was_taken}
use Rattle.sctp_sides.proofs.sacks_name_the_last_tsn.Goals as goal

pub returns-clause-last_tsn : goal.returns-clause-last_tsn
returns-clause-last_tsn c = sacks_name_the_last_tsn

pub returns-clause-due : goal.returns-clause-due
returns-clause-due c = due_sacks_go_out

pub returns-clause-spelled : goal.returns-clause-spelled
returns-clause-spelled c = sacks_are_spelled

pub returns-clause-said : goal.returns-clause-said
returns-clause-said c = sacks_say_what_was_taken

pub returns-clause-window : goal.returns-clause-window
returns-clause-window c = sacks_offer_the_buffer

pub returns-clause-forward : goal.returns-clause-forward
returns-clause-forward c = due_forwards_go_out
