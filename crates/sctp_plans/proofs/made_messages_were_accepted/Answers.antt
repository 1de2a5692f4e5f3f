use Rattle.sctp_plans.proofs.Proved.{accepted_messages_have_their_type, other_offsets_are_another_message}
use Rattle.sctp_plans.proofs.Proved.{other_pieces_are_another_message, what_is_made_of_a_plan_was_accepted}
use Rattle.sctp_plans.proofs.Proved.{what_passes_and_is_made_was_accepted}
use Rattle.sctp_plans.proofs.GrownPlans.{accepted_pieces_stay, what_is_made_of_accepted_pieces_was_accepted}
use Rattle.sctp_plans.proofs.made_messages_were_accepted.Goals as goal

pub returns-clause-accepted : goal.returns-clause-accepted
returns-clause-accepted c = what_is_made_of_a_plan_was_accepted

pub returns-clause-tested : goal.returns-clause-tested
returns-clause-tested c = what_passes_and_is_made_was_accepted

pub returns-clause-typed : goal.returns-clause-typed
returns-clause-typed c = accepted_messages_have_their_type

pub returns-clause-apart : goal.returns-clause-apart
returns-clause-apart c = other_pieces_are_another_message

pub returns-clause-elsewhere : goal.returns-clause-elsewhere
returns-clause-elsewhere c = other_offsets_are_another_message

pub returns-clause-whole : goal.returns-clause-whole
returns-clause-whole c = what_is_made_of_accepted_pieces_was_accepted

pub returns-clause-stay : goal.returns-clause-stay
returns-clause-stay c = accepted_pieces_stay
