use Rattle.sctp_directions.proofs.Proved.{accepted_messages_are_counted, nothing_is_accepted_at_first}
use Rattle.sctp_directions.proofs.Proved.{pieces_are_counted, short_messages_are_one_piece}
use Rattle.sctp_directions.proofs.accepted_messages_are_counted.Goals as goal

pub returns-clause-pieces : goal.returns-clause-pieces
returns-clause-pieces c = pieces_are_counted

pub returns-clause-one : goal.returns-clause-one
returns-clause-one c = short_messages_are_one_piece

pub returns-clause-first : goal.returns-clause-first
returns-clause-first c = nothing_is_accepted_at_first

pub returns-clause-counted : goal.returns-clause-counted
returns-clause-counted c = accepted_messages_are_counted
