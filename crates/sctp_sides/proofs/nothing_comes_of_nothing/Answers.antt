use Rattle.sctp_sides.proofs.Proved.{opened_streams_hold_nothing, settings_hold_nothing}
use Rattle.sctp_sides.proofs.Proved.{what_holds_nothing_gives_nothing}
use Rattle.sctp_sides.proofs.nothing_comes_of_nothing.Goals as goal

pub returns-clause-opened : goal.returns-clause-opened
returns-clause-opened c = opened_streams_hold_nothing

pub returns-clause-set : goal.returns-clause-set
returns-clause-set c = settings_hold_nothing

pub returns-clause-read : goal.returns-clause-read
returns-clause-read c = what_holds_nothing_gives_nothing
