use Rattle.sctp_model.proofs.EventsKeepInvariant.{fresh_holds, one_direction_is_safe, run_keeps}
use Rattle.sctp_model.specs.Machine.{fresh}
use Rattle.sctp_model.proofs.one_direction_is_safe.Goals as goal

pub returns-clause-safe : goal.returns-clause-safe
returns-clause-safe c = one_direction_is_safe

pub returns-clause-invariant : goal.returns-clause-invariant
returns-clause-invariant c size some events l = (run_keeps events (fresh size) l (fresh_holds size some)).0
