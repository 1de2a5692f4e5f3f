use Rattle.std.proofs.Common.{◌≡◌, refl}
use Rattle.sctp_resets.proofs.resets.Resets.ask.Goals as goal

pub returns-clause-exact : goal.returns-clause-exact
returns-clause-exact c = rw (← c.self.view_is, c.in_ok-made.ensures.ok) refl
