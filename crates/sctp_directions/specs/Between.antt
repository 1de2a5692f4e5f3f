-- How an association stands between its directions, and what is so of each of them, under names that stay whatever it
-- is made of.
use Rattle.sctp_model.specs.Machine.{Direction}
use Rattle.sctp_model.specs.Invariants.{Invariant}
use Rattle.sctp_fit.specs.Incoming.{FitsIncoming}
use Rattle.sctp_fit.specs.Outgoing.{CountsBegun, FitsOutgoing}
use Rattle.sctp_directions.specs.Acts.{Parts, receiving, sending}

-- An association stands between its own direction and the one that comes to it: it is the sender of the one, and the
-- receiver of the other.
pub record FitsBetween (p : Parts) (out coming : Direction) : Type 0 where
  pub outgoing : FitsOutgoing (sending p) out
  pub incoming : FitsIncoming (receiving p) coming

-- The machine's invariant holds of a direction, and the messages that were begun are counted.
pub record IsSound (w : Direction) : Type 0 where
  pub invariant : Invariant w
  pub counts : CountsBegun w.sender
