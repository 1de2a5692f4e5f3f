use Rattle.sctp_outbound.proofs.Unlimited.{unlimited_stay}
use Rattle.sctp_outbound.proofs.laws.unlimited_messages_stay.Goals as goal

pub returns : goal.returns
returns c = unlimited_stay
