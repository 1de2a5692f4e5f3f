use Rattle.sctp_sides.proofs.Retries.{retries_are_kept}
use Rattle.sctp_sides.proofs.retries_are_kept.Goals as goal

pub returns : goal.returns
returns c = record { retries = retries_are_kept }
