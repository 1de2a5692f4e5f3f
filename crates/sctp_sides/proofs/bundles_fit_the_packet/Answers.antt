use Rattle.sctp_sides.proofs.BundleLengths.{bundles_fit_the_packet}
use Rattle.sctp_sides.proofs.bundles_fit_the_packet.Goals as goal

pub returns : goal.returns
returns c = record { bundles = bundles_fit_the_packet }
