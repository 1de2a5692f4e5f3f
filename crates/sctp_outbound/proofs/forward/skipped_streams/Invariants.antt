use Rattle.std.proofs.Common.{◌≡◌, map}
use Rattle.sctp_outbound.specs.Forward.{skipped_stream}
use Rattle.sctp_outbound.proofs.forward.skipped_streams.Given as goal

abbrev pub invariant-loop-entry : goal.invariant-loop-entry
invariant-loop-entry l = l.streams ≡ map skipped_stream l.yielded
