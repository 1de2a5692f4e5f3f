use Rattle.std.proofs.Common.{◌≡◌, take}
use Rattle.sctp_outbound.specs.Forward.{skipped_numbers}
use Rattle.sctp_outbound.proofs.sender.Sender.skipped_numbers.Given as goal

abbrev pub invariant-loop-index : goal.invariant-loop-index
invariant-loop-index l = l.numbers.entries ≡ skipped_numbers (take l.index l.self.queue.in_flight)
