use Rattle.std.proofs.Common.{◌≡◌, length, drop}
use Rattle.sctp_crc.specs.Crc.{crc_run}
use Rattle.sctp_crc.proofs.sum.run_looked_up.Given as goal

abbrev pub invariant-sixteens : goal.invariant-sixteens
invariant-sixteens l = crc_run l.state l.rest ≡ crc_run l.fn.start l.fn.bytes

abbrev pub decreases-sixteens : goal.decreases-sixteens
decreases-sixteens l = length l.rest

abbrev pub invariant-fours : goal.invariant-fours
invariant-fours l = crc_run l.state l.rest ≡ crc_run l.fn.start l.fn.bytes

abbrev pub decreases-fours : goal.decreases-fours
decreases-fours l = length l.rest

abbrev pub invariant-loop-byte : goal.invariant-loop-byte
invariant-loop-byte l = crc_run l.state (drop l.byte-index l.byte-items) ≡ crc_run l.fn.start l.fn.bytes
