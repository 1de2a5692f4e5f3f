use Rattle.std.proofs.Common.{◌≡◌, ◌+◌, ◌-◌, ◌%◌, ◌++◌, length, take}
use Rattle.sctp_crc.specs.Fold.{taken, IsKept}
use Rattle.sctp_crc.proofs.fold.Kept.last_taken.Given as goal

abbrev pub invariant-vectors : goal.invariant-vectors
invariant-vectors l =
    IsKept l.kept × (length l.last ≡ 112) × (length l.rest + l.at ≡ 112) × (l.at % 16 ≡ 0)
    × (take l.at l.last ++ taken l.kept l.rest ≡ taken l.fn.self l.fn.bytes)

abbrev pub decreases-vectors : goal.decreases-vectors
decreases-vectors l = 112 - l.at
