use Rattle.std.proofs.Common.{◌≡◌, fold}
use Rattle.sctp_generations.specs.Skips.{skip_ids}
use Rattle.sctp_resets.specs.Skips.{skips_applied_of}
use Rattle.sctp_resets.proofs.skips.apply_skips.Given as goal

abbrev pub invariant-loop-id : goal.invariant-loop-id
invariant-loop-id l =
    fold skips_applied_of (l.generations, l.streams, l.events) l.id-iterator
    ≡ fold skips_applied_of (l.fn.generations, l.fn.streams, l.fn.events) (skip_ids l.fn.generations.skips)
