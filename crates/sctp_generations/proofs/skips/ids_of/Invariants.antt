use Rattle.std.proofs.Common.{◌≡◌, drop, fold}
use Rattle.sctp_generations.specs.Skips.{with_id, skip_ids}
use Rattle.sctp_generations.proofs.skips.ids_of.Given as goal

abbrev pub invariant-loop-skip : goal.invariant-loop-skip
invariant-loop-skip l = fold with_id l.ids.keys (drop l.skip-index l.skips) ≡ skip_ids l.skips
